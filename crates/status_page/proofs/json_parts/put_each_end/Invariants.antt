use Rattle.std.proofs.Common.{◌≡◌, ◌++◌, take}
use Rattle.std.specs.List.{flat_map}
use Rattle.status_page.specs.Json.{end_tokens}
use Rattle.status_page.proofs.json_parts.put_each_end.Given as goal

abbrev pub invariant-loop-end : goal.invariant-loop-end
invariant-loop-end l = (l.into.tokens
    ≡ l.initial.into.tokens ++ flat_map end_tokens (take l.end-index l.ends))
    × (l.into.before ≡ l.initial.into.before)
