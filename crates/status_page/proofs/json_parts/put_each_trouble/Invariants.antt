use Rattle.std.proofs.Common.{◌≡◌, ◌++◌, take}
use Rattle.std.specs.List.{flat_map}
use Rattle.status_page.specs.Json.{tokens_if_there}
use Rattle.status_page.proofs.json_parts.put_each_trouble.Given as goal

abbrev pub invariant-loop-trouble : goal.invariant-loop-trouble
invariant-loop-trouble l = (l.into.tokens
    ≡ l.initial.into.tokens ++ flat_map (tokens_if_there l.snapshot) (take l.trouble-index l.troubles))
    × (l.into.before ≡ l.initial.into.before)
