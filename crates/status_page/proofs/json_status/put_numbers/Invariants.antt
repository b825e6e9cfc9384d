use Rattle.std.proofs.Common.{◌≡◌, ◌++◌, take}
use Rattle.std.specs.List.{flat_map}
use Rattle.status_page.specs.Json.{member_of}
use Rattle.status_page.proofs.json_status.put_numbers.Given as goal

abbrev pub invariant-loop-number : goal.invariant-loop-number
invariant-loop-number l = (l.into.tokens
    ≡ l.initial.into.tokens ++ flat_map (member_of l.snapshot) (take l.number-index l.numbers))
    × (l.into.before ≡ l.initial.into.before)
