use Rattle.std.proofs.Common.{◌≡◌, ◌++◌, take}
use Rattle.std.specs.List.{flat_map}
use Rattle.status_page.specs.Json.{door_member_of}
use Rattle.status_page.proofs.json_status.put_door_numbers.Given as goal

abbrev pub invariant-loop-number : goal.invariant-loop-number
invariant-loop-number l = (l.into.tokens
    ≡ l.initial.into.tokens ++ flat_map (door_member_of l.door) (take l.number-index l.numbers))
    × (l.into.before ≡ l.initial.into.before)
