use Rattle.std.proofs.Common.{◌≡◌, ◌++◌, take}
use Rattle.std.specs.List.{flat_map}
use Rattle.status_page.specs.Json.{door_tokens}
use Rattle.status_page.proofs.json_status.put_each_door.Given as goal

abbrev pub invariant-loop-door : goal.invariant-loop-door
invariant-loop-door l = (l.into.tokens
    ≡ l.initial.into.tokens ++ flat_map door_tokens (take l.door-index l.doors))
    × (l.into.before ≡ l.initial.into.before)
