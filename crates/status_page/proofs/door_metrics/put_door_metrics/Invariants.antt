use Rattle.std.proofs.Common.{◌≡◌, ◌++◌, take}
use Rattle.std.specs.List.{flat_map}
use Rattle.status_page.specs.Metrics.{door_metric}
use Rattle.status_page.proofs.door_metrics.put_door_metrics.Given as goal

abbrev pub invariant-loop-number : goal.invariant-loop-number
invariant-loop-number l = l.into.items
    ≡ l.initial.into.items ++ flat_map (door_metric l.doors) (take l.number-index l.numbers)
