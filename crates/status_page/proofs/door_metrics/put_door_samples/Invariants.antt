use Rattle.std.proofs.Common.{◌≡◌, ◌++◌, take}
use Rattle.std.specs.List.{flat_map}
use Rattle.status_page.specs.Metrics.{door_sample}
use Rattle.status_page.proofs.door_metrics.put_door_samples.Given as goal

abbrev pub invariant-loop-door : goal.invariant-loop-door
invariant-loop-door l = l.into.items
    ≡ l.initial.into.items ++ flat_map (door_sample l.number) (take l.door-index l.doors)
