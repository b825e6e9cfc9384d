use Rattle.std.proofs.Common.{◌≡◌, ◌++◌, take}
use Rattle.std.specs.List.{flat_map}
use Rattle.station_health.specs.Health.{trouble_line}
use Rattle.station_health.proofs.health.put_troubles.Given as goal

abbrev pub invariant-loop-trouble : goal.invariant-loop-trouble
invariant-loop-trouble l = l.into.items
    ≡ l.initial.into.items ++ flat_map (trouble_line l.snapshot) (take l.trouble-index l.troubles)
