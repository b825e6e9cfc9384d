use Rattle.std.proofs.Common.{◌≡◌, ◌++◌, take}
use Rattle.std.specs.List.{flat_map}
use Rattle.status_page.specs.Metrics.{metric_text}
use Rattle.status_page.proofs.metrics.put_metrics.Given as goal

abbrev pub invariant-loop-number : goal.invariant-loop-number
invariant-loop-number l = l.into.items
    ≡ l.initial.into.items ++ flat_map (metric_text l.snapshot) (take l.number-index l.numbers)
