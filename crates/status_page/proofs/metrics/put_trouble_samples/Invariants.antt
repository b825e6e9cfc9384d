use Rattle.std.proofs.Common.{◌≡◌, ◌++◌, take}
use Rattle.std.specs.List.{flat_map}
use Rattle.status_page.specs.Metrics.{trouble_sample}
use Rattle.status_page.proofs.metrics.put_trouble_samples.Given as goal

abbrev pub invariant-loop-trouble : goal.invariant-loop-trouble
invariant-loop-trouble l = l.into.items
    ≡ l.initial.into.items ++ flat_map (trouble_sample l.snapshot) (take l.trouble-index l.troubles)
