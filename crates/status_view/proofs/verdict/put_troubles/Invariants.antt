use Rattle.std.proofs.Common.{take}
use Rattle.std.specs.List.{flat_map}
use Rattle.picture_page.specs.Sheet.{Gains}
use Rattle.status_view.specs.Page.{trouble_part}
use Rattle.status_view.proofs.verdict.put_troubles.Given as goal

abbrev pub invariant-loop-trouble : goal.invariant-loop-trouble
invariant-loop-trouble l =
    Gains l.initial.page l.page (flat_map (trouble_part l.snapshot) (take l.trouble-index l.troubles))
