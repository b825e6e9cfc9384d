use Rattle.std.proofs.Common.{codes}
use Rattle.picture_page.specs.Sheet.{gains_then}
use Rattle.status_view.specs.Page.{source_lines}
use Rattle.status_view.specs.Parts.{count, faults}
use Rattle.status_view.proofs.cards.put_source_lines.Goals as goal

pub returns : goal.returns
unfolding source_lines
returns c =
    gains_then c.args.page.now c.put_count.new.page c.put_faults.new.page
    (count (codes "lines") c.args.snapshot.now.source.lines)
    (faults (codes "faults") c.args.snapshot.now.source.faults)
    c.put_count.ensures c.put_faults.ensures
