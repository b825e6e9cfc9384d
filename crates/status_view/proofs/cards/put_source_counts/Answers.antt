use Rattle.std.proofs.Common.{codes}
use Rattle.picture_page.specs.Sheet.{gains_then}
use Rattle.status_view.specs.Page.{source_counts, source_lines}
use Rattle.status_view.specs.Parts.{count}
use Rattle.status_view.proofs.cards.put_source_counts.Goals as goal

pub returns : goal.returns
unfolding source_counts
returns c =
    gains_then c.args.page.now c.put_count.new.page c.put_source_lines.new.page
    (count (codes "connections") c.args.snapshot.now.source.connections)
    (source_lines c.args.snapshot.now)
    c.put_count.ensures c.put_source_lines.ensures
