use Rattle.std.proofs.Common.{ℕ, List, ◌++◌, codes}
use Rattle.picture_page.specs.Sheet.{gains_then}
use Rattle.status_view.specs.Page.{archive_faults}
use Rattle.status_view.specs.Parts.{faults}
use Rattle.status_view.proofs.cards.put_archive_faults.Goals as goal

pub returns : goal.returns
unfolding archive_faults
returns c =
    let archive = c.args.snapshot.now.archive in
    gains_then c.args.page.now c.put_faults.new.page c.put_faults-2.new.page
    (faults (codes "failed syncs") archive.failed_syncs)
    (faults (codes "other faults") archive.faults)
    c.put_faults.ensures c.put_faults-2.ensures
