use Rattle.std.proofs.Common.{is_some, rules, ap, ◌∙◌}
use Rattle.std.proofs.lemmas.Result.{err_from_is_err_and}
use Rattle.gate_journal.proofs.Creating.{if_good}
use Rattle.gate_journal.proofs.Standing.{stands_synced}
use Rattle.disk_model.specs.Telling.{synced_tells}
use Rattle.gate_journal.proofs.journal.load_synced.Goals as goal

pub returns-in_err-entries-clause-standing : goal.returns-in_err-entries-clause-standing
returns-in_err-entries-clause-standing g c =
    let p = err_from_is_err_and c.from_residual.result c.from_residual.ensures.1 in
    rw (p.1, p.2) (λ entries stands. c.in_err-entries.ensures.standing entries
    (stands_synced (g.D.Disk.pending c.args.disk.now) _ entries
    (if_good c.sync.result (search rules) c.sync.ensures.synced) stands))

pub returns-then-is_err-clause-tells : goal.returns-then-is_err-clause-tells
returns-then-is_err-clause-tells g c =
    synced_tells c.sync.result _ _ c.sync.ensures.synced c.sync.ensures.unsynced

pub returns-in_err-entries-clause-tells : goal.returns-in_err-entries-clause-tells
returns-in_err-entries-clause-tells g c =
    ap is_some c.read_all.ensures.reads.same
    ∙ synced_tells c.sync.result _ _ c.sync.ensures.synced c.sync.ensures.unsynced

pub returns-clause-tells : goal.returns-clause-tells
returns-clause-tells g c =
    ap is_some c.read_all.ensures.reads.same
    ∙ synced_tells c.sync.result _ _ c.sync.ensures.synced c.sync.ensures.unsynced
