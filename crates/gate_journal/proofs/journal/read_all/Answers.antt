use Rattle.std.proofs.lemmas.Result.{err_from_is_err_and}
use Rattle.gate_journal.proofs.Journals.{load_refused}
use Rattle.gate_journal.proofs.Standing.{load_standing}
use Rattle.gate_journal.proofs.journal.read_all.Goals as goal

pub returns-clause-refused : goal.returns-clause-refused
returns-clause-refused g c =
    load_refused c.load.result (g.D.Disk.pending c.args.disk.now) _ _ _ _
    c.as_slice-octets.ensures.value c.in_ok-file.ensures.content c.load.ensures.refused

pub returns-clause-standing : goal.returns-clause-standing
returns-clause-standing g c =
    load_standing c.a_refused_file_stands_for_nothing.ensures.damaged
    c.a_refused_file_stands_for_nothing.ensures.no_journal c.load.result
    (g.D.Disk.pending c.args.disk.now) _ _ c.as_slice-octets.ensures.value c.slice.ensures
    c.in_ok-file.ensures.content c.load.ensures.refused

pub returns-in_err-file-clause-standing : goal.returns-in_err-file-clause-standing
returns-in_err-file-clause-standing g c =
    let p = err_from_is_err_and c.from_residual.result c.from_residual.ensures.1 in
    rw (p.1, p.2) (λ entries stands. c.in_err-file.ensures.unread)
