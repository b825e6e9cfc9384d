use Rattle.record_form.proofs.Fronts.{kept, where_bad}
use Rattle.record_form.proofs.writing.write_entry.Goals as goal

pub returns-in_err-write_antenna-in-Frame-clause-err
    : goal.returns-in_err-write_antenna-in-Frame-clause-err
returns-in_err-write_antenna-in-Frame-clause-err c =
    where_bad c.from_residual-in_err-write_antenna-in-Frame.result
    (kept c.args.into.now c.append.new.self c.write_antenna.new.into _
    c.in_ok-append-in-Frame.ensures.ok
    (kept c.append.new.self c.write_time.new.into c.write_antenna.new.into _
    c.in_ok-write_time-in-Frame.ensures.ok
    (kept c.write_time.new.into c.append-in-Frame.new.self c.write_antenna.new.into _
    c.in_ok-append-in-Frame-2.ensures.ok c.in_err-write_antenna-in-Frame.ensures.err)))

pub returns-in_err-write_content-in-Frame-clause-err
    : goal.returns-in_err-write_content-in-Frame-clause-err
returns-in_err-write_content-in-Frame-clause-err c =
    where_bad c.from_residual-in_err-write_content-in-Frame.result
    (kept c.args.into.now c.append.new.self c.write_content.new.into _
    c.in_ok-append-in-Frame.ensures.ok
    (kept c.append.new.self c.write_time.new.into c.write_content.new.into _
    c.in_ok-write_time-in-Frame.ensures.ok
    (kept c.write_time.new.into c.append-in-Frame.new.self c.write_content.new.into _
    c.in_ok-append-in-Frame-2.ensures.ok
    (kept c.append-in-Frame.new.self c.write_antenna.new.into c.write_content.new.into _
    c.in_ok-write_antenna-in-Frame.ensures.ok
    (kept c.write_antenna.new.into c.append-in-Frame-2.new.self c.write_content.new.into _
    c.in_ok-append-in-Frame-3.ensures.ok c.in_err-write_content-in-Frame.ensures.err)))))

pub returns-in_err-write_time-in-LossOfSync-clause-err
    : goal.returns-in_err-write_time-in-LossOfSync-clause-err
returns-in_err-write_time-in-LossOfSync-clause-err c =
    where_bad c.from_residual-in_err-write_time-in-LossOfSync.result
    (kept c.args.into.now c.append-in-LossOfSync.new.self c.write_time-in-LossOfSync.new.into _
    c.in_ok-append-in-LossOfSync.ensures.ok c.in_err-write_time-in-LossOfSync.ensures.err)

pub returns-in_err-write_time-in-Seal-clause-err : goal.returns-in_err-write_time-in-Seal-clause-err
returns-in_err-write_time-in-Seal-clause-err c =
    where_bad c.from_residual-in_err-write_time-in-Seal.result
    (kept c.args.into.now c.append-in-Seal.new.self c.write_time-in-Seal.new.into _
    c.in_ok-append-in-Seal.ensures.ok c.in_err-write_time-in-Seal.ensures.err)
