use Rattle.std.proofs.Common.{rules, arith}
use Rattle.disk_model.specs.Throughout.{started, weaker}
use Rattle.gate_journal.specs.JournalState.{IsBegun}
use Rattle.gate_journal.proofs.Creating.{new_there, begun_now, begun_during, if_good}
use Rattle.gate_journal.proofs.journal.Journal.create.Goals as goal

pub invariant_of-result : goal.invariant_of-result
invariant_of-result g c = (
  omega arith,
  λ fresh. (
    omega (arith, if_good c.write_synced.result (search rules) c.write_synced.ensures.size),
    (new_there (g.D.Disk.pending c.args.disk) _ _ (c.images_at_a_moment.ensures.size c.args.disk)
        (omega (arith, c.size.ensures, c.if-size-gt0.false))
        (if_good c.write_synced.result (search rules) c.write_synced.ensures.written)).1,
  ),
)

pub returns-clause-keeps : goal.returns-clause-keeps
returns-clause-keeps g c =
    (new_there (g.D.Disk.pending c.args.disk) _ _ (c.images_at_a_moment.ensures.size c.args.disk)
    (omega (arith, c.size.ensures, c.if-size-gt0.false))
    (if_good c.write_synced.result (search rules) c.write_synced.ensures.written)).0

pub returns-then-size-gt0-clause-any_moment_refused
    : goal.returns-then-size-gt0-clause-any_moment_refused
returns-then-size-gt0-clause-any_moment_refused g c short =
    started g.D.Disk.moment g.D.Disk.images_since c.args.disk IsBegun (λ image was.
    begun_now (g.D.Disk.pending c.args.disk) short image
    (c.images_at_a_moment.ensures.only_now c.args.disk image was))

pub returns-then-is_err-clause-any_moment_refused
    : goal.returns-then-is_err-clause-any_moment_refused
returns-then-is_err-clause-any_moment_refused g c short =
    weaker g.D.Disk.moment g.D.Disk.images_since c.args.disk c.write_synced.new.disk _ IsBegun
    (begun_during (g.D.Disk.pending c.args.disk) short) c.write_synced.ensures.any_moment

pub returns-clause-any_moment : goal.returns-clause-any_moment
returns-clause-any_moment g c short =
    weaker g.D.Disk.moment g.D.Disk.images_since c.args.disk c.write_synced.new.disk _ IsBegun
    (begun_during (g.D.Disk.pending c.args.disk) short) c.write_synced.ensures.any_moment
