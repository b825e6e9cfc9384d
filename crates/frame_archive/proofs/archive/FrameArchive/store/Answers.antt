use Rattle.std.proofs.Common.{rules, sym, subst, ◌∙◌, arith}
use Rattle.frame_archive.specs.State.{ArchiveState}
use Rattle.frame_archive.specs.Acknowledges.{Acknowledges}
use Rattle.frame_archive.proofs.Holding.{acknowledges_failed, failed_at, sound_stored}
use Rattle.frame_archive.proofs.Placing.{sound_failed}
use Rattle.frame_archive.proofs.archive.FrameArchive.store.Goals as goal

pub invariant_of-self : goal.invariant_of-self
invariant_of-self g c =
    let inside = c.self.inside in
    sound_stored g.D.Disk.pending inside.journal c.append.new.self inside.capacity inside.count
    inside.used c.used-self-inside.result inside.failed inside.octets
    c.len-in-Ok.result inside.times inside.waiting c.replace-entries.new.dest inside.is_stale
    c.if-self.false c.in-Ok.ensures.fresh c.len-in-Ok.ensures c.used-self-inside.ensures
    (c.replace-entries.ensures.after ∙ c.new.ensures) c.append.ensures.tells
    c.in-Ok.ensures.appended c.self.invariant

pub invariant_of-self-in-DiskFault : goal.invariant_of-self-in-DiskFault
invariant_of-self-in-DiskFault g c =
    let inside = c.self.inside in
    sound_failed g.D.Disk.pending inside.journal c.append.new.self inside.capacity inside.count
    inside.used inside.failed c.len-self-inside.result inside.octets inside.times inside.waiting
    inside.is_stale c.if-self.false (omega (arith, c.len.ensures, c.if-len-eq0.false))
    c.len-self-inside.ensures c.append.ensures.tells (c.append.ensures.in_place (search rules))
    c.self.invariant

pub returns-in-DiskFault-clause-still : goal.returns-in-DiskFault-clause-still
returns-in-DiskFault-clause-still g c entries old =
    let seen = subst (λ (s : ArchiveState g.row.D.Denot). Acknowledges g.D.Disk.pending s entries)
    (sym c.self.view_is) old in
    acknowledges_failed g.D.Disk.pending g.D.Disk.moment g.D.Disk.images_since
    c.images_at_a_moment.ensures.counts_now _ c.append.new.self.disk c.len-self-inside.result
    entries
    c.len-self-inside.ensures c.append.ensures.tells
    (c.append.ensures.any_moment entries (seen.kept c.if-self.false)) seen

pub returns-in-DiskFault-clause-failed_calls : goal.returns-in-DiskFault-clause-failed_calls
returns-in-DiskFault-clause-failed_calls g c is =
    failed_at g.D.Disk.makes g.D.Disk.fails _ c.args.self.now c.self.inside.journal.gate
    c.append.new.self.disk c.self.view_is (c.self.invariant.open_ c.if-self.false).used_are
    (c.append.ensures.failed (search rules))
