use Rattle.std.proofs.Common.{◌≡◌, None, [], ◌∷◌, take, sym, ap, subst, ◌∙◌, arith}
use Rattle.std.proofs.lemmas.List.{take-append-le}
use Rattle.record_form.specs.Entry.{entry_of}
use Rattle.frame_archive.specs.State.{ArchiveState, failed_batch, refusal, times_after, need}
use Rattle.frame_archive.specs.Acknowledges.{Acknowledges}
use Rattle.frame_archive.proofs.LastTimes.{same_times}
use Rattle.frame_archive.proofs.Offers.{passes, octets_fit, sound_offered, acknowledges_offered}
use Rattle.frame_archive.proofs.archive.FrameArchive.offer.Goals as goal

pub overflow_add-self : goal.overflow_add-self
overflow_add-self g c =
    let inside = c.self.inside in
    let taken = passes _ _ _ _ _ _ _ _ (subst
    (λ (s : ArchiveState g.row.D.Denot). refusal s (entry_of c.args.entry) ≡ None)
    (sym c.self.view_is) c.in-Ok.ensures.taken) in
    let bound = octets_fit inside.capacity inside.count inside.used inside.octets c.in-Ok.need
    inside.times inside.waiting (entry_of c.args.entry)
    c.self.invariant.within c.self.invariant.waits.octets_are
    (c.in-Ok.ensures.need ∙ sym (ap (λ (s : ArchiveState g.row.D.Denot). need s.waiting
    (entry_of c.args.entry)) c.self.view_is)) taken in
    omega (arith, bound)

pub invariant_of-self : goal.invariant_of-self
invariant_of-self g c =
    let inside = c.self.inside in
    let e = entry_of c.args.entry in
    let taken = passes _ _ _ _ _ _ _ _ (subst
    (λ (s : ArchiveState g.row.D.Denot). refusal s e ≡ None) (sym c.self.view_is)
    c.in-Ok.ensures.taken) in
    sound_offered c.archive_grows.ensures.archive c.follows_by_last_times.ensures.archive
    g.D.Disk.pending inside.journal inside.capacity inside.count inside.used inside.failed
    inside.octets c.in-Ok.need inside.times c.after-times.result inside.waiting c.try_push.new.self
    inside.is_stale e c.requires taken
    (c.in-Ok.ensures.need ∙ sym (ap (λ (s : ArchiveState g.row.D.Denot). need s.waiting e)
    c.self.view_is))
    (same_times c.after-times.result (times_after inside.times e) c.after-times.ensures.frame
    c.after-times.ensures.seal)
    c.in-Ok-try_push.ensures.ok c.self.invariant

pub returns-in-Ok-try_push-clause-acknowledged : goal.returns-in-Ok-try_push-clause-acknowledged
returns-in-Ok-try_push-clause-acknowledged g c entries old =
    let inside = c.self.inside in
    let e = entry_of c.args.entry in
    let taken = passes _ _ _ _ _ _ _ _ (subst
    (λ (s : ArchiveState g.row.D.Denot). refusal s e ≡ None) (sym c.self.view_is)
    c.in-Ok.ensures.taken) in
    acknowledges_offered c.archive_grows.ensures.archive c.follows_by_last_times.ensures.archive
    g.D.Disk.pending _ c.after-times.result c.try_push.new.self e entries
    c.requires taken c.self.invariant.waits.some_failed
    (same_times c.after-times.result (times_after inside.times e) c.after-times.ensures.frame
    c.after-times.ensures.seal)
    c.in-Ok-try_push.ensures.ok
    (subst (λ (s : ArchiveState g.row.D.Denot). Acknowledges g.D.Disk.pending s entries)
    (sym c.self.view_is) old)

pub returns-in-Ok-try_push-clause-batch : goal.returns-in-Ok-try_push-clause-batch
returns-in-Ok-try_push-clause-batch g c =
    let inside = c.self.inside in
    ap (take inside.failed) c.in-Ok-try_push.ensures.ok
    ∙ take-append-le inside.failed inside.waiting (entry_of c.args.entry ∷ [])
    c.self.invariant.waits.some_failed
    ∙ ap (λ (s : ArchiveState g.row.D.Denot). failed_batch s) c.self.view_is
