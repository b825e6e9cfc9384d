use Rattle.std.proofs.Common.{◌≡◌, ap, sym, subst, refl, ◌∙◌, List, [], ◌∷◌, None, Some, nat_lt}
use Rattle.std.proofs.Common.{length}
use Rattle.archive_terms.specs.Archive.{Entry}
use Rattle.record_form.specs.Entry.{entry_of}
use Rattle.record_form.specs.declared.entry.Entry as form
use Rattle.gate_journal.specs.JournalState.{IsOldOrNew}
use Rattle.frame_archive.specs.State as archives
use Rattle.script_store.specs.declared.script_recorder.Recorder.TheInside.{Inside}
use Rattle.script_store.specs.Store.{Store}
use Rattle.script_store.specs.Answer.{Answer}
use Rattle.script_store.specs.Entries.{refusal, stores_under, by_refusal, offer}
use Rattle.script_store.specs.IsHeld.{begun_list, Rests, HoldsAllOrNone, KeepsAllOrNone, fault_of}
use Rattle.script_store.specs.Storing.{published_by, taken_of}
use Rattle.script_store.proofs.Disks.{at_end}
use Rattle.script_store.proofs.Moments.{idle}
use Rattle.script_store.proofs.WorldArchives.{none_of, on_err}
use Rattle.script_store.proofs.Taken.{taken_list}
use Rattle.script_store.proofs.Worlds.{held_spent, held_next, times_next, next_published, done_now}
use Rattle.script_store.proofs.Worlds.{still_to_come, done_is, stored_so, settled_images}
use Rattle.script_store.proofs.Worlds.{left_begun, refused_so, refused_next, given_taken, why_so}
use Rattle.script_store.proofs.script_recorder.Recorder.offer.Goals as goal
use Rattle.script_store.proofs.script_recorder.Recorder.offer.Goals.{After-store_under}
use Rattle.script_store.proofs.script_recorder.Recorder.offer.Goals.{In-Err-Refused}
use Rattle.script_store.proofs.script_recorder.Recorder.offer.Goals.{In_ok-outcome}

-- what is stored before
abbrev before : Inside → Store
before w = record {
  capacity = w.archive.capacity;
  published = w.published;
  unsettled = begun_list w.begun;
  order = w.order;
}

-- ---- nothing is done

pub returns-in_err-kept-clause-images : goal.returns-in_err-kept-clause-images
returns-in_err-kept-clause-images c = rw (← c.self.view_is)
    (idle c.self.inside c.self.invariant (rw (← c.self.view_is) at c.requires.ready) _)

pub returns-in_err-share-clause-images : goal.returns-in_err-share-clause-images
returns-in_err-share-clause-images c = rw (← c.self.view_is)
    (idle c.self.inside c.self.invariant (rw (← c.self.view_is) at c.requires.ready) _)

-- ---- whatever became of the step

-- the disk's images
images : (c : After-store_under)
    → KeepsAllOrNone c.self.inside.archive.disk c.store_under.new.archive.disk
    c.self.inside.published (offer (before c.self.inside) (entry_of c.args.entry.now)).given
images c =
    let ready = c.self.invariant.ready (rw (← c.self.view_is) at c.requires.ready) in
    subst (KeepsAllOrNone c.self.inside.archive.disk c.store_under.new.archive.disk
    c.self.inside.published) (given_taken c.follows_by_last_times.ensures.order
    c.self.inside.archive (before c.self.inside) ready.rests refl (entry_of c.args.entry.now))
    (c.store_under.ensures.images c.self.inside.published ready.rests)

-- an entry that the archive takes isn't refused
taken : (c : After-store_under)
    → archives.refusal c.self.inside.archive (entry_of c.args.entry.now) ≡ None
    → None ≡ refusal (before c.self.inside) (entry_of c.args.entry.now)
taken c is =
    let ready = c.self.invariant.ready (rw (← c.self.view_is) at c.requires.ready) in
    none_of c.follows_by_last_times.ensures.order c.self.inside.archive (before c.self.inside)
    ready.rests refl (entry_of c.args.entry.now) is

-- ---- the archive refuses the entry

it_refuses : (c : In-Err-Refused)
    → (archives.refusal c.self.inside.archive (entry_of c.args.entry.now)
    ≡ Some (fault_of c.in-Err-Refused.why))
    × Rests c.store_under.new.archive c.self.inside.published
it_refuses c =
    let ready = c.self.invariant.ready (rw (← c.self.view_is) at c.requires.ready) in
    rw c.in-Err-Refused.field-0-is at (c.in-Err-Refused.ensures.unstored c.self.inside.published
    ready.rests)

why_is : (c : In-Err-Refused)
    → Some c.in-Err-Refused.why ≡ refusal (before c.self.inside) (entry_of c.args.entry.now)
why_is c =
    let ready = c.self.invariant.ready (rw (← c.self.view_is) at c.requires.ready) in
    why_so c.follows_by_last_times.ensures.order c.self.inside.archive (before c.self.inside)
    ready.rests refl (entry_of c.args.entry.now) c.in-Err-Refused.why
    (it_refuses c).0

-- the line of the entry is refused so
refused : (c : In-Err-Refused)
    → by_refusal (before c.self.inside) (entry_of c.args.entry.now) (Some c.in-Err-Refused.why)
    ≡ offer (before c.self.inside) (entry_of c.args.entry.now)
refused c = refused_so (before c.self.inside) (entry_of c.args.entry.now) c.in-Err-Refused.why
    (why_is c)

pub invariant_of-self : goal.invariant_of-self
invariant_of-self c =
    let ready = c.self.invariant.ready (rw (← c.self.view_is) at c.requires.ready) in
    held_next c.store_under.new.archive c.self.inside.published c.self.inside.times
    c.self.inside.order c.an_image_at_rest_stands_for_what_is_kept.ensures
    (it_refuses (goal.at.invariant_of-self c).In-Err-Refused).1 ready.times_are
    c.self.invariant.to_come

pub returns-in-Err-Refused-clause-said : goal.returns-in-Err-Refused-clause-said
returns-in-Err-Refused-clause-said c = rw (← c.self.view_is) (ap (λ (a : Answer Store). a.said)
    (refused (goal.at.returns-in-Err-Refused-clause-said c).In-Err-Refused))

pub returns-in-Err-Refused-clause-done : goal.returns-in-Err-Refused-clause-done
returns-in-Err-Refused-clause-done c = rw (← c.self.view_is) (ap (λ (a : Answer Store). a.done)
    (refused (goal.at.returns-in-Err-Refused-clause-done c).In-Err-Refused))

pub returns-in-Err-Refused-clause-next : goal.returns-in-Err-Refused-clause-next
returns-in-Err-Refused-clause-next c =
    let ready = c.self.invariant.ready (rw (← c.self.view_is) at c.requires.ready) in
    rw (← c.self.view_is) (record {
      state = refused_next (before c.self.inside) (entry_of c.args.entry.now) c.in-Err-Refused.why
          c.store_under.new.archive.capacity []
          (why_is (goal.at.returns-in-Err-Refused-clause-next c).In-Err-Refused)
          c.store_under.ensures.capacity (sym (ap begun_list ready.none_begun));
      ready = refl;
    })

pub returns-in-Err-Refused-clause-images : goal.returns-in-Err-Refused-clause-images
returns-in-Err-Refused-clause-images c = rw (← c.self.view_is)
    (images (goal.at.returns-in-Err-Refused-clause-images c).After-store_under)

-- ---- memory was refused

pub invariant_of-self-in-Err-Unbegun : goal.invariant_of-self-in-Err-Unbegun
invariant_of-self-in-Err-Unbegun c =
    let ready = c.self.invariant.ready (rw (← c.self.view_is) at c.requires.ready) in
    held_spent c.store_under.new.archive c.self.inside.published c.self.inside.times None
    c.self.inside.order
    (rw c.in-Err-Unbegun.field-0-is at (c.in-Err-Unbegun.ensures.unstored c.self.inside.published
    ready.rests))
    c.self.invariant.to_come

pub returns-in-Err-Unbegun-clause-images : goal.returns-in-Err-Unbegun-clause-images
returns-in-Err-Unbegun-clause-images c = rw (← c.self.view_is)
    (images (goal.at.returns-in-Err-Unbegun-clause-images c).After-store_under)

pub invariant_of-self-in-Err-Begun : goal.invariant_of-self-in-Err-Begun
invariant_of-self-in-Err-Begun c =
    let ready = c.self.invariant.ready (rw (← c.self.view_is) at c.requires.ready) in
    let entry = entry_of c.args.entry.now in
    held_spent c.store_under.new.archive c.self.inside.published c.self.inside.times
    (Some c.in_ok-share.field-0) c.self.inside.order
    (subst (λ (es : List Entry). HoldsAllOrNone c.store_under.new.archive.disk
    c.self.inside.published es)
    (taken_list c.self.inside.archive entry ready.rests.waits
    (rw c.in-Err-Begun.field-0-is at (c.in-Err-Begun.ensures.unstored c.self.inside.published
    ready.rests))
    ∙ ap (λ (e : form.Entry). entry_of e ∷ []) (sym c.in_ok-share.ensures))
    (at_end c.self.inside.archive.disk c.store_under.new.archive.disk
    (IsOldOrNew c.self.inside.published (taken_of c.self.inside.archive entry))
    (c.store_under.ensures.images c.self.inside.published ready.rests)))
    c.self.invariant.to_come

pub returns-in-Err-Begun-clause-stopped : goal.returns-in-Err-Begun-clause-stopped
returns-in-Err-Begun-clause-stopped c =
    let at = (goal.at.returns-in-Err-Begun-clause-stopped c).After-store_under in
    let ready = c.self.invariant.ready (rw (← c.self.view_is) at c.requires.ready) in
    rw (← c.self.view_is) (left_begun (before c.self.inside) c.self.inside.archive.disk
    c.store_under.new.archive.disk c.self.inside.is_spent c.store_under.new.archive.capacity
    c.in_ok-share.field-0 c.args.entry.now c.store_under.ensures.capacity c.in_ok-share.ensures
    (taken at (rw c.in-Err-Begun.field-0-is at (c.in-Err-Begun.ensures.unstored
    c.self.inside.published ready.rests))))

pub returns-in-Err-Begun-clause-images : goal.returns-in-Err-Begun-clause-images
returns-in-Err-Begun-clause-images c = rw (← c.self.view_is)
    (images (goal.at.returns-in-Err-Begun-clause-images c).After-store_under)

pub invariant_of-self-in_err-outcome : goal.invariant_of-self-in_err-outcome
invariant_of-self-in_err-outcome c =
    let ready = c.self.invariant.ready (rw (← c.self.view_is) at c.requires.ready) in
    let settled = c.in-Ok.ensures.settled (before c.self.inside) refl ready.rests in
    rw c.in_err-outcome.ensures.err (held_spent c.store_under.new.archive c.self.inside.published
    c.self.inside.times (Some c.in_ok-share.field-0) c.self.inside.order
    (settled_images c.an_image_at_rest_stands_for_what_is_kept.ensures c.store_under.new.archive
    (before c.self.inside) c.in_ok-share.field-0 c.args.entry.now c.in_ok-share.ensures
    settled.rests) c.self.invariant.to_come)

pub returns-in_err-outcome-clause-stopped : goal.returns-in_err-outcome-clause-stopped
returns-in_err-outcome-clause-stopped c =
    let at = (goal.at.returns-in_err-outcome-clause-stopped c).After-store_under in
    rw (c.in_err-outcome.ensures.err, ← c.self.view_is) (on_err _ (left_begun
    (before c.self.inside) c.self.inside.archive.disk c.store_under.new.archive.disk
    c.self.inside.is_spent c.store_under.new.archive.capacity c.in_ok-share.field-0
    c.args.entry.now c.store_under.ensures.capacity c.in_ok-share.ensures
    (taken at c.in-Ok.ensures.taken)))

pub returns-in_err-outcome-clause-images : goal.returns-in_err-outcome-clause-images
returns-in_err-outcome-clause-images c = rw (← c.self.view_is)
    (images (goal.at.returns-in_err-outcome-clause-images c).After-store_under)

pub returns-clause-images : goal.returns-clause-images
returns-clause-images c =
    rw (← c.self.view_is) (images (goal.at.returns-clause-images c).After-store_under)

-- ---- it was stored, and published

next : (c : In_ok-outcome) → Rests c.self.inside.archive c.self.inside.published
    → c.publish.new.archive ≡ (stores_under (before c.self.inside) (entry_of c.args.entry.now)
    c.self.inside.order).next.published
next c rests =
    c.in_ok-outcome.ensures.published
    ∙ ap (λ (e : form.Entry). published_by c.in-Ok.settled c.self.inside.published (entry_of e))
    c.in_ok-kept.ensures
    ∙ (c.in-Ok.ensures.settled (before c.self.inside) refl rests).published

pub invariant_of-self-2 : goal.invariant_of-self-2
invariant_of-self-2 c =
    let at = goal.at.invariant_of-self-2 c in
    let ready = c.self.invariant.ready (rw (← c.self.view_is) at c.requires.ready) in
    let store = before c.self.inside in
    let entry = entry_of c.args.entry.now in
    let settled = c.in-Ok.ensures.settled store refl ready.rests in
    let here = next at.In_ok-outcome ready.rests in
    held_next c.store_under.new.archive c.publish.new.archive c.times_behind-self-inside.result
    c.order_behind-self-inside.result c.an_image_at_rest_stands_for_what_is_kept.ensures
    (subst (Rests c.store_under.new.archive) (sym here) settled.rests)
    (rw here (times_next c.self.inside.published
    (stores_under store entry store.order).next.published entry c.self.inside.times
    c.times_behind-self-inside.result c.len-count.result
    (nat_lt c.len-count.result c.len-now.result) ready.times_are
    c.len-count.ensures (next_published store entry)
    (ap (nat_lt c.len-count.result) (sym (c.len-now.ensures ∙ ap (λ (l : List Entry). length l)
    here))) c.times_behind-self-inside.ensures.kept c.times_behind-self-inside.ensures.lost))
    (rw c.order_behind-self-inside.ensures
    (still_to_come c.self.inside.order c.self.invariant.to_come))

pub returns-clause-said : goal.returns-clause-said
returns-clause-said c =
    let at = (goal.at.returns-clause-said c).After-store_under in
    let ready = c.self.invariant.ready (rw (← c.self.view_is) at c.requires.ready) in
    let settled = c.in-Ok.ensures.settled (before c.self.inside) refl ready.rests in
    rw (← c.self.view_is) (c.in_ok-outcome.ensures.said ∙ settled.said
    ∙ ap (λ (a : Answer Store). a.said) (stored_so (before c.self.inside)
    (entry_of c.args.entry.now) (taken at c.in-Ok.ensures.taken)))

pub returns-clause-done : goal.returns-clause-done
returns-clause-done c = rw (← c.self.view_is) (c.in_ok-outcome.ensures.done
    ∙ done_is (before c.self.inside) (entry_of c.args.entry.now)
    (taken (goal.at.returns-clause-done c).After-store_under c.in-Ok.ensures.taken))

pub returns-clause-next : goal.returns-clause-next
returns-clause-next c =
    let at = goal.at.returns-clause-next c in
    let ready = c.self.invariant.ready (rw (← c.self.view_is) at c.requires.ready) in
    rw (← c.self.view_is) (record {
      state = done_now (before c.self.inside) (entry_of c.args.entry.now)
          c.store_under.new.archive.capacity c.publish.new.archive []
          c.order_behind-self-inside.result (taken at.After-store_under c.in-Ok.ensures.taken)
          c.store_under.ensures.capacity (next at.In_ok-outcome ready.rests)
          (sym (ap begun_list ready.none_begun)) c.order_behind-self-inside.ensures;
      ready = refl;
    })
