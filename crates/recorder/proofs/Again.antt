-- What was taken once is taken again, where the archive that was opened is as it was.
use Rattle.std.proofs.Common.{◌≡◌, inl, inr, ℕ, ◌+◌, ◌-◌, Bool, true, Option, Some, None, is_some}
use Rattle.std.proofs.Common.{IfSome, List, [], ◌∷◌, ◌++◌, length, take, Result, Ok, Err, IfOk, refl}
use Rattle.std.proofs.Common.{sym, ap, subst, ◌∙◌, arith}
use Rattle.std.specs.List.{fold}
use Rattle.std.proofs.lemmas.List.{append-nil}
use Rattle.std.proofs.lemmas.List.Sums.{fold_push}
use Rattle.archive_terms.specs.Archive.{Entry}
use Rattle.disk_model.specs.Images.{Pending}
use Rattle.disk_model.specs.declared.call.Call.{Call}
use Rattle.gate_journal.specs.declared.order.Times.{Times}
use Rattle.frame_archive.specs.State.{ArchiveState, refusal, with_waiting, with_failed, times_of}
use Rattle.frame_archive.specs.State.{wanted}
use Rattle.frame_archive.specs.Acknowledges.{Acknowledges}
use Rattle.frame_archive.specs.Run.{Keeps}
use Rattle.frame_archive.specs.declared.fault.OfferFault.{OfferFault}
use Rattle.recorder.specs.declared.recorded.Recorded.{Recorded}
use Rattle.recorder.specs.declared.record_fault.RecordFault.{RecordFault}
use Rattle.recorder.specs.Feeds.{Answer}
use Rattle.recorder.specs.Polling.{IsPolled}
use Rattle.recorder.specs.Offers.{Dropped, Offered, offered, by_refusal, after_offer, after_offers}
use Rattle.recorder.specs.Offers.{offered_to, none_dropped}
use Rattle.recorder.specs.Steps.{Tells, TellsOffered, Reopened, IsMended, IsStored, WaitsAgain}
use Rattle.recorder.specs.Steps.{offered_again}
use Rattle.recorder.proofs.NoRoom.{more_after}

-- an archive that holds as many entries, in as many octets, as another
pub record IsLike {D : Type 0} (opened start : ArchiveState D) : Type 0 where
  pub capacity : opened.capacity ≡ start.capacity
  pub count : opened.count ≡ start.count
  pub used : opened.used ≡ start.used
  pub times : opened.times ≡ start.times
  pub rests : opened.waiting ≡ []

-- with other entries that wait
abbrev with_those : {D : Type 0} → ArchiveState D → Times → List Entry → ArchiveState D
with_those archive times waiting = record archive { times = times; waiting = waiting }

module _ {D : Type 0} (start opened : ArchiveState D) (dropped : Dropped)
    (like : IsLike opened start) where
  same_refusal : (times : Times) (waiting : List Entry) (entry : Entry)
      → refusal (with_those opened times waiting) entry
      ≡ refusal (with_those start times waiting) entry
  same_refusal times waiting entry = rw (like.capacity, like.count, like.used) refl

  -- all that waits by now was taken by the one that was opened
  pub record IsAgain (now : Offered D) : Type 0 where
    pub same : now.archive ≡ with_those start now.archive.times now.archive.waiting
    pub again : after_offers (offered opened dropped) now.archive.waiting
        ≡ offered (with_those opened now.archive.times now.archive.waiting) dropped

  one_again : (now : Offered D) (entry : Entry) (cause : Option OfferFault)
      → refusal now.archive entry ≡ cause → IsAgain now → IsAgain (by_refusal now entry cause)
  unfolding after_offers
  one_again now entry (Some fault) is so_far = record {
    same = so_far.same;
    again = so_far.again;
  }
  one_again now entry None is so_far =
      let times = now.archive.times in
      let waiting = now.archive.waiting in
      let mid = offered (with_those opened times waiting) dropped in
      let none : refusal mid.archive entry ≡ None = same_refusal times waiting entry
      ∙ sym (ap (λ (a : ArchiveState D). refusal a entry) so_far.same) ∙ is in record {
        same = ap (λ (a : ArchiveState D). with_waiting a entry) so_far.same;
        again = fold_push after_offer (offered opened dropped) waiting entry
            ∙ ap (λ (o : Offered D). after_offer o entry) so_far.again
            ∙ ap (by_refusal mid entry) none;
      }

  all_again : (now : Offered D) (entries : List Entry) → IsAgain now
      → IsAgain (fold after_offer now entries)
  all_again now [] so_far = so_far
  all_again now (entry ∷ entries) so_far =
      all_again (after_offer now entry) entries
      (one_again now entry (refusal now.archive entry) refl so_far)

  at_start : start.waiting ≡ [] → IsAgain (offered start none_dropped)
  unfolding after_offers
  at_start none = record {
    same = refl;
    again = rw none (ap (λ (times : Times). offered (with_those opened times opened.waiting)
        dropped) like.times
        ∙ ap (λ (waiting : List Entry). offered (with_those opened start.times waiting) dropped)
        like.rests);
  }

  pub taken_again : (polled : List Entry) → start.waiting ≡ []
      → IsAgain (offered_to start polled)
  unfolding after_offers
  taken_again polled none = all_again (offered start none_dropped) polled (at_start none)

where_told : {P : Type 0} (pending : Option Pending) → is_some pending ≡ true
    → IfSome pending (λ _. P) → P
where_told (Some told) tells fact = fact
where_told None tells fact = absurd (cc)

-- ---- the second offer

module _ {D : Type 0} (pending : D → Option Pending) (makes : D → Call → D → Type 0)
    (start : ArchiveState D) (polled : List Entry) (rests : start.waiting ≡ []) where
  abbrev first : Offered D
  first = offered_to start polled

  is_like : (broken opened : ArchiveState D) (entries : List Entry)
      → broken ≡ with_failed first.archive broken.disk → Acknowledges pending start entries
      → Acknowledges pending broken entries → Reopened pending makes broken opened
      → opened.count ≡ broken.count → IsLike opened start
  unfolding after_offers
  is_like broken opened entries is was acknowledged reopened count =
      let zero_more : opened.count - broken.count ≡ 0 = omega (arith, count) in
      let landed : take (opened.count - broken.count) broken.waiting ≡ [] =
      ap (λ n. take n broken.waiting) zero_more in
      let none = ap (λ (a : ArchiveState D). a.waiting) reopened.state in
      let now = reopened.acknowledged entries acknowledged in
      let more = more_after (offered start none_dropped) polled in record {
        capacity = ap (λ (a : ArchiveState D). a.capacity) reopened.state
            ∙ ap (λ (a : ArchiveState D). a.capacity) is ∙ more.capacity;
        count = count ∙ ap (λ (a : ArchiveState D). a.count) is ∙ more.count;
        used = omega (
          arith,
          where_told (pending broken.disk) acknowledged.tells reopened.used,
          ap wanted landed,
          ap (λ (a : ArchiveState D). a.used) is,
          more.used,
        );
        times = now.agrees.last ∙ ap times_of (ap (λ (es : List Entry).
            (entries ++ take (opened.count - broken.count) broken.waiting) ++ es) none
            ∙ append-nil (entries ++ take (opened.count - broken.count) broken.waiting)
            ∙ ap (λ (es : List Entry). entries ++ es) (landed ∙ sym rests))
            ∙ sym was.agrees.last;
        rests = none;
      }

  -- nothing is refused that is offered once more
  all_taken : (broken opened : ArchiveState D) (entries : List Entry)
      → broken ≡ with_failed first.archive broken.disk → Acknowledges pending start entries
      → Acknowledges pending broken entries → Reopened pending makes broken opened
      → opened.count ≡ broken.count → offered_again first.dropped broken opened
      ≡ offered (with_those opened first.archive.times first.archive.waiting) first.dropped
  all_taken broken opened entries is was acknowledged reopened count =
      ap (λ (es : List Entry). after_offers (offered opened first.dropped) es)
      (ap (λ (a : ArchiveState D). a.waiting) is)
      ∙ (taken_again start opened first.dropped
      (is_like broken opened entries is was acknowledged reopened count) polled rests).again

  -- so what waits then is what waited
  pub waits_again : (broken : ArchiveState D) (entries : List Entry)
      → broken ≡ with_failed first.archive broken.disk → Acknowledges pending start entries
      → Acknowledges pending broken entries → WaitsAgain pending makes first.dropped broken
  waits_again broken entries is was acknowledged opened reopened count =
      ap (λ (o : Offered D). o.archive.waiting)
      (all_taken broken opened entries is was acknowledged reopened count)
      ∙ sym (ap (λ (a : ArchiveState D). a.waiting) is)

  told_so : (broken new : ArchiveState D) (recorded : Recorded) (entries : List Entry)
      → broken ≡ with_failed first.archive broken.disk → Acknowledges pending start entries
      → Acknowledges pending broken entries
      → IsMended pending makes first.dropped broken new recorded → TellsOffered first recorded
  told_so broken new recorded entries is was acknowledged (inl lands) =
      subst (λ (es : List Entry). Tells es first.dropped recorded)
      (ap (λ (a : ArchiveState D). a.waiting) is) lands.told
  told_so broken new recorded entries is was acknowledged (inr again) =
      subst (λ (o : Offered D). Tells o.archive.waiting o.dropped recorded)
      (all_taken broken again.opened entries is was acknowledged again.reopened again.count)
      again.stores.told

  pub mended_taken : (broken new : ArchiveState D) (result : Result Recorded RecordFault)
      → broken ≡ with_failed first.archive broken.disk → Keeps pending start broken
      → IfOk result (λ recorded. IsMended pending makes first.dropped broken new recorded)
      → IfOk result (λ recorded. (entries : List Entry) → Acknowledges pending start entries
      → TellsOffered first recorded)
  mended_taken broken new (Ok recorded) is keeps mended = λ entries was.
      told_so broken new recorded entries is was (keeps entries was) mended
  mended_taken broken new (Err fault) is keeps mended = mended

  -- what a step answers that was mended
  pub mended_answer : (fails : D → Call → D → Type 0) (told now : Option (List Answer))
      (last : Bool) (new : ArchiveState D) (result : Result Recorded RecordFault) (total : ℕ)
      → IsPolled last polled told now → IfOk result (λ recorded. recorded.last ≡ last)
      → total ≡ length polled
      → IfOk result (λ recorded. length recorded.entries + recorded.refused + recorded.full ≡ total)
      → IfOk result (λ recorded. IsStored pending makes fails recorded.reopened first new recorded)
      → IfOk result (λ recorded. (entries : List Entry) → Acknowledges pending start entries
      → TellsOffered first recorded)
      → IfOk result (λ recorded. (all : List Entry) × IsPolled recorded.last all told now
      × (length recorded.entries + recorded.refused + recorded.full ≡ length all)
      × IsStored pending makes fails recorded.reopened (offered_to start all) new recorded
      × ((entries : List Entry) → Acknowledges pending start entries
      → TellsOffered (offered_to start all) recorded))
  mended_answer fails told now last new (Ok recorded) total is same all counted stored taken = (
    polled,
    subst (λ (b : Bool). IsPolled b polled told now) (sym same) is,
    counted ∙ all,
    stored,
    taken,
  )
  mended_answer fails told now last new (Err fault) total is same all counted stored taken = stored
