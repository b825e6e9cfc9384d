-- What a step of the recorder takes of one entry, and what it keeps of the archive.
use Rattle.std.proofs.Common.{◌≡◌, ◌⊎◌, inl, inr, ◌<◌, ◌++◌, ℕ, Option, Some, None, List, [], ◌∷◌}
use Rattle.std.proofs.Common.{length, take, Bool, true, false, nat_lt, refl, sym, ap, subst, ◌∙◌}
use Rattle.std.proofs.Common.{arith, Result, Ok, Err, IfOk, IfErr}
use Rattle.std.specs.List.{fold}
use Rattle.std.proofs.lemmas.Bool.Decides.{nat_tests}
use Rattle.std.proofs.lemmas.List.{append-nil}
use Rattle.std.proofs.Math.Seq.{take-nil}
use Rattle.archive_terms.specs.Archive.{Entry}
use Rattle.disk_model.specs.Calls.{FailedAtOne}
use Rattle.disk_model.specs.MemoryDisk.{DiskState, IsMadeCall, IsFailedCall}
use Rattle.gate_journal.specs.File.{StandsFor}
use Rattle.gate_journal.specs.JournalState.{IsOldOrNew}
use Rattle.frame_archive.specs.State.{ArchiveState, refusal}
use Rattle.frame_archive.specs.Run.{Keeps}
use Rattle.frame_archive.specs.declared.fault.OfferFault.{OfferFault}
use Rattle.recorder.specs.declared.recorded.Recorded.{Recorded}
use Rattle.recorder.specs.declared.record_fault.RecordFault.{RecordFault}
use Rattle.recorder.specs.declared.record_fault.RecordFault.TheVariants as faults
use Rattle.recorder.specs.Offers.{Offered, offered, offered_to, after_offer, after_offers}
use Rattle.recorder.specs.Offers.{by_refusal, none_dropped, IsCutShort}
use Rattle.recorder.specs.Steps.{storing, StoreFails, IsStored}
use Rattle.script_store.specs.IsHeld.{told_by}
use Rattle.script_store.specs.Storing.{offered_one, taken_of, StoresOne, IsLeftHere, HoldsThen}
use Rattle.script_store.specs.Storing.{LeavesOne, IsMissed, missed_by}
use Rattle.script_store.proofs.Disks.{at_end}

-- ---- what offers keep

pub record IsKept (new old : ArchiveState DiskState) : Type 0 where
  pub capacity : new.capacity ≡ old.capacity
  pub used : new.used ≡ old.used
  pub disk : new.disk ≡ old.disk

one_kept : (before : Offered DiskState) (entry : Entry) (cause : Option OfferFault)
    → IsKept (by_refusal before entry cause).archive before.archive
one_kept before entry None = record { capacity = refl; used = refl; disk = refl }
one_kept before entry (Some fault) = record { capacity = refl; used = refl; disk = refl }

all_kept : (before : Offered DiskState) (entries : List Entry)
    → IsKept (fold after_offer before entries).archive before.archive
all_kept before [] = record { capacity = refl; used = refl; disk = refl }
all_kept before (entry ∷ entries) =
    let first = one_kept before entry (refusal before.archive entry) in
    let rest = all_kept (after_offer before entry) entries in record {
      capacity = rest.capacity ∙ first.capacity;
      used = rest.used ∙ first.used;
      disk = rest.disk ∙ first.disk;
    }

pub after_kept : (before : Offered DiskState) (entries : List Entry)
    → IsKept (after_offers before entries).archive before.archive
unfolding after_offers
after_kept before entries = all_kept before entries

after_capacity : (before : Offered DiskState) (entries : List Entry)
    → (after_offers before entries).archive.capacity ≡ before.archive.capacity
after_capacity before entries = (after_kept before entries).capacity

abbrev capacity_of : ArchiveState DiskState → ℕ
capacity_of archive = archive.capacity

-- ---- one entry

fails_some : (used : ℕ) (waiting : List Entry) (old new : DiskState)
    → FailedAtOne IsMadeCall IsFailedCall old (storing used waiting) new → 0 < length waiting
fails_some used [] old new failed = absurd failed
fails_some used (entry ∷ entries) old new failed = omega arith

module _ (old : ArchiveState DiskState) (entry : Entry) (none : old.waiting ≡ []) where
  -- what becomes of it, by why it is refused
  pub offered_is : (cause : Option OfferFault) → refusal old entry ≡ cause
      → offered_one old entry ≡ by_refusal (offered old none_dropped) entry cause
  unfolding after_offers
  offered_is cause is = ap (by_refusal (offered old none_dropped) entry) is

  pub taken_list : refusal old entry ≡ None → taken_of old entry ≡ entry ∷ []
  taken_list is = ap (λ (o : Offered DiskState). o.archive.waiting) (offered_is None is)
      ∙ ap (λ (waiting : List Entry). waiting ++ entry ∷ []) none

  pub refused_list : (fault : OfferFault) → refusal old entry ≡ Some fault
      → taken_of old entry ≡ []
  refused_list fault is =
      ap (λ (o : Offered DiskState). o.archive.waiting) (offered_is (Some fault) is) ∙ none

  by_cause : (cause : Option OfferFault) → refusal old entry ≡ cause
      → (taken_of old entry ≡ []) ⊎ (refusal old entry ≡ None)
  by_cause None is = inr is
  by_cause (Some fault) is = inl (refused_list fault is)

  -- it waits, or is refused
  pub taken_or_not : (taken_of old entry ≡ []) ⊎ (refusal old entry ≡ None)
  taken_or_not = by_cause (refusal old entry) refl

  pub some_taken : 0 < length (taken_of old entry) → refusal old entry ≡ None
  some_taken some = elim taken_or_not [
    | inl nil ↦ absurd (omega (arith, some, ap length nil))
    | inr is ↦ is
  ]

  none_yet : (offered_to old []).archive ≡ old
  unfolding after_offers
  none_yet = refl

  -- where its store failed it was taken
  pub store_taken : (polled : List Entry) (broken : DiskState)
      → (polled ≡ []) ⊎ (polled ≡ entry ∷ [])
      → StoreFails IsMadeCall IsFailedCall (offered_to old polled).archive broken
      → (polled ≡ entry ∷ []) × (refusal old entry ≡ None)
  store_taken polled broken (inl nil) failed =
      absurd (omega (
        arith,
        fails_some old.used old.waiting old.disk broken
            (subst (λ (a : ArchiveState DiskState). StoreFails IsMadeCall IsFailedCall a broken)
            none_yet (subst (λ (es : List Entry). StoreFails IsMadeCall IsFailedCall
            (offered_to old es).archive broken) nil failed)),
        ap length none,
      ))
  store_taken polled broken (inr one) failed = (
    one,
    some_taken (fails_some _ (taken_of old entry) _ broken
        (subst (λ (es : List Entry). StoreFails IsMadeCall IsFailedCall (offered_to old es).archive
        broken) one failed)),
  )

  front_of : (front rest : List Entry) (polled : List Entry)
      → (polled ≡ []) ⊎ (polled ≡ entry ∷ []) → polled ≡ front ++ rest
      → (front ≡ []) ⊎ (front ≡ entry ∷ [])
  front_of [] rest polled few all = inl refl
  front_of (first ∷ []) rest polled (inl nil) all = absurd cc
  front_of (first ∷ []) rest polled (inr one) all =
      let same : entry ∷ [] ≡ first ∷ rest = sym one ∙ all in
      inr (ap (λ (es : List Entry). take 1 es) (sym same))
  front_of (first ∷ second ∷ others) rest polled (inl nil) all = absurd cc
  front_of (first ∷ second ∷ others) rest polled (inr one) all =
      let same : entry ∷ [] ≡ first ∷ second ∷ (others ++ rest) = sym one ∙ all in
      absurd (omega (arith, ap length same))

  -- ---- a step that isn't Ok

  short_waits : (polled : List Entry) (new : ArchiveState DiskState)
      → (polled ≡ []) ⊎ (polled ≡ entry ∷ []) → IsCutShort (offered old none_dropped) polled new
      → (new.waiting ≡ []) ⊎ (refusal old entry ≡ None)
  short_waits polled new few short =
      elim (front_of short.front short.rest polled few short.all) [
        | inl nil ↦ inl (ap (λ (a : ArchiveState DiskState). a.waiting)
            (short.state ∙ ap (λ (es : List Entry). (offered_to old es).archive) nil ∙ none_yet)
            ∙ none)
        | inr one ↦ elim taken_or_not [
          | inl not ↦ inl (ap (λ (a : ArchiveState DiskState). a.waiting)
              (short.state ∙ ap (λ (es : List Entry). (offered_to old es).archive) one) ∙ not)
          | inr is ↦ inr is
        ]
      ]

  left_waits : (fault : RecordFault) (new : ArchiveState DiskState) (polled : List Entry)
      → (polled ≡ []) ⊎ (polled ≡ entry ∷ []) → IsLeftHere fault old polled new
      → (new.waiting ≡ []) ⊎ (refusal old entry ≡ None)
  left_waits faults.SourceFault new polled few same =
      inl (ap (λ (a : ArchiveState DiskState). a.waiting) same ∙ none)
  left_waits faults.DiskFault new polled few left =
      inr (store_taken polled left.0 few left.1).1
  left_waits (faults.Refused why) new polled few left =
      inr (store_taken polled left.0 few left.1).1
  left_waits faults.Memory new polled few (inl short) = short_waits polled new few short
  left_waits faults.Memory new polled few (inr left) =
      inr (store_taken polled left.0 few left.1).1

-- ---- the capacity that a step leaves

module _ (old new : ArchiveState DiskState) where
  unmended_capacity : (fault : RecordFault) (polled : List Entry) → IsLeftHere fault old polled new
      → new.capacity ≡ old.capacity
  unmended_capacity faults.SourceFault polled same = ap capacity_of same
  unmended_capacity faults.DiskFault polled (broken, failed, rose, inl fails) =
      ap capacity_of fails.state ∙ after_capacity (offered old none_dropped) polled
  unmended_capacity faults.DiskFault polled (broken, failed, rose, inr again) =
      ap capacity_of again.state ∙ after_capacity _ _ ∙ ap capacity_of again.reopened.state
      ∙ after_capacity (offered old none_dropped) polled
  unmended_capacity (faults.Refused why) polled (broken, failed, rose, refused) =
      ap capacity_of refused.state ∙ after_capacity (offered old none_dropped) polled
  unmended_capacity faults.Memory polled (inl short) =
      ap capacity_of short.state ∙ after_capacity (offered old none_dropped) short.front
  unmended_capacity faults.Memory polled (inr (broken, failed, rose, inl (same, made))) =
      ap capacity_of same ∙ after_capacity (offered old none_dropped) polled
  unmended_capacity faults.Memory polled (inr (broken, failed, rose, inr short)) =
      ap capacity_of short.offered_again.state ∙ after_capacity _ short.offered_again.front
      ∙ ap capacity_of short.reopened.state ∙ after_capacity (offered old none_dropped) polled

  stored_capacity : (polled : List Entry) (reopened : Option ℕ) (recorded : Recorded)
      → IsStored told_by IsMadeCall IsFailedCall reopened (offered_to old polled) new recorded
      → new.capacity ≡ old.capacity
  stored_capacity polled None recorded stores =
      ap capacity_of stores.state ∙ after_capacity (offered old none_dropped) polled
  stored_capacity polled (Some count) recorded (broken, failed, inl lands) =
      ap capacity_of lands.reopened.state ∙ after_capacity (offered old none_dropped) polled
  stored_capacity polled (Some count) recorded (broken, failed, inr again) =
      ap capacity_of again.stores.state ∙ after_capacity _ _ ∙ ap capacity_of again.reopened.state
      ∙ after_capacity (offered old none_dropped) polled

  pub capacity_now : (entry : Entry) (result : Result Recorded RecordFault)
      → IfOk result (λ recorded. StoresOne old entry new recorded)
      → IfErr result (λ fault. LeavesOne fault old entry new) → new.capacity ≡ old.capacity
  capacity_now entry (Ok recorded) stores left =
      stored_capacity (entry ∷ []) recorded.reopened recorded stores.0
  capacity_now entry (Err fault) stores left = unmended_capacity fault left.polled left.left

-- ---- why a step isn't Ok

module _ (old new : ArchiveState DiskState) (entry : Entry) (none : old.waiting ≡ []) where
  -- nothing of what waits is in the file where nothing waits
  none_there : (published : List Entry) (image : List ℕ) → new.waiting ≡ []
      → IsOldOrNew published (take new.failed new.waiting) image → IsOldOrNew published [] image
  none_there published image nil (inl is) = inl is
  none_there published image nil (inr is) =
      inl (subst (λ (es : List Entry). StandsFor es image)
      (ap (λ (es : List Entry). published ++ take new.failed es) nil
      ∙ ap (λ (es : List Entry). published ++ es) (take-nil new.failed) ∙ append-nil published) is)

  begun_where : (some : Bool) (count : ℕ) → nat_lt 0 count ≡ some → some ≡ true → 0 < count
  begun_where some count is so = grind (arith, nat_tests, is, so)

  nothing : (entries : List Entry) → nat_lt 0 (length entries) ≡ false → entries ≡ []
  nothing [] is = refl
  nothing (first ∷ others) is = absurd (grind (arith, nat_tests, is))

  stored_taken : (reopened : Option ℕ) (recorded : Recorded)
      → IsStored told_by IsMadeCall IsFailedCall reopened (offered_one old entry) new recorded
      → 0 < length recorded.entries → refusal old entry ≡ None
  stored_taken None recorded stores some =
      some_taken old entry none (omega (arith, some, ap length stores.told.stored))
  stored_taken (Some count) recorded stores some =
      (store_taken old entry none (entry ∷ []) stores.0 (inr refl) stores.1).1

  -- memory was refused, and so many entries wait
  left_missed : (fault : RecordFault) (some : Bool) → nat_lt 0 (length new.waiting) ≡ some
      → LeavesOne fault old entry new → Keeps told_by old new
      → IsMissed (missed_by some) old entry new
  left_missed fault true is left keeps =
      elim (left_waits old entry none fault new left.polled left.at_most_one left.left) [
        | inl nil ↦ absurd (omega (
          arith,
          begun_where true (length new.waiting) is refl,
          ap length nil,
        ))
        | inr taken ↦ taken
      ]
  left_missed fault false is left keeps = λ published was image at. none_there published image
      (nothing new.waiting is) ((keeps published was).images image at)

  pub fault_missed : (fault : RecordFault) (count : ℕ) → count ≡ length new.waiting
      → LeavesOne fault old entry new → Keeps told_by old new
      → IsMissed (missed_by (nat_lt 0 count)) old entry new
  fault_missed fault count is left keeps =
      left_missed fault (nat_lt 0 count) (ap (nat_lt 0) (sym is)) left keeps

  -- memory was refused to the disk of a step that is Ok
  stored_missed : (recorded : Recorded) (some : Bool)
      → nat_lt 0 (length recorded.entries) ≡ some → StoresOne old entry new recorded
      → HoldsThen old (taken_of old entry) new → IsMissed (missed_by some) old entry new
  stored_missed recorded true is stores during =
      stored_taken recorded.reopened recorded stores.0
      (begun_where true (length recorded.entries) is refl)
  stored_missed recorded false is stores during = λ published was image at.
      subst (λ (es : List Entry). IsOldOrNew published es image)
      (sym ((stores.1 published was).stored) ∙ nothing recorded.entries is)
      (at_end old.disk new.disk (IsOldOrNew published (taken_of old entry)) (during published was)
      image at)

  pub count_missed : (recorded : Recorded) (count : ℕ) → count ≡ length recorded.entries
      → StoresOne old entry new recorded → HoldsThen old (taken_of old entry) new
      → IsMissed (missed_by (nat_lt 0 count)) old entry new
  count_missed recorded count is stores during =
      stored_missed recorded (nat_lt 0 count) (ap (nat_lt 0) (sym is)) stores during
