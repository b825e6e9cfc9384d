-- What an archive is behind a step of the recorder of one entry that is Ok, and what it is told as.
use Rattle.std.proofs.Common.{◌≡◌, inl, inr, ◌<◌, ◌+◌, ◌-◌, ◌++◌, ℕ, Option, Some, None, List, []}
use Rattle.std.proofs.Common.{◌∷◌, length, take, Bool, true, false, not, nat_le, nat_lt}
use Rattle.std.proofs.Common.{if◌then◌else◌, IfSome, Result, Ok, Err, IfOk, IfErr, OnOk, is_some}
use Rattle.std.proofs.Common.{refl}
use Rattle.std.proofs.Common.{sym, ap, subst, ◌∙◌, arith}
use Rattle.std.proofs.lemmas.Bool.Decides.{nat_tests}
use Rattle.std.proofs.lemmas.List.{append-nil}
use Rattle.archive_terms.specs.Archive.{Entry, IsArchive, is_in_order, is_short}
use Rattle.disk_model.specs.Calls.{AllMade, FailedAtOne}
use Rattle.disk_model.specs.MemoryDisk.{DiskState, IsMadeCall, IsFailedCall, pending_of, steered}
use Rattle.disk_model.specs.MemoryDisk.{content_of}
use Rattle.disk_model.specs.declared.call.Call.TheVariants.{Sync}
use Rattle.disk_model.specs.declared.orders.Orders.{Orders}
use Rattle.disk_model.specs.declared.orders.Pick.{Pick}
use Rattle.gate_journal.specs.JournalState.{IsAtRest, appending, holds_batch, IsOldOrNew}
use Rattle.frame_archive.specs.State.{ArchiveState, refusal, need, free, with_waiting, with_failed}
use Rattle.frame_archive.specs.State.{wanted, times_of}
use Rattle.frame_archive.specs.Acknowledges.{Acknowledges, Uses}
use Rattle.frame_archive.specs.Run.{Adds}
use Rattle.frame_archive.specs.declared.fault.OfferFault.{OfferFault}
use Rattle.frame_archive.specs.declared.fault.OfferFault.TheVariants as offers
use Rattle.recorder.specs.declared.recorded.Recorded.{Recorded}
use Rattle.recorder.specs.Offers.{Offered, Dropped, offered, by_refusal, none_dropped}
use Rattle.recorder.specs.Offers.{after_offers}
use Rattle.recorder.specs.Steps.{storing, StoreFails, IsStored, IsMended, offered_again}
use Rattle.script_store.specs.declared.order.Order.{Order}
use Rattle.script_store.specs.declared.order.Strike.{Strike}
use Rattle.script_store.specs.declared.order.Strike.TheVariants.{Stop, Fail}
use Rattle.script_store.specs.declared.storing.Settled.{Settled}
use Rattle.script_store.specs.declared.storing.Settled.TheVariants.{Stored, Failed}
use Rattle.script_store.specs.declared.storing.Unstored.{Unstored}
use Rattle.script_store.specs.declared.storing.Unstored.TheVariants as unstored
use Rattle.script_store.specs.Store.{Store}
use Rattle.script_store.specs.Orders.{is_hit}
use Rattle.script_store.specs.Entries.{used}
use Rattle.script_store.specs.Entries as entries
use Rattle.script_store.specs.IsHeld.{told_by, Rests, IsOfOffer, Throughout, KeepsAllOrNone}
use Rattle.script_store.specs.Storing.{no_orders, orders_by, told_orders, hitting, offered_one}
use Rattle.script_store.specs.Storing.{taken_of, StoresOne, settled_of, IsSettled, IsEnded}
use Rattle.script_store.specs.Storing.{IsUnstored}
use Rattle.script_store.specs.Storing.{IsWhy, HoldsThen}
use Rattle.script_store.proofs.Disks.{to_steered, from_steered}
use Rattle.script_store.proofs.WorldArchives.{AtRestStands, steered_still, used_more, wanted_one}
use Rattle.script_store.proofs.WorldArchives.{none_stored}
use Rattle.script_store.proofs.Reopening.{OnePlace, found_is}
use Rattle.script_store.proofs.Striking.{Struck, OneList, runs_after, stopped_makes, ample_before}
use Rattle.script_store.proofs.Striking.{never_made, has_stopped, fault_leaves}
use Rattle.script_store.proofs.Taken.{offered_is, taken_list, refused_list, after_kept}

-- an archive in which nothing waits refuses none because others wait
of_offer : (a b w l : Bool) (n f : ℕ) → w ≡ false
    → IfSome (if a then Some offers.Backward else if b then Some offers.TooLong
    else if w then Some offers.Waiting else if l then Some (offers.Full n f) else None) IsOfOffer
of_offer true b w l n f other = tt
of_offer false true w l n f other = tt
of_offer false false true l n f other = absurd cc
of_offer false false false true n f other = tt
of_offer false false false false n f other = tt

pub refuses_so : (archive : ArchiveState DiskState) (entry : Entry) → archive.waiting ≡ []
    → IfSome (refusal archive entry) IsOfOffer
refuses_so archive entry none =
    of_offer (not (is_in_order archive.times.frame archive.times.seal entry))
    (not (is_short entry)) (nat_le 256 (length archive.waiting))
    (nat_lt (free archive) (need archive.waiting entry)) (need archive.waiting entry)
    (free archive) (rw none refl)

-- ---- orders that the disk is told

-- an archive whose disk was told the order that hits its store
abbrev pub told_archive : ArchiveState DiskState → Option Order → ArchiveState DiskState
told_archive archive strike = record archive { disk = steered archive.disk (told_orders strike) }

-- and then that none stands
abbrev pub untold : ArchiveState DiskState → ArchiveState DiskState
untold archive = record archive { disk = steered archive.disk no_orders }

pub told_is : (archive told : ArchiveState DiskState) (orders : Orders)
    (order strike : Option Order) → told ≡ record archive { disk = steered archive.disk orders }
    → orders ≡ told_orders strike → strike ≡ hitting order
    → told ≡ told_archive archive (hitting order)
told_is archive told orders order strike is orders_are strike_is =
    is ∙ ap (λ (o : Orders). record archive { disk = steered archive.disk o }) orders_are
    ∙ ap (told_archive archive) strike_is

pub untold_is : (archive after : ArchiveState DiskState) (orders : Orders)
    → after ≡ record archive { disk = steered archive.disk orders } → orders ≡ no_orders
    → after ≡ untold archive
untold_is archive after orders is orders_are =
    is ∙ ap (λ (o : Orders). record archive { disk = steered archive.disk o }) orders_are

taken_by : (archive : ArchiveState DiskState) (strike : Option Order) (entry : Entry)
    (cause : Option OfferFault)
    → (by_refusal (offered (told_archive archive strike) none_dropped) entry cause).archive.waiting
    ≡ (by_refusal (offered archive none_dropped) entry cause).archive.waiting
taken_by archive strike entry None = refl
taken_by archive strike entry (Some fault) = refl

-- orders change nothing of what an archive takes
taken_same : (archive : ArchiveState DiskState) (strike : Option Order) (entry : Entry)
    → taken_of (told_archive archive strike) entry ≡ taken_of archive entry
unfolding after_offers
taken_same archive strike entry = taken_by archive strike entry (refusal archive entry)

-- the disk's images from before the disk was told to behind a step
pub step_images : (archive now : ArchiveState DiskState) (strike : Option Order) (entry : Entry)
    (published : List Entry) → Rests archive published
    → HoldsThen (told_archive archive strike) (taken_of (told_archive archive strike) entry) now
    → KeepsAllOrNone archive.disk (untold now).disk published (taken_of archive entry)
step_images archive now strike entry published rests during =
    let P = IsOldOrNew published (taken_of archive entry) in
    to_steered archive.disk now.disk no_orders P
    (from_steered archive.disk now.disk (told_orders strike) P
    (subst (λ (es : List Entry). Throughout (steered archive.disk (told_orders strike)) now.disk
    (IsOldOrNew published es)) (taken_same archive strike entry)
    (during published (steered_still archive (told_orders strike) published
    rests.acknowledges))))

runs_strike : (strike : Strike) (calls : ℕ) (disk : DiskState) → 0 < calls → disk.stopped ≡ None
    → (steered disk (orders_by strike calls)).stopped ≡ None
runs_strike (Stop pick) calls disk some runs = grind (arith, nat_tests, some, runs)
runs_strike Fail calls disk some runs = rw runs refl

-- a disk runs on that was told of a call to come
runs_told : (order : Option Order) (b : Bool) (disk : DiskState)
    → IfSome order (λ o. 0 < o.calls) → disk.stopped ≡ None
    → (steered disk (told_orders (hitting order))).stopped ≡ None
runs_told None b disk to_come runs = rw runs refl
runs_told (Some order) b disk to_come runs =
    elim (is_hit order) as (λ hit. (steered disk (told_orders (if hit then Some order
    else None))).stopped ≡ None) [
      | true ↦ runs_strike order.strike order.calls disk to_come runs
      | false ↦ rw runs refl
    ]

-- ---- what it is told as

module _ (state : Store) (entry : Entry) (archive : ArchiveState DiskState)
    (rests : Rests archive (state.published ++ entry ∷ [])) where
  free_so : (order : Order) (hit : Bool) → is_hit order ≡ hit
      → (if hit then Some order else None) ≡ None → state.order ≡ Some order
      → IsSettled state entry archive Stored
  free_so order true is none same = absurd cc
  free_so order false is none same = record {
    said = rw (same, is) refl;
    rests = rw (same, is) rests;
    published = rw (same, is) refl;
  }

  settles_free : (order : Option Order) → state.order ≡ order → hitting order ≡ None
      → IsSettled state entry archive Stored
  settles_free None same none = record {
    said = rw same refl;
    rests = rw same rests;
    published = rw same refl;
  }
  settles_free (Some order) same none = free_so order (is_hit order) refl none same

  settles_failed : (order : Order) (count : ℕ) → state.order ≡ Some order → is_hit order ≡ true
      → order.strike ≡ Fail
      → count ≡ length (if holds_batch order.calls then state.published ++ entry ∷ []
      else state.published)
      → IsSettled state entry archive (Failed count)
  settles_failed order count same hit fail is = record {
    said = rw (same, hit, fail, is) refl;
    rests = rw (same, hit, fail) rests;
    published = rw (same, hit, fail) refl;
  }

-- ---- behind a step that is Ok

abbrev get_or_zero : Option ℕ → ℕ
get_or_zero (Some n) = n
get_or_zero None = 0

abbrev is_hit_or : Option Order → Bool
is_hit_or (Some order) = is_hit order
is_hit_or None = false

module _ (one : Entry) where
  made_runs : (used : ℕ) (waiting : List Entry) (old new : DiskState) → waiting ≡ one ∷ []
      → AllMade IsMadeCall old (storing used waiting) new → new.stopped ≡ None
  made_runs used waiting old new is made =
      runs_after (storing used (one ∷ [])) old new (omega arith)
      (subst (λ (es : List Entry). AllMade IsMadeCall old (storing used es) new) is made)

fails_none : (used : ℕ) (waiting : List Entry) (old new : DiskState) → waiting ≡ []
    → FailedAtOne IsMadeCall IsFailedCall old (storing used waiting) new → ⊥
fails_none used waiting old new none failed =
    subst (λ (es : List Entry). FailedAtOne IsMadeCall IsFailedCall old (storing used es) new) none
    failed

module _ (old now : ArchiveState DiskState) (entry : Entry) (order : Option Order)
    (to_come : IfSome order (λ o. 0 < o.calls)) (published : List Entry)
    (rests : Rests old published) (recorded : Recorded)
    (stores : StoresOne (told_archive old (hitting order)) entry now recorded)
    (adds : Adds told_by (told_archive old (hitting order)) now recorded.entries)
    (none_waits : now.waiting ≡ []) (fresh : now.is_stale ≡ false)
    (ample : now.disk.memory_refused ≡ false) where
  abbrev told : ArchiveState DiskState
  told = told_archive old (hitting order)

  still : Acknowledges told_by told published
  still = steered_still old (told_orders (hitting order)) published rests.acknowledges

  drop_cause : (cause : Option OfferFault) → refusal told entry ≡ cause
      → (offered_one told entry).dropped.refusal ≡ cause
  drop_cause None is =
      ap (λ (o : Offered DiskState). o.dropped.refusal) (offered_is told entry rests.waits None is)
  drop_cause (Some fault) is = ap (λ (o : Offered DiskState). o.dropped.refusal)
      (offered_is told entry rests.waits (Some fault) is)

  -- it says why the archive refused the entry
  pub cause_is : recorded.refusal ≡ refusal old entry
  cause_is = ap (λ (d : Dropped). d.refusal) (stores.1 published still).dropped_are
      ∙ drop_cause (refusal told entry) refl

  rests_then : (all : List Entry) → Acknowledges told_by now all → now.used ≡ used all
      → now.disk.stopped ≡ None → Rests (untold now) all
  rests_then all acknowledged uses runs = record {
    acknowledges = steered_still now no_orders all acknowledged;
    waits = none_waits;
    fresh = fresh;
    used_are = uses;
    runs = rw runs refl;
    unsteered = record { goes_on = refl; succeeds = refl; ample = ample };
  }

  -- ---- it was refused

  module _ (fault : OfferFault) (refused : refusal old entry ≡ Some fault) where
    none_stored_by : (reopened : Option ℕ)
        → IsStored told_by IsMadeCall IsFailedCall reopened
        (by_refusal (offered told none_dropped) entry (Some fault)) now recorded
        → (now.used ≡ told.used) × (now.disk ≡ told.disk)
    none_stored_by None stored = (
      ap (λ (a : ArchiveState DiskState). a.used) stored.state
          ∙ ap (λ (es : List Entry). told.used + wanted es) rests.waits ∙ omega arith,
      subst (λ (es : List Entry). AllMade IsMadeCall told.disk (storing told.used es) now.disk)
          rests.waits stored.calls,
    )
    none_stored_by (Some count) stored =
        absurd (fails_none told.used told.waiting told.disk stored.0 rests.waits stored.1)

    pub rests_refused : Rests (untold now) published
    rests_refused =
        let same = none_stored_by recorded.reopened
        (subst (λ (o : Offered DiskState). IsStored told_by IsMadeCall IsFailedCall
        recorded.reopened o now recorded)
        (offered_is told entry rests.waits (Some fault) refused) stores.0) in
        rests_then published
        (subst (Acknowledges told_by now) (ap (λ (es : List Entry). published ++ es)
        ((stores.1 published still).stored ∙ refused_list told entry rests.waits fault refused)
        ∙ append-nil published) (adds published still))
        (same.0 ∙ rests.used_are)
        (ap (λ (d : DiskState). d.stopped) same.1
        ∙ runs_told order true old.disk to_come rests.runs)

  -- ---- it was taken

  module _ (taken : refusal old entry ≡ None) where
    abbrev before : Offered DiskState
    before = offered (with_waiting told entry) none_dropped

    -- its store failed, and then it was stored all the same
    abbrev HasFailed : DiskState → Type 0
    HasFailed broken = StoreFails IsMadeCall IsFailedCall (with_waiting told entry) broken

    abbrev Mends : DiskState → Type 0
    Mends broken = IsMended told_by IsMadeCall none_dropped
        (with_failed (with_waiting told entry) broken) now recorded

    one_waits : (with_waiting told entry).waiting ≡ entry ∷ []
    one_waits = ap (λ (es : List Entry). es ++ entry ∷ []) rests.waits

    stored : IsStored told_by IsMadeCall IsFailedCall recorded.reopened before now recorded
    stored = subst (λ (o : Offered DiskState). IsStored told_by IsMadeCall IsFailedCall
        recorded.reopened o now recorded) (offered_is told entry rests.waits None taken) stores.0

    entries_are : recorded.entries ≡ entry ∷ []
    entries_are = (stores.1 published still).stored ∙ taken_list told entry rests.waits taken

    kept : Acknowledges told_by now (published ++ entry ∷ [])
    kept = subst (Acknowledges told_by now) (ap (λ (es : List Entry). published ++ es) entries_are)
        (adds published still)

    longer : IsArchive (published ++ entry ∷ [])
    longer = subst IsArchive (ap (λ (es : List Entry). (published ++ entry ∷ []) ++ es) none_waits
        ∙ append-nil (published ++ entry ∷ [])) kept.agrees.archive

    wants : (es : List Entry) → es ≡ entry ∷ [] → wanted es ≡ entries.need entry
    wants es is = ap wanted is ∙ wanted_one entry

    by_stored : (reopened : Option ℕ)
        → IsStored told_by IsMadeCall IsFailedCall reopened before now recorded
        → (now.used ≡ old.used + entries.need entry) × (now.disk.stopped ≡ None)
    by_stored None did = (
      ap (λ (a : ArchiveState DiskState). a.used) did.state
          ∙ ap (λ (n : ℕ). old.used + n) (wants _ one_waits),
      made_runs entry told.used _ told.disk now.disk one_waits did.calls,
    )
    by_stored (Some count) (broken, failed, inl lands) =
        let more : now.count - told.count ≡ 1 =
        omega (arith, lands.count, ap length one_waits) in (
          lands.reopened.used
              ∙ ap (λ (n : ℕ). old.used + wanted (take n (with_waiting told entry).waiting)) more
              ∙ ap (λ (n : ℕ). old.used + n) (wants _ (ap (take 1) one_waits)),
          runs_after (Sync ∷ []) broken now.disk (omega arith) lands.reopened.calls,
        )
    by_stored (Some count) (broken, failed, inr again) =
        let more : again.opened.count - told.count ≡ 0 = omega (arith, again.count) in
        let waits = sym again.stores.told.stored ∙ entries_are in (
          ap (λ (a : ArchiveState DiskState). a.used) again.stores.state
              ∙ ap (λ (n : ℕ). n + wanted (offered_again none_dropped
              (with_failed (with_waiting told entry) broken) again.opened).archive.waiting)
              ((after_kept (offered again.opened none_dropped)
              (with_waiting told entry).waiting).used
              ∙ again.reopened.used
              ∙ ap (λ (n : ℕ). old.used + wanted (take n (with_waiting told entry).waiting)) more
              ∙ omega arith)
              ∙ ap (λ (n : ℕ). old.used + n) (wants _ waits),
          made_runs entry _ _ _ now.disk waits again.stores.calls,
        )

    pub rests_taken : Rests (untold now) (published ++ entry ∷ [])
    rests_taken =
        let did = by_stored recorded.reopened stored in
        rests_then (published ++ entry ∷ []) kept
        (omega (arith, did.0, rests.used_are, used_more published entry)) did.1

    module _ (laws : Struck) (one : OneList) (place : OnePlace)
        (at_rest : IsAtRest (Some (pending_of old.disk)) (old.used - 1)) (hits : Order)
        (hit : hitting order ≡ Some hits) (some : 0 < hits.calls) (is_hit_so : is_hit hits ≡ true)
      where
        failed_there : (broken : DiskState) → HasFailed broken
            → FailedAtOne IsMadeCall IsFailedCall
            (steered old.disk (orders_by hits.strike hits.calls))
            (appending (old.used - 1) (entry ∷ [])) broken
        failed_there broken failed =
            subst (λ (strike : Option Order). FailedAtOne IsMadeCall IsFailedCall
            (steered old.disk (told_orders strike)) (appending (old.used - 1) (entry ∷ [])) broken)
            hit (subst (λ (es : List Entry). FailedAtOne IsMadeCall IsFailedCall told.disk
            (storing old.used es) broken) one_waits failed)

        -- no store is Ok that is hit
        not_made : AllMade IsMadeCall told.disk
            (storing old.used (with_waiting told entry).waiting) now.disk → ⊥
        not_made made =
            never_made laws hits.calls some is_hit_so old published entry rests hits.strike now.disk
            (subst (λ (strike : Option Order). AllMade IsMadeCall
            (steered old.disk (told_orders strike)) (appending (old.used - 1) (entry ∷ []))
            now.disk)
            hit (subst (λ (es : List Entry). AllMade IsMadeCall told.disk (storing old.used es)
            now.disk) one_waits made))

        ample_mended : (broken : DiskState)
            → Mends broken → broken.memory_refused ≡ false
        ample_mended broken (inl lands) =
            ample_before (Sync ∷ []) broken now.disk lands.reopened.calls ample
        ample_mended broken (inr again) =
            ample_before (Sync ∷ []) broken again.opened.disk again.reopened.calls
            (subst (λ (d : DiskState). d.memory_refused ≡ false)
            (after_kept (offered again.opened none_dropped) (with_waiting told entry).waiting).disk
            (ample_before _ _ now.disk again.stores.calls ample))

        -- a disk that has stopped isn't mended
        runs_mended : (broken : DiskState) (pick : Pick) → broken.stopped ≡ Some pick
            → Mends broken → ⊥
        runs_mended broken pick stopped (inl lands) =
            stopped_makes broken now.disk Sync [] pick stopped lands.reopened.calls
        runs_mended broken pick stopped (inr again) =
            stopped_makes broken again.opened.disk Sync [] pick stopped again.reopened.calls

        there : (broken : DiskState) (opened : ArchiveState DiskState)
            → broken.memory_refused ≡ false → hits.strike ≡ Fail
            → HasFailed broken
            → (found : List Entry) × (length found ≡ opened.count)
            × (opened.times ≡ times_of found) × Uses found opened.used (content_of broken)
            → opened.count ≡ length (if holds_batch hits.calls then published ++ entry ∷ []
            else published)
        there broken opened still_ample fail failed found =
            sym found.1 ∙ ap (λ (es : List Entry). length es)
            (found_is one place _ found.0 opened.used (content_of broken)
            (fault_leaves laws hits.calls some is_hit_so old published entry rests broken
            still_ample longer at_rest
            (subst (λ (strike : Strike). FailedAtOne IsMadeCall IsFailedCall
            (steered old.disk (orders_by strike hits.calls)) (appending (old.used - 1) (entry ∷ []))
            broken) fail (failed_there broken failed))) found.3)

        counts : (broken : DiskState) (count : ℕ) → recorded.reopened ≡ Some count
            → HasFailed broken
            → Mends broken → hits.strike ≡ Fail
            → count ≡ length (if holds_batch hits.calls then published ++ entry ∷ [] else published)
        counts broken count is failed (inl lands) fail =
            ap (get_or_zero) (sym is ∙ lands.counted)
            ∙ there broken now (ample_mended broken (inl lands)) fail failed lands.reopened.found
        counts broken count is failed (inr again) fail =
            ap (get_or_zero) (sym is ∙ again.counted)
            ∙ there broken again.opened (ample_mended broken (inr again)) fail failed
            again.reopened.found

        by_strike : (broken : DiskState) → HasFailed broken
            → Mends broken → (strike : Strike) → hits.strike ≡ strike → hits.strike ≡ Fail
        by_strike broken failed mended Fail is = is
        by_strike broken failed mended (Stop pick) is =
            absurd (runs_mended broken pick (has_stopped laws hits.calls some is_hit_so old
            published entry rests broken (ample_mended broken mended) pick
            (subst (λ (strike : Strike). FailedAtOne IsMadeCall IsFailedCall
            (steered old.disk (orders_by strike hits.calls)) (appending (old.used - 1) (entry ∷ []))
            broken) is (failed_there broken failed))) mended)

        counted_by : (reopened : Option ℕ) → recorded.reopened ≡ reopened
            → IsStored told_by IsMadeCall IsFailedCall reopened before now recorded
            → (count : ℕ) × (recorded.reopened ≡ Some count) × (hits.strike ≡ Fail)
            × (count ≡ length (if holds_batch hits.calls then published ++ entry ∷ []
            else published))
        counted_by None is did = absurd (not_made did.calls)
        counted_by (Some count) is (broken, failed, mended) =
            let fail = by_strike broken failed mended hits.strike refl in
            (count, is, fail, counts broken count is failed mended fail)

        pub counted : (count : ℕ) × (recorded.reopened ≡ Some count) × (hits.strike ≡ Fail)
            × (count ≡ length (if holds_batch hits.calls then published ++ entry ∷ []
            else published))
        counted = counted_by recorded.reopened refl stored

-- ---- the answer

hits_so : (order : Order) (hit : Bool) (hits : Order) → is_hit order ≡ hit
    → (if hit then Some order else None) ≡ Some hits
    → (Some order ≡ Some hits) × (is_hit hits ≡ true)
hits_so order false hits is same = absurd cc
hits_so order true hits is same = (same, subst (λ (o : Option Order). is_hit_or o ≡ true) same is)

pub hitting_is : (order : Option Order) (hits : Order) → hitting order ≡ Some hits
    → (order ≡ Some hits) × (is_hit hits ≡ true)
hitting_is None hits same = absurd cc
hitting_is (Some order) hits same = hits_so order (is_hit order) hits refl same

pub to_come_of : (order : Option Order) (hits : Order) → order ≡ Some hits
    → IfSome order (λ o. 0 < o.calls) → 0 < hits.calls
to_come_of order hits is to_come = rw is at to_come

pub ended_taken : (struck : Bool) (cause : Option OfferFault) (reopened : Option ℕ)
    (result : Result Settled Unstored) → IsEnded struck cause reopened result
    → OnOk result (cause ≡ None)
ended_taken struck None reopened (Ok settled) is = refl
ended_taken struck (Some fault) reopened (Ok settled) is = absurd is
ended_taken struck cause reopened (Err why) is = tt

pub ended_settled : (struck : Bool) (cause : Option OfferFault) (reopened : Option ℕ)
    (result : Result Settled Unstored) → IsEnded struck cause reopened result
    → (P : Settled → Type 0) → (cause ≡ None → P (settled_of struck reopened)) → IfOk result P
ended_settled struck None reopened (Ok settled) is P holds = subst P (sym is) (holds refl)
ended_settled struck (Some fault) reopened (Ok settled) is P holds = absurd is
ended_settled struck cause reopened (Err why) is P holds = tt

pub ended_unstored : (struck : Bool) (cause : Option OfferFault) (reopened : Option ℕ)
    (result : Result Settled Unstored) → IsEnded struck cause reopened result
    → (P : Unstored → Type 0)
    → ((fault : OfferFault) (why : Unstored) → cause ≡ Some fault → IsWhy fault why → P why)
    → IfErr result P
ended_unstored struck cause reopened (Ok settled) is P holds = tt
ended_unstored struck None reopened (Err why) is P holds = absurd is
ended_unstored struck (Some fault) reopened (Err why) is P holds = holds fault why refl is

pub unstored_so : AtRestStands → (old now : ArchiveState DiskState) (published : List Entry)
    (entry : Entry) (fault : OfferFault) (why : Unstored) → refusal old entry ≡ Some fault
    → IsWhy fault why → Rests now published → IsUnstored why old published entry now
unstored_so stands old now published entry fault (unstored.Refused why) is same rests =
    (is ∙ ap Some (sym same), rests)
unstored_so stands old now published entry fault unstored.Begun is same rests = absurd same
unstored_so stands old now published entry fault unstored.Unbegun is same rests =
    none_stored stands now published [] rests []

-- where an order hit it, it is told as a fault, and else as stored
pub told_so : (state : Store) (entry : Entry) (archive : ArchiveState DiskState)
    (order strike : Option Order) (reopened : Option ℕ) → state.order ≡ order
    → hitting order ≡ strike → Rests archive (state.published ++ entry ∷ [])
    → ((hits : Order) → hitting order ≡ Some hits → (count : ℕ) × (reopened ≡ Some count)
    × (hits.strike ≡ Fail) × (count ≡ length (if holds_batch hits.calls
    then state.published ++ entry ∷ [] else state.published)))
    → IsSettled state entry archive (settled_of (is_some strike) reopened)
told_so state entry archive order None reopened same hit rests by_count =
    settles_free state entry archive rests order same hit
told_so state entry archive order (Some hits) reopened same hit rests by_count =
    let is = hitting_is order hits hit in
    let by = by_count hits hit in
    subst (λ (o : Option ℕ). IsSettled state entry archive (settled_of true o)) (sym by.1)
    (settles_failed state entry archive rests hits by.0 (same ∙ is.0) is.1 by.2 by.3)
