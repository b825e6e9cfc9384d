-- What is left of a step of the recorder, of one entry, that isn't Ok.
use Rattle.std.proofs.Common.{◌≡◌, inl, inr, ◌<◌, ◌-◌, ◌++◌, Option, Some, None, List, []}
use Rattle.std.proofs.Common.{◌∷◌, Bool, true, false, ◌&&◌, if◌then◌else◌, IfSome, Result, Ok}
use Rattle.std.proofs.Common.{Err, IfOk, IfErr, OnOk, refl, sym, ap, subst, ◌∙◌}
use Rattle.archive_terms.specs.Archive.{Entry, IsArchive}
use Rattle.disk_model.specs.Calls.{FailedAtOne}
use Rattle.disk_model.specs.MemoryDisk.{DiskState, IsMadeCall, IsFailedCall, IsFailedRead}
use Rattle.disk_model.specs.MemoryDisk.{pending_of}
use Rattle.disk_model.specs.MemoryDisk.{steered, restarted, content_of, counted, with_fault}
use Rattle.disk_model.specs.MemoryDisk.{with_call, with_failed_call, stops_now, is_left_to_pick}
use Rattle.disk_model.specs.declared.call.Call.{Call}
use Rattle.disk_model.specs.declared.call.Call.TheVariants.{Sync}
use Rattle.disk_model.specs.declared.orders.Pick.{Pick}
use Rattle.gate_journal.specs.File.{StandsAt}
use Rattle.gate_journal.specs.JournalState.{IsAtRest, appending, leaves_batch, FailsToRecover}
use Rattle.frame_archive.specs.State.{ArchiveState, refusal, with_waiting, with_failed}
use Rattle.frame_archive.specs.Run.{Keeps}
use Rattle.recorder.specs.declared.record_fault.RecordFault.TheVariants.{DiskFault}
use Rattle.recorder.specs.Offers.{Offered, offered, offered_to, none_dropped}
use Rattle.recorder.specs.Steps.{storing, StoreFails, IsLeftBroken, IsUnmended}
use Rattle.script_store.specs.declared.order.Order.{Order}
use Rattle.script_store.specs.declared.order.Strike.{Strike}
use Rattle.script_store.specs.declared.order.Strike.TheVariants.{Stop, Fail}
use Rattle.script_store.specs.declared.storing.Missed.{Missed}
use Rattle.script_store.specs.declared.storing.Missed.TheVariants as missed
use Rattle.script_store.specs.declared.storing.Settled.{Settled}
use Rattle.script_store.specs.declared.storing.Settled.TheVariants.{Crashed}
use Rattle.script_store.specs.declared.storing.Unstored.{Unstored}
use Rattle.script_store.specs.Store.{Store}
use Rattle.script_store.specs.Orders.{is_hit}
use Rattle.script_store.specs.Entries.{used}
use Rattle.script_store.specs.IsHeld.{told_by, Rests, HoldsAllOrNone}
use Rattle.script_store.specs.Storing.{no_orders, told_orders, orders_by, hitting, LeavesOne}
use Rattle.script_store.specs.Storing.{IsDown}
use Rattle.script_store.specs.Storing.{IsMissed, IsRestarted, IsSettled, IsUnstored, is_stop}
use Rattle.script_store.proofs.WorldArchives.{steered_still}
use Rattle.script_store.proofs.Striking.{Struck, ample_before, stopped_makes, has_stopped}
use Rattle.script_store.proofs.Striking.{stop_leaves}
use Rattle.script_store.proofs.Taken.{offered_is, store_taken, after_kept}
use Rattle.script_store.proofs.Ending.{told_archive, untold, hitting_is, to_come_of}

-- ---- calls

-- a sync that fails takes no effect
sync_fails : (disk : DiskState) → with_failed_call disk Sync ≡ with_fault (counted disk)
sync_fails disk =
    elim (stops_now disk) as (λ b. (if b && false then with_fault (with_call (counted disk) Sync)
    else with_fault (counted disk)) ≡ with_fault (counted disk)) [
      | true ↦ refl
      | false ↦ refl
    ]

abbrev refused_on : DiskState → Bool
refused_on disk = disk.memory_refused

fault_ample : (disk : DiskState) (call : Call) (b : Bool)
    → refused_on (if b then with_fault (with_call (counted disk) call)
    else with_fault (counted disk)) ≡ disk.memory_refused
fault_ample disk call true = refl
fault_ample disk call false = refl

ample_call : (old new : DiskState) (call : Call) → IsFailedCall old call new
    → new.memory_refused ≡ false → old.memory_refused ≡ false
ample_call old new call (inl failed) ample =
    sym (fault_ample old call (is_left_to_pick old call))
    ∙ sym (ap (λ (d : DiskState). d.memory_refused) failed.1) ∙ ample
ample_call old new call (inr refused) ample =
    let yes_refused = ap (λ (d : DiskState). d.memory_refused) refused in absurd cc

ample_failed : (calls : List Call) (old new : DiskState)
    → FailedAtOne IsMadeCall IsFailedCall old calls new → new.memory_refused ≡ false
    → old.memory_refused ≡ false
ample_failed [] old new failed ample = absurd failed
ample_failed (call ∷ calls) old new (inl failed) ample = ample_call old new call failed ample
ample_failed (call ∷ calls) old new (inr later) ample =
    ample_before (call ∷ []) old later.0 (later.0, later.1, refl)
    (ample_failed calls later.0 new later.2 ample)

-- ---- the power failed

module _ (old now : ArchiveState DiskState) (entry : Entry) (order : Option Order)
    (none : old.waiting ≡ [])
    (left : LeavesOne DiskFault (told_archive old (hitting order)) entry now) where
  abbrev told : ArchiveState DiskState
  told = told_archive old (hitting order)

  pub broken_taken : refusal old entry ≡ None
  broken_taken =
      (store_taken told entry none left.polled left.left.0 left.at_most_one left.left.1).1

  abbrev Leaves : Offered DiskState → Type 0
  Leaves before = IsLeftBroken told_by (λ (disk : DiskState). disk.faults) IsMadeCall IsFailedCall
      IsFailedRead DiskFault before now

  leaves : Leaves (offered (with_waiting told entry) none_dropped)
  leaves =
      subst Leaves (offered_is told entry none None broken_taken)
      (subst (λ (es : List Entry). Leaves (offered_to told es))
      (store_taken told entry none left.polled left.left.0 left.at_most_one left.left.1).0
      left.left)

  one_waits : (with_waiting told entry).waiting ≡ entry ∷ []
  one_waits = ap (λ (es : List Entry). es ++ entry ∷ []) none

  module _ (ample : now.disk.memory_refused ≡ false) (keeps : Keeps told_by told now)
      (published : List Entry) (rests : Rests old published) (laws : Struck)
      (at_rest : IsAtRest (Some (pending_of old.disk)) (old.used - 1)) (hits : Order)
      (hit : hitting order ≡ Some hits) (some : 0 < hits.calls) (is_hit_so : is_hit hits ≡ true)
      (pick : Pick) (stop : hits.strike ≡ Stop pick) where
    abbrev stays : List Entry
    stays = if leaves_batch hits.calls pick then published ++ entry ∷ [] else published

    failed_there : (broken : DiskState)
        → StoreFails IsMadeCall IsFailedCall (with_waiting told entry) broken
        → FailedAtOne IsMadeCall IsFailedCall (steered old.disk (orders_by (Stop pick) hits.calls))
        (appending (old.used - 1) (entry ∷ [])) broken
    failed_there broken failed =
        subst (λ (strike : Strike). FailedAtOne IsMadeCall IsFailedCall
        (steered old.disk (orders_by strike hits.calls)) (appending (old.used - 1) (entry ∷ []))
        broken) stop
        (subst (λ (strike : Option Order). FailedAtOne IsMadeCall IsFailedCall
        (steered old.disk (told_orders strike)) (appending (old.used - 1) (entry ∷ [])) broken)
        hit (subst (λ (es : List Entry). FailedAtOne IsMadeCall IsFailedCall told.disk
        (storing old.used es) broken) one_waits failed))

    longer_by : now.waiting ≡ entry ∷ [] → IsArchive (published ++ entry ∷ [])
    longer_by waits = subst (λ (es : List Entry). IsArchive (published ++ es)) waits
        (keeps published (steered_still old (told_orders (hitting order)) published
        rests.acknowledges)).agrees.archive

    same_content : (broken disk : DiskState) → disk ≡ with_fault (counted broken)
        → content_of (restarted (steered disk no_orders) pick)
        ≡ content_of (restarted broken pick)
    same_content broken disk is = rw is refl

    stopped_still : (broken disk : DiskState) → disk ≡ with_fault (counted broken)
        → broken.stopped ≡ Some pick → (steered disk no_orders).stopped ≡ Some pick
    stopped_still broken disk is stopped = rw (is, stopped) refl

    down_by : (broken : DiskState) → IsArchive (published ++ entry ∷ [])
        → broken.memory_refused ≡ false → broken.stopped ≡ Some pick
        → StoreFails IsMadeCall IsFailedCall (with_waiting told entry) broken
        → now.disk ≡ with_fault (counted broken) → IsDown (untold now) stays
    down_by broken longer ample_then stopped failed is = record {
      pick = pick;
      stopped = stopped_still broken now.disk is stopped;
      unsteered = record { goes_on = refl; succeeds = refl; ample = ample };
      holds = subst (StandsAt stays (used stays - 1)) (sym (same_content broken now.disk is))
          (stop_leaves laws hits.calls some is_hit_so old published entry rests broken ample_then
          longer at_rest pick (failed_there broken failed));
    }

    stops : (broken : DiskState) → broken.memory_refused ≡ false
        → StoreFails IsMadeCall IsFailedCall (with_waiting told entry) broken
        → broken.stopped ≡ Some pick
    stops broken ample_then failed =
        has_stopped laws hits.calls some is_hit_so old published entry rests broken ample_then pick
        (failed_there broken failed)

    by_call : (broken : DiskState) → IsArchive (published ++ entry ∷ [])
        → StoreFails IsMadeCall IsFailedCall (with_waiting told entry) broken
        → IsFailedCall broken Sync now.disk → IsDown (untold now) stays
    by_call broken longer failed (inr refused) =
        let yes_refused = ap (λ (d : DiskState). d.memory_refused) refused in absurd cc
    by_call broken longer failed (inl called) =
        let ample_then = ample_call broken now.disk Sync (inl called) ample in
        down_by broken longer ample_then (stops broken ample_then failed) failed
        (called.1 ∙ sync_fails broken)

    by_recovery : (broken : DiskState) → IsArchive (published ++ entry ∷ [])
        → StoreFails IsMadeCall IsFailedCall (with_waiting told entry) broken
        → FailsToRecover IsMadeCall IsFailedCall IsFailedRead broken now.disk
        → IsDown (untold now) stays
    by_recovery broken longer failed (inl (inl called)) = by_call broken longer failed called
    by_recovery broken longer failed (inl (inr later)) = absurd later.2
    by_recovery broken longer failed (inr (mid, made, reads)) =
        let ample_mid : mid.memory_refused ≡ false =
        sym (ap (λ (d : DiskState). d.memory_refused) reads.1) ∙ ample in
        let ample_then = ample_before (Sync ∷ []) broken mid made ample_mid in
        absurd (stopped_makes broken mid Sync [] pick (stops broken ample_then failed) made)

    by_unmended : (broken : DiskState)
        → StoreFails IsMadeCall IsFailedCall (with_waiting told entry) broken
        → IsUnmended told_by (λ (disk : DiskState). disk.faults) IsMadeCall IsFailedCall
        IsFailedRead DiskFault none_dropped (with_failed (with_waiting told entry) broken) now
        → IsDown (untold now) stays
    by_unmended broken failed (inl fails) =
        by_recovery broken (longer_by (ap (λ (a : ArchiveState DiskState). a.waiting) fails.state
        ∙ one_waits)) failed fails.calls
    by_unmended broken failed (inr again) =
        let ample_opened : again.opened.disk.memory_refused ≡ false =
        subst (λ (d : DiskState). d.memory_refused ≡ false)
        (after_kept (offered again.opened none_dropped) (with_waiting told entry).waiting).disk
        (ample_failed _ _ now.disk again.failed ample) in
        let ample_then = ample_before (Sync ∷ []) broken again.opened.disk again.reopened.calls
        ample_opened in
        absurd (stopped_makes broken again.opened.disk Sync [] pick
        (stops broken ample_then failed) again.reopened.calls)

    pub down_stopped : IsDown (untold now) stays
    down_stopped = by_unmended leaves.0 leaves.1 leaves.3

-- ---- the answer

stop_of : (strike : Strike) → is_stop strike ≡ true → (pick : Pick) × (strike ≡ Stop pick)
stop_of (Stop pick) is = (pick, refl)
stop_of Fail is = absurd cc

settles_crashed : (state : Store) (entry : Entry) (archive : ArchiveState DiskState)
    (hits : Order) (pick : Pick) (there : List Entry) → state.order ≡ Some hits
    → is_hit hits ≡ true → hits.strike ≡ Stop pick
    → there ≡ (if leaves_batch hits.calls pick then state.published ++ entry ∷ []
    else state.published) → Rests archive (if leaves_batch hits.calls pick
    then state.published ++ entry ∷ [] else state.published)
    → IsSettled state entry archive (Crashed there)
settles_crashed state entry archive hits pick there same hit stop is rests = record {
  said = rw (same, hit, stop, is) refl;
  rests = rw (same, hit, stop) rests;
  published = rw (same, hit, stop, is) refl;
}

module _ (old now after : ArchiveState DiskState) (entry : Entry) (order : Option Order)
    (none : old.waiting ≡ []) where
  pub restarted_taken : (missed : Missed) (strike : Option Order)
      (result : Result Settled Unstored)
      → IsRestarted missed strike (untold now) after result
      → IsMissed missed (told_archive old (hitting order)) entry now
      → OnOk result (refusal old entry ≡ None)
  restarted_taken missed.Broken strike (Ok settled) is why =
      broken_taken old now entry order none why.0
  restarted_taken missed.Begun strike (Ok settled) is why = why
  restarted_taken missed.Unbegun strike (Ok settled) is why =
      absurd (let no = is.0 in cc)
  restarted_taken missed strike (Err other) is why = tt

  pub restarted_unstored : (missed : Missed) (strike : Option Order)
      (result : Result Settled Unstored)
      → IsRestarted missed strike (untold now) after result
      → IsMissed missed (told_archive old (hitting order)) entry now
      → IfErr result (λ why. (published : List Entry) → Rests old published
      → IsUnstored why old published entry after)
  restarted_unstored missed strike (Ok settled) is why = tt
  restarted_unstored missed.Broken strike (Err other) is why = λ published rests.
      subst (λ (u : Unstored). IsUnstored u old published entry after) (sym is)
      (broken_taken old now entry order none why.0)
  restarted_unstored missed.Begun strike (Err other) is why = λ published rests.
      subst (λ (u : Unstored). IsUnstored u old published entry after) (sym is) why
  restarted_unstored missed.Unbegun strike (Err other) is why = λ published rests.
      subst (λ (u : Unstored). IsUnstored u old published entry after) (sym is.0)
      (subst (λ (a : ArchiveState DiskState). HoldsAllOrNone a.disk published []) (sym is.1)
      (why published (steered_still old (told_orders (hitting order)) published
      rests.acknowledges)))

  settles : (laws : Struck)
      → IsAtRest (Some (pending_of old.disk)) (old.used - 1)
      → IfSome order (λ o. 0 < o.calls) → (hits : Order) → hitting order ≡ Some hits
      → is_stop hits.strike ≡ true
      → IsMissed missed.Broken (told_archive old (hitting order)) entry now
      → (there : List Entry) → ((left : List Entry) → IsDown (untold now) left
      → (there ≡ left) × Rests after left)
      → (state : Store) → state.order ≡ order → Rests old state.published
      → IsSettled state entry after (Crashed there)
  settles laws at_rest to_come hits hit stop why there opened state same rests =
      let is = hitting_is order hits hit in
      let at = stop_of hits.strike stop in
      let down = down_stopped old now entry order none why.0 why.1 why.2 state.published rests laws
      at_rest hits hit (to_come_of order hits is.0 to_come) is.1 at.0 at.1 in
      let then_ = opened _ down in
      settles_crashed state entry after hits at.0 there (same ∙ is.0) is.1 at.1 then_.0 then_.1

  pub restarted_settled : (laws : Struck)
      → (old.is_stale ≡ false → IsAtRest (Some (pending_of old.disk)) (old.used - 1))
      → IfSome order (λ o. 0 < o.calls) → (missed : Missed) (strike : Option Order)
      (result : Result Settled Unstored) → hitting order ≡ strike
      → IsRestarted missed strike (untold now) after result
      → IsMissed missed (told_archive old (hitting order)) entry now
      → IfOk result (λ settled. (state : Store) → state.order ≡ order
      → Rests old state.published → IsSettled state entry after settled)
  restarted_settled laws at_rest to_come missed strike (Err other) hit is why = tt
  restarted_settled laws at_rest to_come missed.Begun strike (Ok settled) hit is why =
      absurd (let no = is.0 in cc)
  restarted_settled laws at_rest to_come missed.Unbegun strike (Ok settled) hit is why =
      absurd (let no = is.0 in cc)
  restarted_settled laws at_rest to_come missed.Broken None (Ok settled) hit is why =
      absurd (let no = is.0 in cc)
  restarted_settled laws at_rest to_come missed.Broken (Some hits) (Ok settled) hit is why =
      λ state same rests.
      subst (IsSettled state entry after) (sym is.1.1)
      (settles laws (at_rest rests.fresh) to_come hits hit is.0 why is.1.0 is.1.2 state same rests)
