-- Nothing but calls of its disk happens to it over a run.
use Rattle.std.proofs.Common.{◌≡◌, ◌⊎◌, ℕ, inl, inr, List, [], ◌∷◌, Option, Some, None}
use Rattle.std.proofs.Common.{Result, Ok, Err}
use Rattle.std.proofs.Common.{refl, sym, ap, subst, ◌∙◌}
use Rattle.std.specs.List.{fold}
use Rattle.archive_terms.specs.Archive.{Entry}
use Rattle.cds_time.specs.declared.cds.Cds.{Cds}
use Rattle.disk_model.specs.Images.{Pending}
use Rattle.disk_model.specs.Calls.{AllMade, FailedAtOne, OnlyCalls, no_calls, only_both}
use Rattle.disk_model.specs.Calls.{only_read, only_made, only_failed}
use Rattle.disk_model.specs.declared.call.Call.{Call as DiskCall}
use Rattle.gate_journal.specs.JournalState.{recovering, FailsToRecover}
use Rattle.frame_archive.specs.State.{ArchiveState, refusal, with_failed}
use Rattle.frame_archive.specs.declared.fault.OfferFault.{OfferFault}
use Rattle.recorder.specs.Feeds.{Answer}
use Rattle.recorder.specs.declared.recorded.Recorded.{Recorded}
use Rattle.recorder.specs.declared.record_fault.RecordFault.{RecordFault}
use Rattle.recorder.specs.declared.record_fault.RecordFault.TheVariants as faults
use Rattle.recorder.specs.Offers.{Dropped, Offered, offered, offered_to, after_offer, after_offers}
use Rattle.recorder.specs.Offers.{by_refusal, none_dropped}
use Rattle.recorder.specs.Steps.{store_of, IsStored, IsLeft, IsLeftBroken, IsUnmended}
use Rattle.link_model.specs.declared.call.Call.{Call as LinkCall}
use Rattle.door_model.specs.Shown.{Shown}
use Rattle.turn_lock.specs.PassState.{Lock}
use Rattle.turn_lock.specs.declared.view.Mark.{Mark}
use Rattle.station_config.specs.declared.site.Site.{Site}
use Rattle.station_book.specs.State.{Event, Opening}
use Rattle.recorder_turns.specs.Steps.{RecorderState, Steps, Chain, none, more}
use Rattle.recorder_turns.specs.Recording.{Why, Ends, Records}
use Rattle.recorder_turns.specs.declared.tally.Tally.{Tally}
use Rattle.recorder_turns.specs.declared.recording_fault.RecordingFault.{RecordingFault}
use Rattle.recorder_turns.specs.declared.recording_fault.RecordingFault.TheVariants as ends
use Rattle.station_run.specs.Ran.{Outside, RanOver, LeavesDisk}
use Rattle.station_run.specs.declared.report.RunReport.{RunReport}
use Rattle.station_run.specs.declared.report.StartFault.{StartFault}
use Rattle.station_run.specs.declared.report.StartFault.TheVariants.{DiskFault}

module _ {D : Type 0} where
  -- ---- offers, which make no call

  one_offered : (before : Offered D) (entry : Entry) (cause : Option OfferFault)
      → (by_refusal before entry cause).archive.disk ≡ before.archive.disk
  one_offered before entry None = refl
  one_offered before entry (Some fault) = refl

  all_offered : (before : Offered D) (entries : List Entry)
      → (fold after_offer before entries).archive.disk ≡ before.archive.disk
  all_offered before [] = refl
  all_offered before (entry ∷ entries) =
      all_offered (after_offer before entry) entries
      ∙ one_offered before entry (refusal before.archive entry)

  offers_leave : (before : Offered D) (entries : List Entry)
      → (after_offers before entries).archive.disk ≡ before.archive.disk
  unfolding after_offers
  offers_leave before entries = all_offered before entries

module _ {D : Type 0} (makes fails : D → DiskCall → D → Type 0) (fails_to_read : D → D → Type 0)
  where
    abbrev Only : D → D → Type 0
    Only old new = OnlyCalls makes fails fails_to_read old new

    same : (old new : D) → new ≡ old → Only old new
    same = no_calls makes fails fails_to_read

    both : (old mid new : D) → Only old mid → Only mid new → Only old new
    both = only_both makes fails fails_to_read

    -- a recovery that succeeds, and one that fails
    recovered : (old new : D) → AllMade makes old recovering new → Only old new
    recovered old new made = only_made makes fails fails_to_read recovering old new made

    unrecovered : (old new : D) → FailsToRecover makes fails fails_to_read old new → Only old new
    unrecovered old new (inl failed) = only_failed makes fails fails_to_read recovering old new failed
    unrecovered old new (inr (mid, made, read)) =
        both old mid new (recovered old mid made) (only_read makes fails fails_to_read mid new read)

    -- a store that succeeds, and one that fails, behind offers
    stored : (before : Offered D) (entries : List Entry) (new : D)
        → AllMade makes (after_offers before entries).archive.disk
        (store_of (after_offers before entries).archive) new → Only before.archive.disk new
    stored before entries new made =
        subst (λ (d : D). Only d new) (offers_leave before entries)
        (only_made makes fails fails_to_read (store_of (after_offers before entries).archive)
        (after_offers before entries).archive.disk new made)

    unstored : (before : Offered D) (entries : List Entry) (new : D)
        → FailedAtOne makes fails (after_offers before entries).archive.disk
        (store_of (after_offers before entries).archive) new → Only before.archive.disk new
    unstored before entries new failed =
        subst (λ (d : D). Only d new) (offers_leave before entries)
        (only_failed makes fails fails_to_read (store_of (after_offers before entries).archive)
        (after_offers before entries).archive.disk new failed)

-- ---- the recorder's steps

module _ {D : Type 0} (pending : D → Option Pending) (disk_faults : D → ℕ)
    (makes fails : D → DiskCall → D → Type 0) (fails_to_read : D → D → Type 0) where
  is_stored : (count : Option ℕ) (old : ArchiveState D) (polled : List Entry)
      (new : ArchiveState D) (recorded : Recorded)
      → IsStored pending makes fails count (offered_to old polled) new recorded
      → Only makes fails fails_to_read old.disk new.disk
  is_stored None old polled new recorded stores =
      stored makes fails fails_to_read (offered old none_dropped) polled new.disk stores.calls
  is_stored (Some count) old polled new recorded (broken, failed, inl lands) =
      both makes fails fails_to_read old.disk broken new.disk
      (unstored makes fails fails_to_read (offered old none_dropped) polled broken failed)
      (recovered makes fails fails_to_read broken new.disk lands.reopened.calls)
  is_stored (Some count) old polled new recorded (broken, failed, inr again) =
      both makes fails fails_to_read old.disk broken new.disk
      (unstored makes fails fails_to_read (offered old none_dropped) polled broken failed)
      (both makes fails fails_to_read broken again.opened.disk new.disk
      (recovered makes fails fails_to_read broken again.opened.disk again.reopened.calls)
      (stored makes fails fails_to_read
      (offered again.opened (offered_to old polled).dropped)
      (offered_to old polled).archive.waiting new.disk again.stores.calls))

  unmended : (fault : RecordFault) (dropped : Dropped) (old new : ArchiveState D)
      → IsUnmended pending disk_faults makes fails fails_to_read fault dropped old new
      → Only makes fails fails_to_read old.disk new.disk
  unmended faults.SourceFault dropped old new is = absurd is
  unmended faults.DiskFault dropped old new (inl failed) =
      unrecovered makes fails fails_to_read old.disk new.disk failed.calls
  unmended faults.DiskFault dropped old new (inr again) =
      both makes fails fails_to_read old.disk again.opened.disk new.disk
      (recovered makes fails fails_to_read old.disk again.opened.disk again.reopened.calls)
      (unstored makes fails fails_to_read (offered again.opened dropped) old.waiting new.disk
      again.failed)
  unmended (faults.Refused fault) dropped old new refused =
      recovered makes fails fails_to_read old.disk new.disk refused.calls
  unmended faults.Memory dropped old new (inl (state, made)) =
      recovered makes fails fails_to_read old.disk new.disk made
  unmended faults.Memory dropped old new (inr short) =
      both makes fails fails_to_read old.disk short.opened.disk new.disk
      (recovered makes fails fails_to_read old.disk short.opened.disk short.reopened.calls)
      (same makes fails fails_to_read short.opened.disk new.disk
      (ap (λ (a : ArchiveState D). a.disk) short.offered_again.state
      ∙ offers_leave (offered short.opened dropped) short.offered_again.front))

  broken_off : (fault : RecordFault) (old : ArchiveState D) (polled : List Entry)
      (new : ArchiveState D)
      → IsLeftBroken pending disk_faults makes fails fails_to_read fault (offered_to old polled) new
      → Only makes fails fails_to_read old.disk new.disk
  broken_off fault old polled new (broken, failed, rose, left) =
      both makes fails fails_to_read old.disk broken new.disk
      (unstored makes fails fails_to_read (offered old none_dropped) polled broken failed)
      (unmended fault (offered_to old polled).dropped
      (with_failed (offered_to old polled).archive broken) new left)

  left_by : (fault : RecordFault) (old : ArchiveState D) (polled : List Entry)
      (new : ArchiveState D)
      → IsLeft pending disk_faults makes fails fails_to_read fault old polled new
      → Only makes fails fails_to_read old.disk new.disk
  left_by faults.SourceFault old polled new kept =
      same makes fails fails_to_read old.disk new.disk (ap (λ (a : ArchiveState D). a.disk) kept)
  left_by faults.DiskFault old polled new left = broken_off faults.DiskFault old polled new left
  left_by (faults.Refused fault) old polled new left =
      broken_off (faults.Refused fault) old polled new left
  left_by faults.Memory old polled new (inl short) =
      same makes fails fails_to_read old.disk new.disk
      (ap (λ (a : ArchiveState D). a.disk) short.state
      ∙ offers_leave (offered old none_dropped) short.front)
  left_by faults.Memory old polled new (inr left) = broken_off faults.Memory old polled new left

  -- ---- the recorder's worker

  module _ {F : Type 0} (answers : F → Option (List Answer)) (source_faults : F → ℕ)
      (lock : Lock Opening) where
    stepped : (recorded : Recorded) (old new : ArchiveState D) (before after : F)
        → Steps pending makes fails answers recorded old new before after
        → Only makes fails fails_to_read old.disk new.disk
    stepped recorded old new before after steps =
        is_stored recorded.reopened old steps.polled new recorded steps.stored

    chained : (steps : List Recorded) (old : ArchiveState D) (before : F) (new : ArchiveState D)
        (after : F) → Chain pending makes fails answers steps old before new after
        → Only makes fails fails_to_read old.disk new.disk
    chained _ _ _ _ _ (none archive frames) =
        same makes fails fails_to_read archive.disk archive.disk refl
    chained _ _ _ _ _ (more steps recorded a b c f g h first step) =
        both makes fails fails_to_read a.disk b.disk c.disk (chained steps a f b g first)
        (stepped recorded b c g h step)

    stopped : (fault : RecordingFault) (spent : ℕ) (gained : List (Mark Event))
        (at new : RecorderState D F)
        → Why pending disk_faults makes fails fails_to_read answers source_faults lock fault spent
        gained at new
        → Only makes fails fails_to_read at.archive.disk new.archive.disk
    stopped ends.SourceFault spent gained at new why =
        same makes fails fails_to_read at.archive.disk new.archive.disk
        (ap (λ (a : ArchiveState D). a.disk) why.1)
    stopped ends.DiskFault spent gained at new why =
        left_by faults.DiskFault at.archive why.left.0 new.archive why.left.2
    stopped (ends.Refused fault) spent gained at new why =
        left_by (faults.Refused fault) at.archive why.0.left.0 new.archive why.0.left.2
    stopped ends.Foreign spent gained at new why =
        stepped why.recorded at.archive new.archive at.frames new.frames why.steps
    stopped ends.TurnsSpent spent gained at new why =
        same makes fails fails_to_read at.archive.disk new.archive.disk
        (ap (λ (w : RecorderState D F). w.archive.disk) why.2)
    stopped ends.Memory spent gained at new (inl nothing) =
        left_by faults.Memory at.archive nothing.left.0 new.archive nothing.left.2
    stopped ends.Memory spent gained at new (inr unpublished) =
        stepped unpublished.recorded at.archive new.archive at.frames new.frames unpublished.steps

    ended : (result : Result Tally RecordingFault) (steps : List Recorded) (spent : ℕ)
        (gained : List (Mark Event)) (at new : RecorderState D F)
        → Ends pending disk_faults makes fails fails_to_read answers source_faults lock result
        steps spent gained at new
        → Only makes fails fails_to_read at.archive.disk new.archive.disk
    ended (Ok tally) steps spent gained at new end =
        same makes fails fails_to_read at.archive.disk new.archive.disk
        (ap (λ (w : RecorderState D F). w.archive.disk) end.2)
    ended (Err fault) steps spent gained at new end = stopped fault spent gained at new end

    recorded_so : (result : Result Tally RecordingFault) (old new : RecorderState D F)
        → Records pending disk_faults makes fails fails_to_read answers source_faults lock result
        old new
        → Only makes fails fails_to_read old.archive.disk new.archive.disk
    recorded_so result old new records =
        both makes fails fails_to_read old.archive.disk records.at.archive.disk new.archive.disk
        (chained records.steps old.archive old.frames records.at.archive records.at.frames
        records.went.chain)
        (ended result records.steps records.spent records.last records.at new records.ended)

-- ---- a run, and one that isn't started

module _ {D F A G L C : Type 0} (pending : D → Option Pending) (disk_faults moment : D → ℕ)
    (images_since : D → ℕ → List ℕ → Type 0) (makes fails : D → DiskCall → D → Type 0)
    (fails_to_read : D → D → Type 0) (answers : F → Option (List Answer)) (source_faults : F → ℕ)
    (sent : A → Option (List (List ℕ))) (antenna_faults : A → ℕ) (shown : G → Option Shown)
    (door_faults : G → ℕ) (calls : L → Option (List LinkCall)) (link_faults : L → ℕ)
    (readings : C → Option (List Cds)) where
  pub a_run_only_calls : (site : Site) (turns links draw : ℕ) (disk disk_now : D)
      (old new : Outside F A G C) (report : RunReport)
      → RanOver pending disk_faults moment images_since makes fails fails_to_read answers
      source_faults sent antenna_faults shown door_faults calls link_faults readings site turns
      links draw disk disk_now old new report
      → OnlyCalls makes fails fails_to_read disk disk_now
  a_run_only_calls site turns links draw disk disk_now old new report over =
      both makes fails fails_to_read disk over.archive.disk disk_now
      (recovered makes fails fails_to_read disk over.archive.disk over.opening)
      (subst (λ (d : D). Only makes fails fails_to_read over.archive.disk d) (sym over.disk_is)
      (recorded_so pending disk_faults makes fails fails_to_read answers source_faults
      over.ran.lock report.recording _ _ over.ran.records.records))

pub a_refused_start_only_calls : {D : Type 0} (pending : D → Option Pending) (moment : D → ℕ)
    (images_since : D → ℕ → List ℕ → Type 0) (makes fails : D → DiskCall → D → Type 0)
    (fails_to_read : D → D → Type 0) (fault : StartFault) (disk disk_now : D)
    → LeavesDisk pending moment images_since makes fails fails_to_read fault disk disk_now
    → OnlyCalls makes fails fails_to_read disk disk_now
a_refused_start_only_calls {D} pending moment images_since makes fails fails_to_read fault disk
    disk_now leaves = by_calls leaves.calls
  where
    by_calls : (fault ≡ DiskFault) ⊎ AllMade makes disk recovering disk_now
        → OnlyCalls makes fails fails_to_read disk disk_now
    by_calls (inl is) = unrecovered makes fails fails_to_read disk disk_now (leaves.failed_calls is)
    by_calls (inr made) = recovered makes fails fails_to_read disk disk_now made
