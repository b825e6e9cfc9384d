-- What an event of the disk in memory makes of its images.
use Rattle.std.proofs.Common.{◌≡◌, inl, inr, ℕ, ◌≤◌, Bool, true, false, if◌then◌else◌, List, []}
use Rattle.std.proofs.Common.{◌∷◌, ◌++◌, length, take, ⊎_elim, Some, Result, Ok, Err, OnOk, OnErr}
use Rattle.std.proofs.Common.{refl, ap, arith}
use Rattle.std.proofs.lemmas.Bool.Decides.{nat_tests}
use Rattle.std.proofs.lemmas.Grind.{common_steps}
use Rattle.std.proofs.lemmas.List.{take-append-le, take_all, length-append, places}
use Rattle.disk_model.specs.Images.{IsImage, IsTorn, FailsToWrite, all_synced, overwritten}
use Rattle.disk_model.specs.Moments.{Elapses}
use Rattle.disk_model.specs.Facts.Images.{only_synced}
use Rattle.disk_model.specs.MemoryDisk.{Medium, DiskState, IsImageSince, IsMadeCall, IsFailedCall}
use Rattle.disk_model.specs.MemoryDisk.{synced_medium, left_by, medium_after, medium_of, pending_of}
use Rattle.disk_model.specs.MemoryDisk.{content_of, with_call, with_fault, with_refusal, counted}
use Rattle.disk_model.specs.MemoryDisk.{is_left_to_pick}
use Rattle.disk_model.specs.MemoryDiskLaws.{left_after_stop}
use Rattle.disk_model.specs.declared.call.Call.{Call}
use Rattle.disk_model.specs.declared.call.Call.TheVariants.{Write}
use Rattle.disk_model.specs.declared.event.Event.{Event}
use Rattle.disk_model.specs.declared.event.Event.TheVariants.{Made, Restarted}
use Rattle.disk_model.specs.declared.orders.Pick.{Pick}
use Rattle.disk_model.specs.declared.orders.Pick.TheVariants.{Old, Torn}
use Rattle.disk_model.proofs.Replay.{medium_more}

-- the images of a disk that held these octets, after the events of this log, since a moment
abbrev pub ImageSince : List ℕ → List Event → ℕ → List ℕ → Type 0
ImageSince start log since image =
    (moment : ℕ) × (since ≤ moment) × (moment ≤ length log)
    × IsImage (medium_after start (take moment log)).pending image

-- nothing happened
pub still : (start : List ℕ) (log : List Event)
    → Elapses (length log) (length log) (ImageSince start log) (ImageSince start log)
    (Some (medium_after start log).pending)
still start log = record {
  later = omega arith;
  keeps = λ moment image earlier since. since;
  nothing_else = λ moment image earlier since. inl since;
}

-- an event was logged
pub logged : (start : List ℕ) (log : List Event) (event : Event)
    → Elapses (length log) (length (log ++ event ∷ [])) (ImageSince start log)
    (ImageSince start (log ++ event ∷ [])) (Some (medium_after start (log ++ event ∷ [])).pending)
logged start log event =
    let one_more = length-append log (event ∷ []) in
    record {
      later = omega arith;
      keeps = λ since image earlier (moment, from, was, is). (
        moment,
        from,
        omega arith,
        rw (take-append-le moment log (event ∷ []) was) is,
      );
      nothing_else = λ since image earlier (moment, from, was, is).
          ⊎_elim (λ (within : moment ≤ length log). inl (
            moment,
            from,
            within,
            rw (take-append-le moment log (event ∷ []) within) at is,
          ))
          (λ (all : length (log ++ event ∷ []) ≤ moment). inr
          (rw (take_all moment (log ++ event ∷ []) all) at is))
          (grind arith);
    }

-- time goes on from one state of the disk to another
abbrev pub GoesOn : DiskState → DiskState → Type 0
GoesOn old new = Elapses (length old.log) (length new.log) (IsImageSince old) (IsImageSince new)
    (Some (pending_of new))

-- what holds of the disk after each way in which a call fails
module _ (P : DiskState → Type 0) (old : DiskState) (call : Call)
    (logs : P (with_fault (with_call (counted old) call))) (faults : P (with_fault (counted old)))
    (refused : P (with_refusal (counted old))) where
  by_pick : (left : Bool) → P (if left then with_fault (with_call (counted old) call)
      else with_fault (counted old))
  by_pick true = logs
  by_pick false = faults

  of_failed : {T E : Type 0} → (result : Result T E) (new : DiskState)
      → OnErr result (IsFailedCall old call new) → OnErr result (P new)
  of_failed (Ok value) new failed = failed
  of_failed (Err error) new (inl told) = rw told.1 (by_pick (is_left_to_pick old call))
  of_failed (Err error) new (inr is) = rw is refused

-- time goes on at a call, also at one that failed
pub call_elapses : {T E : Type 0} → (result : Result T E) (old new : DiskState) (call : Call)
    → OnOk result (IsMadeCall old call new) → OnErr result (IsFailedCall old call new)
    → GoesOn old new
call_elapses (Ok value) old new call made failed = rw made.1 (logged old.start old.log (Made call))
call_elapses {T} {E} (Err error) old new call made failed =
    of_failed (GoesOn old) old call (logged old.start old.log (Made call))
    (still old.start old.log) (still old.start old.log) {T = T} {E = E} (Err error) new failed

-- a whole write is a torn one
whole_is_torn : (content octets : List ℕ) (place : ℕ) → place ≤ length content
    → IsTorn place (length octets) content (overwritten content place octets)
whole_is_torn content octets place there = record {
  no_shorter = grind (arith, common_steps);
  no_longer = grind (arith, common_steps);
  kept = λ at below outside. grind (arith, places, nat_tests);
}

-- what a failed write leaves
pub failed_write : (old : DiskState) (place : ℕ) (octets : List ℕ)
    → place ≤ length (content_of old)
    → {T E : Type 0} → (result : Result T E) (new : DiskState)
    → OnErr result (IsFailedCall old (Write place octets) new)
    → OnErr result (FailsToWrite place (length octets) (pending_of old) (pending_of new))
failed_write old place octets there =
    of_failed (λ new. FailsToWrite place (length octets) (pending_of old) (pending_of new)) old
    (Write place octets)
    (inr (
      overwritten (content_of old) place octets,
      whole_is_torn (content_of old) octets place there,
      ap (λ (h : Medium). h.pending) (medium_more old.start old.log (Made (Write place octets))),
    )) (inl refl) (inl refl)

module _ (start : List ℕ) (log more : List Event) (pick : Pick)
    (restart : more ≡ log ++ Restarted pick ∷ []) where
  -- what a disk holds that was restarted is an image of what it held
  pub restarted_image : IsImage (medium_after start log).pending
      (medium_after start more).pending.content
  restarted_image = rw (restart, medium_more) (left_after_stop pick start log)

  -- and time goes on at a restart
  pub restart_elapses : Elapses (length log) (length more) (ImageSince start log)
      (ImageSince start more) (Some (medium_after start more).pending)
  restart_elapses = rw restart (logged start log (Restarted pick))

-- where all is synced, a stop leaves just that by any pick
pub synced_is_medium : (disk : DiskState) (octets : List ℕ) → pending_of disk ≡ all_synced octets
    → medium_of disk ≡ synced_medium octets
synced_is_medium disk octets synced =
    let same : (pick : Pick) → left_by pick (medium_of disk) ≡ octets =
    λ pick. only_synced octets (left_by pick (medium_of disk))
    (rw synced at (left_after_stop pick disk.start disk.log)) in
    let by_fields : record {
      pending = pending_of disk;
      old = left_by Old (medium_of disk);
      torn = left_by Torn (medium_of disk);
    } ≡ synced_medium octets = rw (synced, same Old, same Torn) in
    by_fields
