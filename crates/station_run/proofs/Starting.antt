-- What a station that doesn't start leaves of its disk.
use Rattle.std.proofs.Common.{◌≡◌, ◌⊎◌, ◌∙◌, ℕ, inl, inr, List, Option, Result, Ok, Err, sym, ap}
use Rattle.std.proofs.Common.{subst}
use Rattle.std.specs.Prelude.{IfErr, OnErr}
use Rattle.disk_model.specs.Images.{Pending}
use Rattle.disk_model.specs.Moments.{IsImageOf, HoldsThroughout}
use Rattle.disk_model.specs.Calls.{AllMade}
use Rattle.disk_model.specs.declared.call.Call.{Call as DiskCall}
use Rattle.gate_journal.specs.JournalState.{recovering, FailsToRecover}
use Rattle.frame_archive.specs.State.{ArchiveState}
use Rattle.frame_archive.specs.declared.fault.ArchiveFault.{ArchiveFault}
use Rattle.frame_archive.specs.declared.fault.ArchiveFault.TheVariants as archive
use Rattle.station_run.specs.declared.report.StartFault.{StartFault}
use Rattle.station_run.specs.declared.report.StartFault.TheVariants as start
use Rattle.station_run.specs.Ran.{LeavesDisk}

module _ {D : Type 0} (pending : D → Option Pending) (moment : D → ℕ)
    (images_since : D → ℕ → List ℕ → Type 0) (makes fails : D → DiskCall → D → Type 0)
    (fails_to_read : D → D → Type 0) where
  -- its archive was refused
  pub left_refused : (disk left : D) (why : ArchiveFault) (fault : StartFault)
      → (why ≡ archive.DiskFault → fault ≡ start.DiskFault)
      × (fault ≡ start.DiskFault → why ≡ archive.DiskFault)
      → HoldsThroughout moment images_since disk left (IsImageOf (pending disk))
      → (why ≡ archive.DiskFault) ⊎ AllMade makes disk recovering left
      → (why ≡ archive.DiskFault → FailsToRecover makes fails fails_to_read disk left)
      → LeavesDisk pending moment images_since makes fails fails_to_read fault disk left
  left_refused disk left why fault same images calls failed = record {
    any_moment = images;
    calls = by calls;
    failed_calls = λ is. failed (same.1 is);
  }
    where
      by : (why ≡ archive.DiskFault) ⊎ AllMade makes disk recovering left
          → (fault ≡ start.DiskFault) ⊎ AllMade makes disk recovering left
      by (inl is) = inl (same.0 is)
      by (inr made) = inr made

  -- memory was refused behind its archive's opening
  pub left_at_opening : {T : Type 0} (disk : D) (opened now : ArchiveState D) (left : D)
      (ran : Result T StartFault) → IfErr ran (λ fault. fault ≡ start.Memory)
      → OnErr ran (now ≡ opened) → left ≡ now.disk
      → HoldsThroughout moment images_since disk opened.disk (IsImageOf (pending disk))
      → AllMade makes disk recovering opened.disk
      → IfErr ran (λ fault.
      LeavesDisk pending moment images_since makes fails fails_to_read fault disk left)
  left_at_opening disk opened now left (Ok report) is kept same images made = tt
  left_at_opening disk opened now left (Err fault) is kept same images made =
      let there : opened.disk ≡ left = sym (same ∙ ap (λ (a : ArchiveState D). a.disk) kept) in
      subst (λ (d : D).
      LeavesDisk pending moment images_since makes fails fails_to_read fault disk d) there
      (record {
        any_moment = images;
        calls = inr made;
        failed_calls = λ failed. absurd (cc (sym is ∙ failed));
      })
