-- The calls of an archive since its file was opened, by what they ensure, and whether they leave it
-- open to stores.
use Rattle.std.specs.Prelude.{ℕ, ◌≡◌, ◌⊎◌, true, false, Bool, not, Result, Ok, Err, IsOk, OnOk}
use Rattle.std.specs.Prelude.{OnErr, IfOk, IsErrOf, IsTrue, List, [], ◌∷◌, ◌++◌}
use Rattle.std.specs.List.{list_all}
use Rattle.archive_terms.specs.Archive.{Entry}
use Rattle.octet_core.specs.Fault.{Rose}
use Rattle.frame_archive.specs.State.{ArchiveState, at_rest, with_waiting, with_stored, with_failed}
use Rattle.record_form.specs.declared.entry.Entry as code
use Rattle.frame_archive.specs.declared.fault.OfferFault.{OfferFault}
use Rattle.frame_archive.specs.declared.archive.Stored.{Stored}
use Rattle.frame_archive.specs.declared.archive.Landing.{Landing}
use Rattle.frame_archive.specs.declared.fault.ArchiveFault.{ArchiveFault}
use Rattle.frame_archive.specs.declared.fault.ArchiveFault.TheVariants.{DiskFault, Stale, Memory}

-- what an offer answers: a refusal hands the entry back
abbrev pub Offered : Type 0
Offered = Result (Unit {0}) (OfferFault × code.Entry)

-- A call of an archive with its answer. A disk in memory may be steered besides, or started again
-- where it stopped.
pub data Call : Type 0 where
  offer : Entry → Offered → Call
  store : Result Stored ArchiveFault → Call
  reopen : Result Landing ArchiveFault → Call
  open_anew : Result (List Entry) ArchiveFault → Call
  steer : Call
  restart : Call

-- the entry waits now; or it was refused, and nothing changed
pub record Offers {D : Type 0} (entry : Entry) (result : Offered) (old new : ArchiveState D)
    : Type 0 where
  pub taken : OnOk result (new ≡ with_waiting old entry)
  pub unchanged : OnErr result (new ≡ old)

-- What waited is stored; or the disk failed, and its count of faults rose; or nothing changed.
pub record Stores {D : Type 0} (faults : D → ℕ) (result : Result Stored ArchiveFault)
    (old new : ArchiveState D) : Type 0 where
  pub stored : IfOk result (λ stored. (new ≡ with_stored old new.disk)
      × (stored.count ≡ new.count) × (stored.entries ≡ old.waiting))
  pub failed : IsErrOf result DiskFault → new ≡ with_failed old new.disk
  pub cause : IsErrOf result DiskFault → Rose (faults old.disk) (faults new.disk)
  pub memory : IsErrOf result Memory → new ≡ old
  pub stale : old.is_stale ≡ true → (result ≡ Err Stale) × (new ≡ old)
  pub answers : old.is_stale ≡ false → IsOk result ⊎ IsErrOf result DiskFault
      ⊎ IsErrOf result Memory

-- all is as it was, but that the archive has to be opened again
abbrev pub Refuses : {D : Type 0} → ArchiveState D → ArchiveState D → Type 0
Refuses old new = new ≡ record old { disk = new.disk; is_stale = true }

-- nothing waits, and each entry of the file is acknowledged; or it was refused
pub record Reopens {D : Type 0} (result : Result Landing ArchiveFault) (old new : ArchiveState D)
    : Type 0 where
  pub reopened : OnOk result (new ≡ record (at_rest new.disk old.capacity new.used []) {
    count = new.count;
    times = new.times;
  })
  pub refused : OnErr result (Refuses old new)

pub record OpensAnew {D : Type 0} (result : Result (List Entry) ArchiveFault)
    (old new : ArchiveState D) : Type 0 where
  pub opened : IfOk result (λ found. new ≡ at_rest new.disk old.capacity new.used found)
  pub refused : OnErr result (Refuses old new)

-- what a call ensures of the archive before and behind it
abbrev pub Ensures : {D : Type 0} → (D → ℕ) → Call → ArchiveState D → ArchiveState D → Type 0
Ensures faults (offer entry result) old new = Offers entry result old new
Ensures faults (store result) old new = Stores faults result old new
Ensures faults (reopen result) old new = Reopens result old new
Ensures faults (open_anew result) old new = OpensAnew result old new
Ensures faults steer old new = new ≡ record old { disk = new.disk }
Ensures faults restart old new = Refuses old new

-- The file was opened, and then these calls were made, the last one first.
pub data Run {D : Type 0} (faults : D → ℕ) : List Call → ArchiveState D → Type 0 where
  opened : (archive : ArchiveState D) (found : List Entry)
      → archive ≡ at_rest archive.disk archive.capacity archive.used found
      → Run faults [] archive
  called : (call : Call) (calls : List Call) (old new : ArchiveState D) → Run faults calls old
      → Ensures faults call old new
      → Run faults (call ∷ calls) new

-- the file was read, and what it holds is acknowledged
abbrev pub is_good_recovery : Call → Bool
is_good_recovery (reopen (Ok landing)) = true
is_good_recovery (open_anew (Ok found)) = true
is_good_recovery _ = false

-- a store answered DiskFault, a recovery was refused, or the disk starts where it stopped
abbrev pub is_a_break : Call → Bool
is_a_break (store (Err DiskFault)) = true
is_a_break (reopen (Err fault)) = true
is_a_break (open_anew (Err fault)) = true
is_a_break restart = true
is_a_break _ = false

-- the file was just opened, or the last call was a good recovery
abbrev pub begins_well : List Call → Bool
begins_well [] = true
begins_well (call ∷ calls) = is_good_recovery call

-- since the last good recovery no store answered DiskFault, and no recovery was refused
pub record IsUnbroken (calls : List Call) : Type 0 where
  pub since : List Call
  pub before : List Call
  pub all : calls ≡ since ++ before
  pub well : IsTrue (begins_well before)
  pub unbroken : IsTrue (list_all (λ call. not (is_a_break call)) since)
