-- What a store answers behind any calls of an archive.
use Rattle.std.specs.Prelude.{ℕ, ◌≡◌, ◌⊎◌, false, Result, Err, IsOk, IsErrOf, List}
use Rattle.octet_core.specs.Fault.{Rose}
use Rattle.frame_archive.specs.State.{ArchiveState}
use Rattle.frame_archive.specs.declared.archive.Stored.{Stored}
use Rattle.frame_archive.specs.declared.fault.ArchiveFault.{ArchiveFault}
use Rattle.frame_archive.specs.declared.fault.ArchiveFault.TheVariants.{Stale, Memory}
use Rattle.archive_laws.specs.Calls.{Call, Run, IsUnbroken, Stores}

-- Each store behind any run of calls, by what it ensures.
pub record StoresAreComplete {D : Type 0} (faults : D → ℕ) : Type 0 where
  -- since the last good recovery nothing broke: Ok or want of memory, unless the disk's count rose
  pub complete : (calls : List Call) (old new : ArchiveState D) (result : Result Stored
      ArchiveFault) → Run faults calls old → IsUnbroken calls → Stores faults result old new
      → (Rose (faults old.disk) (faults new.disk) → ⊥)
      → IsOk result ⊎ IsErrOf result Memory
  -- else it is stale, and the archive takes no store
  pub stale : (calls : List Call) (old new : ArchiveState D) (result : Result Stored
      ArchiveFault) → Run faults calls old → (IsUnbroken calls → ⊥) → Stores faults result old new
      → result ≡ Err Stale
  -- so an archive is open to stores exactly where nothing broke
  pub open_ : (calls : List Call) (archive : ArchiveState D) → Run faults calls archive
      → IsUnbroken calls → archive.is_stale ≡ false
  pub unbroken : (calls : List Call) (archive : ArchiveState D) → Run faults calls archive
      → archive.is_stale ≡ false → IsUnbroken calls
