-- Why an archive isn't opened, stored or reopened, and what a reopen finds.
use Rattle.std.specs.Prelude.{ℕ, ◌+◌, ◌≡◌, ◌≢◌, ◌⊎◌, Option, Some, None, IfSome, List}
use Rattle.std.specs.Prelude.{length}
use Rattle.archive_terms.specs.Archive.{Entry}
use Rattle.octet_core.specs.Fault.{Rose}
use Rattle.disk_model.specs.Images.{Pending}
use Rattle.gate_journal.specs.File.{StandsFor}
use Rattle.gate_journal.specs.Reading.{IsDamagedAt, IsNoJournal}
use Rattle.gate_journal.specs.declared.fault.JournalFault.{JournalFault}
use Rattle.gate_journal.specs.declared.fault.JournalFault.TheVariants as journal
use Rattle.frame_archive.specs.declared.fault.ArchiveFault.{ArchiveFault}
use Rattle.frame_archive.specs.declared.fault.ArchiveFault.TheVariants.{NotJournal, Damaged}
use Rattle.frame_archive.specs.declared.fault.ArchiveFault.TheVariants.{DiskFault, Stale, Changed}
use Rattle.frame_archive.specs.declared.fault.ArchiveFault.TheVariants.{Memory}
use Rattle.frame_archive.specs.declared.fault.OfferFault.{OfferFault}
use Rattle.frame_archive.specs.declared.fault.OfferFault.TheVariants as offers

-- the refusal, or want of memory where there is none
abbrev pub IsRefusal : Option OfferFault → OfferFault → Type 0
IsRefusal None fault = fault ≡ offers.Memory
IsRefusal (Some refusal) fault = fault ≡ refusal

-- the file wasn't read: the disk failed, or memory was refused
abbrev pub IsUnread : ArchiveFault → Type 0
IsUnread fault = (fault ≡ DiskFault) ⊎ (fault ≡ Memory)

-- why a disk's file isn't opened, by what it holds and how often it had failed before and after
abbrev pub RefusesDisk : ArchiveFault → Option Pending → ℕ → ℕ → Type 0
RefusesDisk (NotJournal place) pending before after =
    IfSome pending (λ told. IsNoJournal place told.content)
RefusesDisk (Damaged place) pending before after =
    IfSome pending (λ told. IsDamagedAt place told.content)
RefusesDisk DiskFault pending before after = Rose before after
RefusesDisk Stale pending before after = ⊥
RefusesDisk (Changed expected found) pending before after = ⊥
RefusesDisk Memory pending before after = Unit {0}

-- a recovery is refused so
abbrev pub IsOfRecovery : JournalFault → Type 0
IsOfRecovery (journal.Full need free) = ⊥
IsOfRecovery journal.Stale = ⊥
IsOfRecovery _ = Unit {0}

-- the same refusal of an archive
abbrev pub opening_fault : JournalFault → ArchiveFault
opening_fault (journal.NotJournal place) = NotJournal place
opening_fault (journal.Damaged place) = Damaged place
opening_fault (journal.Full need free) = Stale
opening_fault journal.DiskFault = DiskFault
opening_fault journal.Stale = Stale
opening_fault journal.Memory = Memory

-- A file holds so many entries that these are neither the acknowledged ones nor these and the
-- failed store's.
pub record IsChanged (count failed expected found : ℕ) (pending : Option Pending) : Type 0 where
  pub expected_are : expected ≡ count
  pub not_these : found ≢ count
  pub nor_with_batch : found ≢ count + failed
  pub stands : IfSome pending (λ told. (entries : List Entry) × (length entries ≡ found)
      × StandsFor entries told.content)

-- why a file isn't opened again
abbrev pub RefusesReopen : ArchiveFault → ℕ → ℕ → Option Pending → ℕ → ℕ → Type 0
RefusesReopen (Changed expected found) count failed pending before after =
    IsChanged count failed expected found pending
RefusesReopen fault count failed pending before after = RefusesDisk fault pending before after
