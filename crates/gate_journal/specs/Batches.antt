-- Reading a file batch by batch, a part of it in memory at a time.
use Rattle.std.specs.Prelude.{◌≢◌, ◌⊎◌, ℕ, zero, suc, ◌+◌, ◌<◌, ◌≤◌, Option, Some, None, IfSome}
use Rattle.std.specs.Prelude.{IsSomeAnd, List, [], ◌∷◌, length, drop, slice_index, Result, Ok, Err}
use Rattle.archive_terms.specs.Archive.{Entry}
use Rattle.disk_model.specs.Images.{Pending}
use Rattle.disk_model.specs.Moments.{Reads}
use Rattle.record_form.specs.declared.fault.EntryFault.{EntryFault}
use Rattle.record_form.specs.Reading.{entry_from}
use Rattle.gate_journal.specs.declared.order.Times.{Times}
use Rattle.gate_journal.specs.File.{StandsFor}
use Rattle.gate_journal.specs.Order.{Knows}
use Rattle.gate_journal.specs.Reading.{LedTo, count_at, size_at}

-- Where a reading stands: the next gate, the last times of the entries in front of it, the octets
-- that are in memory, which in the file begin at a place, and the batch that was read last.
pub record BatchesState : Type 0 where
  pub gate : ℕ
  pub times : Times
  pub start : ℕ
  pub room : List ℕ
  pub batch : List Entry

-- These entries were read of the file of a disk. They are an archive, whatever the disk tells;
-- where it tells, they stand in front of the gate, and what is in memory stands in the file.
pub record HasPassed (pending : Option Pending) (entries : List Entry)
    (batches : BatchesState) : Type 0 where
  pub knows : Knows entries (Some batches.times)
  pub led : IfSome pending (λ told. LedTo batches.gate entries told.content)
  pub room : Reads pending batches.start batches.room

-- a disk that tells holds a file that stands for entries
abbrev pub StandsForSome : Option Pending → Type 0
StandsForSome pending = IsSomeAnd pending (λ told. (entries : List Entry)
    × StandsFor entries told.content)

-- Octets hold a gate at a place, and where it is open as many octets behind it as its batch says
-- that it has.
abbrev pub HoldsBatch : List ℕ → ℕ → Type 0
HoldsBatch octets at = (at < length octets) × ((slice_index octets at ≢ 165)
    ⊎ (at + 7 + size_at octets (at + 1) ≤ length octets))

-- the entries that are read of octets one after another, so many at most
abbrev onwards : (List ℕ → List Entry) → List ℕ → Result (Entry × ℕ) EntryFault → List Entry
onwards more octets (Ok read) = read.0 ∷ more (drop read.1 octets)
onwards more octets (Err fault) = []

unfoldable pub entries_in : ℕ → List ℕ → List Entry
entries_in zero octets = []
entries_in (suc count) octets = onwards (entries_in count) octets (entry_from 0 octets)

-- the entries of the batch behind a gate, where there is one
abbrev pub batch_in : List ℕ → Option ℕ → List Entry
batch_in octets None = []
batch_in octets (Some gate) = entries_in (count_at octets (gate + 1)) (drop (gate + 7) octets)
