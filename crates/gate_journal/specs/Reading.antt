-- Reading a file batch by batch, and the place at which it stops being of its form. A place counts
-- from the file's first octet.
use Rattle.std.specs.Prelude.{◌≡◌, ◌≢◌, ◌⊎◌, ℕ, ◌+◌, zero, suc, ◌==◌, ◌<◌, Bool, false, not, ◌&&◌}
use Rattle.std.specs.Prelude.{nat_lt, nat_le, min, List, [], ◌∷◌, ◌++◌, length, take, drop}
use Rattle.std.specs.Prelude.{slice_index, if◌then◌else◌, Option, Some, None, Result, Ok, Err}
use Rattle.std.specs.Int.{w16, w32, from_be_bytes}
use Rattle.archive_terms.specs.Archive.{Entry, frame, keeps_order}
use Rattle.cds_time.specs.declared.cds.Cds.{Cds}
use Rattle.record_form.specs.declared.fault.EntryFault.{EntryFault}
use Rattle.record_form.specs.declared.fault.EntryFault.TheVariants as entry_faults
use Rattle.record_form.specs.Reading.{entry_from, ert_from}
use Rattle.gate_journal.specs.declared.fault.JournalFault.{JournalFault}
use Rattle.gate_journal.specs.declared.fault.JournalFault.TheVariants.{NotJournal, Damaged, Full}
use Rattle.gate_journal.specs.declared.fault.JournalFault.TheVariants.{DiskFault, Stale, Memory}
use Rattle.gate_journal.specs.File.{header, gated, Leads, StandsFor}

infixl 10 ◌>>=◌
abbrev pub ◌>>=◌ : {A B : Type 0} → Result A JournalFault → (A → Result B JournalFault)
    → Result B JournalFault
(Ok x) >>= f = f x
(Err e) >>= f = Err e

-- No journal: at this place stands the first octet of the header that is another one or missing.
pub record IsNoJournal (place : ℕ) (file : List ℕ) : Type 0 where
  pub inside : place < length header
  pub before : (k : ℕ) → k < place → (k < length file) × (slice_index file k ≡ slice_index header k)
  pub differs : place < length file → slice_index file place ≢ slice_index header place

-- the place of a fault in the entry that begins at a place: a missing octet is named by the file's
-- end
abbrev pub fault_place : List ℕ → ℕ → EntryFault → ℕ
fault_place file place entry_faults.Cut = length file
fault_place file place (entry_faults.BadKind found) = place
fault_place file place (entry_faults.BadField field) = field
fault_place file place entry_faults.Memory = place

-- a frame of which the time alone is known
abbrev pub frame_at : Cds → Entry
frame_at ert = frame (record { ert = ert; quality = 0; antenna = []; lost = 0; octets = [] })

-- whether a frame's time, where there is one, breaks the order behind others
abbrev pub is_late : List Entry → Option Cds → Bool
is_late before None = false
is_late before (Some ert) = not (keeps_order before (frame_at ert))

-- The place of the first fault of an entry that is no whole one: a frame's time that breaks the
-- order stands before its other fields.
abbrev pub first_fault : List Entry → List ℕ → ℕ → EntryFault → ℕ
first_fault before file place fault =
    if is_late before (ert_from place file) then place + 1 else fault_place file place fault

-- An entry behind others, and the place behind it. One that breaks the order of times is named by
-- its time's first octet, which follows its kind.
abbrev pub with_next : List Entry → List ℕ → ℕ → Result (Entry × ℕ) EntryFault
    → Result (List Entry × ℕ) JournalFault
with_next before file place (Ok read) =
    if keeps_order before read.0 then Ok (before ++ read.0 ∷ [], read.1)
    else Err (Damaged (place + 1))
with_next before file place (Err fault) = Err (Damaged (first_fault before file place fault))

unfoldable pub next_entry : List Entry → List ℕ → ℕ → Result (List Entry × ℕ) JournalFault
next_entry before file place = with_next before file place (entry_from place file)

-- so many entries behind others, and the place behind them
unfoldable pub entries_at : ℕ → List Entry → List ℕ → ℕ → Result (List Entry × ℕ) JournalFault
entries_at zero before file place = Ok (before, place)
entries_at (suc count) before file place = next_entry before file place >>= λ read.
    entries_at count read.0 file read.1

-- a fault of entries that end at a stated place: the lesser of the two places is named
abbrev pub lesser : ℕ → JournalFault → JournalFault
lesser stated (Damaged place) = Damaged (min place stated)
lesser stated fault = fault

-- the entries of a batch that ends at a stated place; where they end elsewhere, the lesser of the
-- two ends is named
abbrev pub ending_at : {S : Type 0} → ℕ → Result (S × ℕ) JournalFault → Result (S × ℕ) JournalFault
ending_at stated (Ok read) = if read.1 == stated then Ok read else Err (Damaged (min read.1 stated))
ending_at stated (Err fault) = Err (lesser stated fault)

abbrev pub size_at : List ℕ → ℕ → ℕ
size_at file place = from_be_bytes w32 (take 4 (drop place file))

abbrev pub count_at : List ℕ → ℕ → ℕ
count_at file place = from_be_bytes w16 (take 2 (drop (place + 4) file))

-- The batch at a place, its entries behind others, and the place behind it: the length of the
-- entries, their number from 1 to 256, and the entries.
unfoldable pub batch_at : List Entry → List ℕ → ℕ → Result (List Entry × ℕ) JournalFault
batch_at before file place =
    if nat_lt (length file) (place + 6) then Err (Damaged (length file))
    else if nat_le 1 (count_at file place) && nat_le (count_at file place) 256
    then ending_at (place + 6 + size_at file place)
    (entries_at (count_at file place) before file (place + 6))
    else Err (Damaged (place + 4))

-- The gate at a place, and the batch behind it where it is open, or none where it isn't. A missing
-- gate is named by the file's end.
unfoldable pub gate_at : List Entry → List ℕ → ℕ → Result (Option (List Entry × ℕ)) JournalFault
gate_at before file place =
    if nat_lt place (length file)
    then if slice_index file place == 165 then
    (batch_at before file (place + 1) >>= λ read. Ok (Some read)) else Ok None
    else Err (Damaged (length file))

-- Batches lead a file up to a gate, and their entries are these.
pub record LedTo (gate : ℕ) (entries : List Entry) (file : List ℕ) : Type 0 where
  pub batches : List (List Entry)
  pub leads : Leads batches entries gate
  pub is : file ≡ header ++ (gated batches ++ drop gate file)

-- A file is damaged at a place: batches lead it, and the gate behind them or its batch has its
-- first fault there.
pub record IsDamagedAt (place : ℕ) (file : List ℕ) : Type 0 where
  pub gate : ℕ
  pub entries : List Entry
  pub led : LedTo gate entries file
  pub fault : gate_at entries file gate ≡ Err (Damaged place)

-- what the octets of a file are found to be: the spelling of entries, or no journal or damaged at a
-- place
pub data Verdict : Type 0 where
  stands : List Entry → Verdict
  no_journal : ℕ → Verdict
  damaged : ℕ → Verdict

abbrev pub IsFound : Verdict → List ℕ → Type 0
IsFound (stands entries) file = StandsFor entries file
IsFound (no_journal place) file = IsNoJournal place file
IsFound (damaged place) file = IsDamagedAt place file

-- why the octets of a file are refused
abbrev pub Refuses : JournalFault → List ℕ → Type 0
Refuses (NotJournal place) file = IsNoJournal place file
Refuses (Damaged place) file = IsDamagedAt place file
Refuses (Full need free) file = ⊥
Refuses DiskFault file = ⊥
Refuses Stale file = ⊥
Refuses Memory file = Unit {0}

-- What a call returned, seen by seen, is what reading gives, unless memory ran out.
abbrev pub Gives : {X Y : Type 0} → (X → Y) → Result X JournalFault → Result Y JournalFault → Type 0
Gives seen (Ok x) reading = reading ≡ Ok (seen x)
Gives seen (Err fault) reading = (fault ≡ Memory) ⊎ (reading ≡ Err fault)
