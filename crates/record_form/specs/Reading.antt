-- Reading an entry from its first octet on: the entry with what is left behind it, or the first
-- fault.
use Rattle.std.specs.Prelude.{◌≡◌, ◌⊎◌, ◌↔◌, ℕ, ◌+◌, ◌<◌, Bool, ◌==◌, ◌&&◌, nat_lt, nat_le, IsTrue}
use Rattle.std.specs.Prelude.{List, ◌++◌, length, take, drop, slice_index, if◌then◌else◌, Option}
use Rattle.std.specs.Prelude.{Some, None, Result, Ok, Err}
use Rattle.std.specs.Int.{w32, from_be_bytes}
use Rattle.cds_time.specs.Moment.{of_micro_octets, of_pico_octets}
use Rattle.cds_time.specs.declared.cds.Cds.{Cds}
use Rattle.archive_terms.specs.Archive.{Entry, frame, loss_of_sync, production, seal, is_moment}
use Rattle.archive_terms.specs.Archive.{is_storable}
use Rattle.archive_terms.specs.declared.limits.TheConstants.{GREATEST_LOST, LONGEST_FRAME}
use Rattle.record_form.specs.declared.kind.TheConstants.{FRAME, LOSS_OF_SYNC, PRODUCTION, SEAL}
use Rattle.record_form.specs.declared.kind.TheConstants.{MICROS, PICOS, LONGEST_ANTENNA}
use Rattle.record_form.specs.declared.fault.EntryFault.{EntryFault}
use Rattle.record_form.specs.declared.fault.EntryFault.TheVariants.{Cut, BadKind, BadField, Memory}
use Rattle.record_form.specs.Left.{Left, past, from}
use Rattle.record_form.specs.Spelling.{entry_octets}

infixl 10 ◌>>=◌
abbrev pub ◌>>=◌ : {A B : Type 0} → Result A EntryFault → (A → Result B EntryFault)
    → Result B EntryFault
(Ok x) >>= f = f x
(Err e) >>= f = Err e

-- the next n octets
abbrev pub octets_at : ℕ → Left → Result (List ℕ × Left) EntryFault
octets_at n left = if nat_lt (length left.octets) n then Err Cut
    else Ok (take n left.octets, past n left)

-- what was read, where it is in its range; else the field that begins at the place is at fault
abbrev pub judged : {A : Type 0} → ℕ → Bool → A → Result A EntryFault
judged place is_good read = if is_good then Ok read else Err (BadField place)

abbrev pub is_between : ℕ → ℕ → ℕ → Bool
is_between least greatest n = nat_le least n && nat_le n greatest

-- a number of one octet in this range
unfoldable pub octet_at : ℕ → ℕ → Left → Result (ℕ × Left) EntryFault
octet_at least greatest left = do
  field ← octets_at 1 left
  judged left.place (is_between least greatest (slice_index field.0 0)) (
    slice_index field.0 0,
    field.1,
  )

-- a number of four octets in this range
unfoldable pub number_at : ℕ → ℕ → Left → Result (ℕ × Left) EntryFault
number_at least greatest left = do
  field ← octets_at 4 left
  judged left.place (is_between least greatest (from_be_bytes w32 field.0))
      (from_be_bytes w32 field.0, field.1)

-- how many octets the fields of a time of this form have, and the time that they are
abbrev pub time_size : ℕ → ℕ
time_size form = if form == MICROS then 8 else 10

abbrev pub time_in : ℕ → List ℕ → Cds
time_in form octets = if form == MICROS then of_micro_octets octets else of_pico_octets octets

-- a time that names a moment; one that names none is at fault from its form on
unfoldable pub time_at : Left → Result (Cds × Left) EntryFault
time_at left = do
  form ← octet_at MICROS PICOS left
  fields ← octets_at (time_size form.0) form.1
  judged left.place (is_moment (time_in form.0 fields.0)) (time_in form.0 fields.0, fields.1)

-- an antenna's identifier behind its length
unfoldable pub antenna_at : Left → Result (List ℕ × Left) EntryFault
antenna_at left = do
  size ← octet_at 1 LONGEST_ANTENNA left
  octets_at size.0 size.1

-- a frame's octets behind their number
unfoldable pub content_at : Left → Result (List ℕ × Left) EntryFault
content_at left = do
  size ← number_at 1 LONGEST_FRAME left
  octets_at size.0 size.1

unfoldable pub frame_at : Left → Result (Entry × Left) EntryFault
frame_at left = do
  ert ← time_at left
  quality ← octet_at 0 2 ert.1
  antenna ← antenna_at quality.1
  lost ← number_at 0 GREATEST_LOST antenna.1
  octets ← content_at lost.1
  Ok (
    frame (record {
      ert = ert.0;
      quality = quality.0;
      antenna = antenna.0;
      lost = lost.0;
      octets = octets.0;
    }),
    octets.1,
  )

unfoldable pub loss_at : Left → Result (Entry × Left) EntryFault
loss_at left = do
  at ← time_at left
  carrier ← octet_at 0 3 at.1
  subcarrier ← octet_at 0 3 carrier.1
  symbol ← octet_at 0 3 subcarrier.1
  Ok (
    loss_of_sync (record {
      at = at.0;
      carrier = carrier.0;
      subcarrier = subcarrier.0;
      symbol = symbol.0;
    }),
    symbol.1,
  )

unfoldable pub production_at : Left → Result (Entry × Left) EntryFault
production_at left = do
  status ← octet_at 0 2 left
  Ok (production status.0, status.1)

unfoldable pub seal_at : Left → Result (Entry × Left) EntryFault
seal_at left = do
  at ← time_at left
  Ok (seal at.0, at.1)

-- the fields of an entry of this kind
unfoldable pub fields_at : ℕ → Left → Result (Entry × Left) EntryFault
fields_at kind left =
    if kind == FRAME then frame_at left
    else if kind == LOSS_OF_SYNC then loss_at left
    else if kind == PRODUCTION then production_at left
    else if kind == SEAL then seal_at left
    else Err (BadKind kind)

unfoldable pub entry_at : Left → Result (Entry × Left) EntryFault
entry_at left = do
  kind ← octets_at 1 left
  fields_at (slice_index kind.0 0) kind.1

-- the entry that begins at a place of octets, and the place behind it
unfoldable pub entry_from : ℕ → List ℕ → Result (Entry × ℕ) EntryFault
entry_from place octets = do
  read ← entry_at (from place octets)
  Ok (read.0, read.1.place)

-- the earth receive time of a frame, whatever its later fields are
unfoldable pub ert_at : Left → Result (Cds × Left) EntryFault
ert_at left = do
  kind ← octets_at 1 left
  if slice_index kind.0 0 == FRAME then time_at kind.1 else Err (BadKind (slice_index kind.0 0))

abbrev pub time_of : Result (Cds × Left) EntryFault → Option Cds
time_of (Ok read) = Some read.0
time_of (Err fault) = None

-- the earth receive time of the frame that begins at a place of octets, or none where no frame
-- begins there, or its time is cut or at fault
unfoldable pub ert_from : ℕ → List ℕ → Option Cds
ert_from place octets = time_of (ert_at (from place octets))

-- What a call returned, seen by seen, is what reading gives, with what is left then.
abbrev pub Reads : {X Y : Type 0} → (X → Y) → Left → Result X EntryFault
    → Result (Y × Left) EntryFault → Type 0
Reads seen left (Ok x) reading = reading ≡ Ok (seen x, left)
Reads seen left (Err fault) reading = reading ≡ Err fault

-- What a call returned, seen by seen, is what reading gives, unless memory ran out.
abbrev pub Gives : {X Y : Type 0} → (X → Y) → Result X EntryFault → Result Y EntryFault → Type 0
Gives seen (Ok x) reading = reading ≡ Ok (seen x)
Gives seen (Err fault) reading = (fault ≡ Memory) ⊎ (reading ≡ Err fault)

-- The same for one that takes no memory.
abbrev pub GivesAll : {X Y : Type 0} → (X → Y) → Result X EntryFault → Result Y EntryFault → Type 0
GivesAll seen (Ok x) reading = reading ≡ Ok (seen x)
GivesAll seen (Err fault) reading = reading ≡ Err fault

-- each is an octet
abbrev pub AreOctets : List ℕ → Type 0
AreOctets octets = (place : ℕ) → slice_index octets place < 256

-- A storable entry stands from one place of octets to another.
pub record StandsFrom (place : ℕ) (octets : List ℕ) (entry : Entry) (end : ℕ) : Type 0 where
  pub storable : IsTrue (is_storable entry)
  pub ends : end ≡ place + length (entry_octets entry)
  pub spelled : drop place octets ≡ entry_octets entry ++ drop end octets

-- An entry is read exactly where it is spelled.
abbrev pub ReadWhereSpelled : Type 0
ReadWhereSpelled =
    (place : ℕ) (octets : List ℕ) (entry : Entry) (end : ℕ) → AreOctets octets
    → (entry_from place octets ≡ Ok (entry, end)) ↔ StandsFrom place octets entry end

-- A storable entry's octets are read back, whatever follows them.
abbrev pub ReadBack : Type 0
ReadBack =
    (entry : Entry) (more : List ℕ) → IsTrue (is_storable entry)
    → entry_from 0 (entry_octets entry ++ more) ≡ Ok (entry, length (entry_octets entry))
