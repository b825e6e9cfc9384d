-- An archive as contracts see it, and what an offer to it is answered. The limits are this
-- product's own.
use Rattle.std.specs.Prelude.{ℕ, ◌+◌, ◌-◌, Bool, true, false, not, nat_le, nat_lt, Option, Some}
use Rattle.std.specs.Prelude.{None, List, [], ◌∷◌, ◌++◌, length, take, if◌then◌else◌}
use Rattle.std.specs.Option.{option_or}
use Rattle.archive_terms.specs.Archive.{Entry, frame_time, seal_time, last_time, is_in_order}
use Rattle.archive_terms.specs.Archive.{is_short}
use Rattle.record_form.specs.Spelling.{entry_octets}
use Rattle.gate_journal.specs.File.{entries_octets}
use Rattle.gate_journal.specs.declared.order.Times.{Times}
use Rattle.frame_archive.specs.declared.fault.OfferFault.{OfferFault}
use Rattle.frame_archive.specs.declared.fault.OfferFault.TheVariants.{Backward, TooLong, Waiting}
use Rattle.frame_archive.specs.declared.fault.OfferFault.TheVariants.{Full}

-- the last times of entries
abbrev pub times_of : List Entry → Times
times_of entries = record {
  frame = last_time frame_time None entries;
  seal = last_time seal_time None entries;
}

-- the last times with an entry behind the others
abbrev pub times_after : Times → Entry → Times
times_after times entry = record {
  frame = option_or (frame_time entry) times.frame;
  seal = option_or (seal_time entry) times.seal;
}

-- An archive: its disk, how many octets the file may have, how many entries are acknowledged and
-- how many octets the file then uses, the last times of those and of the waiting ones, the entries
-- that wait, how many of them a store was given that failed, and whether the file has to be opened
-- again.
pub record ArchiveState (D : Type 0) : Type 0 where
  pub disk : D
  pub capacity : ℕ
  pub count : ℕ
  pub used : ℕ
  pub times : Times
  pub waiting : List Entry
  pub failed : ℕ
  pub is_stale : Bool

-- an archive of which all entries are stored: nothing waits, and no store has failed
abbrev pub at_rest : {D : Type 0} → D → ℕ → ℕ → List Entry → ArchiveState D
at_rest disk capacity used entries = record {
  disk = disk;
  capacity = capacity;
  count = length entries;
  used = used;
  times = times_of entries;
  waiting = [];
  failed = 0;
  is_stale = false;
}

-- the entries of the store that failed
abbrev pub failed_batch : {D : Type 0} → ArchiveState D → List Entry
failed_batch archive = take archive.failed archive.waiting

-- how many octets waiting entries want of the file as one batch: their own, and 7 where there are
-- any
abbrev pub wanted : List Entry → ℕ
wanted [] = 0
wanted (entry ∷ entries) = length (entries_octets (entry ∷ entries)) + 7

-- how many octets an entry wants behind those that wait: its own, and 7 where none waits
abbrev pub need : List Entry → Entry → ℕ
need [] entry = length (entry_octets entry) + 7
need (first ∷ others) entry = length (entry_octets entry)

-- how many octets are free below the capacity, or none where as many entries are stored or waiting
-- as an archive holds
abbrev pub free : {D : Type 0} → ArchiveState D → ℕ
free archive =
    if nat_le 4194304 (archive.count + length archive.waiting) then 0
    else archive.capacity - archive.used - wanted archive.waiting

-- why an entry isn't taken, where memory isn't refused
abbrev pub refusal : {D : Type 0} → ArchiveState D → Entry → Option OfferFault
refusal archive entry =
    if not (is_in_order archive.times.frame archive.times.seal entry) then Some Backward
    else if not (is_short entry) then Some TooLong
    else if nat_le 256 (length archive.waiting) then Some Waiting
    else if nat_lt (free archive) (need archive.waiting entry) then Some
    (Full (need archive.waiting entry) (free archive))
    else None

-- an archive with one more entry that waits
abbrev pub with_waiting : {D : Type 0} → ArchiveState D → Entry → ArchiveState D
with_waiting archive entry = record archive {
  times = times_after archive.times entry;
  waiting = archive.waiting ++ entry ∷ [];
}

-- An archive whose waiting entries were stored.
abbrev pub with_stored : {D : Type 0} → ArchiveState D → D → ArchiveState D
with_stored archive disk = record archive {
  disk = disk;
  count = archive.count + length archive.waiting;
  used = archive.used + wanted archive.waiting;
  waiting = [];
}

-- an archive whose store of the waiting entries failed
abbrev pub with_failed : {D : Type 0} → ArchiveState D → D → ArchiveState D
with_failed archive disk = record archive {
  disk = disk;
  failed = length archive.waiting;
  is_stale = true;
}
