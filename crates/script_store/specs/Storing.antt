-- Stores under orders: what the disk is told, and what the archive is then.
use Rattle.std.specs.Prelude.{◌≡◌, ◌⊎◌, ℕ, ◌-◌, Bool, true, false, if◌then◌else◌, Option, Some}
use Rattle.std.specs.Prelude.{None, List, [], ◌∷◌, ◌++◌, length, IsTrue, Result, Ok, Err}
use Rattle.archive_terms.specs.Archive.{Entry}
use Rattle.octet_core.specs.FailingCalls.{Calls}
use Rattle.disk_model.specs.MemoryDisk.{DiskState, IsMadeCall, IsFailedCall, IsFailedRead}
use Rattle.disk_model.specs.MemoryDisk.{IsImageSince, restarted, content_of}
use Rattle.disk_model.specs.declared.orders.Orders.{Orders}
use Rattle.disk_model.specs.declared.orders.Pick.{Pick}
use Rattle.gate_journal.specs.File.{StandsAt}
use Rattle.frame_archive.specs.State.{ArchiveState, refusal}
use Rattle.frame_archive.specs.Acknowledges.{Acknowledges}
use Rattle.frame_archive.specs.Run.{Keeps}
use Rattle.frame_archive.specs.declared.fault.OfferFault.{OfferFault}
use Rattle.recorder.specs.declared.recorded.Recorded as recorder
use Rattle.recorder.specs.declared.record_fault.RecordFault.{RecordFault}
use Rattle.recorder.specs.declared.record_fault.RecordFault.TheVariants.{DiskFault}
use Rattle.recorder.specs.Offers.{Offered, offered_to}
use Rattle.recorder.specs.Steps as steps
use Rattle.recorder.specs.Steps.{IsLeft, IsStored}
use Rattle.script_store.specs.declared.order.Order.{Order}
use Rattle.script_store.specs.declared.order.Strike.{Strike}
use Rattle.script_store.specs.declared.order.Strike.TheVariants.{Stop, Fail}
use Rattle.script_store.specs.declared.storing.Missed.{Missed}
use Rattle.script_store.specs.declared.storing.Missed.TheVariants as missed
use Rattle.script_store.specs.declared.storing.Settled.{Settled}
use Rattle.script_store.specs.declared.storing.Settled.TheVariants.{Stored, Crashed, Failed}
use Rattle.script_store.specs.declared.storing.Unstored.{Unstored}
use Rattle.script_store.specs.declared.storing.Unstored.TheVariants as unstored
use Rattle.script_store.specs.Store.{Store}
use Rattle.script_store.specs.Said.{Said, told, crash, fault}
use Rattle.script_store.specs.Said as notices
use Rattle.script_store.specs.Entries.{used, opened, stores_under}
use Rattle.script_store.specs.Orders.{is_hit}
use Rattle.script_store.specs.IsHeld.{told_by, IsUnsteered, Rests, HoldsAllOrNone, fault_of}

-- ---- what the disk is told

abbrev pub none_fails : Calls
none_fails = record { failing = []; made = 0 }

abbrev pub no_orders : Orders
no_orders = record { failing = none_fails; stop = None }

abbrev pub stop_at : ℕ → Pick → Orders
stop_at calls pick =
    record { failing = none_fails; stop = Some (record { calls = calls; pick = pick }) }

abbrev pub orders_by : Strike → ℕ → Orders
orders_by (Stop pick) calls = stop_at calls pick
orders_by Fail calls = record { failing = record { failing = calls ∷ []; made = 0 }; stop = None }

abbrev pub orders_of : Order → Orders
orders_of order = orders_by order.strike order.calls

-- the order that hits a store, of the one that stands
abbrev pub hitting : Option Order → Option Order
hitting None = None
hitting (Some order) = if is_hit order then Some order else None

-- what the disk is told before a store
abbrev pub told_orders : Option Order → Orders
told_orders None = no_orders
told_orders (Some order) = orders_of order

-- ---- what an archive is then

-- The power has failed. What is left on the disk are these entries, each in a batch of its own.
pub record IsDown (archive : ArchiveState DiskState) (left : List Entry) : Type 0 where
  pub pick : Pick
  pub stopped : archive.disk.stopped ≡ Some pick
  pub unsteered : IsUnsteered archive.disk
  pub holds : StandsAt left (used left - 1) (content_of (restarted archive.disk pick))

-- an archive to which an entry was offered, and what was dropped of it
abbrev pub offered_one : ArchiveState DiskState → Entry → Offered DiskState
offered_one archive entry = offered_to archive (entry ∷ [])

-- what an archive took of an entry: it waits to be stored, or was refused
abbrev pub taken_of : ArchiveState DiskState → Entry → List Entry
taken_of archive entry = (offered_one archive entry).archive.waiting

-- what the recorder's step leaves on a disk in memory, and at every moment
abbrev pub IsLeftHere : RecordFault → ArchiveState DiskState → List Entry
    → ArchiveState DiskState → Type 0
IsLeftHere = IsLeft told_by (λ (disk : DiskState). disk.faults) IsMadeCall IsFailedCall IsFailedRead

abbrev pub HoldsThen : ArchiveState DiskState → List Entry → ArchiveState DiskState → Type 0
HoldsThen = steps.HoldsAllOrNone told_by (λ (disk : DiskState). length disk.log) IsImageSince

-- a step that was given one entry stored it, or dropped it as refused
abbrev pub StoresOne : ArchiveState DiskState → Entry → ArchiveState DiskState
    → recorder.Recorded → Type 0
StoresOne old entry new recorded =
    IsStored told_by IsMadeCall IsFailedCall recorded.reopened (offered_one old entry) new recorded
    × ((entries : List Entry) → Acknowledges told_by old entries
    → steps.TellsOffered (offered_one old entry) recorded)

-- a step that was given one entry at most left this
pub record LeavesOne (fault : RecordFault) (old : ArchiveState DiskState) (entry : Entry)
    (new : ArchiveState DiskState) : Type 0 where
  pub polled : List Entry
  pub at_most_one : (polled ≡ []) ⊎ (polled ≡ entry ∷ [])
  pub left : IsLeftHere fault old polled new

-- Why a step of one entry isn't Ok: the disk failed by its orders; or memory was refused, and the
-- entry had been taken, or nothing of it is in the file.
abbrev pub IsMissed : Missed → ArchiveState DiskState → Entry → ArchiveState DiskState → Type 0
IsMissed missed.Broken old entry new = LeavesOne DiskFault old entry new
    × (new.disk.memory_refused ≡ false) × Keeps told_by old new
IsMissed missed.Begun old entry new = refusal old entry ≡ None
IsMissed missed.Unbegun old entry new = (published : List Entry)
    → Acknowledges told_by old published → HoldsAllOrNone new.disk published []

-- the entries with one more, or without it
abbrev pub with_entry : List Entry → Entry → List Entry
with_entry entries entry = entries ++ entry ∷ []

-- what is told of it
abbrev pub said_by : Settled → List Said
said_by Stored = []
said_by (Crashed found) = opened crash found
said_by (Failed entries) = told fault ∷ told (notices.archive entries) ∷ []

-- what is published then
abbrev pub published_by : Settled → List Entry → Entry → List Entry
published_by Stored published entry = with_entry published entry
published_by (Crashed found) published entry = found
published_by (Failed entries) published entry = with_entry published entry

-- A store is over: it is told as the entry's line says, and the archive rests with what is
-- published behind that line.
pub record IsSettled (state : Store) (entry : Entry) (archive : ArchiveState DiskState)
    (settled : Settled) : Type 0 where
  pub said : said_by settled ≡ (stores_under state entry state.order).said
  pub rests : Rests archive (stores_under state entry state.order).next.published
  pub published : published_by settled state.published entry
      ≡ (stores_under state entry state.order).next.published

-- why an entry isn't stored, by the cause of the archive's refusal
abbrev pub IsWhy : OfferFault → Unstored → Type 0
IsWhy cause (unstored.Refused why) = fault_of why ≡ cause
IsWhy cause unstored.Unbegun = Unit {0}
IsWhy cause unstored.Begun = ⊥

-- An entry isn't stored: it is refused, and the archive rests as before; or memory was refused.
abbrev pub IsUnstored : Unstored → ArchiveState DiskState → List Entry → Entry
    → ArchiveState DiskState → Type 0
IsUnstored (unstored.Refused why) old published entry new =
    (refusal old entry ≡ Some (fault_of why)) × Rests new published
IsUnstored unstored.Begun old published entry new = refusal old entry ≡ None
IsUnstored unstored.Unbegun old published entry new = HoldsAllOrNone new.disk published []

-- what a step that is Ok has come to, by whether an order hit it: one that had its archive opened
-- again is told so
abbrev pub settled_of : Bool → Option ℕ → Settled
settled_of true (Some entries) = Failed entries
settled_of true None = Stored
settled_of false reopened = Stored

abbrev pub IsEnded : Bool → Option OfferFault → Option ℕ → Result Settled Unstored → Type 0
IsEnded struck None reopened (Ok settled) = settled ≡ settled_of struck reopened
IsEnded struck None reopened (Err why) = ⊥
IsEnded struck (Some cause) reopened (Ok settled) = ⊥
IsEnded struck (Some cause) reopened (Err why) = IsWhy cause why

-- memory was refused before or behind the entry's offer
abbrev pub missed_by : Bool → Missed
missed_by true = missed.Begun
missed_by false = missed.Unbegun

-- whether the power failed
abbrev pub is_stop : Strike → Bool
is_stop (Stop pick) = true
is_stop Fail = false

abbrev pub has_stopped : Missed → Option Order → Bool
has_stopped missed.Broken (Some order) = is_stop order.strike
has_stopped missed.Broken None = false
has_stopped missed.Begun strike = false
has_stopped missed.Unbegun strike = false

-- what is left of a step that isn't Ok: where the power failed the archive was opened again
abbrev pub IsRestarted : Missed → Option Order → ArchiveState DiskState → ArchiveState DiskState
    → Result Settled Unstored → Type 0
IsRestarted missed strike old new (Ok settled) = IsTrue (has_stopped missed strike)
    × ((there : List Entry) × (settled ≡ Crashed there)
    × ((left : List Entry) → IsDown old left → (there ≡ left) × Rests new left))
IsRestarted missed.Unbegun strike old new (Err why) = (why ≡ unstored.Unbegun) × (new ≡ old)
IsRestarted missed.Begun strike old new (Err why) = why ≡ unstored.Begun
IsRestarted missed.Broken strike old new (Err why) = why ≡ unstored.Begun
