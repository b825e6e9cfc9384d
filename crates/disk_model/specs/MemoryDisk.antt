-- The disk in memory: what it holds after its calls and restarts, and what a stop leaves by its
-- pick.
use Rattle.std.specs.Prelude.{ℕ, ◌-◌, ◌/◌, ◌≤◌, ◌≡◌, ◌⊎◌, Bool, true, false, ◌&&◌, ◌||◌, not}
use Rattle.std.specs.Prelude.{IsTrue, IsFalse, nat_le, Option, Some, None, is_some, is_none, List}
use Rattle.std.specs.Prelude.{[], ◌∷◌, ◌++◌, length, take, drop, replicate, fold, map, filter}
use Rattle.std.specs.Prelude.{if◌then◌else◌}
use Rattle.std.specs.Option.{option_or}
use Rattle.octet_core.specs.Fault.{count_up}
use Rattle.octet_core.specs.FailingCalls.{Calls, fails_next, after_call as one_more}
use Rattle.disk_model.specs.Images.{Pending, IsImage, all_synced, after_write, after_cut}
use Rattle.disk_model.specs.Images.{overwritten}
use Rattle.disk_model.specs.declared.call.Call.{Call}
use Rattle.disk_model.specs.declared.call.Call.TheVariants.{Write, Cut, Sync}
use Rattle.disk_model.specs.declared.event.Event.{Event}
use Rattle.disk_model.specs.declared.event.Event.TheVariants.{Made, Restarted}
use Rattle.disk_model.specs.declared.orders.Pick.{Pick}
use Rattle.disk_model.specs.declared.orders.Pick.TheVariants.{Old, New, Torn}
use Rattle.disk_model.specs.declared.orders.Stop.{Stop}
use Rattle.disk_model.specs.declared.orders.Orders.{Orders}

-- What a disk in memory holds: what is pending, and what a stop would leave now by the picks `Old`
-- and `Torn`. By the pick `New` it would leave what a read gives.
pub record Medium : Type 0 where
  pub pending : Pending
  pub old : List ℕ
  pub torn : List ℕ

-- these octets, all synced
abbrev pub synced_medium : List ℕ → Medium
synced_medium octets = record { pending = all_synced octets; old = octets; torn = octets }

-- what is left of a torn write's octets: the first half, rounded down, and 5A in the place of each
-- other octet
abbrev pub torn_half : List ℕ → List ℕ
torn_half octets = take (length octets / 2) octets
    ++ replicate (length octets - length octets / 2) 90

-- what a call makes of that; a cut takes effect whole by each pick
abbrev pub after_call : Medium → Call → Medium
after_call medium (Write place octets) = record {
  pending = after_write place octets medium.pending;
  old = medium.old;
  torn = overwritten medium.torn place (torn_half octets);
}
after_call medium (Cut size) = record {
  pending = after_cut size medium.pending;
  old = take size medium.old;
  torn = take size medium.torn;
}
after_call medium Sync = synced_medium medium.pending.content

-- what a stop leaves by a pick
abbrev pub left_by : Pick → Medium → List ℕ
left_by Old medium = medium.old
left_by New medium = medium.pending.content
left_by Torn medium = medium.torn

-- what a call, or a restart after a stop, makes of what a disk holds
abbrev pub after_event : Medium → Event → Medium
after_event medium (Made call) = after_call medium call
after_event medium (Restarted pick) = synced_medium (left_by pick medium)

-- what a disk holds after the events of a log, which held these octets, all synced
abbrev pub medium_after : List ℕ → List Event → Medium
medium_after start log = fold after_event (synced_medium start) log

-- A disk in memory: what it held when it was made, the log of the calls that took effect since and
-- of its restarts, which counted calls fail, the stop that is to come, the pick of the stop that
-- came, its faults, and whether memory was refused.
pub record DiskState : Type 0 where
  pub start : List ℕ
  pub log : List Event
  pub calls : Calls
  pub stop : Option Stop
  pub stopped : Option Pick
  pub faults : ℕ
  pub memory_refused : Bool

-- a disk that was just made: it holds these octets, all synced, and neither fails nor stops
abbrev pub fresh : List ℕ → DiskState
fresh octets = record {
  start = octets;
  log = [];
  calls = record { failing = []; made = 0 };
  stop = None;
  stopped = None;
  faults = 0;
  memory_refused = false;
}

-- what a disk holds
abbrev pub medium_of : DiskState → Medium
medium_of disk = medium_after disk.start disk.log

-- what is pending on a disk
abbrev pub pending_of : DiskState → Pending
pending_of disk = (medium_of disk).pending

-- what a read of a disk gives
abbrev pub content_of : DiskState → List ℕ
content_of disk = (pending_of disk).content

-- A moment is a number of logged events, the restarts among them: the images since a moment are
-- those after so many events or more.
abbrev pub IsImageSince : DiskState → ℕ → List ℕ → Type 0
IsImageSince disk since image =
    (moment : ℕ) × (since ≤ moment) × (moment ≤ length disk.log)
    × IsImage (medium_after disk.start (take moment disk.log)).pending image

-- the pick of a stop that comes within this many counted calls
abbrev pub pick_within : ℕ → Option Stop → Option Pick
pick_within calls None = None
pick_within calls (Some stop) = if nat_le stop.calls calls then Some stop.pick else None

-- a stop that is still to come, this many counted calls on
abbrev pub stop_past : ℕ → Option Stop → Option Stop
stop_past calls None = None
stop_past calls (Some stop) =
    if nat_le stop.calls calls then None else Some (record stop { calls = stop.calls - calls })

-- the disk as its owner steers it: its orders before are gone, and a stop at 0 comes at once
abbrev pub steered : DiskState → Orders → DiskState
steered disk orders = record disk {
  calls = orders.failing;
  stop = stop_past 0 orders.stop;
  stopped = option_or disk.stopped (pick_within 0 orders.stop);
}

-- the disk with one counted call more
abbrev pub counted : DiskState → DiskState
counted disk = record disk {
  calls = one_more disk.calls;
  stop = stop_past 1 disk.stop;
  stopped = option_or disk.stopped (pick_within 1 disk.stop);
}

-- the disk after a call that took effect
abbrev pub with_call : DiskState → Call → DiskState
with_call disk call = record disk { log = disk.log ++ Made call ∷ [] }

-- the disk with one fault more
abbrev pub with_fault : DiskState → DiskState
with_fault disk = record disk { faults = count_up disk.faults }

-- the disk with one fault more, for want of memory
abbrev pub with_refusal : DiskState → DiskState
with_refusal disk = record disk { faults = count_up disk.faults; memory_refused = true }

-- whether the next counted call stops the disk
abbrev pub stops_now : DiskState → Bool
stops_now disk = is_none disk.stopped && is_some (pick_within 1 disk.stop)

-- whether the next counted call is to fail: the disk is stopped, or stops, or the call is one of
-- those that fail
abbrev pub is_to_fail : DiskState → Bool
is_to_fail disk = is_some (counted disk).stopped || fails_next disk.calls

-- whether a call is a sync
abbrev pub is_sync : Call → Bool
is_sync (Write place octets) = false
is_sync (Cut size) = false
is_sync Sync = true

-- whether a call that is to fail is left to the pick: a write or a cut at which the disk stops
abbrev pub is_left_to_pick : DiskState → Call → Bool
is_left_to_pick disk call = stops_now disk && not (is_sync call)

-- the disk after a call that was to fail, which took effect only where it is left to the pick
abbrev pub with_failed_call : DiskState → Call → DiskState
with_failed_call disk call =
    if is_left_to_pick disk call then with_fault (with_call (counted disk) call)
    else with_fault (counted disk)

-- a call that succeeded wasn't to fail, and took effect
abbrev pub IsMadeCall : DiskState → Call → DiskState → Type 0
IsMadeCall old call new = IsFalse (is_to_fail old) × (new ≡ with_call (counted old) call)

-- a call that failed was to fail, or was refused memory
abbrev pub IsFailedCall : DiskState → Call → DiskState → Type 0
IsFailedCall old call new =
    (IsTrue (is_to_fail old) × (new ≡ with_failed_call old call))
    ⊎ (new ≡ with_refusal (counted old))

-- a read that failed was one of a disk that had stopped
abbrev pub IsFailedRead : DiskState → DiskState → Type 0
IsFailedRead old new = IsTrue (is_some old.stopped) × (new ≡ with_fault old)

-- the disk after a restart: what the stop left is all that it holds
abbrev pub restarted : DiskState → Pick → DiskState
restarted disk pick = record disk { log = disk.log ++ Restarted pick ∷ []; stopped = None }

-- A run of counted calls by the orders that the disk has: whether all succeed, and the disk after
-- it.
abbrev pub run_as_ordered : DiskState → List Call → Bool × DiskState
run_as_ordered disk [] = (true, disk)
run_as_ordered disk (call ∷ calls) =
    if is_to_fail disk then (false, with_failed_call disk call)
    else run_as_ordered (with_call (counted disk) call) calls

-- A run by its orders: whether all of its calls succeed, those that take effect, and the pick of
-- the stop that has come then.
pub record RunIs (disk : DiskState) (calls : List Call) (ok : Bool) (effect : List Call)
    (pick : Option Pick) : Type 0 where
  pub answer : (run_as_ordered disk calls).0 ≡ ok
  pub medium : medium_of (run_as_ordered disk calls).1 ≡ fold after_call (medium_of disk) effect
  pub log : (run_as_ordered disk calls).1.log ≡ disk.log ++ map Made effect
  pub stopped : (run_as_ordered disk calls).1.stopped ≡ pick

-- the calls before the k-th, from 1 on, and that one too where it isn't a sync
abbrev pub calls_until_stop : ℕ → List Call → List Call
calls_until_stop k calls = take (k - 1) calls
    ++ filter (λ call. not (is_sync call)) (take 1 (drop (k - 1) calls))

-- what replaying a write onto octets leaves by a pick
abbrev pub replayed_write : Pick → List ℕ → ℕ → List ℕ → List ℕ
replayed_write Old image place octets = image
replayed_write New image place octets = overwritten image place octets
replayed_write Torn image place octets = overwritten image place (torn_half octets)

abbrev pub replayed_call : Pick → List ℕ → Call → List ℕ
replayed_call pick image (Write place octets) = replayed_write pick image place octets
replayed_call pick image (Cut size) = take size image
replayed_call pick image Sync = image

-- no restart is replayed
abbrev pub replayed : Pick → List ℕ → Event → List ℕ
replayed pick image (Made call) = replayed_call pick image call
replayed pick image (Restarted left) = image

-- The fields of a disk in memory agree: the content is what the log makes of the start, and what a
-- stop leaves by a pick is a replay onto the octets that the disk held after so many events: of
-- those up to the last sync, and then of the rest by the pick.
pub record Agrees (start : List ℕ) (log : List Event) (content base : List ℕ)
    (based settled : ℕ) : Type 0 where
  pub content_is : content ≡ (medium_after start log).pending.content
  pub based_there : based ≤ settled
  pub settled_there : settled ≤ length log
  pub replays : (pick : Pick) → fold (replayed pick)
      (fold (replayed New) base (drop based (take settled log))) (drop settled log)
      ≡ left_by pick (medium_after start log)
