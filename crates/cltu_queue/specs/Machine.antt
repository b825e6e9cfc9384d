-- The forward machine: what a forward service instance has queued, radiates and tells (CCSDS
-- 912.1-B). The conditions of the diagnostics, their order and the notices are this product's own.
use Rattle.std.specs.Prelude.{ℕ, ◌+◌, ◌-◌, ◌*◌, Bool, true, false, not, ◌&&◌, ◌||◌, ◌==◌, nat_lt}
use Rattle.std.specs.Prelude.{nat_le, min, max, if◌then◌else◌, Option, Some, None, is_some}
use Rattle.std.specs.Prelude.{unwrap_or, Result, Ok, Err, List, [], ◌∷◌, ◌++◌, length, take}
use Rattle.std.specs.Prelude.{slice_get}
use Rattle.std.specs.List.{sum_by}
use Rattle.std.specs.Option.{option_map_or}
use Rattle.cds_time.specs.Moment.{in_micros}
use Rattle.cds_time.specs.declared.cds.TheConstants.{PICOS_A_MICRO}
use Rattle.fcltu_numbers.specs.CltuProductionStatus.{number_of}
use Rattle.fcltu_numbers.specs.declared.cltu_production_status.CltuProductionStatus.{CltuProductionStatus}
use Rattle.fcltu_numbers.specs.declared.cltu_production_status.CltuProductionStatus.TheVariants.{Operational, Configured, Interrupted, Halted}
use Rattle.fcltu_numbers.specs.declared.uplink_status.UplinkStatus.{UplinkStatus}
use Rattle.fcltu_numbers.specs.declared.uplink_status.UplinkStatus.TheVariants.{Nominal}
use Rattle.fcltu_numbers.specs.declared.cltu_start_diagnostic.CltuStartDiagnostic.{CltuStartDiagnostic}
use Rattle.fcltu_numbers.specs.declared.cltu_start_diagnostic.CltuStartDiagnostic.TheVariants.{OutOfService, UnableToComply}
use Rattle.fcltu_numbers.specs.declared.cltu_transfer_data_diagnostic.CltuTransferDataDiagnostic.{CltuTransferDataDiagnostic}
use Rattle.fcltu_numbers.specs.declared.cltu_transfer_data_diagnostic.CltuTransferDataDiagnostic.TheVariants as refused
use Rattle.fcltu_numbers.specs.declared.cltu_notification_type.CltuNotificationType.{CltuNotificationType}
use Rattle.fcltu_numbers.specs.declared.cltu_notification_type.CltuNotificationType.TheVariants as kind
use Rattle.fcltu_numbers.specs.declared.cltu_status.CltuStatus.TheVariants as status
use Rattle.cltu_queue.specs.declared.cltu.Cltu.{Cltu}
use Rattle.cltu_queue.specs.declared.in_air.InAir.{InAir}
use Rattle.cltu_queue.specs.declared.room.Room.{Room}
use Rattle.cltu_queue.specs.declared.cltu_fault.CltuFault.{CltuFault}
use Rattle.cltu_queue.specs.declared.cltu_fault.CltuFault.TheVariants.{Refused}
use Rattle.cltu_queue.specs.declared.taken.Taken.{Taken}
use Rattle.cltu_queue.specs.declared.taken.Taken.TheVariants.{Idle, Waits, Expired, Radiate}
use Rattle.cltu_queue.specs.declared.notice.Notice.{Notice}
use Rattle.cltu_queue.specs.declared.processed.Processed.{Processed}
use Rattle.cltu_queue.specs.declared.processed.Processed.TheVariants as processed
use Rattle.cltu_queue.specs.declared.last_ok.LastOk.{LastOk}
use Rattle.cltu_queue.specs.declared.last_ok.LastOk.TheVariants as ok
use Rattle.cltu_queue.specs.declared.uplink_view.UplinkView.{UplinkView}
use Rattle.cltu_queue.specs.Limits.{last_id, last_count, last_run, longest_delay, many_notices}
use Rattle.cltu_queue.specs.Times.{earliest_of, latest_of, has_moment, is_above}

-- the machine: the octets that may wait and those that one CLTU may have; the run; what waits, the
-- first to radiate first; the moment until which the uplink rests; the counts of the run; the
-- notices, the first to be told first
pub record Machine : Type 0 where
  pub room : ℕ
  pub longest : ℕ
  pub run : ℕ
  pub started : Bool
  pub blocked : Bool
  pub next : Option ℕ
  pub waiting : List Cltu
  pub in_air : Option InAir
  pub rests_until : ℕ
  pub processed : Processed
  pub ok : LastOk
  pub received : ℕ
  pub taken : ℕ
  pub radiated : ℕ
  pub notices : List Notice
  pub production : CltuProductionStatus
  pub status : UplinkStatus

-- no run has started yet; production is operational, and the uplink nominal
abbrev pub new_machine : ℕ → ℕ → Machine
new_machine room longest = record {
  room = room;
  longest = longest;
  run = 0;
  started = false;
  blocked = false;
  next = None;
  waiting = [];
  in_air = None;
  rests_until = 0;
  processed = processed.None;
  ok = ok.None;
  received = 0;
  taken = 0;
  radiated = 0;
  notices = [];
  production = Operational;
  status = Nominal;
}

-- a count of a status report stays at its last value
abbrev pub one_more : ℕ → ℕ
one_more count = min (count + 1) last_count

abbrev pub octets_of : List Cltu → ℕ
octets_of cltus = sum_by (λ cltu. length cltu.octets) cltus

-- the free octets are the room less those that wait
abbrev pub free_octets : Machine → ℕ
free_octets m = m.room - octets_of m.waiting

-- what each answer to a TRANSFER-DATA tells; where there is no next identification, the last one
abbrev pub room_of : Machine → Room
room_of m = record { next = unwrap_or m.next last_id; free = free_octets m }

-- a notice carries the last CLTUs, production and uplink as they stand when it is made
abbrev pub notice_of : CltuNotificationType → Machine → Notice
notice_of kind m =
    record {
      kind = kind;
      processed = m.processed;
      ok = m.ok;
      production = m.production;
      status = m.status;
    }

abbrev pub with_notice : CltuNotificationType → Machine → Machine
with_notice kind m = record m { notices = m.notices ++ notice_of kind m ∷ [] }

-- production interrupted, halted or operational
unfoldable pub is_of_production : CltuNotificationType → Bool
is_of_production kind.ProductionInterrupted = true
is_of_production kind.ProductionHalted = true
is_of_production kind.ProductionOperational = true
is_of_production _ = false

abbrev pub tells_production : Notice → Bool
tells_production notice = is_of_production notice.kind

abbrev pub ends_with_production : List Notice → Bool
ends_with_production notices =
    option_map_or tells_production (slice_get notices (length notices - 1)) false

abbrev pub without_last_of_production : List Notice → List Notice
without_last_of_production notices =
    if ends_with_production notices then take (length notices - 1) notices else notices

-- a notice of a change of production, which replaces a last notice of production
abbrev pub with_production_notice : CltuNotificationType → Machine → Machine
with_production_notice kind m =
    record m { notices = without_last_of_production m.notices ++ notice_of kind m ∷ [] }

-- what waits is discarded, and the run is blocked
abbrev pub discarded : Machine → Machine
discarded m = record m { waiting = []; blocked = true }

-- START -------------------------------------------------------------------------------------------

-- a run has the next number, and begins empty, unblocked, and with this identification
abbrev pub new_run : ℕ → Machine → Machine
new_run first m =
    record m {
      run = m.run + 1;
      started = true;
      blocked = false;
      next = Some first;
      waiting = [];
      processed = processed.None;
      ok = ok.None;
      received = 0;
      taken = 0;
      radiated = 0;
    }

abbrev pub is_halted : CltuProductionStatus → Bool
is_halted Halted = true
is_halted _ = false

abbrev pub is_interrupted : CltuProductionStatus → Bool
is_interrupted Interrupted = true
is_interrupted _ = false

-- refused where production is halted or interrupted, or no run number is left; else a run begins
abbrev pub on_start : Machine → ℕ → Machine × Result (Unit {0}) CltuStartDiagnostic
on_start m first =
    if is_halted m.production then (m, Err OutOfService)
    else if is_interrupted m.production || m.run == last_run then (m, Err UnableToComply)
    else (new_run first m, Ok tt)

-- STOP --------------------------------------------------------------------------------------------

-- the run ends, what waits and the notices are discarded, and what is in the air stays
abbrev pub on_stop : Machine → Machine
on_stop m = record m { started = false; waiting = []; notices = [] }

-- TRANSFER-DATA -----------------------------------------------------------------------------------

abbrev pub is_next : Option ℕ → ℕ → Bool
is_next None id = false
is_next (Some next) id = next == id

-- the identification behind one, or none behind the last
abbrev pub behind : ℕ → Option ℕ
behind id = if id == last_id then None else Some (id + 1)

-- the first diagnostic whose condition holds
abbrev pub refusal : Machine → Cltu → ℕ → Option CltuTransferDataDiagnostic
refusal m cltu now =
    if m.blocked then Some refused.UnableToProcess
    else if not (is_next m.next cltu.id) then Some refused.OutOfSequence
    else if not (has_moment cltu.earliest && has_moment cltu.latest) then Some refused.InvalidTime
    else if is_above (earliest_of cltu) (latest_of cltu) then Some refused.InconsistentTimeRange
    else if is_above (Some now) (latest_of cltu) then Some refused.LateSldu
    else if nat_lt longest_delay cltu.radiation_delay then Some refused.InvalidDelayTime
    else if nat_lt m.longest (length cltu.octets) then Some refused.CltuError
    else if nat_lt (free_octets m) (length cltu.octets) then Some refused.UnableToStore
    else None

abbrev pub queued : Machine → Cltu → Machine
queued m cltu =
    record m {
      next = behind cltu.id;
      waiting = m.waiting ++ cltu ∷ [];
      received = one_more m.received;
    }

abbrev pub queued_unless : Option CltuTransferDataDiagnostic → Machine → Cltu
    → Machine × Result Room CltuFault
queued_unless None m cltu = (queued m cltu, Ok (room_of (queued m cltu)))
queued_unless (Some diagnostic) m cltu = (m, Err (Refused diagnostic (room_of m)))

-- the CLTU is queued, unless a diagnostic refuses it
abbrev pub on_transfer : Machine → Cltu → ℕ → Machine × Result Room CltuFault
on_transfer m cltu now = queued_unless (refusal m cltu now) m cltu

-- take --------------------------------------------------------------------------------------------

abbrev pub is_operational : CltuProductionStatus → Bool
is_operational Operational = true
is_operational _ = false

-- nothing radiates while the run is blocked, one is in the air, production isn't operational, or
-- 1,000 notices wait
abbrev pub is_idle : Machine → Bool
is_idle m =
    m.blocked
    || is_some m.in_air
    || not (is_operational m.production)
    || nat_le many_notices (length m.notices)

-- all that waits is discarded, the run is blocked, and the user is told
abbrev pub expired : ℕ → Machine → Machine
expired id m =
    with_notice kind.SlduExpired
    (record (discarded m) {
      processed = processed.Some id None status.Expired;
      taken = one_more m.taken;
    })

-- the head leaves the queue and is in the air; its status is started
abbrev pub radiating : Cltu → List Cltu → ℕ → Machine → Machine
radiating head others now m =
    record m {
      waiting = others;
      in_air =
          Some
          (record {
            run = m.run;
            id = head.id;
            began = in_micros now;
            radiation_delay = head.radiation_delay;
            wanted = head.wanted;
          });
      processed = processed.Some head.id (Some (in_micros now)) status.RadiationStarted;
      taken = one_more m.taken;
    }

abbrev pub on_radiation_of : List Cltu → Machine → ℕ → Machine × Taken
on_radiation_of [] m now = (m, Idle)
on_radiation_of (head ∷ others) m now =
    (radiating head others now m, Radiate m.run head.id head.octets)

-- the first that waits radiates
abbrev pub on_radiation : Machine → ℕ → Machine × Taken
on_radiation m now = on_radiation_of m.waiting m now

-- from when on a CLTU may radiate: from its earliest time, and once the uplink has rested
abbrev pub begins_at : Machine → Cltu → ℕ
begins_at m cltu = max (unwrap_or (earliest_of cltu) 0) m.rests_until

abbrev pub on_take_of : List Cltu → Machine → ℕ → Machine × Taken
on_take_of [] m now = (m, Idle)
on_take_of (head ∷ others) m now =
    if is_idle m then (m, Idle)
    else if is_above (Some now) (latest_of head) then (expired head.id m, Expired head.id)
    else if nat_lt now (begins_at m head) then (m, Waits (begins_at m head))
    else on_radiation m now

-- the first that waits radiates, has expired, or waits
abbrev pub on_take : Machine → ℕ → Machine × Taken
on_take m now = on_take_of m.waiting m now

-- the end of a radiation --------------------------------------------------------------------------

-- this CLTU is in the air
abbrev pub is_this : ℕ → ℕ → InAir → Bool
is_this run id a = a.run == run && a.id == id

-- it is one of the run that is started
abbrev pub is_of_run : Machine → InAir → Bool
is_of_run m a = m.started && a.run == m.run

abbrev pub landed : Machine → Machine
landed m = record m { in_air = None }

-- the CLTU was radiated, and the uplink rests for its delay
abbrev pub radiated_at : InAir → ℕ → Machine → Machine
radiated_at a now m =
    record (landed m) {
      processed = processed.Some a.id (Some a.began) status.Radiated;
      ok = ok.Some a.id (in_micros now);
      rests_until = now + a.radiation_delay * PICOS_A_MICRO;
      radiated = one_more m.radiated;
    }

-- the user is told of it where that is wanted, and then where nothing waits
abbrev pub with_radiation_notice : Bool → Machine → Machine
with_radiation_notice wanted m = if wanted then with_notice kind.CltuRadiated m else m

abbrev pub with_empty_notice : Machine → Machine
with_empty_notice m = if length m.waiting == 0 then with_notice kind.BufferEmpty m else m

-- a radiation of the run ended
abbrev pub ended : InAir → ℕ → Machine → Machine
ended a now m = with_empty_notice (with_radiation_notice a.wanted (radiated_at a now m))

abbrev pub on_done_of : Option InAir → Machine → ℕ → ℕ → ℕ → Machine
on_done_of None m run id now = m
on_done_of (Some a) m run id now =
    if not (is_this run id a) then m
    else if is_of_run m a then ended a now m else landed m

-- of an older or a stopped run, only what is in the air is cleared; where this CLTU isn't in the
-- air, nothing changes
abbrev pub on_done : Machine → ℕ → ℕ → ℕ → Machine
on_done m run id now = on_done_of m.in_air m run id now

-- production is interrupted, what waits is discarded, the run is blocked, and the user is told
abbrev pub broken_off : InAir → Machine → Machine
broken_off a m =
    with_notice kind.ProductionInterrupted
    (record (discarded (landed m)) {
      processed = processed.Some a.id (Some a.began) status.Interrupted;
      production = Interrupted;
    })

abbrev pub on_interrupted_of : Option InAir → Machine → ℕ → ℕ → Machine
on_interrupted_of None m run id = m
on_interrupted_of (Some a) m run id =
    if not (is_this run id a) then m else if is_of_run m a then broken_off a m else landed m

-- of an older or a stopped run, only what is in the air is cleared; where this CLTU isn't in the
-- air, nothing changes
abbrev pub on_interrupted : Machine → ℕ → ℕ → Machine
on_interrupted m run id = on_interrupted_of m.in_air m run id

-- production and uplink ---------------------------------------------------------------------------

-- in a started run, production that changed to interrupted or halted discards what waits and blocks
-- the run; these changes and the one to operational are told
abbrev pub changed_to : CltuProductionStatus → Machine → Machine
changed_to Operational m = with_production_notice kind.ProductionOperational m
changed_to Configured m = m
changed_to Interrupted m = with_production_notice kind.ProductionInterrupted (discarded m)
changed_to Halted m = with_production_notice kind.ProductionHalted (discarded m)

abbrev pub is_same : CltuProductionStatus → CltuProductionStatus → Bool
is_same a b = number_of a == number_of b

abbrev pub on_uplink : Machine → CltuProductionStatus → UplinkStatus → Machine
on_uplink m production status =
    let set : Machine = record m { production = production; status = status } in
    if m.started && not (is_same m.production production) then changed_to production set else set

-- what is told ------------------------------------------------------------------------------------

abbrev pub on_notice_of : List Notice → Machine → Machine × Option Notice
on_notice_of [] m = (m, None)
on_notice_of (first ∷ others) m = (record m { notices = others }, Some first)

-- the first notice is told
abbrev pub on_notice : Machine → Machine × Option Notice
on_notice m = on_notice_of m.notices m

-- the numbers of a status report
abbrev pub view_of : Machine → UplinkView
view_of m = record {
  processed = m.processed;
  ok = m.ok;
  production = m.production;
  status = m.status;
  received = m.received;
  taken = m.taken;
  radiated = m.radiated;
  free = free_octets m;
}
