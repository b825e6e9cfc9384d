-- The forward machine's events, and what it does on each.
use Rattle.std.specs.Prelude.{ℕ, if◌then◌else◌, Option, Result}
use Rattle.fcltu_numbers.specs.declared.cltu_production_status.CltuProductionStatus.{CltuProductionStatus}
use Rattle.fcltu_numbers.specs.declared.uplink_status.UplinkStatus.{UplinkStatus}
use Rattle.fcltu_numbers.specs.declared.cltu_start_diagnostic.CltuStartDiagnostic.{CltuStartDiagnostic}
use Rattle.cltu_queue.specs.declared.cltu.Cltu.{Cltu}
use Rattle.cltu_queue.specs.declared.room.Room.{Room}
use Rattle.cltu_queue.specs.declared.cltu_fault.CltuFault.{CltuFault}
use Rattle.cltu_queue.specs.declared.taken.Taken.{Taken}
use Rattle.cltu_queue.specs.declared.notice.Notice.{Notice}
use Rattle.cltu_queue.specs.Machine.{Machine, on_start, on_stop, on_transfer, on_take, on_done}
use Rattle.cltu_queue.specs.Machine.{on_interrupted, on_uplink, on_notice}

-- a START with its first identification; a TRANSFER-DATA with its CLTU and moment; a STOP; a take
-- at a moment; the end of a radiation, of a run's CLTU with this identification, at a moment; its
-- failure; a reading of production and uplink; a notice's telling
pub data Event : Type 0 where
  start : ℕ → Event
  transfer : Cltu → ℕ → Event
  stop : Event
  take : ℕ → Event
  done : ℕ → ℕ → ℕ → Event
  interrupted : ℕ → ℕ → Event
  uplink : CltuProductionStatus → UplinkStatus → Event
  notice : Event

-- what an event is answered; `unfit` where it doesn't fit the machine's state
pub data Reply : Type 0 where
  nothing : Reply
  unfit : Reply
  started : Result (Unit {0}) CltuStartDiagnostic → Reply
  transferred : Result Room CltuFault → Reply
  took : Taken → Reply
  notified : Option Notice → Reply

-- the machine after an event, and the reply; a START in a run and a TRANSFER-DATA outside of one
-- change nothing
abbrev pub forward : Machine → Event → Machine × Reply
forward m (start first) =
    if m.started then (m, unfit) else ((on_start m first).0, started (on_start m first).1)
forward m (transfer cltu now) =
    if m.started
    then ((on_transfer m cltu now).0, transferred (on_transfer m cltu now).1)
    else (m, unfit)
forward m stop = (on_stop m, nothing)
forward m (take now) = ((on_take m now).0, took (on_take m now).1)
forward m (done run id now) = (on_done m run id now, nothing)
forward m (interrupted run id) = (on_interrupted m run id, nothing)
forward m (uplink production status) = (on_uplink m production status, nothing)
forward m notice = ((on_notice m).0, notified (on_notice m).1)
