-- The notices of a queue tell nothing of events.
use Rattle.std.proofs.Common.{◌≡◌, ℕ, zero, suc, ◌-◌, Bool, true, false, not, ◌==◌, nat_lt}
use Rattle.std.proofs.Common.{if◌then◌else◌, Option, Some, None, List, [], ◌∷◌}
use Rattle.std.proofs.Common.{◌++◌, length, take as list_take, refl, arith}
use Rattle.std.specs.List.{list_all}
use Rattle.fcltu_numbers.specs.declared.cltu_production_status.CltuProductionStatus.{CltuProductionStatus}
use Rattle.fcltu_numbers.specs.declared.cltu_production_status.CltuProductionStatus.TheVariants.{Operational, Configured, Interrupted, Halted}
use Rattle.fcltu_numbers.specs.declared.uplink_status.UplinkStatus.{UplinkStatus}
use Rattle.fcltu_numbers.specs.declared.cltu_notification_type.CltuNotificationType.{CltuNotificationType}
use Rattle.fcltu_numbers.specs.declared.cltu_notification_type.CltuNotificationType.TheVariants as kind
use Rattle.fcltu_numbers.specs.declared.cltu_transfer_data_diagnostic.CltuTransferDataDiagnostic.{CltuTransferDataDiagnostic}
use Rattle.cltu_queue.specs.declared.cltu.Cltu.{Cltu}
use Rattle.cltu_queue.specs.declared.in_air.InAir.{InAir}
use Rattle.cltu_queue.specs.declared.notice.Notice.{Notice}
use Rattle.cltu_queue.specs.declared.taken.Taken.{Taken}
use Rattle.cltu_queue.specs.declared.taken.Taken.TheVariants.{Idle, Expired, Waits}
use Rattle.cltu_queue.specs.Machine.{Machine, on_take_of}
use Rattle.cltu_queue.specs.Machine.{on_radiation_of, queued_unless, refusal}
use Rattle.cltu_queue.specs.Machine.{on_done_of, on_interrupted_of, on_uplink}
use Rattle.cltu_queue.specs.Machine.{on_notice_of, changed_to, notice_of, with_notice}
use Rattle.cltu_queue.specs.Machine.{ends_with_production, with_production_notice, ended}
use Rattle.cltu_queue.specs.Machine.{without_last_of_production}
use Rattle.cltu_queue.specs.Machine.{with_radiation_notice, radiated_at, landed, broken_off}
use Rattle.cltu_queue.specs.Machine.{is_idle, expired, begins_at, is_this, is_of_run}
use Rattle.cltu_queue.specs.Times.{latest_of, is_above}
use Rattle.cltu_queue.specs.Forward.{Event, start, transfer, stop, take, done, interrupted, uplink}
use Rattle.cltu_queue.specs.Forward.{notice, forward}
use Rattle.cltu_queue.specs.Run.{after}
use Rattle.fcltu_pdu.specs.Notice.{is_of_event}
use Rattle.fcltu_service.specs.Causes.{is_of_queue}

abbrev AreOfQueue : List Notice → Type 0
AreOfQueue notices = list_all is_of_queue notices ≡ true

abbrev Holds : Machine → Type 0
Holds m = AreOfQueue m.notices

pushed : (ns : List Notice) (n : Notice) → AreOfQueue ns → is_of_queue n ≡ true
    → AreOfQueue (ns ++ n ∷ [])
pushed [] n all is = grind arith
pushed (x ∷ ns) n all is = grind (arith, pushed ns n)

fewer : (k : ℕ) (ns : List Notice) → AreOfQueue ns → AreOfQueue (list_take k ns)
fewer zero ns all = refl
fewer (suc k) [] all = refl
fewer (suc k) (x ∷ ns) all = grind (arith, fewer k ns)

-- what holds of both parts of a choice holds of it
either_way : {X : Type 0} (P : X → Type 0) (b : Bool) (x y : X) → P x → P y
    → P (if b then x else y)
either_way P true x y p q = p
either_way P false x y p q = q

noticed : (m : Machine) (kind : CltuNotificationType) → Holds m → is_of_event kind ≡ false
    → Holds (with_notice kind m)
noticed m kind all is = pushed m.notices (notice_of kind m) all (grind arith)

replaced : (m : Machine) (kind : CltuNotificationType) → Holds m → is_of_event kind ≡ false
    → Holds (with_production_notice kind m)
replaced m kind all is =
    pushed (without_last_of_production m.notices) (notice_of kind m)
    (either_way AreOfQueue (ends_with_production m.notices)
    (list_take (length m.notices - 1) m.notices) m.notices
    (fewer (length m.notices - 1) m.notices all) all)
    (grind arith)

start_holds : (m : Machine) (first : ℕ) → Holds m → Holds (forward m (start first)).0
start_holds m first all = grind arith

queued_holds : (m : Machine) (cltu : Cltu) (r : Option CltuTransferDataDiagnostic) → Holds m
    → Holds (queued_unless r m cltu).0
queued_holds m cltu None all = all
queued_holds m cltu (Some why) all = all

transfer_holds : (m : Machine) (cltu : Cltu) (now : ℕ) → Holds m
    → Holds (forward m (transfer cltu now)).0
transfer_holds m cltu now all = grind (arith, queued_holds m cltu (refusal m cltu now))

radiation_holds : (m : Machine) (now : ℕ) (ws : List Cltu) → Holds m
    → Holds (on_radiation_of ws m now).0
radiation_holds m now [] all = all
radiation_holds m now (head ∷ others) all = all

abbrev After : Machine × Taken → Type 0
After r = Holds r.0

take_holds : (m : Machine) (now : ℕ) (ws : List Cltu) → Holds m → After (on_take_of ws m now)
take_holds m now [] all = all
take_holds m now (head ∷ others) all =
    either_way After (is_idle m) (m, Idle) _ all
    (either_way After (is_above (Some now) (latest_of head)) (expired head.id m, Expired head.id) _
    (pushed m.notices _ all refl)
    (either_way After (nat_lt now (begins_at m head)) (m, Waits (begins_at m head)) _ all
    (radiation_holds m now m.waiting all)))

ended_holds : (m : Machine) (a : InAir) (now : ℕ) → Holds m → Holds (ended a now m)
ended_holds m a now all =
    let r : Machine = radiated_at a now m in
    let told : Holds (with_radiation_notice a.wanted r) =
    either_way Holds a.wanted (with_notice kind.CltuRadiated r) r
    (noticed r kind.CltuRadiated all refl) all in
    let n : Machine = with_radiation_notice a.wanted r in
    either_way Holds (length n.waiting == 0) (with_notice kind.BufferEmpty n) n
    (noticed n kind.BufferEmpty told refl) told

done_holds : (m : Machine) (run id now : ℕ) (a : Option InAir) → Holds m
    → Holds (on_done_of a m run id now)
done_holds m run id now None all = all
done_holds m run id now (Some a) all =
    either_way Holds (not (is_this run id a)) m _ all
    (either_way Holds (is_of_run m a) (ended a now m) (landed m) (ended_holds m a now all) all)

broken_holds : (m : Machine) (run id : ℕ) (a : Option InAir) → Holds m
    → Holds (on_interrupted_of a m run id)
broken_holds m run id None all = all
broken_holds m run id (Some a) all =
    either_way Holds (not (is_this run id a)) m _ all
    (either_way Holds (is_of_run m a) (broken_off a m) (landed m) (pushed m.notices _ all refl)
    all)

changed_holds : (production : CltuProductionStatus) (m : Machine) → Holds m
    → Holds (changed_to production m)
changed_holds Operational m all = replaced m kind.ProductionOperational all refl
changed_holds Configured m all = all
changed_holds Interrupted m all = replaced m kind.ProductionInterrupted all refl
changed_holds Halted m all = replaced m kind.ProductionHalted all refl

uplink_holds : (m : Machine) (production : CltuProductionStatus) (status : UplinkStatus) → Holds m
    → Holds (on_uplink m production status)
uplink_holds m production status all = grind (arith, changed_holds production)

notice_holds : (m : Machine) (ns : List Notice) → AreOfQueue ns → Holds m
    → Holds (on_notice_of ns m).0
notice_holds m [] some all = all
notice_holds m (first ∷ others) some all = grind arith

event_holds : (m : Machine) (event : Event) → Holds m → Holds (forward m event).0
event_holds m (start first) all = start_holds m first all
event_holds m (transfer cltu now) all = transfer_holds m cltu now all
event_holds m stop all = refl
event_holds m (take now) all = take_holds m now m.waiting all
event_holds m (done run id now) all = done_holds m run id now m.in_air all
event_holds m (interrupted run id) all = broken_holds m run id m.in_air all
event_holds m (uplink production status) all = uplink_holds m production status all
event_holds m notice all = notice_holds m m.notices all all

pub events_hold : (m : Machine) (events : List Event) → Holds m → Holds (after m events)
events_hold m [] all = all
events_hold m (event ∷ events) all =
    events_hold (forward m event).0 events (event_holds m event all)
