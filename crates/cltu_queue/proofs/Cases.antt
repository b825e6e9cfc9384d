-- What each event may come to.
use Rattle.std.proofs.Common.{◌≡◌, ℕ, Bool, true, false, not, ◌&&◌, ◌||◌, ◌==◌, nat_lt}
use Rattle.std.proofs.Common.{if◌then◌else◌, Option, Some, None, Result, Ok, Err, List, [], ◌∷◌}
use Rattle.std.proofs.Common.{refl, sym, subst}
use Rattle.std.proofs.lemmas.Bool.{not-false}
use Rattle.fcltu_numbers.specs.declared.cltu_production_status.CltuProductionStatus.{CltuProductionStatus}
use Rattle.fcltu_numbers.specs.declared.cltu_production_status.CltuProductionStatus.TheVariants.{Operational, Configured, Interrupted, Halted}
use Rattle.fcltu_numbers.specs.declared.uplink_status.UplinkStatus.{UplinkStatus}
use Rattle.fcltu_numbers.specs.declared.cltu_start_diagnostic.CltuStartDiagnostic.{CltuStartDiagnostic}
use Rattle.fcltu_numbers.specs.declared.cltu_start_diagnostic.CltuStartDiagnostic.TheVariants.{OutOfService, UnableToComply}
use Rattle.fcltu_numbers.specs.declared.cltu_transfer_data_diagnostic.CltuTransferDataDiagnostic.{CltuTransferDataDiagnostic}
use Rattle.fcltu_numbers.specs.declared.cltu_notification_type.CltuNotificationType.TheVariants as kind
use Rattle.cltu_queue.specs.declared.cltu.Cltu.{Cltu}
use Rattle.cltu_queue.specs.declared.in_air.InAir.{InAir}
use Rattle.cltu_queue.specs.declared.room.Room.{Room}
use Rattle.cltu_queue.specs.declared.cltu_fault.CltuFault.{CltuFault}
use Rattle.cltu_queue.specs.declared.cltu_fault.CltuFault.TheVariants.{Refused}
use Rattle.cltu_queue.specs.declared.taken.Taken.{Taken}
use Rattle.cltu_queue.specs.declared.taken.Taken.TheVariants.{Idle, Waits, Expired, Radiate}
use Rattle.cltu_queue.specs.declared.notice.Notice.{Notice}
use Rattle.cltu_queue.specs.Limits.{last_run}
use Rattle.cltu_queue.specs.Times.{latest_of, is_above}
use Rattle.cltu_queue.specs.Machine.{Machine, new_run, on_start, room_of, refusal, queued}
use Rattle.cltu_queue.specs.Machine.{queued_unless, on_transfer, is_idle, begins_at, expired}
use Rattle.cltu_queue.specs.Machine.{radiating, on_radiation, on_radiation_of, on_take, on_take_of}
use Rattle.cltu_queue.specs.Machine.{is_this, is_of_run, landed, ended, on_done, on_done_of}
use Rattle.cltu_queue.specs.Machine.{broken_off, on_interrupted, on_interrupted_of, discarded}
use Rattle.cltu_queue.specs.Machine.{is_halted, is_interrupted, is_same}
use Rattle.cltu_queue.specs.Machine.{with_production_notice, changed_to, on_uplink}
use Rattle.cltu_queue.specs.Machine.{on_notice_of}
use Rattle.cltu_queue.specs.Forward.{start, transfer, notice, Reply, unfit, started, transferred}
use Rattle.cltu_queue.specs.Forward.{notified, forward}

-- what holds of both parts of a choice holds of it
pub choose : {X : Type 0} (P : X → Type 0) (b : Bool) (x y : X) → (b ≡ true → P x)
    → (b ≡ false → P y)
    → P (if b then x else y)
choose P true x y p q = p refl
choose P false x y p q = q refl

abbrev Starts : (Machine × Reply → Type 0) → Machine × Result (Unit {0}) CltuStartDiagnostic → Type 0
Starts P r = P (r.0, started r.1)

-- a START doesn't fit, is refused, or begins a run
pub start_by : (P : Machine × Reply → Type 0) (m : Machine) (first : ℕ)
    → P (m, unfit)
    → ((diagnostic : CltuStartDiagnostic) → P (m, started (Err diagnostic)))
    → P (new_run first m, started (Ok tt))
    → P (forward m (start first))
start_by P m first misfits refuses begins =
    choose P m.started (m, unfit) (
      (on_start m first).0,
      started (on_start m first).1,
    ) (λ _. misfits)
    (λ _. choose (Starts P) (is_halted m.production) (m, Err OutOfService)
    (if is_interrupted m.production || m.run == last_run then (m, Err UnableToComply)
    else (new_run first m, Ok tt))
    (λ _. refuses OutOfService)
    (λ _. choose (Starts P) (is_interrupted m.production || m.run == last_run) (m, Err UnableToComply)
    (new_run first m, Ok tt) (λ _. refuses UnableToComply) (λ _. begins)))

abbrev Transfers : (Machine × Reply → Type 0) → Machine × Result Room CltuFault → Type 0
Transfers P r = P (r.0, transferred r.1)

transfer_of : (P : Machine × Reply → Type 0) (m : Machine) (cltu : Cltu) (now : ℕ)
    (r : Option CltuTransferDataDiagnostic)
    → refusal m cltu now ≡ r
    → ((diagnostic : CltuTransferDataDiagnostic) → P (m, transferred (Err (Refused diagnostic (room_of m)))))
    → (refusal m cltu now ≡ None → P (queued m cltu, transferred (Ok (room_of (queued m cltu)))))
    → Transfers P (queued_unless r m cltu)
transfer_of P m cltu now None is refuses accepts = accepts is
transfer_of P m cltu now (Some diagnostic) is refuses accepts = refuses diagnostic

-- a TRANSFER-DATA doesn't fit, is refused, or is accepted
pub transfer_by : (P : Machine × Reply → Type 0) (m : Machine) (cltu : Cltu) (now : ℕ)
    → P (m, unfit)
    → ((diagnostic : CltuTransferDataDiagnostic) → P (m, transferred (Err (Refused diagnostic (room_of m)))))
    → (m.started ≡ true → refusal m cltu now ≡ None
    → P (queued m cltu, transferred (Ok (room_of (queued m cltu)))))
    → P (forward m (transfer cltu now))
transfer_by P m cltu now misfits refuses accepts =
    choose P m.started ((on_transfer m cltu now).0, transferred (on_transfer m cltu now).1) (
      m,
      unfit,
    )
    (λ going. transfer_of P m cltu now (refusal m cltu now) refl refuses (accepts going))
    (λ _. misfits)

-- a CLTU that is first may radiate now
pub record MayRadiate (m : Machine) (now : ℕ) (head : Cltu) (others : List Cltu) : Type 0 where
  pub first : m.waiting ≡ head ∷ others
  pub ready : is_idle m ≡ false
  pub timely : is_above (Some now) (latest_of head) ≡ false
  pub due : nat_lt now (begins_at m head) ≡ false

take_of : (P : Machine × Taken → Type 0) (m : Machine) (now : ℕ) (ws : List Cltu) → m.waiting ≡ ws
    → P (m, Idle)
    → ((head : Cltu) → is_idle m ≡ false → P (expired head.id m, Expired head.id))
    → ((until : ℕ) → P (m, Waits until))
    → ((head : Cltu) (others : List Cltu) → MayRadiate m now head others
    → P (radiating head others now m, Radiate m.run head.id head.octets))
    → P (on_take_of ws m now)
take_of P m now [] is idle expires waits radiates = idle
take_of P m now (head ∷ others) is idle expires waits radiates =
    choose P (is_idle m) (m, Idle)
    (if is_above (Some now) (latest_of head) then (expired head.id m, Expired head.id)
    else (if nat_lt now (begins_at m head) then (m, Waits (begins_at m head))
    else on_radiation m now)) (λ _. idle)
    (λ ready. choose P (is_above (Some now) (latest_of head)) (expired head.id m, Expired head.id)
    (if nat_lt now (begins_at m head) then (m, Waits (begins_at m head)) else on_radiation m now)
    (λ _. expires head ready)
    (λ timely. choose P (nat_lt now (begins_at m head)) (
      m,
      Waits (begins_at m head),
    ) (on_radiation m now)
    (λ _. waits (begins_at m head))
    (λ due. subst (λ ws. P (on_radiation_of ws m now)) (sym is)
    (radiates head others (record { first = is; ready = ready; timely = timely; due = due })))))

-- a take finds nothing that may radiate, or a CLTU that has expired, has to wait or radiates
pub take_by : (P : Machine × Taken → Type 0) (m : Machine) (now : ℕ)
    → P (m, Idle)
    → ((head : Cltu) → is_idle m ≡ false → P (expired head.id m, Expired head.id))
    → ((until : ℕ) → P (m, Waits until))
    → ((head : Cltu) (others : List Cltu) → MayRadiate m now head others
    → P (radiating head others now m, Radiate m.run head.id head.octets))
    → P (on_take m now)
take_by P m now = take_of P m now m.waiting refl

-- this is in the air, and its end is told
pub record IsNamed (m : Machine) (number id : ℕ) (a : InAir) : Type 0 where
  pub in_air : m.in_air ≡ Some a
  pub this : is_this number id a ≡ true

done_of : (Q : Machine → Type 0) (m : Machine) (run id now : ℕ) (x : Option InAir) → m.in_air ≡ x
    → Q m
    → ((a : InAir) → IsNamed m run id a → Q (landed m))
    → ((a : InAir) → IsNamed m run id a → is_of_run m a ≡ true → Q (ended a now m))
    → Q (on_done_of x m run id now)
done_of Q m run id now None is stays lands ends = stays
done_of Q m run id now (Some a) is stays lands ends =
    choose Q (not (is_this run id a)) m (if is_of_run m a then ended a now m else landed m)
    (λ _. stays)
    (λ this. choose Q (is_of_run m a) (ended a now m) (landed m)
    (λ current. ends a (record { in_air = is; this = not-false (is_this run id a) this }) current)
    (λ _. lands a (record { in_air = is; this = not-false (is_this run id a) this })))

-- the end of a radiation is of nothing in the air, of another run, or of this one
pub done_by : (Q : Machine → Type 0) (m : Machine) (run id now : ℕ)
    → Q m
    → ((a : InAir) → IsNamed m run id a → Q (landed m))
    → ((a : InAir) → IsNamed m run id a → is_of_run m a ≡ true → Q (ended a now m))
    → Q (on_done m run id now)
done_by Q m run id now = done_of Q m run id now m.in_air refl

interrupted_of : (Q : Machine → Type 0) (m : Machine) (run id : ℕ) (x : Option InAir) → m.in_air ≡ x
    → Q m
    → ((a : InAir) → IsNamed m run id a → Q (landed m))
    → ((a : InAir) → IsNamed m run id a → is_of_run m a ≡ true → Q (broken_off a m))
    → Q (on_interrupted_of x m run id)
interrupted_of Q m run id None is stays lands breaks = stays
interrupted_of Q m run id (Some a) is stays lands breaks =
    choose Q (not (is_this run id a)) m (if is_of_run m a then broken_off a m else landed m)
    (λ _. stays)
    (λ this. choose Q (is_of_run m a) (broken_off a m) (landed m)
    (λ current. breaks a (record { in_air = is; this = not-false (is_this run id a) this }) current)
    (λ _. lands a (record { in_air = is; this = not-false (is_this run id a) this })))

-- a radiation that failed is of nothing in the air, of another run, or of this one
pub interrupted_by : (Q : Machine → Type 0) (m : Machine) (run id : ℕ)
    → Q m
    → ((a : InAir) → IsNamed m run id a → Q (landed m))
    → ((a : InAir) → IsNamed m run id a → is_of_run m a ≡ true → Q (broken_off a m))
    → Q (on_interrupted m run id)
interrupted_by Q m run id = interrupted_of Q m run id m.in_air refl

-- a change of production is notified, discards what waits or not, or does nothing
pub changed_by : (Q : Machine → Type 0) (production : CltuProductionStatus) (m : Machine)
    → Q (with_production_notice kind.ProductionOperational m)
    → Q (with_production_notice kind.ProductionInterrupted (discarded m))
    → Q (with_production_notice kind.ProductionHalted (discarded m))
    → Q m
    → Q (changed_to production m)
changed_by Q Operational m resumes breaks halts stays = resumes
changed_by Q Configured m resumes breaks halts stays = stays
changed_by Q Interrupted m resumes breaks halts stays = breaks
changed_by Q Halted m resumes breaks halts stays = halts

-- with production and uplink set
abbrev pub with_uplink : CltuProductionStatus → UplinkStatus → Machine → Machine
with_uplink production status m = record m { production = production; status = status }

-- production and uplink are set, which is a change of production in a run or not
pub uplink_by : (Q : Machine → Type 0) (m : Machine) (production : CltuProductionStatus)
    (status : UplinkStatus)
    → Q (changed_to production (with_uplink production status m))
    → Q (with_uplink production status m)
    → Q (on_uplink m production status)
uplink_by Q m production status changes stays =
    choose Q (m.started && not (is_same m.production production))
    (changed_to production (with_uplink production status m))
    (with_uplink production status m) (λ _. changes) (λ _. stays)

notice_of : (P : Machine × Option Notice → Type 0) (m : Machine) (ns : List Notice) → m.notices ≡ ns
    → P (m, None)
    → ((first : Notice) (others : List Notice) → m.notices ≡ first ∷ others
    → P (record m { notices = others }, Some first))
    → P (on_notice_of ns m)
notice_of P m [] is none some = none
notice_of P m (first ∷ others) is none some = some first others is

-- no notice waits, or the first is told
pub notice_by : (P : Machine × Reply → Type 0) (m : Machine)
    → P (m, notified None)
    → ((first : Notice) (others : List Notice) → m.notices ≡ first ∷ others
    → P (record m { notices = others }, notified (Some first)))
    → P (forward m notice)
notice_by P m = notice_of (λ (r : Machine × Option Notice). P (r.0, notified r.1)) m m.notices refl
