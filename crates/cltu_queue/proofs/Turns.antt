-- What an event does to a run: it keeps it, queues a CLTU, radiates the first one, ends it, or
-- begins another.
use Rattle.std.proofs.Common.{◌≡◌, ℕ, ◌+◌, ◌≤◌, ◌<◌, Bool, true, false, not, ◌||◌, ◌==◌, nat_lt}
use Rattle.std.proofs.Common.{if◌then◌else◌, Option, Some, None, Err, List, [], ◌∷◌, ◌++◌, length}
use Rattle.std.proofs.Common.{refl, ◌∙◌, ap, arith}
use Rattle.std.proofs.lemmas.Bool.{eqb-true, ltb-false, leb-false, not-false}
use Rattle.std.specs.Prelude.{is_some, max, unwrap_or, IfSome}
use Rattle.fcltu_numbers.specs.declared.cltu_production_status.CltuProductionStatus.{CltuProductionStatus}
use Rattle.fcltu_numbers.specs.declared.uplink_status.UplinkStatus.{UplinkStatus}
use Rattle.fcltu_numbers.specs.declared.cltu_transfer_data_diagnostic.CltuTransferDataDiagnostic.{CltuTransferDataDiagnostic}
use Rattle.fcltu_numbers.specs.declared.cltu_transfer_data_diagnostic.CltuTransferDataDiagnostic.TheVariants as refused
use Rattle.fcltu_numbers.specs.declared.cltu_notification_type.CltuNotificationType.{CltuNotificationType}
use Rattle.fcltu_numbers.specs.declared.cltu_notification_type.CltuNotificationType.TheVariants as kind
use Rattle.cltu_queue.specs.declared.cltu.Cltu.{Cltu}
use Rattle.cltu_queue.specs.declared.in_air.InAir.{InAir}
use Rattle.cltu_queue.specs.declared.taken.Taken.{Taken}
use Rattle.cltu_queue.specs.Limits.{many_notices}
use Rattle.cltu_queue.specs.Times.{earliest_of, latest_of, is_above}
use Rattle.cltu_queue.specs.Machine.{Machine, behind, is_next, refusal, queued, is_idle, expired}
use Rattle.cltu_queue.specs.Machine.{radiating, landed, radiated_at, with_radiation_notice, ended}
use Rattle.cltu_queue.specs.Machine.{with_notice, with_production_notice, discarded, broken_off}
use Rattle.cltu_queue.specs.Machine.{is_operational, on_uplink}
use Rattle.cltu_queue.specs.Forward.{Event, start, transfer, stop, take, done}
use Rattle.cltu_queue.specs.Forward.{interrupted as interruption, uplink, notice, Reply, nothing}
use Rattle.cltu_queue.specs.Forward.{unfit, started, took, forward}
use Rattle.cltu_queue.specs.Run.{begins_run_by, accepted_by, radiation_by, Radiation, IsRadiationOf}
use Rattle.cltu_queue.proofs.Cases.{choose, start_by, transfer_by, MayRadiate, take_by, done_by}
use Rattle.cltu_queue.proofs.Cases.{interrupted_by, changed_by, with_uplink, uplink_by, notice_by}

-- the run goes on as it was
pub record IsSameRun (m n : Machine) : Type 0 where
  pub run : n.run ≡ m.run
  pub started : n.started ≡ m.started
  pub blocked : n.blocked ≡ m.blocked
  pub next : n.next ≡ m.next
  pub waiting : n.waiting ≡ m.waiting

-- nothing of the run radiates any more
pub record IsOver (m : Machine) : Type 0 where
  pub empty : m.waiting ≡ []
  pub shut : (m.blocked || not m.started) ≡ true

-- an event and its reply accept no CLTU and radiate none
pub record IsQuiet (event : Event) (reply : Reply) : Type 0 where
  pub accepts_none : accepted_by event reply ≡ None
  pub radiates_none : radiation_by event reply ≡ None

-- a CLTU is queued in an open run
pub record Queues (m n : Machine) (cltu : Cltu) : Type 0 where
  pub run : n.run ≡ m.run
  pub is_open : (m.blocked || not m.started) ≡ false
  pub next : m.next ≡ Some cltu.id
  pub behind_it : n.next ≡ behind cltu.id
  pub waiting : n.waiting ≡ m.waiting ++ cltu ∷ []

-- the first that waits radiates
pub record Radiates (m n : Machine) (cltu : Cltu) (others : List Cltu)
    (radiation : Radiation) : Type 0 where
  pub run : n.run ≡ m.run
  pub next : n.next ≡ m.next
  pub first : m.waiting ≡ cltu ∷ others
  pub left : n.waiting ≡ others
  pub is_of : IsRadiationOf m.run cltu radiation
  pub free : m.in_air ≡ None
  pub unblocked : m.blocked ≡ false

-- what waited is gone
pub record Ends (m n : Machine) : Type 0 where
  pub run : n.run ≡ m.run
  pub next : n.next ≡ m.next
  pub blocked : m.blocked ≡ true → n.blocked ≡ true

-- the next run begins
pub record Begins (m n : Machine) : Type 0 where
  pub run : n.run ≡ m.run + 1
  pub empty : n.waiting ≡ []

-- what an event and its reply do to the run of a machine
pub data Turn (m : Machine) (event : Event) (n : Machine) (reply : Reply) : Type 0 where
  keeps : IsSameRun m n → IsQuiet event reply → Turn m event n reply
  queues : (cltu : Cltu) → Queues m n cltu → accepted_by event reply ≡ Some cltu
      → radiation_by event reply ≡ None
      → Turn m event n reply
  radiates : (cltu : Cltu) (others : List Cltu) (radiation : Radiation)
      → Radiates m n cltu others radiation
      → accepted_by event reply ≡ None → radiation_by event reply ≡ Some radiation
      → Turn m event n reply
  ends : Ends m n → IsOver n → IsQuiet event reply → Turn m event n reply
  begins : Begins m n → begins_run_by event reply ≡ true → IsQuiet event reply
      → Turn m event n reply

same : (m : Machine) → IsSameRun m m
same m = record { run = refl; started = refl; blocked = refl; next = refl; waiting = refl }

abbrev TurnOf : Machine → Event → Machine × Reply → Type 0
TurnOf m event r = Turn m event r.0 r.1

-- where nothing happened
stays : (m : Machine) (event : Event) (reply : Reply) → IsQuiet event reply → Turn m event m reply
stays m event reply quiet = keeps (same m) quiet

-- the same run but for what a run doesn't say
pub likewise : (m n k : Machine) → IsSameRun m n → k.run ≡ n.run → k.started ≡ n.started
    → k.blocked ≡ n.blocked
    → k.next ≡ n.next → k.waiting ≡ n.waiting → IsSameRun m k
likewise m n k s run going shut next waits =
    record {
      run = run ∙ s.run;
      started = going ∙ s.started;
      blocked = shut ∙ s.blocked;
      next = next ∙ s.next;
      waiting = waits ∙ s.waiting;
    }

-- a test that refuses didn't
pub passes : (b : Bool) (d : CltuTransferDataDiagnostic)
    (x : Option CltuTransferDataDiagnostic) → (if b then Some d else x) ≡ None
    → (b ≡ false) × (x ≡ None)
passes true d x h = cc
passes false d x h = (refl, h)

next_of : (next : Option ℕ) (id : ℕ) → not (is_next next id) ≡ false → next ≡ Some id
next_of None id h = cc
next_of (Some n) id h = ap Some (eqb-true n id (not-false (n == id) h))

-- what is accepted is the next in an unblocked run
accepted_next : (m : Machine) (cltu : Cltu) (now : ℕ) → refusal m cltu now ≡ None
    → (m.blocked ≡ false) × (m.next ≡ Some cltu.id)
accepted_next m cltu now fits =
    let unblocked = passes m.blocked refused.UnableToProcess _ fits in (
      unblocked.0,
      next_of m.next cltu.id (passes (not (is_next m.next cltu.id)) refused.OutOfSequence _
          unblocked.1).0,
    )

is_open_of : (b s : Bool) → b ≡ false → s ≡ true → (b || not s) ≡ false
is_open_of b s p q = rw (p, q)

accepts : (m : Machine) (cltu : Cltu) (now : ℕ) → m.started ≡ true → refusal m cltu now ≡ None
    → Queues m (queued m cltu) cltu
accepts m cltu now going fits =
    let next = accepted_next m cltu now fits in
    record {
      run = refl;
      is_open = is_open_of m.blocked m.started next.0 going;
      next = next.1;
      behind_it = refl;
      waiting = refl;
    }

not_late_of : (now : ℕ) (latest : Option ℕ) → is_above (Some now) latest ≡ false
    → IfSome latest (λ moment. now ≤ moment)
not_late_of now None h = tt
not_late_of now (Some moment) h = ltb-false moment now h

not_early_of : (now rests : ℕ) (earliest : Option ℕ)
    → nat_lt now (max (unwrap_or earliest 0) rests) ≡ false
    → IfSome earliest (λ moment. moment ≤ now)
not_early_of now rests None h = tt
not_early_of now rests (Some moment) h = omega (arith, ltb-false now (max moment rests) h)

none_of : (a : Option InAir) → is_some a ≡ false → a ≡ None
none_of None h = refl
none_of (Some a) h = cc

pub or_false : (a b : Bool) → (a || b) ≡ false → (a ≡ false) × (b ≡ false)
or_false false b h = (refl, h)
or_false true b h = cc

-- where the machine isn't idle, the run isn't blocked, nothing is in the air, and few notices wait
pub record IsReady (m : Machine) : Type 0 where
  pub unblocked : m.blocked ≡ false
  pub none_aloft : m.in_air ≡ None
  pub few : length m.notices < many_notices

pub ready_of : (m : Machine) → is_idle m ≡ false → IsReady m
ready_of m h =
    let three = or_false (m.blocked || is_some m.in_air || not (is_operational m.production)) _ h in
    let two = or_false (m.blocked || is_some m.in_air) _ three.0 in
    let one = or_false m.blocked _ two.0 in
    record {
      unblocked = one.0;
      none_aloft = none_of m.in_air one.1;
      few = leb-false many_notices (length m.notices) three.1;
    }

takes_off : (m : Machine) (now : ℕ) (head : Cltu) (others : List Cltu)
    → MayRadiate m now head others
    → Radiates m (radiating head others now m) head others
    (record { at = now; run = m.run; id = head.id; octets = head.octets })
takes_off m now head others may =
    record {
      run = refl;
      next = refl;
      first = may.first;
      left = refl;
      is_of = record {
        run = refl;
        id = refl;
        octets = refl;
        window = record {
          not_early = not_early_of now m.rests_until (earliest_of head) may.due;
          not_late = not_late_of now (latest_of head) may.timely;
        };
      };
      free = (ready_of m may.ready).none_aloft;
      unblocked = (ready_of m may.ready).unblocked;
    }

same_notified : (m n : Machine) (b : Bool) (kind : CltuNotificationType) → IsSameRun m n
    → IsSameRun m (if b then with_notice kind n else n)
same_notified m n b kind s =
    choose (IsSameRun m) b (with_notice kind n) n
    (λ _. likewise m n (with_notice kind n) s refl refl refl refl refl) (λ _. s)

same_ended : (m : Machine) (a : InAir) (now : ℕ) → IsSameRun m (ended a now m)
same_ended m a now =
    same_notified m (with_radiation_notice a.wanted (radiated_at a now m)) _ kind.BufferEmpty
    (same_notified m (radiated_at a now m) a.wanted kind.CltuRadiated
    (likewise m m (radiated_at a now m) (same m) refl refl refl refl refl))

-- what waited is gone, and the run is blocked
gone : (m n : Machine) → n.run ≡ m.run → n.next ≡ m.next → n.waiting ≡ [] → n.blocked ≡ true
    → Ends m n × IsOver n
gone m n run next empty blocked = (
  record { run = run; next = next; blocked = λ _. blocked },
  record { empty = empty; shut = rw blocked refl },
)

or_true : (b : Bool) → (b || true) ≡ true
or_true true = refl
or_true false = refl

uplink_turn : (m : Machine) (production : CltuProductionStatus) (status : UplinkStatus)
    → Turn m (uplink production status) (on_uplink m production status) nothing
uplink_turn m production status =
    let n : Machine = with_uplink production status m in
    let quiet : IsQuiet (uplink production status) nothing =
    record { accepts_none = refl; radiates_none = refl } in
    let broken : Machine = with_production_notice kind.ProductionInterrupted (discarded n) in
    let stopped : Machine = with_production_notice kind.ProductionHalted (discarded n) in
    let over = gone m broken refl refl refl refl in
    let halts = gone m stopped refl refl refl refl in
    let kept : Turn m (uplink production status) n nothing =
    keeps (likewise m m n (same m) refl refl refl refl refl) quiet in
    uplink_by (λ (k : Machine). Turn m (uplink production status) k nothing) m production status
    (changed_by (λ (k : Machine). Turn m (uplink production status) k nothing) production n
    (keeps (likewise m m (with_production_notice kind.ProductionOperational n) (same m) refl refl refl
    refl refl) quiet)
    (ends over.0 over.1 quiet) (ends halts.0 halts.1 quiet) kept)
    kept

-- each event does one of these to a run
pub turn : (m : Machine) (event : Event) → Turn m event (forward m event).0 (forward m event).1
turn m (start first) =
    start_by (TurnOf m (start first)) m first
    (stays m (start first) unfit (record { accepts_none = refl; radiates_none = refl }))
    (λ d. stays m (start first) (started (Err d))
    (record { accepts_none = refl; radiates_none = refl }))
    (begins (record { run = refl; empty = refl }) refl
    (record { accepts_none = refl; radiates_none = refl }))
turn m (transfer cltu now) =
    transfer_by (TurnOf m (transfer cltu now)) m cltu now
    (stays m (transfer cltu now) unfit (record { accepts_none = refl; radiates_none = refl }))
    (λ d. keeps (same m) (record { accepts_none = refl; radiates_none = refl }))
    (λ going fits. queues cltu (accepts m cltu now going fits) refl refl)
turn m stop =
    ends (record { run = refl; next = refl; blocked = λ is. is })
    (record { empty = refl; shut = or_true m.blocked })
    (record { accepts_none = refl; radiates_none = refl })
turn m (take now) =
    take_by (λ (r : Machine × Taken). Turn m (take now) r.0 (took r.1)) m now
    (keeps (same m) (record { accepts_none = refl; radiates_none = refl }))
    (λ head ready. let over = gone m (expired head.id m) refl refl refl refl in
    ends over.0 over.1 (record { accepts_none = refl; radiates_none = refl }))
    (λ until. keeps (same m) (record { accepts_none = refl; radiates_none = refl }))
    (λ head others may. radiates head others _ (takes_off m now head others may) refl refl)
turn m (done run id now) =
    keeps
    (done_by (IsSameRun m) m run id now (same m)
    (λ a named. likewise m m (landed m) (same m) refl refl refl refl refl)
    (λ a named current. same_ended m a now))
    (record { accepts_none = refl; radiates_none = refl })
turn m (interruption run id) =
    interrupted_by (λ (n : Machine). Turn m (interruption run id) n nothing) m run id
    (keeps (same m) (record { accepts_none = refl; radiates_none = refl }))
    (λ a named. keeps (likewise m m (landed m) (same m) refl refl refl refl refl)
    (record { accepts_none = refl; radiates_none = refl }))
    (λ a named current. let over = gone m (broken_off a m) refl refl refl refl in
    ends over.0 over.1 (record { accepts_none = refl; radiates_none = refl }))
turn m (uplink production status) = uplink_turn m production status
turn m notice =
    notice_by (TurnOf m notice) m (keeps (same m)
    (record { accepts_none = refl; radiates_none = refl }))
    (λ first others is. keeps (likewise m m (record m { notices = others }) (same m) refl refl refl
    refl refl)
    (record { accepts_none = refl; radiates_none = refl }))
