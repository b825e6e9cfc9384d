-- A run of the forward service is started only where some door has its instance.
use Rattle.std.proofs.Common.{◌≡◌, ℕ, Bool, true, false, not, ◌&&◌, ◌||◌, ◌==◌, nat_lt}
use Rattle.std.proofs.Common.{if◌then◌else◌, Option, Some, None, is_some, List, [], ◌∷◌, length}
use Rattle.std.proofs.Common.{slice_get, get_or, refl, sym, ap, subst, ◌∙◌, arith}
use Rattle.std.proofs.lemmas.Bool.Decides.{nat_tests}
use Rattle.std.proofs.lemmas.List.Quantifiers.{position-Some}
use Rattle.std.proofs.lemmas.Option.{slice_get-get_or}
use Rattle.std.specs.Prelude.{IsFalse}
use Rattle.std.specs.List.{position, list_any}
use Rattle.std.specs.Option.{option_map_or}
use Rattle.archive_terms.specs.Glimpse.{wants_nothing}
use Rattle.fcltu_numbers.specs.declared.cltu_production_status.CltuProductionStatus.{CltuProductionStatus}
use Rattle.fcltu_numbers.specs.declared.cltu_production_status.CltuProductionStatus.TheVariants.{Operational, Configured}
use Rattle.fcltu_numbers.specs.declared.cltu_production_status.CltuProductionStatus.TheVariants.{Interrupted, Halted}
use Rattle.fcltu_numbers.specs.declared.uplink_status.UplinkStatus.{UplinkStatus}
use Rattle.fcltu_numbers.specs.declared.cltu_transfer_data_diagnostic.CltuTransferDataDiagnostic.{CltuTransferDataDiagnostic}
use Rattle.cltu_queue.specs.Machine.{Machine, on_transfer, queued_unless, refusal, on_stop, on_take}
use Rattle.cltu_queue.specs.Machine.{on_take_of, on_radiation_of, is_idle, begins_at, on_done}
use Rattle.cltu_queue.specs.Machine.{on_done_of, is_this, is_of_run, ended, radiated_at}
use Rattle.cltu_queue.specs.Machine.{with_radiation_notice, on_interrupted, on_interrupted_of}
use Rattle.cltu_queue.specs.Machine.{on_uplink, changed_to, is_same, on_notice, on_notice_of}
use Rattle.cltu_queue.specs.Times.{is_above, latest_of}
use Rattle.cltu_queue.specs.declared.ask.Ask.{Ask}
use Rattle.cltu_queue.specs.declared.ask.Ask.TheVariants as ask
use Rattle.cltu_queue.specs.declared.cltu.Cltu.{Cltu}
use Rattle.cltu_queue.specs.declared.in_air.InAir.{InAir}
use Rattle.cltu_queue.specs.declared.notice.Notice.{Notice}
use Rattle.cltu_queue.specs.declared.taken.Taken.{Taken}
use Rattle.station_book.specs.State.{State, Event, Call, publish, answer, quit, take, done}
use Rattle.station_book.specs.State.{interrupted, uplink, gone}
use Rattle.station_book.specs.History.{moment_at, is_of, instance_of, is_forward, has_forward}
use Rattle.station_book.specs.History.{is_running, is_taken, without_run, is_lost, is_told}
use Rattle.station_book.specs.History.{doors_asked, with_ask, asked, queue_answered}
use Rattle.station_book.specs.History.{may_publish, after, then_after, replay, event_at}
use Rattle.station_book.specs.Doors.{is_by, HasOneForward}
use Rattle.session_laws.specs.Losing.{RunsAtDoor, RunHasDoor}
use Rattle.session_laws.proofs.Places.{answered_doors}

abbrev pub OthersLeave : Type 0
OthersLeave =
    (s : State) (h : List Event) (door : ℕ) → IsFalse (list_any (λ e. is_by door e.call) h)
    → instance_of (replay s h) door ≡ instance_of s door

-- ---- what starts and stops no run

either : (b : Bool) (x y : Machine) (v : Bool) → x.started ≡ v → y.started ≡ v
    → (if b then x else y).started ≡ v
either true x y v p q = p
either false x y v p q = q

either_taken : (b : Bool) (x y : Machine × Taken) (v : Bool) → x.0.started ≡ v → y.0.started ≡ v
    → (if b then x else y).0.started ≡ v
either_taken true x y v p q = p
either_taken false x y v p q = q

pub started_transfer : (m : Machine) (cltu : Cltu) (now : ℕ)
    → (on_transfer m cltu now).0.started ≡ m.started
started_transfer m cltu now = at_refusal (refusal m cltu now)
  where
    at_refusal : (r : Option CltuTransferDataDiagnostic)
        → (queued_unless r m cltu).0.started ≡ m.started
    at_refusal None = refl
    at_refusal (Some d) = refl

started_take : (m : Machine) (now : ℕ) → (on_take m now).0.started ≡ m.started
started_take m now = of_waiting m.waiting
  where
    of_radiation : (ws : List Cltu) → (on_radiation_of ws m now).0.started ≡ m.started
    of_radiation [] = refl
    of_radiation (w ∷ ws) = refl

    of_waiting : (ws : List Cltu) → (on_take_of ws m now).0.started ≡ m.started
    of_waiting [] = refl
    of_waiting (w ∷ ws) =
        either_taken (is_idle m) _ _ m.started refl
        (either_taken (is_above (Some now) (latest_of w)) _ _ m.started refl
        (either_taken (nat_lt now (begins_at m w)) _ _ m.started refl (of_radiation m.waiting)))

started_ended : (m : Machine) (a : InAir) (now : ℕ) → (ended a now m).started ≡ m.started
started_ended m a now =
    let told = with_radiation_notice a.wanted (radiated_at a now m) in
    either (length told.waiting == 0) _ told m.started (either a.wanted _ _ m.started refl refl)
    (either a.wanted _ _ m.started refl refl)

started_done : (m : Machine) (run id now : ℕ) → (on_done m run id now).started ≡ m.started
started_done m run id now = of_air m.in_air
  where
    of_air : (o : Option InAir) → (on_done_of o m run id now).started ≡ m.started
    of_air None = refl
    of_air (Some a) =
        either (not (is_this run id a)) _ _ m.started refl
        (either (is_of_run m a) _ _ m.started (started_ended m a now) refl)

started_interrupted : (m : Machine) (run id : ℕ) → (on_interrupted m run id).started ≡ m.started
started_interrupted m run id = of_air m.in_air
  where
    of_air : (o : Option InAir) → (on_interrupted_of o m run id).started ≡ m.started
    of_air None = refl
    of_air (Some a) =
        either (not (is_this run id a)) _ _ m.started refl
        (either (is_of_run m a) _ _ m.started refl refl)

started_changed : (production : CltuProductionStatus) (m : Machine)
    → (changed_to production m).started ≡ m.started
started_changed Operational m = refl
started_changed Configured m = refl
started_changed Interrupted m = refl
started_changed Halted m = refl

started_uplink : (m : Machine) (production : CltuProductionStatus) (status : UplinkStatus)
    → (on_uplink m production status).started ≡ m.started
started_uplink m production status =
    let set : Machine = record m { production = production; status = status } in
    either (m.started && not (is_same m.production production)) _ _ m.started
    (started_changed production set) refl

started_notice : (m : Machine) → (on_notice m).0.started ≡ m.started
started_notice m = of_notices m.notices
  where
    of_notices : (ns : List Notice) → (on_notice_of ns m).0.started ≡ m.started
    of_notices [] = refl
    of_notices (n ∷ ns) = refl

pub started_told : (s : State) (door now : ℕ) (ask : Ask)
    → (queue_answered s door now ask).started ≡ (asked s door now ask).queue.started
started_told s door now ask =
    either (is_told s door now ask) _ _ (asked s door now ask).queue.started
    (started_notice (asked s door now ask).queue) refl

-- ---- the door of a run

-- a door keeps what it has where the instances do
pub forward_by : (s t : State) (d : ℕ) → t.opening ≡ s.opening → instance_of t d ≡ instance_of s d
    → has_forward t d ≡ has_forward s d
forward_by s t d opening instance =
    ap (λ o. option_map_or (λ place. is_forward (slice_get o.services place)) (instance_of t d) false)
    opening
    ∙ ap (λ i. option_map_or (λ place. is_forward (slice_get s.opening.services place)) i false)
    instance

pub same_door : (door d : ℕ) → (door == d) ≡ true → door ≡ d
same_door door d e = grind (arith, nat_tests)

pub has_some : (s : State) (d : ℕ) → has_forward s d ≡ true → is_some (instance_of s d) ≡ true
has_some s d e = at_place (instance_of s d) e
  where
    at_place : (o : Option ℕ)
        → option_map_or (λ place. is_forward (slice_get s.opening.services place)) o false ≡ true
        → is_some o ≡ true
    at_place None e = absurd (cc)
    at_place (Some i) e = refl

some_or : (a b : Bool) → a ≡ true → (a || b) ≡ false → true ≡ false
some_or a b e f = grind arith

both_true : (a b : Bool) → a ≡ true → b ≡ true → (a && b) ≡ true
both_true a b e f = grind arith

first_of : (a b : Bool) → not (a && b) ≡ false → a ≡ true
first_of a b e = grind arith

first_or : (a b : Bool) → (not a || b) ≡ false → a ≡ true
first_or a b e = grind arith

none_but : (a : Bool) → a ≡ false → (a || false) ≡ false
none_but a e = grind arith

-- a run that goes on without this door's
record GoesOn (s : State) (door : ℕ) : Type 0 where
  started : s.queue.started ≡ true
  still : is_running s door ≡ false

goes_on : (s : State) (door : ℕ) → (without_run s door).started ≡ true → GoesOn s door
goes_on s door e = by (is_running s door) refl e
  where
    by : (b : Bool) → is_running s door ≡ b
        → (if b then on_stop s.queue else s.queue).started ≡ true → GoesOn s door
    by true is e = absurd (cc)
    by false is e = record { started = e; still = is }

module _ (others : OthersLeave) where
  -- an event of a door leaves what another has
  apart_leaves : (s : State) (e : Event) (d : ℕ) → is_by d e.call ≡ false
      → instance_of (then_after s e) d ≡ instance_of s d
  apart_leaves s e d apart = others s (e ∷ []) d (none_but (is_by d e.call) apart)

  doors_leave : (s : State) (door d : ℕ) (x : Ask) → is_lost s door x ≡ false
      → (door == d) ≡ false → position (is_of d) (doors_asked s door x) ≡ instance_of s d
  doors_leave s door d x fits apart =
      ap (λ (doors : List (Option ℕ)). position (is_of d) doors) (sym (answered_doors s door 0 x fits))
      ∙ apart_leaves s (event_at s (answer door 0 x wants_nothing)) d apart

  -- where it isn't this door that has it, it is another one's, which keeps it
  moved_on : (s : State) (door now : ℕ) (x : Ask) (d : ℕ) → is_lost s door x ≡ false
      → has_forward s d ≡ true → (b : Bool) → (door == d) ≡ b
      → (b ≡ true → RunsAtDoor (with_ask s door now x)) → RunsAtDoor (with_ask s door now x)
  moved_on s door now x d fits has true is own = own refl
  moved_on s door now x d fits has false is own = record {
    door = d;
    has = forward_by s (with_ask s door now x) d refl (doors_leave s door d x fits is) ∙ has;
  }

  has_at : (s : State) (door d : ℕ) → door ≡ d → has_forward s d ≡ true
      → has_forward s door ≡ true
  has_at s door d same has = subst (λ (n : ℕ). has_forward s n ≡ true) (sym same) has

  ask_runs : (s : State) (door now : ℕ) (x : Ask) → RunHasDoor s → is_lost s door x ≡ false
      → RunHasDoor (with_ask s door now x)
  ask_runs s door now ask.Nothing j fits e =
      let at = j e in record { door = at.door; has = at.has }
  ask_runs s door now ask.Quiet j fits e =
      let at = j e in record { door = at.door; has = at.has }
  ask_runs s door now (ask.Bind i) j fits e =
      let at = j e in
      moved_on s door now (ask.Bind i) at.door fits at.has (door == at.door) refl
      (λ is. absurd (cc (some_or (is_some (instance_of s door)) _
      (has_some s door (has_at s door at.door (same_door door at.door is) at.has)) fits)))
  ask_runs s door now ask.Unbind j fits e =
      let on = goes_on s door e in
      let at = j on.started in
      moved_on s door now ask.Unbind at.door fits at.has (door == at.door) refl
      (λ is. absurd (cc (
        both_true (has_forward s door) s.queue.started
            (has_at s door at.door (same_door door at.door is) at.has) on.started,
        on.still,
      )))
  ask_runs s door now (ask.CltuStart first) j fits e =
      record { door = door; has = first_or (has_forward s door) s.queue.started fits }
  ask_runs s door now (ask.CltuTransfer cltu) j fits e =
      record { door = door; has = first_of (has_forward s door) s.queue.started fits }
  ask_runs s door now ask.CltuStop j fits e =
      record { door = door; has = first_of (has_forward s door) s.queue.started fits }

  asked_runs : (s : State) (door now : ℕ) (x : Ask) → RunHasDoor s → RunHasDoor (asked s door now x)
  asked_runs s door now x j = by (is_lost s door x) refl
    where
      by : (b : Bool) → is_lost s door x ≡ b
          → RunHasDoor (if b then s else with_ask s door now x)
      by true is = j
      by false is = ask_runs s door now x j is

  -- a call that leaves the doors and whether a run is started
  kept_runs : (s t : State) → RunHasDoor s → t.queue.started ≡ s.queue.started
      → t.opening ≡ s.opening → t.doors ≡ s.doors → RunHasDoor t
  kept_runs s t j started opening doors e =
      let at = j (sym started ∙ e) in
      record {
        door = at.door;
        has =
            forward_by s t at.door opening
            (ap (λ (doors : List (Option ℕ)). position (is_of at.door) doors) doors)
            ∙ at.has;
      }

  published_runs : (b : Bool) (s t : State) → RunHasDoor s → RunHasDoor t
      → RunHasDoor (if b then t else s)
  published_runs true s t j k = k
  published_runs false s t j k = j

  quit_runs : (s : State) (door : ℕ) → RunHasDoor s → RunHasDoor (after s (quit door))
  quit_runs s door j e =
      let on = goes_on s door e in
      let at = j on.started in
      by at.door at.has on (door == at.door) refl
    where
      by : (d : ℕ) → has_forward s d ≡ true → GoesOn s door → (b : Bool) → (door == d) ≡ b
          → RunsAtDoor (after s (quit door))
      by d has on true is =
          absurd (cc (
            both_true (has_forward s door) s.queue.started
                (has_at s door d (same_door door d is) has) on.started,
            on.still,
          ))
      by d has on false is = record {
        door = d;
        has =
            forward_by s (after s (quit door)) d refl
            (apart_leaves s (event_at s (quit door)) d is)
            ∙ has;
      }

  runs_after : (s : State) (call : Call) → RunHasDoor s → RunHasDoor (after s call)
  runs_after s (publish entries) j =
      published_runs (may_publish s entries) s _ j (kept_runs s _ j refl refl refl)
  runs_after s (answer door reading x want) j =
      let now = moment_at s reading in
      kept_runs (asked s door now x) (after s (answer door reading x want))
      (asked_runs s door now x j) (started_told s door now x) refl refl
  runs_after s (quit door) j = quit_runs s door j
  runs_after s (take reading) j =
      kept_runs s _ j (started_take s.queue (moment_at s reading)) refl refl
  runs_after s (done run id reading) j =
      kept_runs s _ j (started_done s.queue run id (moment_at s reading)) refl refl
  runs_after s (interrupted run id reading) j =
      kept_runs s _ j (started_interrupted s.queue run id) refl refl
  runs_after s (uplink production status reading) j =
      kept_runs s _ j (started_uplink s.queue production status) refl refl
  runs_after s (gone worker) j = kept_runs s _ j refl refl refl

  pub runs_replayed : (s : State) (h : List Event) → RunHasDoor s → RunHasDoor (replay s h)
  runs_replayed s [] j = j
  runs_replayed s (e ∷ h) j = runs_replayed (then_after s e) h (runs_after s e.call j)

  -- what calls of others leave of a door with the forward service's instance
  pub forward_replayed : (s : State) (h : List Event) (door : ℕ)
      → (replay s h).opening ≡ s.opening → IsFalse (list_any (λ e. is_by door e.call) h)
      → has_forward (replay s h) door ≡ has_forward s door
  forward_replayed s h door opening none =
      forward_by s (replay s h) door opening (others s h door none)

-- ---- whoever has the forward service's instance

stands_at : (door : ℕ) (doors : List (Option ℕ)) (i : ℕ) → position (is_of door) doors ≡ Some i
    → slice_get doors i ≡ Some (Some door)
stands_at door doors i is =
    let at = position-Some (is_of door) doors i None is in
    slice_get-get_or doors i None at.0
    ∙ ap (λ (h : Option ℕ). Some h) (holder_is (get_or doors i None) at.1)
  where
    holder_is : (holder : Option ℕ) → is_of door holder ≡ true → holder ≡ Some door
    holder_is None is = absurd cc
    holder_is (Some other) is = ap (λ (n : ℕ). Some n) (grind (arith, nat_tests, is))

-- where no door has it, no run is started
pub free_is_still : (s : State) (place : ℕ) → HasOneForward s.opening.services → RunHasDoor s
    → is_forward (slice_get s.opening.services place) ≡ true
    → is_taken (slice_get s.doors place) ≡ false → s.queue.started ≡ false
free_is_still s place one j forward free = by s.queue.started refl
  where
    at_place : (d : ℕ) (o : Option ℕ) → instance_of s d ≡ o
        → option_map_or (λ place. is_forward (slice_get s.opening.services place)) o false ≡ true
        → true ≡ false
    at_place d None stands has = absurd (cc)
    at_place d (Some i) stands has =
        let same : i ≡ place = one i place has forward in
        let there : slice_get s.doors place ≡ Some (Some d) =
        subst (λ (n : ℕ). slice_get s.doors n ≡ Some (Some d)) same (stands_at d s.doors i stands) in
        sym (ap is_taken there) ∙ free

    by : (b : Bool) → s.queue.started ≡ b → s.queue.started ≡ false
    by false e = e
    by true e = let at = j e in e ∙ at_place at.door (instance_of s at.door) refl at.has
