-- What a run's door is told.
use Rattle.std.proofs.Common.{◌≡◌, ℕ, ◌+◌, ◌-◌, Bool, true, false, not, ◌&&◌, ◌||◌, ◌==◌}
use Rattle.std.proofs.Common.{if◌then◌else◌, nat_lt, Option, Some, None, is_some, Result, Ok, Err}
use Rattle.std.proofs.Common.{List, [], ◌∷◌, ◌++◌, length, map, take as front, slice_get, IsTrue, refl, ap}
use Rattle.std.proofs.Common.{sym, subst, ◌∙◌, append_assoc, append-nil, length-append, arith}
use Rattle.std.specs.List.{list_any, cons_option}
use Rattle.std.specs.Option.{option_map_or}
use Rattle.std.proofs.Math.Seq.{take-append-add}
use Rattle.std.proofs.lemmas.Bool.Decides.{nat_tests}
use Rattle.std.proofs.lemmas.List.Sums.{fold-append}
use Rattle.archive_terms.specs.Glimpse.{Want}
use Rattle.fcltu_numbers.specs.declared.cltu_notification_type.CltuNotificationType.{CltuNotificationType}
use Rattle.fcltu_numbers.specs.declared.cltu_notification_type.CltuNotificationType.TheVariants as kind
use Rattle.fcltu_numbers.specs.declared.cltu_production_status.CltuProductionStatus.{CltuProductionStatus}
use Rattle.fcltu_numbers.specs.declared.cltu_production_status.CltuProductionStatus.TheVariants.{Operational, Configured, Interrupted, Halted}
use Rattle.fcltu_numbers.specs.declared.cltu_start_diagnostic.CltuStartDiagnostic.{CltuStartDiagnostic}
use Rattle.fcltu_numbers.specs.declared.cltu_transfer_data_diagnostic.CltuTransferDataDiagnostic.{CltuTransferDataDiagnostic}
use Rattle.fcltu_numbers.specs.declared.uplink_status.UplinkStatus.{UplinkStatus}
use Rattle.cltu_queue.specs.Machine.{Machine, notice_of, with_notice, ends_with_production}
use Rattle.cltu_queue.specs.Machine.{with_radiation_notice}
use Rattle.cltu_queue.specs.Machine.{is_this, is_of_run, is_same, on_start, on_stop, on_transfer}
use Rattle.cltu_queue.specs.Machine.{queued_unless, refusal, on_take, on_take_of, is_idle, expired}
use Rattle.cltu_queue.specs.Machine.{begins_at, on_radiation, on_radiation_of, radiated_at, on_done, on_done_of}
use Rattle.cltu_queue.specs.Machine.{ended, landed, broken_off, on_interrupted, on_interrupted_of}
use Rattle.cltu_queue.specs.Machine.{on_uplink, changed_to, on_notice, on_notice_of, new_run}
use Rattle.cltu_queue.specs.Machine.{is_halted, is_interrupted}
use Rattle.cltu_queue.specs.Limits.{last_run}
use Rattle.cltu_queue.specs.Times.{is_above, latest_of}
use Rattle.cltu_queue.specs.declared.ask.Ask.{Ask}
use Rattle.cltu_queue.specs.declared.ask.Ask.TheVariants as ask
use Rattle.cltu_queue.specs.declared.book_reply.BookReply.TheVariants.{Lost}
use Rattle.cltu_queue.specs.declared.cltu.Cltu.{Cltu}
use Rattle.cltu_queue.specs.declared.in_air.InAir.{InAir}
use Rattle.cltu_queue.specs.declared.notice.Notice.{Notice}
use Rattle.cltu_queue.specs.declared.taken.Taken.{Taken}
use Rattle.cltu_queue.specs.declared.taken.Taken.TheVariants.{Idle, Waits, Expired}
use Rattle.station_book.specs.State.{State, Opening, opened, Event, Call, publish, answer, quit}
use Rattle.station_book.specs.State.{take, done, interrupted, uplink, gone}
use Rattle.station_book.specs.State.{accepted, foreign}
use Rattle.station_book.specs.History.{moment_at, instance_of, has_forward, is_running}
use Rattle.station_book.specs.History.{is_forward, is_lost, queue_asked, with_ask}
use Rattle.station_book.specs.History.{asked, reply_asked, reply_of, start_reply, is_told}
use Rattle.station_book.specs.History.{queue_answered, may_publish, after, answer_to, reply_to}
use Rattle.station_book.specs.History.{event_at, then_after, replay, IsLegal}
use Rattle.station_book.specs.Doors.{is_by, HasOneForward}
use Rattle.station_book.specs.Radiation.{where_started}
use Rattle.station_book.specs.Notices.{door_of_run, is_stop, stops_by}
use Rattle.station_book.specs.Notices.{are_before_stop, notice_in, notices_told, notice_at, told_at}
use Rattle.station_book.specs.Notices.{kinds_of_take, kinds_of_end, kinds_of_production}
use Rattle.station_book.specs.Notices.{where_in_air, notices_made, replaces}
use Rattle.station_book.specs.Notices.{unreplaced, kept_behind, IsToldInTurn}
use Rattle.station_book.proofs.Histories.{opening_stays, asked_keeps, legal_goes_on}
use Rattle.station_book.proofs.Doors.{answer_leaves, started_transfer}
use Rattle.station_book.proofs.Doors.{other_has_none, not_running, forward_stays, call_leaves_run}
use Rattle.station_book.proofs.Doors.{forwards, started_told, opening_stays_over, ask_leaves_run}
use Rattle.station_book.proofs.Radiating.{or_right}
use Rattle.station_book.proofs.Quiet.{RestsBetween, rests_between}

-- ---- what the queue makes

abbrev told_of : List CltuNotificationType → Machine → List Notice
told_of kinds m = map (λ kind. notice_of kind m) kinds

-- what was made of notices, behind those that waited
abbrev Makes : Machine → Machine × Taken → Type 0
Makes m x = x.0.notices ≡ m.notices ++ told_of (kinds_of_take x.1) x.0

take_makes : (m : Machine) (now : ℕ) → Makes m (on_take m now)
take_makes m now = of_waiting m.waiting
  where
    none : m.notices ≡ m.notices ++ []
    none = sym (append-nil m.notices)

    of_radiation : (ws : List Cltu) → Makes m (on_radiation_of ws m now)
    of_radiation [] = none
    of_radiation (w ∷ ws) = none

    by_tests : (w : Cltu) (idle late early : Bool)
        → Makes m (if idle then (m, Idle) else if late then (expired w.id m, Expired w.id)
        else if early then (m, Waits (begins_at m w)) else on_radiation m now)
    by_tests w true late early = none
    by_tests w false true early = refl
    by_tests w false false true = none
    by_tests w false false false = of_radiation m.waiting

    of_waiting : (ws : List Cltu) → Makes m (on_take_of ws m now)
    of_waiting [] = none
    of_waiting (w ∷ ws) =
        by_tests w (is_idle m) (is_above (Some now) (latest_of w)) (nat_lt now (begins_at m w))

-- the notices at the end of a radiation
end_makes : (y : Machine) (wanted empty : Bool) →
    let x : Machine = with_radiation_notice wanted y in
    let z : Machine = if empty then with_notice kind.BufferEmpty x else x in
    z.notices ≡ y.notices ++ told_of (kinds_of_end wanted empty) z
end_makes y true true = append_assoc y.notices _ _
end_makes y true false = refl
end_makes y false true = refl
end_makes y false false = sym (append-nil y.notices)

waiting_same : (wanted : Bool) (y : Machine) → (with_radiation_notice wanted y).waiting ≡ y.waiting
waiting_same true y = refl
waiting_same false y = refl

ended_makes : (m : Machine) (a : InAir) (now : ℕ)
    → (ended a now m).notices
    ≡ m.notices ++ told_of (kinds_of_end a.wanted (length m.waiting == 0)) (ended a now m)
ended_makes m a now =
    let y = radiated_at a now m in
    end_makes y a.wanted (length (with_radiation_notice a.wanted y).waiting == 0)
    ∙ ap (λ ws. m.notices ++ told_of (kinds_of_end a.wanted (length ws == 0)) (ended a now m))
    (waiting_same a.wanted y)

done_makes : (m : Machine) (run id now : ℕ)
    → (on_done m run id now).notices
    ≡ m.notices
    ++ told_of (where_in_air m run id (λ a. kinds_of_end a.wanted (length m.waiting == 0)))
    (on_done m run id now)
done_makes m run id now = of_air m.in_air
  where
    by_cases : (a : InAir) (this mine : Bool) →
        let x : Machine = if not this then m else if mine then ended a now m else landed m in
        x.notices ≡ m.notices
        ++ told_of (if this && mine then kinds_of_end a.wanted (length m.waiting == 0) else []) x
    by_cases a true true = ended_makes m a now
    by_cases a true false = sym (append-nil m.notices)
    by_cases a false mine = sym (append-nil m.notices)

    of_air : (o : Option InAir) → (on_done_of o m run id now).notices
        ≡ m.notices
        ++ told_of (option_map_or (λ a. if is_this run id a && is_of_run m a
        then kinds_of_end a.wanted (length m.waiting == 0) else []) o [])
        (on_done_of o m run id now)
    of_air None = sym (append-nil m.notices)
    of_air (Some a) = by_cases a (is_this run id a) (is_of_run m a)

interrupted_makes : (m : Machine) (run id : ℕ)
    → (on_interrupted m run id).notices
    ≡ m.notices ++ told_of (where_in_air m run id (λ _. kind.ProductionInterrupted ∷ []))
    (on_interrupted m run id)
interrupted_makes m run id = of_air m.in_air
  where
    by_cases : (a : InAir) (this mine : Bool) →
        let x : Machine = if not this then m else if mine then broken_off a m else landed m in
        x.notices
        ≡ m.notices ++ told_of (if this && mine then kind.ProductionInterrupted ∷ [] else []) x
    by_cases a true true = refl
    by_cases a true false = sym (append-nil m.notices)
    by_cases a false mine = sym (append-nil m.notices)

    of_air : (o : Option InAir) → (on_interrupted_of o m run id).notices
        ≡ m.notices
        ++ told_of (option_map_or (λ a. if is_this run id a && is_of_run m a
        then kind.ProductionInterrupted ∷ [] else []) o []) (on_interrupted_of o m run id)
    of_air None = sym (append-nil m.notices)
    of_air (Some a) = by_cases a (is_this run id a) (is_of_run m a)

uplink_makes : (m : Machine) (production : CltuProductionStatus) (status : UplinkStatus) →
    let made : List Notice = told_of (if m.started && not (is_same m.production production)
    then kinds_of_production production else []) (on_uplink m production status) in
    (on_uplink m production status).notices
    ≡ unreplaced (not (length made == 0) && ends_with_production m.notices) m.notices ++ made
uplink_makes m production status =
    by_change production (m.started && not (is_same m.production production))
  where
    by_change : (p : CltuProductionStatus) (b : Bool) →
        let set : Machine = record m { production = p; status = status } in
        let x : Machine = if b then changed_to p set else set in
        let made : List Notice = told_of (if b then kinds_of_production p else []) x in
        x.notices
        ≡ unreplaced (not (length made == 0) && ends_with_production m.notices) m.notices ++ made
    by_change Operational true = refl
    by_change Configured true = sym (append-nil m.notices)
    by_change Interrupted true = refl
    by_change Halted true = refl
    by_change p false = sym (append-nil m.notices)

-- ---- what an ask leaves of a run

or_left : (a b : Bool) → (a || b) ≡ false → a ≡ false
or_left true b e = absurd (cc e)
or_left false b e = refl

-- a door has the forward service's instance, and its run is started
pub record Runs (s : State) (door : ℕ) : Type 0 where
  pub one : HasOneForward s.opening.services
  pub forward : has_forward s door ≡ true
  pub started : s.queue.started ≡ true

-- the run goes on, and its notices are the same
record GoesOn (s t : State) (door : ℕ) : Type 0 where
  runs : Runs t door
  same : t.queue.notices ≡ s.queue.notices

runs_on : (s : State) (door : ℕ) → Runs s door → GoesOn s s door
runs_on s door r = record { runs = r; same = refl }

transfer_same : (m : Machine) (cltu : Cltu) (now : ℕ)
    → (on_transfer m cltu now).0.notices ≡ m.notices
transfer_same m cltu now = at_refusal (refusal m cltu now)
  where
    at_refusal : (r : Option CltuTransferDataDiagnostic)
        → (queued_unless r m cltu).0.notices ≡ m.notices
    at_refusal None = refl
    at_refusal (Some d) = refl

-- what the door itself asks, unless it stops the run
own_ask : (s : State) (door now : ℕ) (wanted : Ask) → Runs s door
    → is_stop (reply_of s door now wanted) ≡ false → GoesOn s (asked s door now wanted) door
own_ask s door now wanted r goes = by_lost (is_lost s door wanted) refl goes
  where
    bound : is_some (instance_of s door) ≡ true
    bound = ap is_some (forwards s door r.forward).stands

    fits : (x : Ask) → is_lost s door x ≡ false → is_stop (reply_asked s door now x) ≡ false
        → GoesOn s (with_ask s door now x) door
    fits ask.Nothing l g = record {
      runs = record { one = r.one; forward = r.forward; started = r.started };
      same = refl;
    }
    fits ask.Quiet l g = record {
      runs = record { one = r.one; forward = r.forward; started = r.started };
      same = refl;
    }
    fits (ask.Bind i) l g =
        let none : is_some (instance_of s door) ≡ false = or_left (is_some (instance_of s door))
        (not (nat_lt i (length s.opening.services))) l in
        absurd (cc (bound, none))
    fits ask.Unbind l g = absurd (cc g)
    fits (ask.CltuStart first) l g =
        let none : s.queue.started ≡ false =
        or_right (not (has_forward s door)) s.queue.started l in
        absurd (cc (none, r.started))
    fits (ask.CltuTransfer cltu) l g = record {
      runs = record {
        one = r.one;
        forward = r.forward;
        started = started_transfer s.queue cltu now ∙ r.started;
      };
      same = transfer_same s.queue cltu now;
    }
    fits ask.CltuStop l g = absurd (cc g)

    by_lost : (b : Bool) → is_lost s door wanted ≡ b
        → is_stop (if b then Lost else reply_asked s door now wanted) ≡ false
        → GoesOn s (if b then s else with_ask s door now wanted) door
    by_lost true l g = runs_on s door r
    by_lost false l g = fits wanted l g

-- what another door asks
other_ask : (s : State) (door other now : ℕ) (wanted : Ask) → Runs s door
    → (other == door) ≡ false → GoesOn s (asked s other now wanted) door
other_ask s door other now wanted r apart = record {
  runs = record {
    one = subst (λ o. HasOneForward o.services) (sym opening) r.one;
    forward = ap (λ o. option_map_or (λ place. is_forward (slice_get o.services place))
        (instance_of (asked s other now wanted) door) false) opening
        ∙ ap (λ i. option_map_or (λ place. is_forward (slice_get s.opening.services place)) i false)
        (answer_leaves s door other now wanted apart) ∙ r.forward;
    started = ask_leaves_run s other now wanted none ∙ r.started;
  };
  same = by_lost (is_lost s other wanted) refl;
}
  where
    none : has_forward s other ≡ false
    none = other_has_none s door other r.one apart r.forward

    opening : (asked s other now wanted).opening ≡ s.opening
    opening = asked_keeps (λ t. t.opening) s other now wanted refl

    no_start : not (has_forward s other) ≡ true
    no_start = ap not none

    no_stop : not (is_running s other) ≡ true
    no_stop = ap not (not_running s other none)

    fits : (x : Ask) → is_lost s other x ≡ false
        → (queue_asked s other now x).notices ≡ s.queue.notices
    fits ask.Nothing l = refl
    fits ask.Quiet l = refl
    fits (ask.Bind i) l = refl
    fits ask.Unbind l = ap (λ b. (if b then on_stop s.queue else s.queue).notices)
        (not_running s other none)
    fits (ask.CltuStart first) l =
        let none_lost : not (has_forward s other) ≡ false =
        or_left (not (has_forward s other)) s.queue.started l in
        absurd (cc (no_start, none_lost))
    fits (ask.CltuTransfer cltu) l = transfer_same s.queue cltu now
    fits ask.CltuStop l = absurd (cc (no_stop, l))

    by_lost : (b : Bool) → is_lost s other wanted ≡ b
        → (if b then s else with_ask s other now wanted).queue.notices ≡ s.queue.notices
    by_lost true l = refl
    by_lost false l = fits wanted l

-- ---- what a call does in a run

-- what a call of a run's events tells and makes
pub record OneTold (s : State) (door : ℕ) (call : Call) : Type 0 where
  pub runs : Runs (after s call) door
  pub told : unreplaced (replaces s call) s.queue.notices ++ notices_made s call
      ≡ cons_option (notice_at door call (reply_to s call)) (after s call).queue.notices
  pub here : notice_in (reply_to s call) ≡ notice_at door call (reply_to s call)

notice_first : (ns : List Notice) (m : Machine) → m.notices ≡ ns
    → ns ≡ cons_option (on_notice_of ns m).1 (on_notice_of ns m).0.notices
notice_first [] m e = sym e
notice_first (n ∷ ns) m e = refl

-- whether a notice is told or not
tells : (b : Bool) (s : State) (q : Machine) → q.notices ≡ s.queue.notices
    → s.queue.notices ++ []
    ≡ cons_option (if b then (on_notice q).1 else None) (if b then (on_notice q).0 else q).notices
tells true s q e = append-nil s.queue.notices ∙ sym e ∙ notice_first q.notices q refl
tells false s q e = append-nil s.queue.notices ∙ sym e

own_answer : (s : State) (door reading : ℕ) (wanted : Ask) (want : Want) → Runs s door
    → is_stop (reply_of s door (moment_at s reading) wanted) ≡ false
    → (b : Bool) → b ≡ true → (n : Option Notice)
    → n ≡ (answer_to s door (moment_at s reading) wanted want).notice
    → (unreplaced false s.queue.notices ++ []
    ≡ cons_option (if b then n else None)
    (queue_answered s door (moment_at s reading) wanted).notices)
    × (n ≡ (if b then n else None))
own_answer s door reading wanted want r goes true e n is =
    let now = moment_at s reading in
    let on = own_ask s door now wanted r goes in (
      rw is (tells (is_told s door now wanted) s (asked s door now wanted).queue on.same),
      refl,
    )
own_answer s door reading wanted want r goes false e n is = absurd (cc e)

other_answer : (s : State) (door other reading : ℕ) (wanted : Ask) (want : Want) → Runs s door
    → (b : Bool) → (other == door) ≡ b → b ≡ false → (n : Option Notice)
    → n ≡ (answer_to s other (moment_at s reading) wanted want).notice
    → (unreplaced false s.queue.notices ++ []
    ≡ cons_option (if b then n else None)
    (queue_answered s other (moment_at s reading) wanted).notices)
    × (n ≡ (if b then n else None))
other_answer s door other reading wanted want r true apart e n is = absurd (cc e)
other_answer s door other reading wanted want r false apart e n is =
    let now = moment_at s reading in
    let on = other_ask s door other now wanted r apart in
    let none : has_forward (asked s other now wanted) other ≡ false =
    other_has_none (asked s other now wanted) door other on.runs.one apart on.runs.forward in
    let quiet : is_told s other now wanted ≡ false =
    untold (is_lost s other wanted) _ (is_running (asked s other now wanted) other)
    (not_running (asked s other now wanted) other none) in (
      append-nil s.queue.notices ∙ sym on.same
          ∙ ap (λ b. (if b then (on_notice (asked s other now wanted).queue).0
          else (asked s other now wanted).queue).notices) (sym quiet),
      is ∙ ap (λ b. if b then (on_notice (asked s other now wanted).queue).1 else None) quiet,
    )
  where
    untold : (a b c : Bool) → c ≡ false → (not a && b && c) ≡ false
    untold a b c e = grind arith

-- what a call makes where it tells nothing
untold_made : (s : State) (call : Call) → replaces s call ≡ false
    → (after s call).queue.notices ≡ s.queue.notices ++ notices_made s call
    → unreplaced (replaces s call) s.queue.notices ++ notices_made s call
    ≡ (after s call).queue.notices
untold_made s call none made =
    ap (λ b. unreplaced b s.queue.notices ++ notices_made s call) none ∙ sym made

runs_after : (s : State) (door : ℕ) (call : Call) → Runs s door → is_by door call ≡ false
    → Runs (after s call) door
runs_after s door call r apart = record {
  one = subst (λ o. HasOneForward o.services) (sym (opening_stays s call)) r.one;
  forward = forward_stays s call door apart ∙ r.forward;
  started = call_leaves_run s call door r.one apart r.forward ∙ r.started;
}

quiet_reply : (b : Bool) → notice_in (if b then accepted else foreign) ≡ None
quiet_reply true = refl
quiet_reply false = refl

publish_same : (b : Bool) (s t : State) → t.queue ≡ s.queue
    → s.queue.notices ++ [] ≡ (if b then t else s).queue.notices
publish_same true s t e = append-nil s.queue.notices ∙ ap (λ q. q.notices) (sym e)
publish_same false s t e = append-nil s.queue.notices

answered_runs : (s : State) (by reading : ℕ) (wanted : Ask) (want : Want) (door : ℕ)
    → Runs (asked s by (moment_at s reading) wanted) door
    → Runs (after s (answer by reading wanted want)) door
answered_runs s by reading wanted want door r = record {
  one = r.one;
  forward = r.forward;
  started = started_told s by (moment_at s reading) wanted ∙ r.started;
}

same_door : (other door : ℕ) → (other == door) ≡ true → other ≡ door
same_door other door e = grind (arith, nat_tests)

by_answer : (s : State) (door other reading : ℕ) (wanted : Ask) (want : Want) → Runs s door
    → (b : Bool) → (other == door) ≡ b
    → (b && is_stop (reply_of s other (moment_at s reading) wanted)) ≡ false
    → OneTold s door (answer other reading wanted want)
by_answer s door other reading wanted want r true e goes =
    let now = moment_at s reading in
    let same : other ≡ door = same_door other door e in
    subst (λ d. OneTold s door (answer d reading wanted want)) (sym same)
    (own s door reading wanted want r
    (subst (λ d. is_stop (reply_of s d (moment_at s reading) wanted) ≡ false) same goes))
  where
    itself : (d : ℕ) → (d == d) ≡ true
    itself d = grind (arith, nat_tests)

    own : (s : State) (d reading : ℕ) (wanted : Ask) (want : Want) → Runs s d
        → is_stop (reply_of s d (moment_at s reading) wanted) ≡ false
        → OneTold s d (answer d reading wanted want)
    own s d reading wanted want r goes =
        let n = (answer_to s d (moment_at s reading) wanted want).notice in
        let both = own_answer s d reading wanted want r goes (d == d) (itself d) n refl in
        record {
          runs = answered_runs s d reading wanted want d
              (own_ask s d (moment_at s reading) wanted r goes).runs;
          told = both.0;
          here = both.1;
        }
by_answer s door other reading wanted want r false e goes =
    let n = (answer_to s other (moment_at s reading) wanted want).notice in
    let both = other_answer s door other reading wanted want r (other == door) refl e n refl in
    record {
      runs = answered_runs s other reading wanted want door
          (other_ask s door other (moment_at s reading) wanted r e).runs;
      told = both.0;
      here = both.1;
    }

one_told : (s : State) (door : ℕ) (call : Call) → Runs s door
    → stops_by door call (reply_to s call) ≡ false → OneTold s door call
one_told s door (publish entries) r goes = record {
  runs = runs_after s door (publish entries) r refl;
  told = publish_same (may_publish s entries) s
      (record s { published = s.published ++ entries }) refl;
  here = quiet_reply (may_publish s entries);
}
one_told s door (answer other reading wanted want) r goes =
    by_answer s door other reading wanted want r (other == door) refl goes
one_told s door (quit other) r goes = record {
  runs = runs_after s door (quit other) r goes;
  told = append-nil s.queue.notices
      ∙ sym (ap (λ b. (if b then on_stop s.queue else s.queue).notices)
      (not_running s other (other_has_none s door other r.one goes r.forward)));
  here = refl;
}
one_told s door (take reading) r goes = record {
  runs = runs_after s door (take reading) r refl;
  told = untold_made s (take reading) refl (take_makes s.queue (moment_at s reading));
  here = refl;
}
one_told s door (done run id reading) r goes = record {
  runs = runs_after s door (done run id reading) r refl;
  told = untold_made s (done run id reading) refl
      (done_makes s.queue run id (moment_at s reading));
  here = refl;
}
one_told s door (interrupted run id reading) r goes = record {
  runs = runs_after s door (interrupted run id reading) r refl;
  told = untold_made s (interrupted run id reading) refl (interrupted_makes s.queue run id);
  here = refl;
}
one_told s door (uplink production status reading) r goes = record {
  runs = runs_after s door (uplink production status reading) r refl;
  told = sym (uplink_makes s.queue production status);
  here = refl;
}
one_told s door (gone worker) r goes = record {
  runs = runs_after s door (gone worker) r refl;
  told = append-nil s.queue.notices;
  here = refl;
}

-- ---- a START

either_ok : (b : Bool) (x y : Machine × Result (Unit {0}) CltuStartDiagnostic) (n : Machine)
    → (x.1 ≡ Ok tt → x.0 ≡ n) → (y.1 ≡ Ok tt → y.0 ≡ n) → (if b then x else y).1 ≡ Ok tt
    → (if b then x else y).0 ≡ n
either_ok true x y n p q = p
either_ok false x y n p q = q

start_ok : (m : Machine) (first : ℕ) → (on_start m first).1 ≡ Ok tt
    → (on_start m first).0 ≡ new_run first m
start_ok m first =
    either_ok (is_halted m.production) _ _ (new_run first m) (λ e. absurd (cc e))
    (either_ok (is_interrupted m.production || m.run == last_run) _ _ (new_run first m)
    (λ e. absurd (cc e)) (λ e. refl))

-- the run that a START began, in which no notice waits yet
record Begins (s : State) (door : ℕ) : Type 0 where
  runs : Runs s door
  none : s.queue.notices ≡ []

start_first : (ns : List Notice) (m : Machine) → ns ≡ [] → (on_notice_of ns m).0 ≡ m
start_first [] m e = refl
start_first (n ∷ ns) m e = absurd (cc e)

-- the queue of a run that has just begun, whether or not it is asked for a notice
begun_queue : (b : Bool) (q m : Machine) (first : ℕ) → q ≡ new_run first m → m.notices ≡ []
    → (if b then (on_notice q).0 else q) ≡ new_run first m
begun_queue true q m first is none =
    start_first q.notices q (ap (λ n. n.notices) is ∙ none) ∙ is
begun_queue false q m first is none = is

at_start : (s : State) (other reading first door : ℕ) (want : Want) (lost : Bool)
    → HasOneForward s.opening.services → RestsBetween s.queue
    → is_lost s other (ask.CltuStart first) ≡ lost
    → where_started other (if lost then Lost
    else start_reply (moment_at s reading) (on_start s.queue first).1) ≡ Some door
    → Begins (after s (answer other reading (ask.CltuStart first) want)) door
at_start s other reading first door want true one rests e is = absurd (cc is)
at_start s other reading first door want false one rests e is =
    let ok = started_ok (on_start s.queue first).1 is in
    let same : other ≡ door = ok.0 in
    let idle : s.queue.started ≡ false = or_right _ _ e in
    let queue_is : (after s call).queue ≡ new_run first s.queue =
    begun_queue (is_told s other (moment_at s reading) (ask.CltuStart first))
    (asked s other (moment_at s reading) (ask.CltuStart first)).queue s.queue first
    (ap (λ b. (if b then s
    else with_ask s other (moment_at s reading) (ask.CltuStart first)).queue) e
    ∙ start_ok s.queue first ok.1) (rests idle).notices in
    record {
      runs = record {
        one = subst (λ o. HasOneForward o.services) (sym (opening_stays s call)) one;
        forward = forward_asked (is_lost s other (ask.CltuStart first))
            ∙ ap (has_forward s) (sym same) ∙ has (has_forward s other) s.queue.started e;
        started = ap (λ q. q.started) queue_is;
      };
      none = ap (λ q. q.notices) queue_is ∙ (rests idle).notices;
    }
  where
    call : Call
    call = answer other reading (ask.CltuStart first) want

    started_ok : (r : Result (Unit {0}) CltuStartDiagnostic)
        → where_started other (start_reply (moment_at s reading) r) ≡ Some door
        → (other ≡ door) × (r ≡ Ok tt)
    started_ok (Ok u) e = (cc e, refl)
    started_ok (Err d) e = absurd (cc e)

    has : (a b : Bool) → (not a || b) ≡ false → a ≡ true
    has true b e = refl
    has false b e = absurd (cc e)

    forward_asked : (b : Bool)
        → has_forward (if b then s
        else with_ask s other (moment_at s reading) (ask.CltuStart first)) door
        ≡ has_forward s door
    forward_asked true = refl
    forward_asked false = refl

begins : (s : State) (call : Call) (door : ℕ) → HasOneForward s.opening.services
    → RestsBetween s.queue → door_of_run (event_at s call) ≡ Some door
    → Begins (after s call) door
begins s (publish entries) door one rests is = absurd (cc is)
begins s (answer other reading ask.Nothing want) door one rests is = absurd (cc is)
begins s (answer other reading ask.Quiet want) door one rests is = absurd (cc is)
begins s (answer other reading (ask.Bind i) want) door one rests is = absurd (cc is)
begins s (answer other reading ask.Unbind want) door one rests is = absurd (cc is)
begins s (answer other reading (ask.CltuStart first) want) door one rests is =
    at_start s other reading first door want (is_lost s other (ask.CltuStart first)) one rests refl
    is
begins s (answer other reading (ask.CltuTransfer cltu) want) door one rests is = absurd (cc is)
begins s (answer other reading ask.CltuStop want) door one rests is = absurd (cc is)
begins s (quit other) door one rests is = absurd (cc is)
begins s (take reading) door one rests is = absurd (cc is)
begins s (done run id reading) door one rests is = absurd (cc is)
begins s (interrupted run id reading) door one rests is = absurd (cc is)
begins s (uplink production status reading) door one rests is = absurd (cc is)
begins s (gone worker) door one rests is = absurd (cc is)

-- ---- a run's events

-- the last of notices goes where some stand behind others
unreplaced_behind : (b : Bool) (before waiting : List Notice)
    → (b ≡ true → ends_with_production waiting ≡ true)
    → unreplaced b (before ++ waiting) ≡ before ++ unreplaced b waiting
unreplaced_behind false before waiting some = refl
unreplaced_behind true before [] some = absurd (cc (some refl))
unreplaced_behind true before (n ∷ ns) some =
    let count : length (before ++ n ∷ ns) - 1 ≡ length before + (length (n ∷ ns) - 1) =
    omega (arith, length-append before (n ∷ ns)) in
    ap (λ k. front k (before ++ n ∷ ns)) count ∙ take-append-add before (n ∷ ns) _

replaced_ends : (s : State) (call : Call) → replaces s call ≡ true
    → ends_with_production s.queue.notices ≡ true
replaced_ends s (uplink production status reading) e =
    last_of (not (length (notices_made s (uplink production status reading)) == 0)) _ e
  where
    last_of : (a b : Bool) → (a && b) ≡ true → b ≡ true
    last_of a b e = grind arith
replaced_ends s (publish entries) e = absurd (cc e)
replaced_ends s (answer other reading wanted want) e = absurd (cc e)
replaced_ends s (quit other) e = absurd (cc e)
replaced_ends s (take reading) e = absurd (cc e)
replaced_ends s (done run id reading) e = absurd (cc e)
replaced_ends s (interrupted run id reading) e = absurd (cc e)
replaced_ends s (gone worker) e = absurd (cc e)

told_next : (before : List Notice) (n : Option Notice) (rest : List Notice)
    → before ++ cons_option n rest ≡ (before ++ cons_option n []) ++ rest
told_next before None rest = ap (λ xs. xs ++ rest) (sym (append-nil before))
told_next before (Some n) rest = sym (append_assoc before (n ∷ []) rest)

told_then : (n : Option Notice) (told rest : List Notice)
    → cons_option n [] ++ (told ++ rest) ≡ cons_option n told ++ rest
told_then None told rest = refl
told_then (Some n) told rest = refl

none_stops : (a b : Bool) → (a || b) ≡ false → (a ≡ false) × (b ≡ false)
none_stops a b e = grind arith

-- a run's events tell in turn what waited and what they make
all_told : (s : State) (door : ℕ) (before : List Notice) (events : List Event) → Runs s door
    → IsLegal s events → list_any (λ e. stops_by door e.call e.reply) events ≡ false
    → kept_behind (before ++ s.queue.notices) s events
    ≡ before ++ (told_at door events ++ (replay s events).queue.notices)
all_told s door before [] r legal goes = refl
all_told s door before (e ∷ events) r legal goes =
    let parts = none_stops _ _ goes in
    let one = one_told s door e.call r
    (subst (λ x. stops_by door x.call x.reply ≡ false) legal.0 parts.0) in
    let n = notice_at door e.call (reply_to s e.call) in
    let t = then_after s e in
    let kept : unreplaced (replaces s e.call) (before ++ s.queue.notices) ++ notices_made s e.call
    ≡ (before ++ cons_option n []) ++ t.queue.notices =
    ap (λ xs. xs ++ notices_made s e.call)
    (unreplaced_behind (replaces s e.call) before s.queue.notices (replaced_ends s e.call))
    ∙ append_assoc before _ _ ∙ ap (λ xs. before ++ xs) one.told
    ∙ told_next before n t.queue.notices in
    let told : notice_at door e.call e.reply ≡ n =
    ap (λ x. notice_at door x.call x.reply) legal.0 in
    ap (λ xs. kept_behind xs t events) kept
    ∙ all_told t door (before ++ cons_option n []) events one.runs legal.1 parts.1
    ∙ append_assoc before (cons_option n []) _
    ∙ ap (λ xs. before ++ xs)
    (told_then n (told_at door events) (replay t events).queue.notices
    ∙ ap (λ o. cons_option o (told_at door events) ++ (replay t events).queue.notices) (sym told))

all_here : (s : State) (door : ℕ) (events : List Event) → Runs s door → IsLegal s events
    → list_any (λ e. stops_by door e.call e.reply) events ≡ false
    → notices_told events ≡ told_at door events
all_here s door [] r legal goes = refl
all_here s door (e ∷ events) r legal goes =
    let parts = none_stops _ _ goes in
    let one = one_told s door e.call r
    (subst (λ x. stops_by door x.call x.reply ≡ false) legal.0 parts.0) in
    let here : notice_in e.reply ≡ notice_at door e.call e.reply =
    ap (λ x. notice_in x.reply) legal.0 ∙ one.here
    ∙ sym (ap (λ x. notice_at door x.call x.reply) legal.0) in
    ap (λ o. cons_option o (notices_told events)) here
    ∙ ap (λ xs. cons_option (notice_at door e.call e.reply) xs)
    (all_here (then_after s e) door events one.runs legal.1 parts.1)

false_of : (b : Bool) → IsTrue (not b) → b ≡ false
false_of true e = absurd (cc e)
false_of false e = refl

pub told_in_turn : (o : Opening) (h : List Event) (e : Event) (k : List Event) (door : ℕ)
    → HasOneForward o.services → IsLegal (opened o) (h ++ e ∷ k) → door_of_run e ≡ Some door
    → IsTrue (are_before_stop door k)
    → IsToldInTurn (replay (opened o) (h ++ e ∷ [])) door k
told_in_turn o h e k door one legal is goes =
    let s = replay (opened o) h in
    let on = legal_goes_on (opened o) h (e ∷ k) legal in
    let one_here : HasOneForward s.opening.services =
    subst (λ x. HasOneForward x.services) (sym (opening_stays_over (opened o) h)) one in
    let begun = begins s e.call door one_here (rests_between o h)
    (ap door_of_run (sym on.0) ∙ is) in
    let none = false_of _ goes in
    subst (λ t. IsToldInTurn t door k) (sym (fold-append then_after (opened o) h (e ∷ [])))
    (record {
      in_turn = ap (λ xs. kept_behind xs (then_after s e) k) (sym begun.none)
          ∙ all_told (then_after s e) door [] k begun.runs on.1 none;
      nowhere_else = all_here (then_after s e) door k begun.runs on.1 none;
    })
