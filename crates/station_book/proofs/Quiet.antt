-- Where no run is started nothing waits in the queue, and no notice does.
use Rattle.std.proofs.Common.{◌≡◌, ℕ, Bool, true, false, not, ◌&&◌, ◌||◌, ◌==◌, if◌then◌else◌}
use Rattle.std.proofs.Common.{Option, Some, None, List, [], ◌∷◌, ◌++◌, refl, ap, sym, subst, ◌∙◌}
use Rattle.fcltu_numbers.specs.declared.cltu_production_status.CltuProductionStatus.{CltuProductionStatus}
use Rattle.fcltu_numbers.specs.declared.uplink_status.UplinkStatus.{UplinkStatus}
use Rattle.cltu_queue.specs.Machine.{Machine, on_start, on_stop, on_take, on_take_of, on_done}
use Rattle.cltu_queue.specs.Machine.{on_done_of, on_interrupted, on_interrupted_of, on_uplink}
use Rattle.cltu_queue.specs.Machine.{on_notice, on_notice_of, is_this, is_of_run, is_same, landed}
use Rattle.cltu_queue.specs.Machine.{ended, broken_off, changed_to, new_run, is_halted}
use Rattle.cltu_queue.specs.Machine.{is_interrupted, on_transfer}
use Rattle.cltu_queue.specs.Limits.{last_run}
use Rattle.cltu_queue.specs.declared.in_air.InAir.{InAir}
use Rattle.cltu_queue.specs.declared.notice.Notice.{Notice}
use Rattle.cltu_queue.specs.declared.ask.Ask.{Ask}
use Rattle.cltu_queue.specs.declared.ask.Ask.TheVariants as ask
use Rattle.station_book.specs.State.{State, Opening, opened, Event, Call, publish, answer, quit}
use Rattle.station_book.specs.State.{take, done, interrupted, uplink, gone}
use Rattle.station_book.specs.History.{moment_at, is_running, is_lost}
use Rattle.station_book.specs.History.{queue_asked, with_ask, asked, is_told, may_publish, after}
use Rattle.station_book.specs.History.{then_after, replay}
use Rattle.station_book.proofs.Doors.{started_take, started_done, started_interrupted}
use Rattle.station_book.proofs.Doors.{started_uplink, started_transfer}
use Rattle.station_book.proofs.Radiating.{of_both}

pub record Rests (m : Machine) : Type 0 where
  pub notices : m.notices ≡ []
  pub waiting : m.waiting ≡ []

abbrev pub RestsBetween : Machine → Type 0
RestsBetween m = m.started ≡ false → Rests m

either : (b : Bool) (x y : Machine) → RestsBetween x → RestsBetween y
    → RestsBetween (if b then x else y)
either true x y p q = p
either false x y p q = q

-- what changes nothing of a run that isn't started
pub record Leaves (m n : Machine) : Type 0 where
  pub started : n.started ≡ m.started
  pub same : m.started ≡ false → Rests m → Rests n

leaves : (m n : Machine) → Leaves m n → RestsBetween m → RestsBetween n
leaves m n l r e =
    let none : m.started ≡ false = sym l.started ∙ e in
    l.same none (r none)

running : (m : Machine) → m.started ≡ true → RestsBetween m
running m one e = absurd (cc (one, e))

either_start : {X : Type 0} → (b : Bool) (x y : Machine × X) → RestsBetween x.0
    → RestsBetween y.0 → RestsBetween (if b then x else y).0
either_start true x y p q = p
either_start false x y p q = q

start_rests : (m : Machine) (first : ℕ) → RestsBetween m → RestsBetween (on_start m first).0
start_rests m first r =
    either_start (is_halted m.production) _ _ r
    (either_start (is_interrupted m.production || m.run == last_run) _ _ r
    (running (new_run first m) refl))

stop_rests : (m : Machine) → RestsBetween (on_stop m)
stop_rests m e = record { notices = refl; waiting = refl }

take_rests : (m : Machine) (now : ℕ) → RestsBetween m → RestsBetween (on_take m now).0
take_rests m now = leaves m (on_take m now).0 (record {
  started = started_take m now;
  same = λ _ rests. subst (λ n. Rests n)
      (sym (ap (λ ws. (on_take_of ws m now).0) rests.waiting)) rests;
})

done_rests : (m : Machine) (run id now : ℕ) → RestsBetween m → RestsBetween (on_done m run id now)
done_rests m run id now = leaves m (on_done m run id now) (record {
  started = started_done m run id now;
  same = λ e rests. of_air e rests m.in_air;
})
  where
    by_cases : Rests m → (a : InAir) (this mine : Bool) → mine ≡ false
        → Rests (if not this then m else if mine then ended a now m else landed m)
    by_cases rests a false mine e = rests
    by_cases rests a true false e = record { notices = rests.notices; waiting = rests.waiting }
    by_cases rests a true true e = absurd (cc e)

    of_air : m.started ≡ false → Rests m → (o : Option InAir) → Rests (on_done_of o m run id now)
    of_air e rests None = rests
    of_air e rests (Some a) =
        by_cases rests a (is_this run id a) (is_of_run m a) (ap (λ b. b && a.run == m.run) e)

interrupted_rests : (m : Machine) (run id : ℕ) → RestsBetween m
    → RestsBetween (on_interrupted m run id)
interrupted_rests m run id = leaves m (on_interrupted m run id) (record {
  started = started_interrupted m run id;
  same = λ e rests. of_air e rests m.in_air;
})
  where
    by_cases : Rests m → (a : InAir) (this mine : Bool) → mine ≡ false
        → Rests (if not this then m else if mine then broken_off a m else landed m)
    by_cases rests a false mine e = rests
    by_cases rests a true false e = record { notices = rests.notices; waiting = rests.waiting }
    by_cases rests a true true e = absurd (cc e)

    of_air : m.started ≡ false → Rests m → (o : Option InAir) → Rests (on_interrupted_of o m run id)
    of_air e rests None = rests
    of_air e rests (Some a) =
        by_cases rests a (is_this run id a) (is_of_run m a) (ap (λ b. b && a.run == m.run) e)

uplink_rests : (m : Machine) (production : CltuProductionStatus) (status : UplinkStatus)
    → RestsBetween m → RestsBetween (on_uplink m production status)
uplink_rests m production status = leaves m (on_uplink m production status) (record {
  started = started_uplink m production status;
  same = λ e rests. by_change rests (m.started && not (is_same m.production production))
      (ap (λ b. b && not (is_same m.production production)) e);
})
  where
    set : Machine
    set = record m { production = production; status = status }

    by_change : Rests m → (b : Bool) → b ≡ false
        → Rests (if b then changed_to production set else set)
    by_change rests true e = absurd (cc e)
    by_change rests false e = record { notices = rests.notices; waiting = rests.waiting }

notice_rests : (m : Machine) → RestsBetween m → RestsBetween (on_notice m).0
notice_rests m r = of_notices m.notices refl
  where
    of_notices : (ns : List Notice) → m.notices ≡ ns → RestsBetween (on_notice_of ns m).0
    of_notices [] e = r
    of_notices (n ∷ ns) e = λ none. absurd (cc (e, (r none).notices))

-- ---- over calls

ask_rests : (s : State) (door now : ℕ) (ask : Ask) → is_lost s door ask ≡ false
    → RestsBetween s.queue → RestsBetween (queue_asked s door now ask)
ask_rests s door now ask.Nothing fits r = r
ask_rests s door now ask.Quiet fits r = r
ask_rests s door now (ask.Bind i) fits r = r
ask_rests s door now ask.Unbind fits r =
    either (is_running s door) (on_stop s.queue) s.queue (stop_rests s.queue) r
ask_rests s door now (ask.CltuStart first) fits r = start_rests s.queue first r
ask_rests s door now (ask.CltuTransfer cltu) fits r =
    running (on_transfer s.queue cltu now).0 (started_transfer s.queue cltu now ∙ of_both _ _ fits)
ask_rests s door now ask.CltuStop fits r = stop_rests s.queue

asked_rests : (s : State) (door now : ℕ) (ask : Ask) → RestsBetween s.queue
    → RestsBetween (asked s door now ask).queue
asked_rests s door now ask r = by_lost (is_lost s door ask) refl
  where
    by_lost : (b : Bool) → is_lost s door ask ≡ b
        → RestsBetween (if b then s else with_ask s door now ask).queue
    by_lost true e = r
    by_lost false e = ask_rests s door now ask e r

publish_rests : (b : Bool) (s t : State) → RestsBetween s.queue → RestsBetween t.queue
    → RestsBetween (if b then s else t).queue
publish_rests true s t p q = p
publish_rests false s t p q = q

call_rests : (s : State) (call : Call) → RestsBetween s.queue → RestsBetween (after s call).queue
call_rests s (publish entries) r =
    publish_rests (may_publish s entries) (record s { published = s.published ++ entries }) s r r
call_rests s (answer door reading ask want) r =
    let now = moment_at s reading in
    let q = (asked s door now ask).queue in
    either (is_told s door now ask) (on_notice q).0 q
    (notice_rests q (asked_rests s door now ask r)) (asked_rests s door now ask r)
call_rests s (quit door) r =
    either (is_running s door) (on_stop s.queue) s.queue (stop_rests s.queue) r
call_rests s (take reading) r = take_rests s.queue (moment_at s reading) r
call_rests s (done run id reading) r = done_rests s.queue run id (moment_at s reading) r
call_rests s (interrupted run id reading) r = interrupted_rests s.queue run id r
call_rests s (uplink production status reading) r = uplink_rests s.queue production status r
call_rests s (gone worker) r = r

all_rests : (s : State) (h : List Event) → RestsBetween s.queue → RestsBetween (replay s h).queue
all_rests s [] r = r
all_rests s (e ∷ h) r = all_rests (then_after s e) h (call_rests s e.call r)

pub rests_between : (o : Opening) (h : List Event) → RestsBetween (replay (opened o) h).queue
rests_between o h =
    all_rests (opened o) h (λ e. record { notices = refl; waiting = refl })
