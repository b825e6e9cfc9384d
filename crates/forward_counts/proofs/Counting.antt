-- The counts of the forward service's queue over a history.
use Rattle.std.proofs.Common.{◌≡◌, ℕ, ◌+◌, ◌-◌, ◌≤◌, ◌<◌, Bool, true, false, not, ◌&&◌, ◌||◌, ◌==◌}
use Rattle.std.proofs.Common.{if◌then◌else◌, nat_lt, Option, Some, None, is_some, Result, Ok, Err}
use Rattle.std.proofs.Common.{List, [], ◌∷◌, ◌++◌, length, IsTrue, refl, ap, sym, subst, ◌∙◌}
use Rattle.std.proofs.Common.{cond, min, suc, arith}
use Rattle.std.specs.List.{list_any, cons_option, fold}
use Rattle.std.proofs.Math.Nat.{min-le_right, min-eq_left, min-eq_right}
use Rattle.std.proofs.lemmas.Bool.{ltb-true, ltb-false}
use Rattle.std.proofs.lemmas.List.Sums.{fold-append}
use Rattle.archive_terms.specs.Glimpse.{Want, Glimpse}
use Rattle.fcltu_numbers.specs.declared.cltu_notification_type.CltuNotificationType.{CltuNotificationType}
use Rattle.fcltu_numbers.specs.declared.cltu_notification_type.CltuNotificationType.TheVariants as kind
use Rattle.fcltu_numbers.specs.declared.cltu_production_status.CltuProductionStatus.{CltuProductionStatus}
use Rattle.fcltu_numbers.specs.declared.cltu_production_status.CltuProductionStatus.TheVariants.{Operational, Configured, Interrupted, Halted}
use Rattle.fcltu_numbers.specs.declared.uplink_status.UplinkStatus.{UplinkStatus}
use Rattle.fcltu_numbers.specs.declared.cltu_start_diagnostic.CltuStartDiagnostic.{CltuStartDiagnostic}
use Rattle.fcltu_numbers.specs.declared.cltu_start_diagnostic.CltuStartDiagnostic.TheVariants.{OutOfService, UnableToComply}
use Rattle.fcltu_numbers.specs.declared.cltu_transfer_data_diagnostic.CltuTransferDataDiagnostic.{CltuTransferDataDiagnostic}
use Rattle.cltu_queue.specs.Limits.{last_count, last_run}
use Rattle.cltu_queue.specs.Times.{is_above, latest_of}
use Rattle.cltu_queue.specs.Machine.{Machine, one_more, on_start, on_stop, refusal}
use Rattle.cltu_queue.specs.Machine.{queued_unless, on_take, on_take_of, is_idle, expired, begins_at}
use Rattle.cltu_queue.specs.Machine.{on_radiation, on_radiation_of, is_this, is_of_run, landed as put_down}
use Rattle.cltu_queue.specs.Machine.{ended, radiated_at, with_notice, with_radiation_notice, on_done}
use Rattle.cltu_queue.specs.Machine.{on_done_of, broken_off, on_interrupted, on_interrupted_of}
use Rattle.cltu_queue.specs.Machine.{on_uplink, changed_to, is_same, on_notice, on_notice_of, new_run}
use Rattle.cltu_queue.specs.Machine.{is_halted, is_interrupted, octets_of, view_of}
use Rattle.cltu_queue.specs.declared.ask.Ask.{Ask}
use Rattle.cltu_queue.specs.declared.ask.Ask.TheVariants as ask
use Rattle.cltu_queue.specs.declared.book_reply.BookReply.{BookReply}
use Rattle.cltu_queue.specs.declared.book_reply.BookReply.TheVariants.{Lost}
use Rattle.cltu_queue.specs.declared.cltu.Cltu.{Cltu}
use Rattle.cltu_queue.specs.declared.in_air.InAir.{InAir}
use Rattle.cltu_queue.specs.declared.notice.Notice.{Notice}
use Rattle.cltu_queue.specs.declared.taken.Taken.{Taken}
use Rattle.cltu_queue.specs.declared.taken.Taken.TheVariants.{Idle, Waits, Expired}
use Rattle.cltu_queue.specs.declared.uplink_view.UplinkView.{UplinkView}
use Rattle.station_book.specs.State.{State, Opening, opened, Call, publish, answer, quit, take, done}
use Rattle.station_book.specs.State.{interrupted, uplink, gone, Answer, Reply, accepted, foreign}
use Rattle.station_book.specs.State.{answered, took, Event}
use Rattle.station_book.specs.History.{moment_at, is_running, is_lost, with_ask, asked, reply_asked}
use Rattle.station_book.specs.History.{start_reply, transfer_reply, is_told}
use Rattle.station_book.specs.History.{may_publish, after, reply_to, event_at, then_after, replay}
use Rattle.station_book.specs.History.{IsLegal}
use Rattle.station_book.specs.Radiation.{where_started, where_taken, run_begun_by, run_begun}
use Rattle.station_book.specs.Radiation.{are_of_one_run, accepted_by, accepted_cltus}
use Rattle.forward_counts.specs.Counts.{is_processed, processed_of, Aloft, aloft_by, aloft_after}
use Rattle.forward_counts.specs.Counts.{aloft, is_end, landed, taken_off, count_ends, IsCounted}
use Rattle.forward_counts.specs.Counts.{aloft_of, ForwardIsCounted}

-- ---- one call

abbrev one : Bool → ℕ
one b = if b then 1 else 0

abbrev more : Bool → ℕ → ℕ
more b count = if b then one_more count else count

-- what a call adds to a queue's counts
record Adds (m n : Machine) (accepts processes ends : Bool) : Type 0 where
  received : n.received ≡ more accepts m.received
  taken : n.taken ≡ more processes m.taken
  radiated : n.radiated ≡ more ends m.radiated

same : (m : Machine) → Adds m m false false false
same m = record { received = refl; taken = refl; radiated = refl }

-- a notice that is told
told_notice : (m q : Machine) (a p e b : Bool) → Adds m q a p e
    → Adds m (if b then (on_notice q).0 else q) a p e
told_notice m q a p e false adds = adds
told_notice m q a p e true adds = of_notices q.notices
  where
    of_notices : (ns : List Notice) → Adds m (on_notice_of ns q).0 a p e
    of_notices [] = adds
    of_notices (n ∷ ns) =
        record { received = adds.received; taken = adds.taken; radiated = adds.radiated }

stop_adds : (b : Bool) (m : Machine) → Adds m (if b then on_stop m else m) false false false
stop_adds true m = record { received = refl; taken = refl; radiated = refl }
stop_adds false m = same m

transfer_adds : (m : Machine) (cltu : Cltu) (r : Option CltuTransferDataDiagnostic)
    → Adds m (queued_unless r m cltu).0
    (is_some (where_taken cltu (transfer_reply (queued_unless r m cltu).1))) false false
transfer_adds m cltu None = record { received = refl; taken = refl; radiated = refl }
transfer_adds m cltu (Some d) = same m

start_adds : (m : Machine) (first now : ℕ) (b c : Bool) →
    let x : Machine × Result (Unit {0}) CltuStartDiagnostic =
    if b then (m, Err OutOfService) else if c then (m, Err UnableToComply)
    else (new_run first m, Ok tt) in
    where_started first (start_reply now x.1) ≡ None → Adds m x.0 false false false
start_adds m first now true c e = same m
start_adds m first now false true e = same m
start_adds m first now false false e = absurd (cc e)

-- the answer to an ask, with whatever is beside its reply
abbrev replied : BookReply → Glimpse → Option Notice → UplinkView → Reply
replied r g n v = answered (record { reply = r; glimpse = g; notice = n; view = v })

ask_adds : (s : State) (door reading now : ℕ) (a : Ask) (want : Want) (g : Glimpse)
    (n : Option Notice) (v : UplinkView) (lost : Bool) →
    let r : Reply = replied (if lost then Lost else reply_asked s door now a) g n v in
    run_begun_by (answer door reading a want) r ≡ None
    → Adds s.queue (if lost then s else with_ask s door now a).queue
    (is_some (accepted_by (answer door reading a want) r)) false false
ask_adds s door reading now ask.Nothing want g n v true e = same s.queue
ask_adds s door reading now ask.Quiet want g n v true e = same s.queue
ask_adds s door reading now (ask.Bind i) want g n v true e = same s.queue
ask_adds s door reading now ask.Unbind want g n v true e = same s.queue
ask_adds s door reading now (ask.CltuStart first) want g n v true e = same s.queue
ask_adds s door reading now (ask.CltuTransfer cltu) want g n v true e = same s.queue
ask_adds s door reading now ask.CltuStop want g n v true e = same s.queue
ask_adds s door reading now ask.Nothing want g n v false e = same s.queue
ask_adds s door reading now ask.Quiet want g n v false e = same s.queue
ask_adds s door reading now (ask.Bind i) want g n v false e = same s.queue
ask_adds s door reading now ask.Unbind want g n v false e = stop_adds (is_running s door) s.queue
ask_adds s door reading now (ask.CltuStart first) want g n v false e =
    start_adds s.queue first now (is_halted s.queue.production)
    (is_interrupted s.queue.production || s.queue.run == last_run) e
ask_adds s door reading now (ask.CltuTransfer cltu) want g n v false e =
    transfer_adds s.queue cltu (refusal s.queue cltu now)
ask_adds s door reading now ask.CltuStop want g n v false e = stop_adds true s.queue

abbrev Taking : Machine → Machine × Taken → Type 0
Taking m x = Adds m x.0 false (is_processed (took x.1)) false

take_adds : (m : Machine) (now : ℕ) → Taking m (on_take m now)
take_adds m now = of_waiting m.waiting
  where
    of_radiation : (ws : List Cltu) → Taking m (on_radiation_of ws m now)
    of_radiation [] = same m
    of_radiation (w ∷ ws) = record { received = refl; taken = refl; radiated = refl }

    by_tests : (w : Cltu) (idle late early : Bool)
        → Taking m (if idle then (m, Idle) else if late then (expired w.id m, Expired w.id)
        else if early then (m, Waits (begins_at m w)) else on_radiation m now)
    by_tests w true late early = same m
    by_tests w false true early = record { received = refl; taken = refl; radiated = refl }
    by_tests w false false true = same m
    by_tests w false false false = of_radiation m.waiting

    of_waiting : (ws : List Cltu) → Taking m (on_take_of ws m now)
    of_waiting [] = same m
    of_waiting (w ∷ ws) =
        by_tests w (is_idle m) (is_above (Some now) (latest_of w)) (nat_lt now (begins_at m w))

-- a notice that is made or not
made_notice : (m q : Machine) (a p e b : Bool)
    (k : CltuNotificationType) → Adds m q a p e → Adds m (if b then with_notice k q else q) a p e
made_notice m q a p e true k adds =
    record { received = adds.received; taken = adds.taken; radiated = adds.radiated }
made_notice m q a p e false k adds = adds

ended_adds : (m : Machine) (a : InAir) (now : ℕ) → Adds m (ended a now m) false false true
ended_adds m a now =
    let x : Machine = radiated_at a now m in
    let y : Machine = with_radiation_notice a.wanted x in
    made_notice m y false false true (length y.waiting == 0) kind.BufferEmpty
    (made_notice m x false false true a.wanted kind.CltuRadiated
    (record { received = refl; taken = refl; radiated = refl }))

done_adds : (m : Machine) (run id reading now : ℕ)
    → Adds m (on_done m run id now) false false
    (m.started && is_end m.run (aloft_of m.in_air) (done run id reading))
done_adds m run id reading now = of_air m.in_air
  where
    none : (b : Bool) → (b && false) ≡ false
    none true = refl
    none false = refl

    by_cases : (a : InAir) (this mine started : Bool)
        → Adds m (if not this then m else if started && mine then ended a now m else put_down m)
        false false (started && (this && mine))
    by_cases a false mine started =
        subst (λ b. Adds m m false false b) (sym (none started)) (same m)
    by_cases a true true true = ended_adds m a now
    by_cases a true false true = record { received = refl; taken = refl; radiated = refl }
    by_cases a true mine false = record { received = refl; taken = refl; radiated = refl }

    of_air : (o : Option InAir) → Adds m (on_done_of o m run id now) false false
        (m.started && is_end m.run (aloft_of o) (done run id reading))
    of_air None = subst (λ b. Adds m m false false b) (sym (none m.started)) (same m)
    of_air (Some a) = by_cases a (is_this run id a) (a.run == m.run) m.started

interrupted_adds : (m : Machine) (run id : ℕ)
    → Adds m (on_interrupted m run id) false false false
interrupted_adds m run id = of_air m.in_air
  where
    by_cases : (a : InAir) (this mine : Bool)
        → Adds m (if not this then m else if mine then broken_off a m else put_down m) false false
        false
    by_cases a false mine = same m
    by_cases a true true = record { received = refl; taken = refl; radiated = refl }
    by_cases a true false = record { received = refl; taken = refl; radiated = refl }

    of_air : (o : Option InAir) → Adds m (on_interrupted_of o m run id) false false false
    of_air None = same m
    of_air (Some a) = by_cases a (is_this run id a) (is_of_run m a)

uplink_adds : (m : Machine) (production : CltuProductionStatus) (status : UplinkStatus)
    → Adds m (on_uplink m production status) false false false
uplink_adds m production status =
    by_test (m.started && not (is_same m.production production)) production
  where
    set : Machine
    set = record m { production = production; status = status }

    by_test : (b : Bool) (p : CltuProductionStatus)
        → Adds m (if b then changed_to p set else set) false false false
    by_test false p = record { received = refl; taken = refl; radiated = refl }
    by_test true Operational = record { received = refl; taken = refl; radiated = refl }
    by_test true Configured = record { received = refl; taken = refl; radiated = refl }
    by_test true Interrupted = record { received = refl; taken = refl; radiated = refl }
    by_test true Halted = record { received = refl; taken = refl; radiated = refl }

abbrev AddsIn : State → Call → Type 0
AddsIn s call = Adds s.queue (after s call).queue (is_some (accepted_by call (reply_to s call)))
    (is_processed (reply_to s call))
    (s.queue.started && is_end s.queue.run (aloft_of s.queue.in_air) call)

ends_none : (m n : Machine) (a p b : Bool) → Adds m n a p false → Adds m n a p (b && false)
ends_none m n a p true adds = adds
ends_none m n a p false adds = adds

call_adds : (s : State) (call : Call) → run_begun_by call (reply_to s call) ≡ None
    → AddsIn s call
call_adds s (publish entries) e = ends_none s.queue _ _ _ s.queue.started
    (by_test (may_publish s entries))
  where
    by_test : (b : Bool)
        → Adds s.queue (if b then record s { published = s.published ++ entries } else s).queue
        false (is_processed (if b then accepted else foreign)) false
    by_test true = same s.queue
    by_test false = same s.queue
call_adds s (answer door reading a want) e =
    let now = moment_at s reading in
    ends_none s.queue _ _ _ s.queue.started
    (told_notice s.queue (asked s door now a).queue _ false false (is_told s door now a)
    (ask_adds s door reading now a want _ _ _ (is_lost s door a) e))
call_adds s (quit door) e = ends_none s.queue _ _ _ s.queue.started
    (stop_adds (is_running s door) s.queue)
call_adds s (take reading) e = ends_none s.queue _ _ _ s.queue.started
    (take_adds s.queue (moment_at s reading))
call_adds s (done run id reading) e = done_adds s.queue run id reading (moment_at s reading)
call_adds s (interrupted run id reading) e = ends_none s.queue _ _ _ s.queue.started
    (interrupted_adds s.queue run id)
call_adds s (uplink production status reading) e = ends_none s.queue _ _ _ s.queue.started
    (uplink_adds s.queue production status)
call_adds s (gone worker) e = ends_none s.queue _ _ _ s.queue.started (same s.queue)

-- ---- what is in the air, and the room

-- what a call leaves of the room, and what is then in the air
record Leaves (m n : Machine) (air : Option Aloft) : Type 0 where
  room : n.room ≡ m.room
  in_air : air ≡ aloft_of n.in_air

abbrev Lasts : Machine → Machine → Type 0
Lasts m n = Leaves m n (aloft_of m.in_air)

lasts : (m : Machine) → Lasts m m
lasts m = record { room = refl; in_air = refl }

told_leaves : (m q : Machine) (b : Bool) → Lasts m q → Lasts m (if b then (on_notice q).0 else q)
told_leaves m q false l = l
told_leaves m q true l = of_notices q.notices
  where
    of_notices : (ns : List Notice) → Lasts m (on_notice_of ns q).0
    of_notices [] = l
    of_notices (n ∷ ns) = record { room = l.room; in_air = l.in_air }

stop_leaves : (b : Bool) (m : Machine) → Lasts m (if b then on_stop m else m)
stop_leaves true m = record { room = refl; in_air = refl }
stop_leaves false m = lasts m

transfer_leaves : (m : Machine) (cltu : Cltu) (r : Option CltuTransferDataDiagnostic)
    → Lasts m (queued_unless r m cltu).0
transfer_leaves m cltu None = record { room = refl; in_air = refl }
transfer_leaves m cltu (Some d) = lasts m

start_leaves : (m : Machine) (first : ℕ) (b c : Bool) →
    let x : Machine × Result (Unit {0}) CltuStartDiagnostic =
    if b then (m, Err OutOfService) else if c then (m, Err UnableToComply)
    else (new_run first m, Ok tt) in
    Lasts m x.0
start_leaves m first true c = lasts m
start_leaves m first false true = lasts m
start_leaves m first false false = record { room = refl; in_air = refl }

ask_leaves : (s : State) (door now : ℕ) (a : Ask) (lost : Bool)
    → Lasts s.queue (if lost then s else with_ask s door now a).queue
ask_leaves s door now a true = lasts s.queue
ask_leaves s door now ask.Nothing false = lasts s.queue
ask_leaves s door now ask.Quiet false = lasts s.queue
ask_leaves s door now (ask.Bind i) false = lasts s.queue
ask_leaves s door now ask.Unbind false = stop_leaves (is_running s door) s.queue
ask_leaves s door now (ask.CltuStart first) false =
    start_leaves s.queue first (is_halted s.queue.production)
    (is_interrupted s.queue.production || s.queue.run == last_run)
ask_leaves s door now (ask.CltuTransfer cltu) false =
    transfer_leaves s.queue cltu (refusal s.queue cltu now)
ask_leaves s door now ask.CltuStop false = stop_leaves true s.queue

abbrev Lifts : Machine → Machine × Taken → Type 0
Lifts m x = Leaves m x.0 (taken_off (aloft_of m.in_air) (took x.1))

take_leaves : (m : Machine) (now : ℕ) → Lifts m (on_take m now)
take_leaves m now = of_waiting m.waiting
  where
    of_radiation : (ws : List Cltu) → Lifts m (on_radiation_of ws m now)
    of_radiation [] = lasts m
    of_radiation (w ∷ ws) = record { room = refl; in_air = refl }

    by_tests : (w : Cltu) (idle late early : Bool)
        → Lifts m (if idle then (m, Idle) else if late then (expired w.id m, Expired w.id)
        else if early then (m, Waits (begins_at m w)) else on_radiation m now)
    by_tests w true late early = lasts m
    by_tests w false true early = record { room = refl; in_air = refl }
    by_tests w false false true = lasts m
    by_tests w false false false = of_radiation m.waiting

    of_waiting : (ws : List Cltu) → Lifts m (on_take_of ws m now)
    of_waiting [] = lasts m
    of_waiting (w ∷ ws) =
        by_tests w (is_idle m) (is_above (Some now) (latest_of w)) (nat_lt now (begins_at m w))

made_leaves : (m q : Machine) (air : Option Aloft) (b : Bool) (k : CltuNotificationType)
    → Leaves m q air → Leaves m (if b then with_notice k q else q) air
made_leaves m q air true k l = record { room = l.room; in_air = l.in_air }
made_leaves m q air false k l = l

ended_leaves : (m : Machine) (a : InAir) (now : ℕ) → Leaves m (ended a now m) None
ended_leaves m a now =
    let x : Machine = radiated_at a now m in
    let y : Machine = with_radiation_notice a.wanted x in
    made_leaves m y None (length y.waiting == 0) kind.BufferEmpty
    (made_leaves m x None a.wanted kind.CltuRadiated (record { room = refl; in_air = refl }))

done_leaves : (m : Machine) (run id now : ℕ)
    → Leaves m (on_done m run id now) (landed run id (aloft_of m.in_air))
done_leaves m run id now = of_air m.in_air refl
  where
    by_cases : (a : InAir) (this mine : Bool) → aloft_of m.in_air ≡ aloft_of (Some a)
        → Leaves m (if not this then m else if mine then ended a now m else put_down m)
        (if this then None else aloft_of (Some a))
    by_cases a false mine is = record { room = refl; in_air = sym is }
    by_cases a true true is = ended_leaves m a now
    by_cases a true false is = record { room = refl; in_air = refl }

    of_air : (o : Option InAir) → aloft_of m.in_air ≡ aloft_of o
        → Leaves m (on_done_of o m run id now) (landed run id (aloft_of o))
    of_air None is = record { room = refl; in_air = sym is }
    of_air (Some a) is = by_cases a (is_this run id a) (is_of_run m a) is

interrupted_leaves : (m : Machine) (run id : ℕ)
    → Leaves m (on_interrupted m run id) (landed run id (aloft_of m.in_air))
interrupted_leaves m run id = of_air m.in_air refl
  where
    by_cases : (a : InAir) (this mine : Bool) → aloft_of m.in_air ≡ aloft_of (Some a)
        → Leaves m (if not this then m else if mine then broken_off a m else put_down m)
        (if this then None else aloft_of (Some a))
    by_cases a false mine is = record { room = refl; in_air = sym is }
    by_cases a true true is = record { room = refl; in_air = refl }
    by_cases a true false is = record { room = refl; in_air = refl }

    of_air : (o : Option InAir) → aloft_of m.in_air ≡ aloft_of o
        → Leaves m (on_interrupted_of o m run id) (landed run id (aloft_of o))
    of_air None is = record { room = refl; in_air = sym is }
    of_air (Some a) is = by_cases a (is_this run id a) (is_of_run m a) is

uplink_leaves : (m : Machine) (production : CltuProductionStatus) (status : UplinkStatus)
    → Lasts m (on_uplink m production status)
uplink_leaves m production status =
    by_test (m.started && not (is_same m.production production)) production
  where
    set : Machine
    set = record m { production = production; status = status }

    by_test : (b : Bool) (p : CltuProductionStatus)
        → Lasts m (if b then changed_to p set else set)
    by_test false p = record { room = refl; in_air = refl }
    by_test true Operational = record { room = refl; in_air = refl }
    by_test true Configured = record { room = refl; in_air = refl }
    by_test true Interrupted = record { room = refl; in_air = refl }
    by_test true Halted = record { room = refl; in_air = refl }

call_leaves : (s : State) (call : Call)
    → Leaves s.queue (after s call).queue
    (aloft_by (aloft_of s.queue.in_air) call (reply_to s call))
call_leaves s (publish entries) = by_test (may_publish s entries)
  where
    by_test : (b : Bool)
        → Lasts s.queue (if b then record s { published = s.published ++ entries } else s).queue
    by_test true = lasts s.queue
    by_test false = lasts s.queue
call_leaves s (answer door reading a want) =
    let now = moment_at s reading in
    told_leaves s.queue (asked s door now a).queue (is_told s door now a)
    (ask_leaves s door now a (is_lost s door a))
call_leaves s (quit door) = stop_leaves (is_running s door) s.queue
call_leaves s (take reading) = take_leaves s.queue (moment_at s reading)
call_leaves s (done run id reading) = done_leaves s.queue run id (moment_at s reading)
call_leaves s (interrupted run id reading) = interrupted_leaves s.queue run id
call_leaves s (uplink production status reading) = uplink_leaves s.queue production status
call_leaves s (gone worker) = lasts s.queue

-- ---- histories

legal_begins : (s : State) (h k : List Event) → IsLegal s (h ++ k) → IsLegal s h
legal_begins s [] k all = tt
legal_begins s (e ∷ h) k all = (all.0, legal_begins (then_after s e) h k all.1)

legal_goes_on : (s : State) (h k : List Event) → IsLegal s (h ++ k) → IsLegal (replay s h) k
legal_goes_on s [] k all = all
legal_goes_on s (e ∷ h) k all = legal_goes_on (then_after s e) h k all.1

-- the event's own reply is that of the book
event_leaves : (s : State) (e : Event) → e ≡ event_at s e.call
    → Leaves s.queue (then_after s e).queue (aloft_after (aloft_of s.queue.in_air) e)
event_leaves s e is =
    subst (λ x. Leaves s.queue (then_after s e).queue (aloft_by (aloft_of s.queue.in_air) e.call x))
    (sym (ap (λ x. x.reply) is)) (call_leaves s e.call)

aloft_over : (s : State) (h : List Event) (air : Option Aloft) → air ≡ aloft_of s.queue.in_air
    → IsLegal s h → fold aloft_after air h ≡ aloft_of (replay s h).queue.in_air
aloft_over s [] air is legal = is
aloft_over s (e ∷ h) air is legal =
    aloft_over (then_after s e) h (aloft_after air e)
    (ap (λ x. aloft_after x e) is ∙ (event_leaves s e legal.0).in_air) legal.1

room_over : (s : State) (h : List Event) → IsLegal s h → (replay s h).queue.room ≡ s.queue.room
room_over s [] legal = refl
room_over s (e ∷ h) legal =
    room_over (then_after s e) h legal.1 ∙ (event_leaves s e legal.0).room

-- ---- the counts over a run's events

-- a count that began at one number, after so many more
abbrev Reaches : ℕ → ℕ → ℕ → Type 0
Reaches count n reached = count ≤ last_count → reached ≡ min (count + n) last_count

stays_up : (count : ℕ) → Reaches count 0 count
stays_up count = λ le.
    let none : count + 0 ≡ count = omega arith in
    sym (ap (λ x. min x last_count) none ∙ min-eq_left le)

-- one more, up to the top, and then so many more
more_again : (top c n : ℕ) (over : Bool) → nat_lt top (c + 1) ≡ over
    → min (min (c + 1) top + n) top ≡ min (c + (1 + n)) top
more_again top c n false is =
    let sum : c + 1 + n ≡ c + (1 + n) = omega arith in
    ap (λ x. min (x + n) top) (min-eq_left (ltb-false top (c + 1) is)) ∙ ap (λ x. min x top) sum
more_again top c n true is =
    let above : top < c + 1 = ltb-true top (c + 1) is in
    let most : top ≤ c + 1 = omega (arith, above) in
    let left : top ≤ top + n = omega arith in
    let right : top ≤ c + (1 + n) = omega (arith, above) in
    ap (λ x. min (x + n) top) (min-eq_right most) ∙ min-eq_right left ∙ sym (min-eq_right right)

one_on : (n : ℕ) → suc n ≡ 1 + n
one_on n = omega arith

no_more : (n : ℕ) → n ≡ 0 + n
no_more n = omega arith

first_more : (count n reached : ℕ) (b : Bool) → Reaches (more b count) n reached
    → Reaches count (one b + n) reached
first_more count n reached true r = λ le.
    r (min-le_right (count + 1) last_count) ∙ more_again last_count count n _ refl
first_more count n reached false r = subst (λ k. Reaches count k reached) (no_more n) r

length_where : (b : Bool) (e : Event) (k : List Event)
    → length (cond b (e ∷ k) k) ≡ one b + length k
length_where true e k = one_on (length k)
length_where false e k = no_more (length k)

length_cons : (o : Option Cltu) (cltus : List Cltu)
    → length (cons_option o cltus) ≡ one (is_some o) + length cltus
length_cons None cltus = no_more (length cltus)
length_cons (Some cltu) cltus = one_on (length cltus)

record Reached (s : State) (air : Option Aloft) (k : List Event) (m : Machine) : Type 0 where
  received : Reaches s.queue.received (length (accepted_cltus k)) m.received
  taken : Reaches s.queue.taken (length (processed_of k)) m.taken
  radiated : Reaches s.queue.radiated (count_ends air s k) m.radiated

none_begun : (a b : Bool) → (a || b) ≡ false → (a ≡ false) × (b ≡ false)
none_begun a b e = grind arith

none_of : (o : Option ℕ) → is_some o ≡ false → o ≡ None
none_of None e = refl
none_of (Some n) e = absurd (cc e)

event_adds : (s : State) (e : Event) (air : Option Aloft) → air ≡ aloft_of s.queue.in_air
    → e ≡ event_at s e.call → run_begun e ≡ None
    → Adds s.queue (then_after s e).queue (is_some (accepted_by e.call e.reply))
    (is_processed e.reply) (s.queue.started && is_end s.queue.run air e.call)
event_adds s e air here is none =
    let reply : e.reply ≡ reply_to s e.call = ap (λ x. x.reply) is in
    subst (λ x. Adds s.queue (then_after s e).queue (is_some (accepted_by e.call e.reply))
    (is_processed e.reply) (s.queue.started && is_end s.queue.run x e.call)) (sym here)
    (subst (λ r. Adds s.queue (then_after s e).queue (is_some (accepted_by e.call r))
    (is_processed r) (s.queue.started && is_end s.queue.run (aloft_of s.queue.in_air) e.call))
    (sym reply)
    (call_adds s e.call (subst (λ r. run_begun_by e.call r ≡ None) reply none)))

reached : (s : State) (air : Option Aloft) (k : List Event) → air ≡ aloft_of s.queue.in_air
    → IsLegal s k → list_any (λ e. is_some (run_begun e)) k ≡ false
    → Reached s air k (replay s k).queue
reached s air [] here legal goes = record {
  received = stays_up s.queue.received;
  taken = stays_up s.queue.taken;
  radiated = stays_up s.queue.radiated;
}
reached s air (e ∷ k) here legal goes =
    let parts = none_begun _ _ goes in
    let adds = event_adds s e air here legal.0 (none_of (run_begun e) parts.0) in
    let m : Machine = (replay s (e ∷ k)).queue in
    let rest = reached (then_after s e) (aloft_after air e) k
    (ap (λ x. aloft_after x e) here ∙ (event_leaves s e legal.0).in_air) legal.1 parts.1 in
    record {
      received = subst (λ n. Reaches s.queue.received n m.received)
          (sym (length_cons (accepted_by e.call e.reply) (accepted_cltus k)))
          (first_more s.queue.received (length (accepted_cltus k)) m.received
          (is_some (accepted_by e.call e.reply))
          (subst (λ c. Reaches c (length (accepted_cltus k)) m.received) adds.received
          rest.received));
      taken = subst (λ n. Reaches s.queue.taken n m.taken)
          (sym (length_where (is_processed e.reply) e (processed_of k)))
          (first_more s.queue.taken (length (processed_of k)) m.taken (is_processed e.reply)
          (subst (λ c. Reaches c (length (processed_of k)) m.taken) adds.taken rest.taken));
      radiated = first_more s.queue.radiated (count_ends (aloft_after air e) (then_after s e) k)
          m.radiated (s.queue.started && is_end s.queue.run air e.call)
          (subst (λ c. Reaches c (count_ends (aloft_after air e) (then_after s e) k) m.radiated)
          adds.radiated rest.radiated);
    }

-- ---- a START

record IsNew (m : Machine) : Type 0 where
  received : m.received ≡ 0
  taken : m.taken ≡ 0
  radiated : m.radiated ≡ 0

told_new : (q : Machine) (b : Bool) → IsNew q → IsNew (if b then (on_notice q).0 else q)
told_new q false new = new
told_new q true new = of_notices q.notices
  where
    of_notices : (ns : List Notice) → IsNew (on_notice_of ns q).0
    of_notices [] = new
    of_notices (n ∷ ns) =
        record { received = new.received; taken = new.taken; radiated = new.radiated }

start_new : (m : Machine) (given first now : ℕ) (b c : Bool) →
    let x : Machine × Result (Unit {0}) CltuStartDiagnostic =
    if b then (m, Err OutOfService) else if c then (m, Err UnableToComply)
    else (new_run given m, Ok tt) in
    where_started given (start_reply now x.1) ≡ Some first → IsNew x.0
start_new m given first now true c e = absurd (cc e)
start_new m given first now false true e = absurd (cc e)
start_new m given first now false false e =
    record { received = refl; taken = refl; radiated = refl }

asked_new : (s : State) (door given first now : ℕ) (lost : Bool)
    → where_started given (if lost then Lost
    else start_reply now (on_start s.queue given).1) ≡ Some first
    → IsNew (if lost then s else with_ask s door now (ask.CltuStart given)).queue
asked_new s door given first now true e = absurd (cc e)
asked_new s door given first now false e =
    start_new s.queue given first now (is_halted s.queue.production)
    (is_interrupted s.queue.production || s.queue.run == last_run) e

begun_new : (s : State) (call : Call) (first : ℕ)
    → run_begun_by call (reply_to s call) ≡ Some first → IsNew (after s call).queue
begun_new s (publish entries) first e = absurd (cc e)
begun_new s (answer door reading ask.Nothing want) first e = absurd (cc e)
begun_new s (answer door reading ask.Quiet want) first e = absurd (cc e)
begun_new s (answer door reading (ask.Bind i) want) first e = absurd (cc e)
begun_new s (answer door reading ask.Unbind want) first e = absurd (cc e)
begun_new s (answer door reading (ask.CltuStart given) want) first e =
    let now = moment_at s reading in
    told_new (asked s door now (ask.CltuStart given)).queue
    (is_told s door now (ask.CltuStart given))
    (asked_new s door given first now (is_lost s door (ask.CltuStart given)) e)
begun_new s (answer door reading (ask.CltuTransfer cltu) want) first e = absurd (cc e)
begun_new s (answer door reading ask.CltuStop want) first e = absurd (cc e)
begun_new s (quit door) first e = absurd (cc e)
begun_new s (take reading) first e = absurd (cc e)
begun_new s (done run id reading) first e = absurd (cc e)
begun_new s (interrupted run id reading) first e = absurd (cc e)
begun_new s (uplink production status reading) first e = absurd (cc e)
begun_new s (gone worker) first e = absurd (cc e)

-- ---- the law

false_of : (b : Bool) → IsTrue (not b) → b ≡ false
false_of true e = absurd (cc e)
false_of false e = refl

-- a count that begins at 0
from_none : (count n m : ℕ) → count ≡ 0 → Reaches count n m → m ≡ min n last_count
from_none count n m none r =
    let le : count ≤ last_count = omega (arith, none) in
    let sum : count + n ≡ n = omega (arith, none) in
    r le ∙ ap (λ x. min x last_count) sum

counts : (o : Opening) (h k : List Event) (e : Event) (first : ℕ)
    → IsLegal (opened o) (h ++ e ∷ k) → run_begun e ≡ Some first → IsTrue (are_of_one_run k)
    → IsCounted (view_of (replay (opened o) (h ++ e ∷ k)).queue) o.room
    (replay (opened o) (h ++ e ∷ [])) (aloft (h ++ e ∷ [])) k
    (replay (opened o) (h ++ e ∷ k)).queue.waiting
counts o h k e first legal is goes =
    let s : State = replay (opened o) h in
    let t : State = then_after s e in
    let on : IsLegal s (e ∷ k) = legal_goes_on (opened o) h (e ∷ k) legal in
    let book : replay (opened o) (h ++ e ∷ k) ≡ replay t k =
    fold-append then_after (opened o) h (e ∷ k) in
    let begun : replay (opened o) (h ++ e ∷ []) ≡ t =
    fold-append then_after (opened o) h (e ∷ []) in
    let new : IsNew t.queue = begun_new s e.call first
    (subst (λ r. run_begun_by e.call r ≡ Some first) (ap (λ x. x.reply) on.0) is) in
    let air : aloft (h ++ e ∷ []) ≡ aloft_of t.queue.in_air =
    fold-append aloft_after None h (e ∷ [])
    ∙ ap (λ x. aloft_after x e)
    (aloft_over (opened o) h None refl (legal_begins (opened o) h (e ∷ k) legal))
    ∙ (event_leaves s e on.0).in_air in
    let all = reached t (aloft (h ++ e ∷ [])) k air on.1 (false_of _ goes) in
    subst (λ b. IsCounted (view_of b.queue) o.room (replay (opened o) (h ++ e ∷ []))
    (aloft (h ++ e ∷ [])) k b.queue.waiting) (sym book)
    (subst (λ b. IsCounted (view_of (replay t k).queue) o.room b (aloft (h ++ e ∷ [])) k
    (replay t k).queue.waiting) (sym begun)
    (record {
      received = from_none _ _ _ new.received all.received;
      processed = from_none _ _ _ new.taken all.taken;
      radiated = from_none _ _ _ new.radiated all.radiated;
      free = ap (λ n. n - octets_of (replay t k).queue.waiting)
          (room_over t k on.1 ∙ (event_leaves s e on.0).room
          ∙ room_over (opened o) h (legal_begins (opened o) h (e ∷ k) legal));
    }))

abbrev view_in : UplinkView → Reply → UplinkView
view_in other (answered a) = a.view
view_in other _ = other

views : (s : State) (h : List Event) (e : Event) (a : Answer) → IsLegal s (h ++ e ∷ [])
    → e.reply ≡ answered a → a.view ≡ view_of (replay s (h ++ e ∷ [])).queue
views s h e a legal is =
    let t : State = replay s h in
    let on : IsLegal t (e ∷ []) = legal_goes_on s h (e ∷ []) legal in
    of_call t e.call (sym (ap (λ x. x.reply) on.0) ∙ is)
    ∙ sym (ap (λ b. view_of b.queue) (fold-append then_after s h (e ∷ [])))
  where
    publish_none : (b : Bool) (v : UplinkView) → (if b then accepted else foreign) ≡ answered a
        → a.view ≡ v
    publish_none true v e = absurd (cc e)
    publish_none false v e = absurd (cc e)

    of_call : (t : State) (call : Call) → reply_to t call ≡ answered a
        → a.view ≡ view_of (after t call).queue
    of_call t (publish entries) e = publish_none (may_publish t entries) _ e
    of_call t (answer door reading wanted want) e = ap (view_in a.view) (sym e)
    of_call t (quit door) e = absurd (cc e)
    of_call t (take reading) e = absurd (cc e)
    of_call t (done run id reading) e = absurd (cc e)
    of_call t (interrupted run id reading) e = absurd (cc e)
    of_call t (uplink production status reading) e = absurd (cc e)
    of_call t (gone worker) e = absurd (cc e)

pub forward_is_counted : ForwardIsCounted
forward_is_counted = record {
  counts = counts;
  views = views;
  in_air = λ o h legal. aloft_over (opened o) h None refl legal;
}
