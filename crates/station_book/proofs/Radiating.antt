-- The events of the forward service's queue in a history.
use Rattle.std.proofs.Common.{◌≡◌, ℕ, Bool, true, false, not, ◌&&◌, ◌||◌, if◌then◌else◌, Option}
use Rattle.std.proofs.Common.{Some, None, is_some, Result, Ok, Err, List, [], ◌∷◌, ◌++◌, length}
use Rattle.std.proofs.Common.{IsTrue, refl, ap, sym, subst, ◌∙◌, append-nil}
use Rattle.std.specs.List.{filter_map, list_any, cons_option}
use Rattle.std.proofs.lemmas.List.Elements.{filter_map-append}
use Rattle.std.proofs.lemmas.List.Folds.{list_any-append}
use Rattle.std.proofs.lemmas.List.Sums.{fold-append}
use Rattle.archive_terms.specs.Glimpse.{Want}
use Rattle.fcltu_numbers.specs.declared.cltu_start_diagnostic.CltuStartDiagnostic.{CltuStartDiagnostic}
use Rattle.fcltu_numbers.specs.declared.cltu_transfer_data_diagnostic.CltuTransferDataDiagnostic.{CltuTransferDataDiagnostic}
use Rattle.cltu_queue.specs.Machine.{Machine, new_machine, on_start, on_stop, on_transfer, refusal}
use Rattle.cltu_queue.specs.Machine.{queued_unless, on_take, on_notice, on_notice_of}
use Rattle.cltu_queue.specs.Forward as queue
use Rattle.cltu_queue.specs.Forward.{forward, unfit, started, transferred, took as was_taken}
use Rattle.cltu_queue.specs.Run as run
use Rattle.cltu_queue.specs.Run.{Step, steps, Radiation, RadiateInOrder, AreInTurn, ids_of}
use Rattle.cltu_queue.specs.Run.{count_up}
use Rattle.cltu_queue.specs.declared.ask.Ask.{Ask}
use Rattle.cltu_queue.specs.declared.ask.Ask.TheVariants as ask
use Rattle.cltu_queue.specs.declared.book_reply.BookReply.{BookReply}
use Rattle.cltu_queue.specs.declared.book_reply.BookReply.TheVariants.{Lost}
use Rattle.cltu_queue.specs.declared.cltu.Cltu.{Cltu}
use Rattle.cltu_queue.specs.declared.notice.Notice.{Notice}
use Rattle.cltu_queue.specs.declared.taken.Taken.{Taken}
use Rattle.cltu_queue.specs.declared.taken.Taken.TheVariants.{Idle, Waits, Expired, Radiate}
use Rattle.station_book.specs.State.{State, Opening, opened, Event, Answer, answered, accepted}
use Rattle.station_book.specs.State.{foreign, took, Call, publish, answer, quit, take, done}
use Rattle.station_book.specs.State.{interrupted, uplink, gone}
use Rattle.station_book.specs.History.{moment_at, is_running, is_lost, is_told}
use Rattle.station_book.specs.History.{queue_asked, with_ask, asked, queue_answered, start_reply}
use Rattle.station_book.specs.History.{transfer_reply, reply_asked, after, answer_to, event_at}
use Rattle.station_book.specs.History.{then_after, replay, IsLegal, may_publish}
use Rattle.station_book.specs.Radiation.{where_started, where_taken, run_begun_by, run_begun}
use Rattle.station_book.specs.Radiation.{are_of_one_run, accepted_by, accepted_cltus, radiation_by}
use Rattle.station_book.specs.Radiation.{radiations, IsLawful}
use Rattle.station_book.proofs.Histories.{legal_goes_on}

-- ---- the queue's events in a call

abbrev pub stop_where : Bool → List queue.Event
stop_where true = queue.stop ∷ []
stop_where false = []

abbrev pub notice_where : Bool → List queue.Event
notice_where true = queue.notice ∷ []
notice_where false = []

-- of an ask that fits
abbrev pub ask_events : State → ℕ → ℕ → Ask → List queue.Event
ask_events s door now (ask.CltuStart first) = queue.start first ∷ []
ask_events s door now (ask.CltuTransfer cltu) = queue.transfer cltu now ∷ []
ask_events s door now ask.CltuStop = queue.stop ∷ []
ask_events s door now ask.Unbind = stop_where (is_running s door)
ask_events s door now (ask.Bind _) = []
ask_events s door now ask.Nothing = []
ask_events s door now ask.Quiet = []

abbrev pub fit_events : Bool → State → ℕ → ℕ → Ask → List queue.Event
fit_events lost s door now ask = if lost then [] else ask_events s door now ask

abbrev pub call_events : State → Call → List queue.Event
call_events s (publish _) = []
call_events s (answer door reading ask want) =
    fit_events (is_lost s door ask) s door (moment_at s reading) ask
    ++ notice_where (is_told s door (moment_at s reading) ask)
call_events s (quit door) = stop_where (is_running s door)
call_events s (take reading) = queue.take (moment_at s reading) ∷ []
call_events s (done run id reading) = queue.done run id (moment_at s reading) ∷ []
call_events s (interrupted run id reading) = queue.interrupted run id ∷ []
call_events s (uplink production status reading) = queue.uplink production status ∷ []
call_events s (gone _) = []

after_append : (m : Machine) (xs ys : List queue.Event)
    → run.after m (xs ++ ys) ≡ run.after (run.after m xs) ys
after_append m [] ys = refl
after_append m (x ∷ xs) ys = after_append (forward m x).0 xs ys

steps_append : (m : Machine) (xs ys : List queue.Event)
    → steps m (xs ++ ys) ≡ steps m xs ++ steps (run.after m xs) ys
steps_append m [] ys = refl
steps_append m (x ∷ xs) ys = ap (λ zs. record { event = x; reply = (forward m x).1 } ∷ zs)
    (steps_append (forward m x).0 xs ys)

-- ---- what an ask that fits knows of the run

pub or_right : (a b : Bool) → (a || b) ≡ false → b ≡ false
or_right true b e = absurd (cc e)
or_right false b e = e

pub of_both : (a b : Bool) → not (a && b) ≡ false → b ≡ true
of_both true true e = refl
of_both true false e = absurd (cc e)
of_both false b e = absurd (cc e)

pub begins : (m : Machine) (first : ℕ) → m.started ≡ false
    → forward m (queue.start first) ≡ ((on_start m first).0, started (on_start m first).1)
begins m first none = ap (λ b. if b then (m, unfit)
    else ((on_start m first).0, started (on_start m first).1)) none

transfers : (m : Machine) (cltu : Cltu) (now : ℕ) → m.started ≡ true
    → forward m (queue.transfer cltu now) ≡ (
      (on_transfer m cltu now).0,
      transferred (on_transfer m cltu now).1,
    )
transfers m cltu now one = ap (λ b. if b then (
  (on_transfer m cltu now).0,
  transferred (on_transfer m cltu now).1,
) else (m, unfit)) one

-- ---- the queue after a call

stopped : (b : Bool) (m : Machine) → (if b then on_stop m else m) ≡ run.after m (stop_where b)
stopped true m = refl
stopped false m = refl

noticed : (b : Bool) (m : Machine) → (if b then (on_notice m).0 else m)
    ≡ run.after m (notice_where b)
noticed true m = refl
noticed false m = refl

fits : (s : State) (door now : ℕ) (ask : Ask) → is_lost s door ask ≡ false
    → queue_asked s door now ask ≡ run.after s.queue (ask_events s door now ask)
fits s door now ask.Nothing e = refl
fits s door now ask.Quiet e = refl
fits s door now (ask.Bind instance) e = refl
fits s door now ask.Unbind e = stopped (is_running s door) s.queue
fits s door now (ask.CltuStart first) e = sym
    (ap (λ x. x.0) (begins s.queue first (or_right _ _ e)))
fits s door now (ask.CltuTransfer cltu) e = sym
    (ap (λ x. x.0) (transfers s.queue cltu now (of_both _ _ e)))
fits s door now ask.CltuStop e = refl

asked_queue : (s : State) (door now : ℕ) (ask : Ask) (lost : Bool) → is_lost s door ask ≡ lost
    → (if lost then s else with_ask s door now ask).queue
    ≡ run.after s.queue (fit_events lost s door now ask)
asked_queue s door now ask true e = refl
asked_queue s door now ask false e = fits s door now ask e

answered_queue : (s : State) (door now : ℕ) (ask : Ask)
    → queue_answered s door now ask ≡ run.after s.queue
    (fit_events (is_lost s door ask) s door now ask ++ notice_where (is_told s door now ask))
answered_queue s door now ask =
    let told = is_told s door now ask in
    let here : (asked s door now ask).queue ≡ run.after s.queue
    (fit_events (is_lost s door ask) s door now ask) =
    asked_queue s door now ask (is_lost s door ask) refl in
    noticed told (asked s door now ask).queue
    ∙ ap (λ m. run.after m (notice_where told)) here
    ∙ sym (after_append s.queue (fit_events (is_lost s door ask) s door now ask)
    (notice_where told))

published_queue : (b : Bool) (s t : State) → t.queue ≡ s.queue
    → (if b then t else s).queue ≡ s.queue
published_queue true s t same = same
published_queue false s t same = refl

pub queue_after : (s : State) (call : Call) → (after s call).queue
    ≡ run.after s.queue (call_events s call)
queue_after s (publish entries) = published_queue (may_publish s entries) s _ refl
queue_after s (answer door reading ask want) = answered_queue s door (moment_at s reading) ask
queue_after s (quit door) = stopped (is_running s door) s.queue
queue_after s (take reading) = refl
queue_after s (done run id reading) = refl
queue_after s (interrupted run id reading) = refl
queue_after s (uplink production status reading) = refl
queue_after s (gone worker) = refl

-- ---- the queue's events in a history

abbrev pub flat : State → List Event → List queue.Event
flat s [] = []
flat s (e ∷ h) = call_events s e.call ++ flat (then_after s e) h

flat_step : (s : State) (call : Call) (ys : List queue.Event)
    → steps s.queue (call_events s call ++ ys)
    ≡ steps s.queue (call_events s call) ++ steps (after s call).queue ys
flat_step s call ys =
    steps_append s.queue (call_events s call) ys
    ∙ ap (λ m. steps s.queue (call_events s call) ++ steps m ys) (sym (queue_after s call))

-- what is read of steps one by one is read of the events of a legal history one by one
module _ {X : Type 0} (f : Step → Option X) (g : Event → Option X)
    (one : (s : State) (call : Call) → filter_map f (steps s.queue (call_events s call))
    ≡ filter_map g (event_at s call ∷ [])) where
  pub carried : (s : State) (h : List Event) → IsLegal s h
      → filter_map f (steps s.queue (flat s h)) ≡ filter_map g h
  carried s [] legal = refl
  carried s (e ∷ h) legal =
      ap (filter_map f) (flat_step s e.call (flat (then_after s e) h))
      ∙ filter_map-append f (steps s.queue (call_events s e.call))
      (steps (then_after s e).queue (flat (then_after s e) h))
      ∙ ap (λ xs. xs ++ filter_map f (steps (then_after s e).queue (flat (then_after s e) h)))
      (one s e.call ∙ ap (λ x. filter_map g (x ∷ [])) (sym legal.0))
      ∙ ap (λ xs. filter_map g (e ∷ []) ++ xs) (carried (then_after s e) h legal.1)
      ∙ sym (filter_map-append g (e ∷ []) h)

-- ---- CLTUs accepted

abbrev accepted_of : Step → Option Cltu
accepted_of step = run.accepted_by step.event step.reply

abbrev accepted_in : Event → Option Cltu
accepted_in e = accepted_by e.call e.reply

accepted_notice : (b : Bool) (m : Machine) → filter_map accepted_of (steps m (notice_where b)) ≡ []
accepted_notice true m = refl
accepted_notice false m = refl

accepted_stop : (b : Bool) (m : Machine) → filter_map accepted_of (steps m (stop_where b)) ≡ []
accepted_stop true m = refl
accepted_stop false m = refl

-- what a TRANSFER-DATA accepts
accepted_transfer : (m : Machine) (cltu : Cltu) (now : ℕ) → m.started ≡ true
    → run.accepted_by (queue.transfer cltu now) (forward m (queue.transfer cltu now)).1
    ≡ where_taken cltu (transfer_reply (on_transfer m cltu now).1)
accepted_transfer m cltu now one =
    ap (λ x. run.accepted_by (queue.transfer cltu now) x.1) (transfers m cltu now one)
    ∙ by_refusal (refusal m cltu now)
  where
    by_refusal : (r : Option CltuTransferDataDiagnostic) → run.accepted_by (queue.transfer cltu now)
        (transferred (queued_unless r m cltu).1) ≡ where_taken cltu (transfer_reply (queued_unless r m cltu).1)
    by_refusal None = refl
    by_refusal (Some d) = refl

abbrev accepted_by_ask : Ask → BookReply → Option Cltu
accepted_by_ask (ask.CltuTransfer cltu) reply = where_taken cltu reply
accepted_by_ask _ reply = None

accepted_answer : (door reading : ℕ) (ask : Ask) (want : Want) (a : Answer)
    → accepted_by (answer door reading ask want) (answered a) ≡ accepted_by_ask ask a.reply
accepted_answer door reading ask.Nothing want a = refl
accepted_answer door reading ask.Quiet want a = refl
accepted_answer door reading (ask.Bind i) want a = refl
accepted_answer door reading ask.Unbind want a = refl
accepted_answer door reading (ask.CltuStart first) want a = refl
accepted_answer door reading (ask.CltuTransfer cltu) want a = refl
accepted_answer door reading ask.CltuStop want a = refl

accepted_ask : (s : State) (door now : ℕ) (ask : Ask) (lost : Bool) → is_lost s door ask ≡ lost
    → filter_map accepted_of (steps s.queue (fit_events lost s door now ask))
    ≡ cons_option (accepted_by_ask ask (if lost then Lost else reply_asked s door now ask)) []
accepted_ask s door now ask.Nothing true e = refl
accepted_ask s door now ask.Quiet true e = refl
accepted_ask s door now (ask.Bind i) true e = refl
accepted_ask s door now ask.Unbind true e = refl
accepted_ask s door now (ask.CltuStart first) true e = refl
accepted_ask s door now (ask.CltuTransfer cltu) true e = refl
accepted_ask s door now ask.CltuStop true e = refl
accepted_ask s door now ask.Nothing false e = refl
accepted_ask s door now ask.Quiet false e = refl
accepted_ask s door now (ask.Bind i) false e = refl
accepted_ask s door now ask.Unbind false e = accepted_stop (is_running s door) s.queue
accepted_ask s door now (ask.CltuStart first) false e = refl
accepted_ask s door now (ask.CltuTransfer cltu) false e =
    ap (λ o. cons_option o []) (accepted_transfer s.queue cltu now (of_both _ _ e))
accepted_ask s door now ask.CltuStop false e = refl

one_accepted : (s : State) (call : Call)
    → filter_map accepted_of (steps s.queue (call_events s call))
    ≡ filter_map accepted_in (event_at s call ∷ [])
one_accepted s (publish entries) = refl
one_accepted s (answer door reading ask want) =
    let now = moment_at s reading in
    let xs = fit_events (is_lost s door ask) s door now ask in
    let ys = notice_where (is_told s door now ask) in
    ap (filter_map accepted_of) (steps_append s.queue xs ys)
    ∙ filter_map-append accepted_of (steps s.queue xs) (steps (run.after s.queue xs) ys)
    ∙ ap (λ zs. filter_map accepted_of (steps s.queue xs) ++ zs)
    (accepted_notice (is_told s door now ask) (run.after s.queue xs))
    ∙ append-nil (filter_map accepted_of (steps s.queue xs))
    ∙ accepted_ask s door now ask (is_lost s door ask) refl
    ∙ ap (λ o. cons_option o []) (sym (accepted_answer door reading ask want
    (answer_to s door now ask want)))
one_accepted s (quit door) = accepted_stop (is_running s door) s.queue
one_accepted s (take reading) = refl
one_accepted s (done run id reading) = refl
one_accepted s (interrupted run id reading) = refl
one_accepted s (uplink production status reading) = refl
one_accepted s (gone worker) = refl

pub accepted_flat : (s : State) (h : List Event) → IsLegal s h
    → run.accepted (steps s.queue (flat s h)) ≡ accepted_cltus h
accepted_flat s h legal = carried accepted_of accepted_in one_accepted s h legal

-- ---- radiations

abbrev radiation_of : Step → Option Radiation
radiation_of step = run.radiation_by step.event step.reply

abbrev radiation_in : Event → Option Radiation
radiation_in e = radiation_by e.moment e.reply

radiated_notice : (b : Bool) (m : Machine) → filter_map radiation_of (steps m (notice_where b)) ≡ []
radiated_notice true m = refl
radiated_notice false m = refl

radiated_stop : (b : Bool) (m : Machine) → filter_map radiation_of (steps m (stop_where b)) ≡ []
radiated_stop true m = refl
radiated_stop false m = refl

radiated_ask : (s : State) (door now : ℕ) (ask : Ask) (lost : Bool)
    → filter_map radiation_of (steps s.queue (fit_events lost s door now ask)) ≡ []
radiated_ask s door now ask true = refl
radiated_ask s door now ask.Nothing false = refl
radiated_ask s door now ask.Quiet false = refl
radiated_ask s door now (ask.Bind i) false = refl
radiated_ask s door now ask.Unbind false = radiated_stop (is_running s door) s.queue
radiated_ask s door now (ask.CltuStart first) false = refl
radiated_ask s door now (ask.CltuTransfer cltu) false = refl
radiated_ask s door now ask.CltuStop false = refl

radiated_take : (now : ℕ) (t : Taken) → run.radiation_by (queue.take now) (was_taken t)
    ≡ radiation_by now (took t)
radiated_take now Idle = refl
radiated_take now (Waits until) = refl
radiated_take now (Expired id) = refl
radiated_take now (Radiate run id octets) = refl

one_radiated : (s : State) (call : Call)
    → filter_map radiation_of (steps s.queue (call_events s call))
    ≡ filter_map radiation_in (event_at s call ∷ [])
one_radiated s (publish entries) = by_reply (may_publish s entries)
  where
    by_reply : (b : Bool) → [] ≡ cons_option (radiation_by s.moment (if b then accepted
        else foreign)) []
    by_reply true = refl
    by_reply false = refl
one_radiated s (answer door reading ask want) =
    let now = moment_at s reading in
    let xs = fit_events (is_lost s door ask) s door now ask in
    let ys = notice_where (is_told s door now ask) in
    ap (filter_map radiation_of) (steps_append s.queue xs ys)
    ∙ filter_map-append radiation_of (steps s.queue xs) (steps (run.after s.queue xs) ys)
    ∙ ap (λ zs. filter_map radiation_of (steps s.queue xs) ++ zs)
    (radiated_notice (is_told s door now ask) (run.after s.queue xs))
    ∙ append-nil (filter_map radiation_of (steps s.queue xs))
    ∙ radiated_ask s door now ask (is_lost s door ask)
one_radiated s (quit door) = radiated_stop (is_running s door) s.queue
one_radiated s (take reading) = ap (λ o. cons_option o [])
    (radiated_take (moment_at s reading) (on_take s.queue (moment_at s reading)).1)
one_radiated s (done run id reading) = refl
one_radiated s (interrupted run id reading) = refl
one_radiated s (uplink production status reading) = refl
one_radiated s (gone worker) = refl

pub radiated_flat : (s : State) (h : List Event) → IsLegal s h
    → run.radiations (steps s.queue (flat s h)) ≡ radiations h
radiated_flat s h legal = carried radiation_of radiation_in one_radiated s h legal

-- ---- runs that begin

begun_notice : (b : Bool) (m : Machine) → list_any run.begins_run (steps m (notice_where b)) ≡ false
begun_notice true m = refl
begun_notice false m = refl

begun_stop : (b : Bool) (m : Machine) → list_any run.begins_run (steps m (stop_where b)) ≡ false
begun_stop true m = refl
begun_stop false m = refl

abbrev begun_by_ask : Ask → BookReply → Option ℕ
begun_by_ask (ask.CltuStart first) reply = where_started first reply
begun_by_ask _ reply = None

begun_answer : (door reading : ℕ) (ask : Ask) (want : Want) (a : Answer)
    → run_begun_by (answer door reading ask want) (answered a) ≡ begun_by_ask ask a.reply
begun_answer door reading ask.Nothing want a = refl
begun_answer door reading ask.Quiet want a = refl
begun_answer door reading (ask.Bind i) want a = refl
begun_answer door reading ask.Unbind want a = refl
begun_answer door reading (ask.CltuStart first) want a = refl
begun_answer door reading (ask.CltuTransfer cltu) want a = refl
begun_answer door reading ask.CltuStop want a = refl

begun_start : (m : Machine) (first now : ℕ) → m.started ≡ false
    → (run.begins_run_by (queue.start first) (forward m (queue.start first)).1 || false)
    ≡ is_some (where_started first (start_reply now (on_start m first).1))
begun_start m first now none =
    ap (λ x. run.begins_run_by (queue.start first) x.1 || false) (begins m first none)
    ∙ by_result (on_start m first).1
  where
    by_result : (r : Result (Unit {0}) CltuStartDiagnostic)
        → (run.begins_run_by (queue.start first) (started r) || false)
        ≡ is_some (where_started first (start_reply now r))
    by_result (Ok u) = refl
    by_result (Err d) = refl

begun_ask : (s : State) (door now : ℕ) (ask : Ask) (lost : Bool) → is_lost s door ask ≡ lost
    → list_any run.begins_run (steps s.queue (fit_events lost s door now ask))
    ≡ is_some (begun_by_ask ask (if lost then Lost else reply_asked s door now ask))
begun_ask s door now ask.Nothing true e = refl
begun_ask s door now ask.Quiet true e = refl
begun_ask s door now (ask.Bind i) true e = refl
begun_ask s door now ask.Unbind true e = refl
begun_ask s door now (ask.CltuStart first) true e = refl
begun_ask s door now (ask.CltuTransfer cltu) true e = refl
begun_ask s door now ask.CltuStop true e = refl
begun_ask s door now ask.Nothing false e = refl
begun_ask s door now ask.Quiet false e = refl
begun_ask s door now (ask.Bind i) false e = refl
begun_ask s door now ask.Unbind false e = begun_stop (is_running s door) s.queue
begun_ask s door now (ask.CltuStart first) false e = begun_start s.queue first now (or_right _ _ e)
begun_ask s door now (ask.CltuTransfer cltu) false e = refl
begun_ask s door now ask.CltuStop false e = refl

or_false : (b : Bool) → (b || false) ≡ b
or_false true = refl
or_false false = refl

one_begun : (s : State) (call : Call) → list_any run.begins_run (steps s.queue (call_events s call))
    ≡ is_some (run_begun (event_at s call))
one_begun s (publish entries) = refl
one_begun s (answer door reading ask want) =
    let now = moment_at s reading in
    let xs = fit_events (is_lost s door ask) s door now ask in
    let ys = notice_where (is_told s door now ask) in
    ap (list_any run.begins_run) (steps_append s.queue xs ys)
    ∙ list_any-append run.begins_run (steps s.queue xs) (steps (run.after s.queue xs) ys)
    ∙ ap (λ b. list_any run.begins_run (steps s.queue xs) || b)
    (begun_notice (is_told s door now ask) (run.after s.queue xs))
    ∙ or_false (list_any run.begins_run (steps s.queue xs))
    ∙ begun_ask s door now ask (is_lost s door ask) refl
    ∙ ap is_some (sym (begun_answer door reading ask want (answer_to s door now ask want)))
one_begun s (quit door) = begun_stop (is_running s door) s.queue
one_begun s (take reading) = refl
one_begun s (done run id reading) = refl
one_begun s (interrupted run id reading) = refl
one_begun s (uplink production status reading) = refl
one_begun s (gone worker) = refl

begun_flat : (s : State) (h : List Event) → IsLegal s h
    → list_any run.begins_run (steps s.queue (flat s h)) ≡ list_any (λ e. is_some (run_begun e)) h
begun_flat s [] legal = refl
begun_flat s (e ∷ h) legal =
    let ys = flat (then_after s e) h in
    ap (list_any run.begins_run) (flat_step s e.call ys)
    ∙ list_any-append run.begins_run (steps s.queue (call_events s e.call))
    (steps (then_after s e).queue ys)
    ∙ ap (λ b. b || list_any run.begins_run (steps (then_after s e).queue ys)) (one_begun s e.call
    ∙ ap (λ x. is_some (run_begun x)) (sym legal.0))
    ∙ ap (λ b. is_some (run_begun e) || b) (begun_flat (then_after s e) h legal.1)

-- ---- a run

-- a notice that is told leaves the number of the run
notice_keeps : (b : Bool) (m : Machine) → (run.after m (notice_where b)).run ≡ m.run
notice_keeps false m = refl
notice_keeps true m = by_notices m.notices
  where
    by_notices : (notices : List Notice) → (on_notice_of notices m).0.run ≡ m.run
    by_notices [] = refl
    by_notices (first ∷ others) = refl

-- the queue's START that begins a run, with the notice that may follow it
pub record Begun (s : State) (call : Call) (first : ℕ) : Type 0 where
  pub told : Bool
  pub begins_run : (forward s.queue (queue.start first)).1 ≡ started (Ok tt)
  pub queue_is : (after s call).queue ≡ run.after (forward s.queue (queue.start first)).0
      (notice_where told)

started_where : (f first now : ℕ) (r : Result (Unit {0}) CltuStartDiagnostic)
    → where_started f (start_reply now r) ≡ Some first → (f ≡ first) × (r ≡ Ok tt)
started_where f first now (Ok u) e = (cc e, refl)
started_where f first now (Err d) e = absurd (cc e)

begun_by_start : (s : State) (door reading : ℕ) (f first : ℕ) (want : Want) (lost : Bool)
    → is_lost s door (ask.CltuStart f) ≡ lost
    → where_started f (if lost then Lost else start_reply (moment_at s reading)
    (on_start s.queue f).1) ≡ Some first
    → Begun s (answer door reading (ask.CltuStart f) want) first
begun_by_start s door reading f first want true e is = absurd (cc is)
begun_by_start s door reading f first want false e is =
    let none : s.queue.started ≡ false = or_right _ _ e in
    let here = started_where f first (moment_at s reading) (on_start s.queue f).1 is in
    let told = is_told s door (moment_at s reading) (ask.CltuStart f) in
    let after_f : (after s (answer door reading (ask.CltuStart f) want)).queue
    ≡ run.after (forward s.queue (queue.start f)).0 (notice_where told) =
    queue_after s (answer door reading (ask.CltuStart f) want)
    ∙ ap (λ b. run.after s.queue (fit_events b s door (moment_at s reading) (ask.CltuStart f)
    ++ notice_where told)) e in
    subst (λ n. Begun s (answer door reading (ask.CltuStart f) want) n) here.0 (record {
      told = told;
      begins_run = ap (λ x. x.1) (begins s.queue f none) ∙ ap (λ r. started r) here.1;
      queue_is = after_f;
    })

pub begun_of : (s : State) (call : Call) (first : ℕ) → run_begun (event_at s call) ≡ Some first
    → Begun s call first
begun_of s (publish entries) first is = absurd (cc is)
begun_of s (answer door reading ask.Nothing want) first is = absurd (cc is)
begun_of s (answer door reading ask.Quiet want) first is = absurd (cc is)
begun_of s (answer door reading (ask.Bind i) want) first is = absurd (cc is)
begun_of s (answer door reading ask.Unbind want) first is = absurd (cc is)
begun_of s (answer door reading (ask.CltuStart f) want) first is =
    begun_by_start s door reading f first want (is_lost s door (ask.CltuStart f)) refl is
begun_of s (answer door reading (ask.CltuTransfer cltu) want) first is = absurd (cc is)
begun_of s (answer door reading ask.CltuStop want) first is = absurd (cc is)
begun_of s (quit door) first is = absurd (cc is)
begun_of s (take reading) first is = absurd (cc is)
begun_of s (done run id reading) first is = absurd (cc is)
begun_of s (interrupted run id reading) first is = absurd (cc is)
begun_of s (uplink production status reading) first is = absurd (cc is)
begun_of s (gone worker) first is = absurd (cc is)

-- what a law of the queue says of the steps of a run says of its events
abbrev pub Queues : Type 0
Queues = (m : Machine) (first : ℕ) (events : List queue.Event)
    → (forward m (queue.start first)).1 ≡ started (Ok tt)
    → IsTrue (run.are_of_one_run (steps (forward m (queue.start first)).0 events))
    → run.IsLawful (forward m (queue.start first)).0.run first
    (steps (forward m (queue.start first)).0 events)

pub lawful_run : Queues → (s : State) (e : Event) (k : List Event) (first : ℕ) → IsLegal s (e ∷ k)
    → run_begun e ≡ Some first
    → IsTrue (are_of_one_run k) → IsLawful (then_after s e).queue.run first k
lawful_run queues s e k first legal is one =
    let begun = begun_of s e.call first (ap run_begun (sym legal.0) ∙ is) in
    let m = (forward s.queue (queue.start first)).0 in
    let t = then_after s e in
    let xs = notice_where begun.told in
    let ys = flat t k in
    let all : steps m (xs ++ ys) ≡ steps m xs ++ steps t.queue ys =
    steps_append m xs ys ∙ ap (λ n. steps m xs ++ steps n ys) (sym begun.queue_is) in
    let begins_none : list_any run.begins_run (steps m (xs ++ ys))
    ≡ list_any (λ e. is_some (run_begun e)) k =
    ap (list_any run.begins_run) all
    ∙ list_any-append run.begins_run (steps m xs) (steps t.queue ys)
    ∙ ap (λ b. b || list_any run.begins_run (steps t.queue ys)) (begun_notice begun.told m)
    ∙ begun_flat t k legal.1 in
    let accepts : run.accepted (steps m (xs ++ ys)) ≡ accepted_cltus k =
    ap (filter_map accepted_of) all
    ∙ filter_map-append accepted_of (steps m xs) (steps t.queue ys)
    ∙ ap (λ zs. zs ++ filter_map accepted_of (steps t.queue ys)) (accepted_notice begun.told m)
    ∙ accepted_flat t k legal.1 in
    let radiates : run.radiations (steps m (xs ++ ys)) ≡ radiations k =
    ap (filter_map radiation_of) all
    ∙ filter_map-append radiation_of (steps m xs) (steps t.queue ys)
    ∙ ap (λ zs. zs ++ filter_map radiation_of (steps t.queue ys)) (radiated_notice begun.told m)
    ∙ radiated_flat t k legal.1 in
    let number : m.run ≡ t.queue.run = sym (ap (λ n. n.run) begun.queue_is
    ∙ notice_keeps begun.told m) in
    let law = queues s.queue first (xs ++ ys) begun.begins_run
    (subst (λ b. IsTrue (not b)) (sym begins_none) one) in
    record {
      numbered = subst (λ cs. ids_of cs ≡ count_up first (length cs)) accepts law.numbered;
      in_order =
          subst (λ n. RadiateInOrder n (accepted_cltus k) (radiations k)) number
          (subst (λ rs. RadiateInOrder m.run (accepted_cltus k) rs) radiates
          (subst (λ cs. RadiateInOrder m.run cs (run.radiations (steps m (xs ++ ys)))) accepts
          law.in_order));
    }

pub run_of_history : Queues → (s : State) (h : List Event) (e : Event) (k : List Event) (first : ℕ)
    → IsLegal s (h ++ e ∷ k) → run_begun e ≡ Some first
    → IsTrue (are_of_one_run k) → IsLawful (replay s (h ++ e ∷ [])).queue.run first k
run_of_history queues s h e k first legal is one =
    subst (λ t. IsLawful t.queue.run first k) (sym (fold-append then_after s h (e ∷ [])))
    (lawful_run queues (replay s h) e k first (legal_goes_on s h (e ∷ k) legal) is one)

-- ---- all radiations

abbrev pub InTurn : Type 0
InTurn = (room longest : ℕ) (events : List queue.Event)
    → AreInTurn (run.radiations (steps (new_machine room longest) events))

pub in_turn : InTurn → (o : Opening) (h : List Event) → IsLegal (opened o) h
    → AreInTurn (radiations h)
in_turn law o h legal = subst (λ rs. AreInTurn rs) (radiated_flat (opened o) h legal)
    (law o.room o.longest (flat (opened o) h))
