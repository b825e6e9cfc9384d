-- What the calls of one door leave of another's.
use Rattle.std.proofs.Common.{◌≡◌, ℕ, Bool, true, false, not, ◌&&◌, ◌||◌, ◌==◌}
use Rattle.std.proofs.Common.{nat_lt, if◌then◌else◌, cond, Option, Some, None, is_some, List, []}
use Rattle.std.proofs.Common.{◌∷◌, ◌++◌, zero, suc, length, slice_get, slice_set, get_or}
use Rattle.std.proofs.Common.{IsFalse, refl, ap, sym, subst, ◌∙◌, arith}
use Rattle.std.specs.List.{position, position_or_len, list_any}
use Rattle.std.specs.Option.{option_map_or}
use Rattle.std.proofs.lemmas.List.{length-set}
use Rattle.std.proofs.lemmas.List.Folds.{position_or_len-set}
use Rattle.std.proofs.lemmas.List.Quantifiers.{position-Some}
use Rattle.std.proofs.lemmas.Option.{slice_get-get_or}
use Rattle.std.proofs.lemmas.Bool.Decides.{nat_tests}
use Rattle.fcltu_numbers.specs.declared.cltu_production_status.CltuProductionStatus.{CltuProductionStatus}
use Rattle.fcltu_numbers.specs.declared.cltu_production_status.CltuProductionStatus.TheVariants.{Operational, Configured}
use Rattle.fcltu_numbers.specs.declared.cltu_production_status.CltuProductionStatus.TheVariants.{Interrupted, Halted}
use Rattle.fcltu_numbers.specs.declared.uplink_status.UplinkStatus.{UplinkStatus}
use Rattle.fcltu_numbers.specs.declared.cltu_transfer_data_diagnostic.CltuTransferDataDiagnostic.{CltuTransferDataDiagnostic}
use Rattle.cltu_queue.specs.Machine.{Machine, on_transfer, on_stop, on_take, on_take_of}
use Rattle.cltu_queue.specs.Machine.{on_radiation_of, is_idle, begins_at}
use Rattle.cltu_queue.specs.Machine.{on_done, on_done_of, is_this, is_of_run, ended}
use Rattle.cltu_queue.specs.Machine.{radiated_at, with_radiation_notice}
use Rattle.cltu_queue.specs.Machine.{on_interrupted, on_interrupted_of, on_uplink}
use Rattle.cltu_queue.specs.Machine.{changed_to, is_same, on_notice, on_notice_of, queued_unless}
use Rattle.cltu_queue.specs.Machine.{refusal}
use Rattle.cltu_queue.specs.Times.{is_above, latest_of}
use Rattle.cltu_queue.specs.declared.cltu.Cltu.{Cltu}
use Rattle.cltu_queue.specs.declared.in_air.InAir.{InAir}
use Rattle.cltu_queue.specs.declared.notice.Notice.{Notice}
use Rattle.cltu_queue.specs.declared.taken.Taken.{Taken}
use Rattle.cltu_queue.specs.declared.ask.Ask.{Ask}
use Rattle.cltu_queue.specs.declared.ask.Ask.TheVariants as ask
use Rattle.station_book.specs.State.{State, Event, Call, publish, answer, quit, take, done}
use Rattle.station_book.specs.State.{interrupted, uplink, gone}
use Rattle.station_book.specs.History.{moment_at, is_of, instance_of, is_forward, has_forward}
use Rattle.station_book.specs.History.{is_running, is_taken, freed, without_run, is_lost, is_told}
use Rattle.station_book.specs.History.{doors_asked, queue_asked, with_ask, asked, queue_answered}
use Rattle.station_book.specs.History.{may_publish, after, then_after, replay}
use Rattle.station_book.specs.Doors.{is_by, HasOneForward}
use Rattle.station_book.proofs.Histories.{opening_stays}

-- ---- what moves no door

set_leaves : (door : ℕ) (doors : List (Option ℕ)) (i : ℕ) (holder : Option ℕ)
    → is_of door holder ≡ false → is_of door (get_or doors i None) ≡ false
    → position (is_of door) (slice_set doors i holder) ≡ position (is_of door) doors
set_leaves door doors i holder new old =
    let places : position_or_len (is_of door) (slice_set doors i holder)
    ≡ position_or_len (is_of door) doors =
    position_or_len-set (is_of door) doors i holder None (new ∙ sym old) in
    ap (λ n. cond (nat_lt n (length (slice_set doors i holder))) (Some n) None) places
    ∙ ap (λ n. cond (nat_lt (position_or_len (is_of door) doors) n)
    (Some (position_or_len (is_of door) doors)) None) (length-set doors i holder)

-- an instance that nobody has isn't this door's
free_is_not : (door : ℕ) (doors : List (Option ℕ)) (i : ℕ) → is_taken (slice_get doors i) ≡ false
    → is_of door (get_or doors i None) ≡ false
free_is_not door [] i e = refl
free_is_not door (None ∷ doors) zero e = refl
free_is_not door (Some d ∷ doors) zero e = absurd (cc e)
free_is_not door (x ∷ doors) (suc i) e = free_is_not door doors i e

-- the place at which a door stands holds it
is_of_same : (door : ℕ) (holder : Option ℕ) → is_of door holder ≡ true → holder ≡ Some door
is_of_same door None e = absurd (cc e)
is_of_same door (Some other) e = let same : other ≡ door = grind (arith, nat_tests) in
    ap (λ n. Some n) same

stands_at : (door : ℕ) (doors : List (Option ℕ)) (i : ℕ) → position (is_of door) doors ≡ Some i
    → slice_get doors i ≡ Some (Some door)
stands_at door doors i e =
    let at = position-Some (is_of door) doors i None e in
    slice_get-get_or doors i None at.0
    ∙ ap (λ h. Some h) (is_of_same door (get_or doors i None) at.1)

other_is_not : (door other : ℕ) → (other == door) ≡ false → (holder : Option ℕ)
    → holder ≡ Some other → is_of door holder ≡ false
other_is_not door other apart holder is = ap (is_of door) is ∙ apart

freed_leaves : (s : State) (door other : ℕ) → (other == door) ≡ false
    → position (is_of door) (freed s other) ≡ instance_of s door
freed_leaves s door other apart = at_place (instance_of s other) refl
  where
    at_place : (o : Option ℕ) → instance_of s other ≡ o
        → position (is_of door) (option_map_or (λ place. slice_set s.doors place None) o s.doors)
        ≡ instance_of s door
    at_place None e = refl
    at_place (Some i) e =
        let at = position-Some (is_of other) s.doors i None e in
        set_leaves door s.doors i None refl (other_is_not door other apart (get_or s.doors i None)
        (is_of_same other (get_or s.doors i None) at.1))

bound_leaves : (s : State) (door other i : ℕ) (taken : Bool)
    → is_taken (slice_get s.doors i) ≡ taken → (other == door) ≡ false
    → position (is_of door) (if taken then s.doors else slice_set s.doors i (Some other))
    ≡ instance_of s door
bound_leaves s door other i true e apart = refl
bound_leaves s door other i false e apart = set_leaves door s.doors i (Some other) apart
    (free_is_not door s.doors i e)

ask_leaves : (s : State) (door other : ℕ) (ask : Ask) → (other == door) ≡ false
    → position (is_of door) (doors_asked s other ask) ≡ instance_of s door
ask_leaves s door other ask.Nothing apart = refl
ask_leaves s door other ask.Quiet apart = refl
ask_leaves s door other (ask.Bind i) apart = bound_leaves s door other i
    (is_taken (slice_get s.doors i)) refl apart
ask_leaves s door other ask.Unbind apart = freed_leaves s door other apart
ask_leaves s door other (ask.CltuStart first) apart = refl
ask_leaves s door other (ask.CltuTransfer cltu) apart = refl
ask_leaves s door other ask.CltuStop apart = refl

pub answer_leaves : (s : State) (door other now : ℕ) (ask : Ask) → (other == door) ≡ false
    → instance_of (asked s other now ask) door ≡ instance_of s door
answer_leaves s door other now ask apart =
    elim (is_lost s other ask) as (λ b. instance_of (if b then s else with_ask s other now ask) door
    ≡ instance_of s door) [ true ↦ refl | false ↦ ask_leaves s door other ask apart ]

pub instance_stays : (s : State) (call : Call) (door : ℕ) → is_by door call ≡ false
    → instance_of (after s call) door ≡ instance_of s door
instance_stays s (publish entries) door e =
    elim (may_publish s entries) as (λ b. instance_of
    (if b then record s { published = s.published ++ entries } else s) door
    ≡ instance_of s door) [ true ↦ refl | false ↦ refl ]
instance_stays s (answer other reading ask want) door e =
    answer_leaves s door other (moment_at s reading) ask e
instance_stays s (quit other) door e = freed_leaves s door other e
instance_stays s (take reading) door e = refl
instance_stays s (done run id reading) door e = refl
instance_stays s (interrupted run id reading) door e = refl
instance_stays s (uplink production status reading) door e = refl
instance_stays s (gone worker) door e = refl

-- ---- what starts and stops no run

either : (b : Bool) (x y : Machine) (v : Bool) → x.started ≡ v → y.started ≡ v
    → (if b then x else y).started ≡ v
either true x y v p q = p
either false x y v p q = q

either_taken : (b : Bool) (x y : Machine × Taken) (v : Bool) → x.0.started ≡ v → y.0.started ≡ v
    → (if b then x else y).0.started ≡ v
either_taken true x y v p q = p
either_taken false x y v p q = q

pub started_transfer : (m : Machine) (cltu : Cltu) (now : ℕ)
    → (on_transfer m cltu now).0.started ≡ m.started
started_transfer m cltu now = at_refusal (refusal m cltu now)
  where
    at_refusal : (r : Option CltuTransferDataDiagnostic) → (queued_unless r m cltu).0.started ≡ m.started
    at_refusal None = refl
    at_refusal (Some d) = refl

pub started_take : (m : Machine) (now : ℕ) → (on_take m now).0.started ≡ m.started
started_take m now = of_waiting m.waiting
  where
    of_radiation : (ws : List Cltu) → (on_radiation_of ws m now).0.started ≡ m.started
    of_radiation [] = refl
    of_radiation (w ∷ ws) = refl

    of_waiting : (ws : List Cltu) → (on_take_of ws m now).0.started ≡ m.started
    of_waiting [] = refl
    of_waiting (w ∷ ws) =
        either_taken (is_idle m) _ _ m.started refl
        (either_taken (is_above (Some now) (latest_of w)) _ _ m.started refl
        (either_taken (nat_lt now (begins_at m w)) _ _ m.started refl (of_radiation m.waiting)))

started_ended : (m : Machine) (a : InAir) (now : ℕ) → (ended a now m).started ≡ m.started
started_ended m a now =
    let told = with_radiation_notice a.wanted (radiated_at a now m) in
    either (length told.waiting == 0) _ told m.started (either a.wanted _ _ m.started refl refl)
    (either a.wanted _ _ m.started refl refl)

pub started_done : (m : Machine) (run id now : ℕ) → (on_done m run id now).started ≡ m.started
started_done m run id now = of_air m.in_air
  where
    of_air : (o : Option InAir) → (on_done_of o m run id now).started ≡ m.started
    of_air None = refl
    of_air (Some a) = either (not (is_this run id a)) _ _ m.started refl
        (either (is_of_run m a) _ _ m.started (started_ended m a now) refl)

pub started_interrupted : (m : Machine) (run id : ℕ) → (on_interrupted m run id).started ≡ m.started
started_interrupted m run id = of_air m.in_air
  where
    of_air : (o : Option InAir) → (on_interrupted_of o m run id).started ≡ m.started
    of_air None = refl
    of_air (Some a) = either (not (is_this run id a)) _ _ m.started refl
        (either (is_of_run m a) _ _ m.started refl refl)

started_changed : (production : CltuProductionStatus) (m : Machine)
    → (changed_to production m).started ≡ m.started
started_changed Operational m = refl
started_changed Configured m = refl
started_changed Interrupted m = refl
started_changed Halted m = refl

pub started_uplink : (m : Machine) (production : CltuProductionStatus) (status : UplinkStatus)
    → (on_uplink m production status).started ≡ m.started
started_uplink m production status =
    let set : Machine = record m { production = production; status = status } in
    either (m.started && not (is_same m.production production)) _ _ m.started
    (started_changed production set) refl

started_notice : (m : Machine) → (on_notice m).0.started ≡ m.started
started_notice m = of_notices m.notices
  where
    of_notices : (ns : List Notice) → (on_notice_of ns m).0.started ≡ m.started
    of_notices [] = refl
    of_notices (n ∷ ns) = refl

pub started_told : (s : State) (door now : ℕ) (ask : Ask)
    → (queue_answered s door now ask).started ≡ (asked s door now ask).queue.started
started_told s door now ask =
    either (is_told s door now ask) _ _ (asked s door now ask).queue.started
    (started_notice (asked s door now ask).queue) refl

-- ---- another door's run

-- two doors don't have one instance
apart_instances : (s : State) (door other i : ℕ) → (other == door) ≡ false
    → instance_of s door ≡ Some i → instance_of s other ≡ Some i → ⊥
apart_instances s door other i apart e f =
    let same : Some (Some door) ≡ Some (Some other) = sym (stands_at door s.doors i e)
    ∙ stands_at other s.doors i f in
    let equal : door ≡ other = cc same in
    let test : (other == door) ≡ true = grind (arith, nat_tests) in
    cc (test, apart)

-- a door with the forward service's instance
pub record Forwards (s : State) (door : ℕ) : Type 0 where
  pub place : ℕ
  pub stands : instance_of s door ≡ Some place
  pub serves : is_forward (slice_get s.opening.services place) ≡ true

pub forwards : (s : State) (door : ℕ) → has_forward s door ≡ true → Forwards s door
forwards s door e = at_place (instance_of s door) refl e
  where
    at_place : (o : Option ℕ) → instance_of s door ≡ o
        → option_map_or (λ place. is_forward (slice_get s.opening.services place)) o false ≡ true
        → Forwards s door
    at_place None stands e = absurd (cc e)
    at_place (Some i) stands e = record { place = i; stands = stands; serves = e }

pub other_has_none : (s : State) (door other : ℕ) → HasOneForward s.opening.services
    → (other == door) ≡ false → has_forward s door ≡ true → has_forward s other ≡ false
other_has_none s door other one apart e = by_other (has_forward s other) refl
  where
    by_other : (b : Bool) → has_forward s other ≡ b → has_forward s other ≡ false
    by_other false f = f
    by_other true f =
        let a = forwards s door e in
        let b = forwards s other f in
        let same : b.place ≡ a.place = one b.place a.place b.serves a.serves in
        absurd (apart_instances s door other a.place apart a.stands (b.stands
        ∙ ap (λ n. Some n) same))

pub not_running : (s : State) (other : ℕ) → has_forward s other ≡ false → is_running s other ≡ false
not_running s other e = ap (λ b. b && s.queue.started) e

without_leaves : (s : State) (other : ℕ) → has_forward s other ≡ false
    → (without_run s other).started ≡ s.queue.started
without_leaves s other e = ap (λ b. (if b then on_stop s.queue else s.queue).started)
    (not_running s other e)

true_or : (b : Bool) → (not false || b) ≡ true
true_or b = refl

not_false : not false ≡ true
not_false = refl

-- an ask of a door without the forward service's instance starts and stops no run
pub ask_leaves_run : (s : State) (other now : ℕ) (ask : Ask) → has_forward s other ≡ false
    → (asked s other now ask).queue.started ≡ s.queue.started
ask_leaves_run s other now wanted e = by_lost (is_lost s other wanted) refl
  where
    fits : (x : Ask) → is_lost s other x ≡ false
        → (queue_asked s other now x).started ≡ s.queue.started
    fits ask.Nothing l = refl
    fits ask.Quiet l = refl
    fits (ask.Bind i) l = refl
    fits ask.Unbind l = without_leaves s other e
    fits (ask.CltuStart first) l =
        absurd (cc (ap (λ b. not b || s.queue.started) e, l, true_or s.queue.started))
    fits (ask.CltuTransfer cltu) l = started_transfer s.queue cltu now
    fits ask.CltuStop l = absurd (cc (ap not (not_running s other e), l, not_false))

    by_lost : (b : Bool) → is_lost s other wanted ≡ b
        → (if b then s else with_ask s other now wanted).queue.started ≡ s.queue.started
    by_lost true l = refl
    by_lost false l = fits wanted l

pub call_leaves_run : (s : State) (call : Call) (door : ℕ) → HasOneForward s.opening.services
    → is_by door call ≡ false → has_forward s door ≡ true
    → (after s call).queue.started ≡ s.queue.started
call_leaves_run s (publish entries) door one apart e =
    elim (may_publish s entries) as (λ b. (if b then record s { published = s.published ++ entries }
    else s).queue.started ≡ s.queue.started) [ true ↦ refl | false ↦ refl ]
call_leaves_run s (answer other reading ask want) door one apart e =
    started_told s other (moment_at s reading) ask
    ∙ ask_leaves_run s other (moment_at s reading) ask (other_has_none s door other one apart e)
call_leaves_run s (quit other) door one apart e =
    without_leaves s other (other_has_none s door other one apart e)
call_leaves_run s (take reading) door one apart e = started_take s.queue (moment_at s reading)
call_leaves_run s (done run id reading) door one apart e =
    started_done s.queue run id (moment_at s reading)
call_leaves_run s (interrupted run id reading) door one apart e = started_interrupted s.queue run id
call_leaves_run s (uplink production status reading) door one apart e =
    started_uplink s.queue production status
call_leaves_run s (gone worker) door one apart e = refl

pub forward_stays : (s : State) (call : Call) (door : ℕ) → is_by door call ≡ false
    → has_forward (after s call) door ≡ has_forward s door
forward_stays s call door apart =
    ap (λ o. option_map_or (λ place. is_forward (slice_get o.services place))
    (instance_of (after s call) door) false) (opening_stays s call)
    ∙ ap (λ i. option_map_or (λ place. is_forward (slice_get s.opening.services place)) i false)
    (instance_stays s call door apart)

pub run_stays : (s : State) (call : Call) (door : ℕ) → HasOneForward s.opening.services
    → is_by door call ≡ false → is_running (after s call) door ≡ is_running s door
run_stays s call door one apart =
    ap (λ b. b && (after s call).queue.started) (forward_stays s call door apart)
    ∙ by_forward (has_forward s door) refl
  where
    by_forward : (b : Bool) → has_forward s door ≡ b
        → (b && (after s call).queue.started) ≡ (b && s.queue.started)
    by_forward false e = refl
    by_forward true e = call_leaves_run s call door one apart e

neither : (a b : Bool) → (a || b) ≡ false → (a ≡ false) × (b ≡ false)
neither true b e = absurd (cc e)
neither false b e = (refl, e)

-- over any calls of others
pub instance_stays_over : (s : State) (h : List Event) (door : ℕ)
    → IsFalse (list_any (λ e. is_by door e.call) h)
    → instance_of (replay s h) door ≡ instance_of s door
instance_stays_over s [] door none = refl
instance_stays_over s (e ∷ h) door none =
    let parts = neither (is_by door e.call) (list_any (λ e. is_by door e.call) h) none in
    instance_stays_over (then_after s e) h door parts.1 ∙ instance_stays s e.call door parts.0

pub run_stays_over : (s : State) (h : List Event) (door : ℕ) → HasOneForward s.opening.services
    → IsFalse (list_any (λ e. is_by door e.call) h)
    → is_running (replay s h) door ≡ is_running s door
run_stays_over s [] door one none = refl
run_stays_over s (e ∷ h) door one none =
    let parts = neither (is_by door e.call) (list_any (λ e. is_by door e.call) h) none in
    run_stays_over (then_after s e) h door (subst (λ o. HasOneForward o.services)
    (sym (opening_stays s e.call)) one) parts.1
    ∙ run_stays s e.call door one parts.0

-- an ask is lost by what the door has alone
lost_by : (s t : State) (door : ℕ) (ask : Ask) → t.opening ≡ s.opening
    → instance_of t door ≡ instance_of s door → is_running t door ≡ is_running s door
    → has_forward t door ≡ has_forward s door → is_lost t door ask ≡ is_lost s door ask
lost_by s t door ask.Nothing o i r f = refl
lost_by s t door ask.Quiet o i r f = refl
lost_by s t door (ask.Bind n) o i r f = ap (λ x. is_some x
    || not (nat_lt n (length t.opening.services))) i
    ∙ ap (λ x. is_some (instance_of s door) || not (nat_lt n (length x.services))) o
lost_by s t door ask.Unbind o i r f = ap (λ x. not (is_some x)) i
lost_by s t door (ask.CltuStart first) o i r f =
    start_by (has_forward t door) (has_forward s door) t.queue.started s.queue.started f r
  where
    start_by : (f g b c : Bool) → f ≡ g → (f && b) ≡ (g && c) → (not f || b) ≡ (not g || c)
    start_by true true b c e r = r
    start_by false false b c e r = refl
    start_by true false b c e r = absurd (cc e)
    start_by false true b c e r = absurd (cc e)
lost_by s t door (ask.CltuTransfer cltu) o i r f = ap not r
lost_by s t door ask.CltuStop o i r f = ap not r

pub opening_stays_over : (s : State) (h : List Event) → (replay s h).opening ≡ s.opening
opening_stays_over s [] = refl
opening_stays_over s (e ∷ h) = opening_stays_over (then_after s e) h ∙ opening_stays s e.call

pub lost_stays_over : (s : State) (h : List Event) (door : ℕ) (ask : Ask)
    → HasOneForward s.opening.services → IsFalse (list_any (λ e. is_by door e.call) h)
    → is_lost (replay s h) door ask ≡ is_lost s door ask
lost_stays_over s h door ask one none =
    let same = opening_stays_over s h in
    let place = instance_stays_over s h door none in
    let forward : has_forward (replay s h) door ≡ has_forward s door =
    ap (λ o. option_map_or (λ place. is_forward (slice_get o.services place))
    (instance_of (replay s h) door) false) same
    ∙ ap (λ i. option_map_or (λ place. is_forward (slice_get s.opening.services place)) i false)
    place in
    lost_by s (replay s h) door ask same place (run_stays_over s h door one none) forward
