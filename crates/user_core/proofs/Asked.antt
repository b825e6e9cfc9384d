-- Once it is asked to end, a user of frames always awaits a return.
use Rattle.std.proofs.Common.{◌≡◌, ◌⊎◌, inl, inr, ⊎_elim, ℕ, ◌+◌, ◌-◌, ◌<◌, ◌==◌, Bool, true, false, Option, Some}
use Rattle.std.proofs.Common.{None, List, [], ◌∷◌, ◌&&◌, ◌||◌, refl, sym, ap, subst, ◌∙◌, arith}
use Rattle.std.specs.Prelude.{if◌then◌else◌, is_some, length, slice_get}
use Rattle.std.specs.List.{list_any}
use Rattle.isp1_tml.specs.Fault.{capped}
use Rattle.isp1_tml.specs.Message.{Content, spelling}
use Rattle.user_lines.specs.declared.told.Told.{Told}
use Rattle.user_lines.specs.Told.{told_in}
use Rattle.user_task.specs.declared.task.Task.{Task}
use Rattle.user_task.specs.declared.work.Work.{Work}
use Rattle.user_task.specs.declared.work.Work.TheVariants.{Show, Raf, Rcf, Cltu}
use Rattle.user_task.specs.declared.cltus.CltuLine.{CltuLine}
use Rattle.user_task.specs.Invocation.{Said, bind, start, schedule, transfer, stop, unbind}
use Rattle.user_task.specs.Invocation.{closing_at, forward_by, started_at, invocation_at}
use Rattle.user_task.specs.Work.{is_show, service_of, report_of, cltus_of}
use Rattle.user_core.specs.declared.course.Course.{Course}
use Rattle.user_core.specs.declared.event.Event.{Event}
use Rattle.user_core.specs.declared.event.Event.TheVariants.{Nothing, Returned, Halted, Emptied}
use Rattle.user_core.specs.declared.event.Event.TheVariants.{EndOfData, Aborted}
use Rattle.user_core.specs.Event.{event_of}
use Rattle.user_core.specs.Course.{is_over, rests, after, answered, aborted, closes, finished_by}
use Rattle.user_core.specs.Course.{is_awaited, has_begun, was_last, may_say, receives, awaited_of}
use Rattle.user_core.specs.Course.{invoke_at}
use Rattle.user_core.specs.Dialogue.{Talk, said_to, next_said, reports_by, reporting, going_on, went_on}
use Rattle.user_core.specs.Dialogue.{told_to, heard, heard_by}
use Rattle.user_core.specs.Dialogue.{refused_at, closed_by, opened, begun, beats, beating, bad_at}
use Rattle.user_core.specs.Dialogue.{asked_to, in_course}
use Rattle.user_core.specs.Hearing.{Kept, Hearing, nothing, came, ended, heard_all, heard_in, unread_in}
use Rattle.user_core.specs.Turn.{Standing, talk_of, talk_in, new_user}
use Rattle.user_core.specs.Laws.{Turn, after_turn, after_turns, EndsWhenAsked}

-- it was asked to end, or the data ended, and it awaits a return or is over
record Closing (c : Course) : Type 0 where
  closing : c.closing ≡ true
  rest : rests c ≡ true

-- a step keeps that
abbrev Keeps : Course → Course → Type 0
Keeps c e = Closing c → Closing e

if_closing : (x y : Talk) (b : Bool) → Closing x.course → Closing y.course
    → Closing (if b then x else y).course
if_closing x y true g h = g
if_closing x y false g h = h

-- ---- what is said

or_left : (a b : Bool) → a ≡ true → (a || b) ≡ true
or_left true b is = refl
or_left false b is = absurd cc

or_right : (a : Bool) → (a || true) ≡ true
or_right true = refl
or_right false = refl

finished_closing : (show : Bool) (c : Course) → show ≡ false → c.closing ≡ true
    → Closing (finished_by show c)
finished_closing true c invokes is = absurd cc
finished_closing false c invokes is = record { closing = is; rest = refl }

-- what asks for reports comes at one place, and it alone awaits no return
abbrev is_report : Option Said → Bool
is_report (Some (schedule cycle)) = true
is_report _ = false

rests_after : (s : Said) (invoke : ℕ) → is_report (Some s) ≡ false
    → is_some (awaited_of s invoke) ≡ true
rests_after bind invoke other = refl
rests_after start invoke other = refl
rests_after (schedule cycle) invoke other = absurd cc
rests_after (transfer line) invoke other = refl
rests_after stop invoke other = refl
rests_after unbind invoke other = refl

closing_by_no : (a b : Bool)
    → is_report (if a then Some stop else if b then Some unbind else None) ≡ false
closing_by_no true b = refl
closing_by_no false true = refl
closing_by_no false false = refl

forward_no : (left : ℕ) (line : Option CltuLine) → is_report (forward_by left line) ≡ false
forward_no left (Some line) = refl
forward_no left None = closing_by_no (left == 0) (left == 1)

started_no : (report : Option ℕ) (cltus : List CltuLine) (place : ℕ) → (place == 0) ≡ false
    → is_report (started_at report cltus place) ≡ false
started_no None cltus place is = forward_no (place - length cltus) (slice_get cltus place)
started_no (Some cycle) cltus place is =
    rw is (forward_no (place - 1 - length cltus) (slice_get cltus (place - 1)))

later_by : (work : Work) (place : ℕ) (show first second : Bool) → (place - 2 == 0) ≡ false
    → is_report (if show then None else if first then Some bind
    else if second then Some start
    else started_at (report_of work) (cltus_of work) (place - 2)) ≡ false
later_by work place true first second is = refl
later_by work place false true second is = refl
later_by work place false false true is = refl
later_by work place false false false is =
    started_no (report_of work) (cltus_of work) (place - 2) is

-- not after the third place
later_no : (work : Work) (place : ℕ) → 2 < place → is_report (invocation_at work place) ≡ false
later_no work place late =
    let left : (place - 2 == 0) ≡ false = grind (arith, late) in
    later_by work place (is_show work) (place == 0) (place == 1) left

early_by : (work : Work) (place : ℕ) (show first second : Bool) → (place == 0) ≡ first
    → (place == 1) ≡ second
    → is_report (if show then None else if first then Some bind
    else if second then Some start
    else started_at (report_of work) (cltus_of work) (place - 2)) ≡ true
    → 2 < place + 1
early_by work place true first second a b is = absurd cc
early_by work place false true second a b is = absurd cc
early_by work place false false true a b is = absurd cc
early_by work place false false false a b is = grind (arith, a, b)

-- nor before it
not_early : (work : Work) (place : ℕ) → is_report (invocation_at work place) ≡ true
    → 2 < place + 1
not_early work place is =
    early_by work place (is_show work) (place == 0) (place == 1) refl refl is

said_closing : (task : Task) (now : ℕ) (d : Talk) (s : Said) → d.course.closing ≡ true
    → is_report (Some s) ≡ false → Closing (said_to task now d s).course
unfolding said_to
said_closing task now d s is other = record {
  closing = is;
  rest = ap (λ b. is_some d.course.status || b) (rests_after s (invoke_at d.course.said) other)
      ∙ or_right (is_some d.course.status);
}

may_close : (work : Work) (c : Course) (s : Said) → c.closing ≡ true → may_say work c s ≡ true
may_close work c stop is = or_left c.closing _ is
may_close work c bind is = refl
may_close work c start is = refl
may_close work c (schedule cycle) is = refl
may_close work c (transfer line) is = refl
may_close work c unbind is = refl

next_closing : (task : Task) (now : ℕ) (d : Talk) (o : Option Said) → is_show task.work ≡ false
    → d.course.closing ≡ true → is_report o ≡ false → Closing (next_said task now d o).course
next_closing task now d None invokes is other =
    finished_closing (is_show task.work) d.course invokes is
next_closing task now d (Some s) invokes is other =
    subst (λ b. Closing (if b then said_to task now d s else d).course)
    (sym (may_close task.work d.course s is)) (said_closing task now d s is other)

going_closing : (task : Task) (now : ℕ) (d : Talk) → is_show task.work ≡ false
    → d.course.closing ≡ true → is_report (invocation_at task.work d.course.said) ≡ false
    → Closing (going_on task now d).course
unfolding going_on
going_closing task now d invokes is other =
    next_closing task now d (invocation_at task.work d.course.said) invokes is other

reports_closing : (task : Task) (now : ℕ) (d : Talk) (o : Option Said) → d.course.closing ≡ true
    → (reports_by task now d o).course.closing ≡ true
unfolding said_to
reports_closing task now d None is = is
reports_closing task now d (Some bind) is = is
reports_closing task now d (Some start) is = is
reports_closing task now d (Some (schedule cycle)) is = is
reports_closing task now d (Some (transfer line)) is = is
reports_closing task now d (Some stop) is = is
reports_closing task now d (Some unbind) is = is

reporting_closing : (task : Task) (now : ℕ) (d : Talk) → d.course.closing ≡ true
    → (reporting task now d).course.closing ≡ true
unfolding reporting
reporting_closing task now d is =
    reports_closing task now d (invocation_at task.work d.course.said) is

-- reports are asked for once
reports_once : (task : Task) (now : ℕ) (d : Talk) (o : Option Said)
    → invocation_at task.work d.course.said ≡ o
    → is_report (invocation_at task.work (reports_by task now d o).course.said) ≡ false
unfolding said_to
reports_once task now d None at = ap is_report at
reports_once task now d (Some bind) at = ap is_report at
reports_once task now d (Some start) at = ap is_report at
reports_once task now d (Some (schedule cycle)) at =
    later_no task.work (d.course.said + 1)
    (not_early task.work d.course.said (ap is_report at))
reports_once task now d (Some (transfer line)) at = ap is_report at
reports_once task now d (Some stop) at = ap is_report at
reports_once task now d (Some unbind) at = ap is_report at

reporting_once : (task : Task) (now : ℕ) (d : Talk)
    → is_report (invocation_at task.work (reporting task now d).course.said) ≡ false
unfolding reporting
reporting_once task now d =
    reports_once task now d (invocation_at task.work d.course.said) refl

went_closing : (task : Task) (now : ℕ) (d : Talk) → is_show task.work ≡ false
    → d.course.closing ≡ true → Closing (went_on task now d).course
unfolding went_on
went_closing task now d invokes is = by (rests d.course) refl
  where
    by : (b : Bool) → rests d.course ≡ b → Closing (went_on task now d).course
    by true rest = rw rest (record { closing = is; rest = rest })
    by false rest =
        let e = reporting task now d in
        rw rest (going_closing task now e invokes (reporting_closing task now d is)
        (reporting_once task now d))

-- ---- what is heard

answered_closing : (fits refused : Bool) (c : Course) → (answered fits refused c).closing ≡ c.closing
answered_closing false refused c = refl
answered_closing true true c = refl
answered_closing true false c = refl

closes_closing : (came : Bool) (c : Course) → c.closing ≡ true → (closes came c).closing ≡ true
closes_closing true c is = refl
closes_closing false c is = is

aborted_closing : (reads : Bool) (c : Course) → (aborted reads c).closing ≡ c.closing
aborted_closing true c = refl
aborted_closing false c = refl

after_closing : (work : Work) (event : Event) (c : Course) → c.closing ≡ true
    → (after work event c).closing ≡ true
unfolding after
after_closing work Nothing c is = is
after_closing work (Returned t invoke refused) c is =
    answered_closing (is_awaited c.awaited t invoke) refused c ∙ is
after_closing work Halted c is = closes_closing (has_begun c.said) c is
after_closing work EndOfData c is = closes_closing (has_begun c.said) c is
after_closing work (Emptied last_ok) c is =
    closes_closing (was_last work c.said last_ok) c is
after_closing work Aborted c is = aborted_closing (is_show work) c ∙ is

told_closing : (task : Task) (d : Talk) (t : Told) → d.course.closing ≡ true
    → (told_to task d t).course.closing ≡ true
unfolding told_to
told_closing task d t is = after_closing task.work (event_of t) d.course is

bad_closing : (place : ℕ) (d : Talk) → d.course.closing ≡ true → Closing (bad_at place d).course
bad_closing place d is = record { closing = is; rest = refl }

heard_by_closing : (task : Task) (now place : ℕ) (d : Talk) (o : Option Told)
    → is_show task.work ≡ false → d.course.closing ≡ true
    → Closing (heard_by task now place d o).course
heard_by_closing task now place d None invokes is = bad_closing place d is
heard_by_closing task now place d (Some t) invokes is =
    went_closing task now (told_to task d t) invokes (told_closing task d t is)

heard_closing : (task : Task) (now place : ℕ) (d : Talk) (m : Content) → is_show task.work ≡ false
    → Keeps d.course (heard task now place d m).course
unfolding heard
heard_closing task now place d m invokes k =
    if_closing d (heard_by task now place d (told_in (service_of task.work) m))
    (is_over d.course) k
    (heard_by_closing task now place d (told_in (service_of task.work) m) invokes k.closing)

refused_closing : (refused : Bool) (place : ℕ) (d : Talk)
    → Keeps d.course (refused_at refused place d).course
refused_closing false place d k = k
refused_closing true place d k =
    if_closing d (bad_at place d) (is_over d.course) k (bad_closing place d k.closing)

all_closing : (task : Task) (now place : ℕ) (refused : Bool) (messages : List Content) (d : Talk)
    → is_show task.work ≡ false
    → Keeps d.course (heard_all task now place refused messages d).course
all_closing task now place refused [] d invokes k = refused_closing refused place d k
all_closing task now place refused (m ∷ messages) d invokes k =
    all_closing task now (capped (place + length (spelling m))) refused messages
    (heard task now place d m) invokes (heard_closing task now place d m invokes k)

closed_closing : (show : Bool) (place : ℕ) (rest : List ℕ) (d : Talk) → show ≡ false
    → Keeps d.course (closed_by show place rest d).course
closed_closing true place rest d is k = absurd cc
closed_closing false place rest d is k = record { closing = k.closing; rest = refl }

in_closing : (task : Task) (now : ℕ) (s : Kept) (h : Hearing) (d : Talk)
    → is_show task.work ≡ false → Keeps d.course (heard_in task now s h d).course
in_closing task now s nothing d invokes k = k
in_closing task now s (came octets) d invokes k =
    let u = unread_in s octets in
    all_closing task now u.place (is_some u.fault) u.messages d invokes k
in_closing task now s ended d invokes k =
    closed_closing (is_show task.work) s.place s.rest d invokes k

-- ---- turns

opened_closing : (task : Task) (now : ℕ) (d : Talk) → is_show task.work ≡ false
    → Keeps d.course (opened task now d).course
unfolding opened
opened_closing task now d invokes k =
    if_closing (went_on task now d) d (d.course.said == 0)
    (went_closing task now d invokes k.closing) k

-- whether it was asked before, or is asked now
asked_closing : (task : Task) (asked : Bool) (now : ℕ) (d : Talk) → is_show task.work ≡ false
    → receives task.work ≡ true → (asked ≡ true) ⊎ Closing d.course
    → Closing (asked_to task asked now d).course
unfolding asked_to
asked_closing task true now d invokes is so =
    let e = in_course (closes true d.course) d in
    rw is (went_closing task now e invokes refl)
asked_closing task false now d invokes is (inl asked) = absurd cc
asked_closing task false now d invokes is (inr k) = k

beating_closing : (now : ℕ) (d : Talk) → Keeps d.course (beating now d).course
unfolding beating
beating_closing now d k = by (beats d now) refl
  where
    by : (b : Bool) → beats d now ≡ b → Closing (beating now d).course
    by true is = rw is k
    by false is = rw is k

record Turned (s : Standing) (t : Turn) : Type 0 where
  task : (after_turn s t).task ≡ s.task
  closing : (t.asked ≡ true) ⊎ Closing s.course
      → (is_over (after_turn s t).course ≡ true) ⊎ Closing (after_turn s t).course

turn_closing : (s : Standing) (t : Turn) → is_show s.task.work ≡ false
    → receives s.task.work ≡ true → Turned s t
turn_closing s t invokes is = by (is_over s.course) refl
  where
    by : (over : Bool) → is_over s.course ≡ over → Turned s t
    by true over = record { task = rw over refl; closing = λ so. inl (rw over over) }
    by false over =
        let a = begun t.waits t.now (talk_of s) in
        let o = opened s.task t.now a in
        let b = asked_to s.task t.asked t.now o in
        let c = heard_in s.task t.now s.stream t.hearing b in
        record {
          task = rw over refl;
          closing = λ so. inr
              (rw over
              (beating_closing t.now c
              (in_closing s.task t.now s.stream t.hearing b invokes
              (asked_closing s.task t.asked t.now o invokes is
              (⊎_elim (λ asked. inl asked)
              (λ k. inr (opened_closing s.task t.now a invokes k)) so)))));
        }

-- it is over, or awaits a return, or wasn't asked yet
abbrev Stands : Standing → Type 0
Stands s = (is_over s.course ≡ true) ⊎ Closing s.course

over_stays : (s : Standing) (t : Turn) → is_over s.course ≡ true
    → is_over (after_turn s t).course ≡ true
over_stays s t over = rw over over

stands_on : (task : Task) (s : Standing) (turns : List Turn) → s.task ≡ task
    → is_show task.work ≡ false → receives task.work ≡ true → Stands s
    → Stands (after_turns s turns)
stands_on task s [] same invokes is so = so
stands_on task s (t ∷ turns) same invokes is so =
    let first = turn_closing s t (subst (λ (x : Task). is_show x.work ≡ false) (sym same) invokes)
    (subst (λ (x : Task). receives x.work ≡ true) (sym same) is) in
    stands_on task (after_turn s t) turns (first.task ∙ same) invokes is
    (⊎_elim (λ over. inl (over_stays s t over)) (λ k. first.closing (inr k)) so)

-- the first of turns: it asks, or a later one does
asked_first : (task : Task) (s : Standing) (t : Turn) (turns : List Turn) (b : Bool) → t.asked ≡ b
    → Turned s t → s.task ≡ task → is_show task.work ≡ false → receives task.work ≡ true
    → (list_any (λ (u : Turn). u.asked) turns ≡ true → Stands (after_turns (after_turn s t) turns))
    → list_any (λ (u : Turn). u.asked) (t ∷ turns) ≡ true
    → Stands (after_turns (after_turn s t) turns)
asked_first task s t turns true now first same invokes is later asked =
    stands_on task (after_turn s t) turns (first.task ∙ same) invokes is (first.closing (inl now))
asked_first task s t turns false now first same invokes is later asked = later (rw now at asked)

asked_in : (task : Task) (s : Standing) (turns : List Turn) → s.task ≡ task
    → is_show task.work ≡ false → receives task.work ≡ true
    → list_any (λ (t : Turn). t.asked) turns ≡ true → Stands (after_turns s turns)
asked_in task s [] same invokes is asked = absurd cc
asked_in task s (t ∷ turns) same invokes is asked =
    let first = turn_closing s t (subst (λ (x : Task). is_show x.work ≡ false) (sym same) invokes)
    (subst (λ (x : Task). receives x.work ≡ true) (sym same) is) in
    asked_first task s t turns t.asked refl first same invokes is
    (λ rest. asked_in task (after_turn s t) turns (first.task ∙ same) invokes is rest) asked

invokes_by : (work : Work) → receives work ≡ true → is_show work ≡ false
invokes_by (Show service) is = absurd cc
invokes_by (Raf from to quality report) is = refl
invokes_by (Rcf from to channel report) is = refl
invokes_by (Cltu first cltus report) is = absurd cc

rests_by : (c : Course) → (is_over c ≡ true) ⊎ Closing c → rests c ≡ true
rests_by c (inl over) = or_left (is_some c.status) (is_some c.awaited) over
rests_by c (inr k) = k.rest

pub ends_when_asked : EndsWhenAsked
ends_when_asked task turns is asked =
    rests_by (after_turns (new_user task) turns).course
    (asked_in task (new_user task) turns refl (invokes_by task.work is) is asked)
