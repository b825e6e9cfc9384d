-- A user that is done has said all its invocations, and awaits no return; and behind the last of them it
-- awaits that of UNBIND.
use Rattle.std.proofs.Common.{◌≡◌, ◌⊎◌, inl, inr, ℕ, zero, suc, ◌+◌, ◌==◌, Bool, true, false, ◌||◌, ◌&&◌}
use Rattle.std.proofs.Common.{if◌then◌else◌, is_some, Option, Some, None, List, [], ◌∷◌, ◌++◌, map}
use Rattle.std.proofs.Common.{length, refl, ap, sym, subst, ◌∙◌, append_assoc, arith}
use Rattle.isp1_tml.specs.Fault.{capped}
use Rattle.isp1_tml.specs.Message.{Content, spelling}
use Rattle.user_core.specs.declared.course.Awaited.{Awaited}
use Rattle.user_core.specs.declared.course.Course.{Course}
use Rattle.user_core.specs.declared.event.Event.{Event}
use Rattle.user_core.specs.declared.event.Event.TheVariants.{Nothing, Returned, Halted, Emptied}
use Rattle.user_core.specs.declared.event.Event.TheVariants.{EndOfData, Aborted}
use Rattle.user_core.specs.declared.status.Status.{Status}
use Rattle.user_core.specs.declared.status.Status.TheVariants.{Done}
use Rattle.user_core.specs.Course.{is_over, rests, after, answered, aborted, closes, finished_by}
use Rattle.user_core.specs.Course.{is_awaited, has_begun, was_last, may_say, awaited_of, invoke_at, receives}
use Rattle.user_core.specs.Dialogue.{Talk, said_to, next_said, reports_by, reporting, going_on, went_on}
use Rattle.user_core.specs.Dialogue.{told_to, heard, heard_by}
use Rattle.user_core.specs.Dialogue.{refused_at, closed_by, opened, begun, beats, beating, bad_at, asked_to, in_course}
use Rattle.user_core.specs.Event.{event_of}
use Rattle.user_core.specs.Hearing.{Kept, Hearing, nothing, came, ended, heard_all, heard_in, unread_in}
use Rattle.user_core.specs.Laws.{Turn, after_turn, after_turns}
use Rattle.user_core.specs.Turn.{Standing, talk_of, new_user}
use Rattle.user_lines.specs.declared.told.Told.{Told}
use Rattle.user_lines.specs.Told.{told_in}
use Rattle.user_task.specs.declared.task.Task.{Task}
use Rattle.user_task.specs.declared.work.Work.{Work}
use Rattle.user_task.specs.Invocation.{Said, bind, start, schedule, transfer, stop, unbind, reports}
use Rattle.user_task.specs.Invocation.{invocation_at}
use Rattle.user_task.specs.Work.{is_show, service_of, cltus_of, report_of}
use Rattle.std.specs.Prelude.{slice_get}
use Rattle.user_task.proofs.Invocations.{in_order}
use Rattle.user_service.specs.Causes.{unbound}
use Rattle.user_service.specs.Streams.{IsAnswered}

-- where it is done, it is answered; and behind the last invocation the return of UNBIND is awaited
pub record Fine (work : Work) (c : Course) : Type 0 where
  pub fine : c.status ≡ Some Done → IsAnswered work c
  pub last : c.status ≡ None → invocation_at work c.said ≡ None → c.awaited ≡ Some unbound

-- between what is told and what is said then
record Half (work : Work) (c : Course) : Type 0 where
  fine : c.status ≡ Some Done → IsAnswered work c
  last : c.status ≡ None → invocation_at work c.said ≡ None
      → (c.awaited ≡ Some unbound) ⊎ (c.awaited ≡ None)

half_of : (work : Work) (c : Course) → Fine work c → Half work c
half_of work c f = record { fine = f.fine; last = λ none is. inl (f.last none is) }

not_over : (c : Course) → is_over c ≡ false → c.status ≡ None
not_over c is = by c.status is
  where
    by : (o : Option Status) → is_some o ≡ false → o ≡ None
    by None is = refl
    by (Some status) is = absurd cc

if_fine : (work : Work) (x y : Talk) (b : Bool) → Fine work x.course → Fine work y.course
    → Fine work (if b then x else y).course
if_fine work x y true first second = first
if_fine work x y false first second = second

-- ---- the list of invocations

-- behind the last of a list is none
last_of : (front : List Said) (x s : Said) (n : ℕ)
    → slice_get (front ++ x ∷ []) n ≡ Some s → slice_get (front ++ x ∷ []) (suc n) ≡ None
    → s ≡ x
last_of [] x s zero here behind = cc
last_of [] x s (suc n) here behind = absurd cc
last_of (y ∷ []) x s zero here behind = absurd cc
last_of (y ∷ z ∷ front) x s zero here behind = absurd cc
last_of (y ∷ front) x s (suc n) here behind = last_of front x s n here behind

abbrev before_unbind : Work → List Said
before_unbind work =
    bind ∷ start ∷ (reports (report_of work) ++ (map transfer (cltus_of work) ++ stop ∷ []))

invokes_in : (work : Work) (place : ℕ) → is_show work ≡ false
    → invocation_at work place
    ≡ slice_get (before_unbind work ++ unbind ∷ []) place
invokes_in work place invokes =
    let asked = reports (report_of work) in
    let sent = map transfer (cltus_of work) in
    in_order work place
    ∙ (rw invokes
    (ap (λ l. slice_get (bind ∷ start ∷ l) place)
    (sym (append_assoc asked (sent ++ stop ∷ []) (unbind ∷ [])
    ∙ ap (λ l. asked ++ l) (append_assoc sent (stop ∷ []) (unbind ∷ []))))))

pub last_is_unbind : (work : Work) (place : ℕ) (s : Said) → is_show work ≡ false
    → invocation_at work place ≡ Some s → invocation_at work (place + 1) ≡ None → s ≡ unbind
last_is_unbind work place s invokes here behind =
    let next : place + 1 ≡ suc place = omega arith in
    last_of (before_unbind work) unbind s place
    (sym (invokes_in work place invokes) ∙ here)
    (sym (invokes_in work (suc place) invokes) ∙ (ap (invocation_at work) (sym next) ∙ behind))

pub first_is_bind : (work : Work) → is_show work ≡ false → invocation_at work 0 ≡ Some bind
first_is_bind work invokes = invokes_in work 0 invokes

-- ---- what is heard

answered_half : (work : Work) (fits refused : Bool) (c : Course) → Fine work c → c.status ≡ None
    → Half work (answered fits refused c)
answered_half work false refused c f none = half_of work c f
answered_half work true true c f none =
    record { fine = λ is. absurd cc; last = λ goes is. absurd cc }
answered_half work true false c f none =
    record { fine = λ is. absurd cc; last = λ goes is. inr refl }

closes_half : (work : Work) (came : Bool) (c : Course) → Fine work c → c.status ≡ None
    → Half work (closes came c)
closes_half work true c f none =
    record { fine = λ is. absurd cc; last = λ goes is. inl (f.last goes is) }
closes_half work false c f none = half_of work c f

aborted_half : (work : Work) (reads : Bool) (c : Course) → Fine work c → Half work (aborted reads c)
aborted_half work true c f = half_of work c f
aborted_half work false c f = record { fine = λ is. absurd cc; last = λ goes is. absurd cc }

after_half : (work : Work) (event : Event) (c : Course) → Fine work c → c.status ≡ None
    → Half work (after work event c)
unfolding after
after_half work Nothing c f none = half_of work c f
after_half work (Returned t invoke refused) c f none =
    answered_half work (is_awaited c.awaited t invoke) refused c f none
after_half work Halted c f none = closes_half work (has_begun c.said) c f none
after_half work EndOfData c f none = closes_half work (has_begun c.said) c f none
after_half work (Emptied last_ok) c f none =
    closes_half work (was_last work c.said last_ok) c f none
after_half work Aborted c f none = aborted_half work (is_show work) c f

-- ---- what is said

finished_fine : (work : Work) (c : Course) (show : Bool) → show ≡ false → c.awaited ≡ None
    → invocation_at work c.said ≡ None → Fine work (finished_by show c)
finished_fine work c true invokes awaits is = absurd cc
finished_fine work c false invokes awaits is =
    record { fine = λ done. (is, awaits); last = λ goes at. absurd cc }

said_fine : (task : Task) (now : ℕ) (d : Talk) (s : Said) → is_show task.work ≡ false
    → d.course.status ≡ None → invocation_at task.work d.course.said ≡ Some s
    → Fine task.work (said_to task now d s).course
unfolding said_to
said_fine task now d s invokes none here = record {
  fine = λ is. absurd cc;
  last = λ goes behind.
      ap (λ x. awaited_of x (invoke_at d.course.said))
      (last_is_unbind task.work d.course.said s invokes here behind);
}

stays_fine : (work : Work) (c : Course) (s : Said) → c.status ≡ None
    → invocation_at work c.said ≡ Some s → Fine work c
stays_fine work c s none here =
    record { fine = λ is. absurd cc; last = λ goes behind. absurd cc }

next_fine : (task : Task) (now : ℕ) (d : Talk) (o : Option Said) → is_show task.work ≡ false
    → d.course.status ≡ None → d.course.awaited ≡ None
    → invocation_at task.work d.course.said ≡ o → Fine task.work (next_said task now d o).course
next_fine task now d None invokes none awaits is =
    finished_fine task.work d.course (is_show task.work) invokes awaits is
next_fine task now d (Some s) invokes none awaits is =
    if_fine task.work (said_to task now d s) d (may_say task.work d.course s)
    (said_fine task now d s invokes none is) (stays_fine task.work d.course s none is)

-- it goes on, and awaits no return
pub both_none : (c : Course) → rests c ≡ false → (c.status ≡ None) × (c.awaited ≡ None)
both_none c is = by c.status c.awaited is
  where
    by : (o : Option Status) (p : Option Awaited) → (is_some o || is_some p) ≡ false
        → (o ≡ None) × (p ≡ None)
    by None None is = (refl, refl)
    by None (Some a) is = absurd cc
    by (Some s) p is = absurd cc

-- it rests, though it goes on: so a return is awaited
resting : (c : Course) (a : Awaited) → rests c ≡ true → c.status ≡ None
    → (c.awaited ≡ Some a) ⊎ (c.awaited ≡ None) → c.awaited ≡ Some a
resting c a is none (inl awaits) = awaits
resting c a is none (inr awaits) =
    absurd
    (let rest : (is_some c.status || is_some c.awaited) ≡ true = is in
    let test : (is_some c.status || is_some c.awaited) ≡ false = rw (none, awaits) refl in
    cc)

rest_fine : (work : Work) (c : Course) → rests c ≡ true → Half work c → Fine work c
rest_fine work c is h =
    record { fine = h.fine; last = λ none at. resting c unbound is none (h.last none at) }

-- what asks for reports ends nobody, and no return is awaited after it
reports_none : (task : Task) (now : ℕ) (d : Talk) (o : Option Said) → d.course.status ≡ None
    → d.course.awaited ≡ None
    → ((reports_by task now d o).course.status ≡ None)
    × ((reports_by task now d o).course.awaited ≡ None)
unfolding said_to
reports_none task now d None none awaits = (none, awaits)
reports_none task now d (Some bind) none awaits = (none, awaits)
reports_none task now d (Some start) none awaits = (none, awaits)
reports_none task now d (Some (schedule cycle)) none awaits = (none, refl)
reports_none task now d (Some (transfer line)) none awaits = (none, awaits)
reports_none task now d (Some stop) none awaits = (none, awaits)
reports_none task now d (Some unbind) none awaits = (none, awaits)

pub reporting_none : (task : Task) (now : ℕ) (d : Talk) → d.course.status ≡ None
    → d.course.awaited ≡ None
    → ((reporting task now d).course.status ≡ None)
    × ((reporting task now d).course.awaited ≡ None)
unfolding reporting
reporting_none task now d none awaits =
    reports_none task now d (invocation_at task.work d.course.said) none awaits

going_fine : (task : Task) (now : ℕ) (d : Talk) → is_show task.work ≡ false
    → d.course.status ≡ None → d.course.awaited ≡ None → Fine task.work (going_on task now d).course
unfolding going_on
going_fine task now d invokes none awaits =
    next_fine task now d (invocation_at task.work d.course.said) invokes none awaits refl

went_fine : (task : Task) (now : ℕ) (d : Talk) → is_show task.work ≡ false
    → Half task.work d.course → Fine task.work (went_on task now d).course
unfolding went_on
went_fine task now d invokes h = by (rests d.course) refl
  where
    by : (b : Bool) → rests d.course ≡ b → Fine task.work (went_on task now d).course
    by true is = rw is (rest_fine task.work d.course is h)
    by false is =
        let none = both_none d.course is in
        let behind = reporting_none task now d none.0 none.1 in
        rw is (going_fine task now (reporting task now d) invokes behind.0 behind.1)

told_half : (task : Task) (d : Talk) (t : Told) → Fine task.work d.course
    → d.course.status ≡ None → Half task.work (told_to task d t).course
unfolding told_to
told_half task d t f none = after_half task.work (event_of t) d.course f none

bad_fine : (task : Task) (place : ℕ) (d : Talk) → Fine task.work (bad_at place d).course
bad_fine task place d = record { fine = λ is. absurd cc; last = λ goes at. absurd cc }

heard_by_fine : (task : Task) (now place : ℕ) (d : Talk) (o : Option Told)
    → is_show task.work ≡ false → Fine task.work d.course → d.course.status ≡ None
    → Fine task.work (heard_by task now place d o).course
heard_by_fine task now place d None invokes f none = bad_fine task place d
heard_by_fine task now place d (Some t) invokes f none =
    went_fine task now (told_to task d t) invokes (told_half task d t f none)

pub heard_fine : (task : Task) (now place : ℕ) (d : Talk) (m : Content)
    → is_show task.work ≡ false → Fine task.work d.course
    → Fine task.work (heard task now place d m).course
unfolding heard
heard_fine task now place d m invokes f = by (is_over d.course) refl
  where
    by : (b : Bool) → is_over d.course ≡ b → Fine task.work (heard task now place d m).course
    by true is = rw is f
    by false is =
        rw is
        (heard_by_fine task now place d (told_in (service_of task.work) m) invokes f
        (not_over d.course is))

refused_fine : (task : Task) (refused : Bool) (place : ℕ) (d : Talk) → Fine task.work d.course
    → Fine task.work (refused_at refused place d).course
refused_fine task false place d f = f
refused_fine task true place d f =
    if_fine task.work d (bad_at place d) (is_over d.course) f (bad_fine task place d)

all_fine : (task : Task) (now place : ℕ) (refused : Bool) (messages : List Content) (d : Talk)
    → is_show task.work ≡ false → Fine task.work d.course
    → Fine task.work (heard_all task now place refused messages d).course
all_fine task now place refused [] d invokes f = refused_fine task refused place d f
all_fine task now place refused (m ∷ messages) d invokes f =
    all_fine task now (capped (place + length (spelling m))) refused messages
    (heard task now place d m) invokes (heard_fine task now place d m invokes f)

-- one who invokes isn't done by the end of the stream
closed_fine : (task : Task) (show : Bool) (place : ℕ) (rest : List ℕ) (d : Talk) → show ≡ false
    → Fine task.work (closed_by show place rest d).course
closed_fine task true place rest d is = absurd cc
closed_fine task false place rest d is =
    record { fine = λ done. absurd cc; last = λ goes at. absurd cc }

in_fine : (task : Task) (now : ℕ) (k : Kept) (h : Hearing) (d : Talk)
    → is_show task.work ≡ false → Fine task.work d.course
    → Fine task.work (heard_in task now k h d).course
in_fine task now k nothing d invokes f = f
in_fine task now k (came octets) d invokes f =
    let u = unread_in k octets in
    all_fine task now u.place (is_some u.fault) u.messages d invokes f
in_fine task now k ended d invokes f =
    closed_fine task (is_show task.work) k.place k.rest d invokes

pub opened_fine : (task : Task) (now : ℕ) (d : Talk) → is_show task.work ≡ false
    → Fine task.work d.course → Fine task.work (opened task now d).course
unfolding opened
opened_fine task now d invokes f =
    if_fine task.work (went_on task now d) d (d.course.said == 0)
    (went_fine task now d invokes (half_of task.work d.course f)) f

-- to end is asked of one who isn't done
pub closing_fine : (work : Work) (c : Course) → Fine work c → Fine work (closes true c)
closing_fine work c f = record { fine = f.fine; last = f.last }

pub asked_fine : (task : Task) (asked : Bool) (now : ℕ) (d : Talk) → is_show task.work ≡ false
    → Fine task.work d.course → Fine task.work (asked_to task asked now d).course
unfolding asked_to
asked_fine task asked now d invokes f =
    let e = in_course (closes true d.course) d in
    if_fine task.work (went_on task now e) d (asked && receives task.work)
    (went_fine task now e invokes
    (half_of task.work (closes true d.course) (closing_fine task.work d.course f))) f

beating_fine : (work : Work) (now : ℕ) (d : Talk) → Fine work d.course
    → Fine work (beating now d).course
unfolding beating
beating_fine work now d f = by (beats d now) refl
  where
    by : (b : Bool) → beats d now ≡ b → Fine work (beating now d).course
    by true is = rw is (record { fine = f.fine; last = f.last })
    by false is = rw is f

-- ---- turns

pub record FineTurn (s : Standing) (t : Turn) : Type 0 where
  pub task : (after_turn s t).task ≡ s.task
  pub fine : Fine s.task.work (after_turn s t).course

pub turn_fine : (s : Standing) (t : Turn) → is_show s.task.work ≡ false
    → Fine s.task.work s.course → FineTurn s t
turn_fine s t invokes f = by (is_over s.course) refl
  where
    by : (over : Bool) → is_over s.course ≡ over → FineTurn s t
    by true is = record { task = rw is refl; fine = rw is f }
    by false is =
        let a = begun t.waits t.now (talk_of s) in
        let o = opened s.task t.now a in
        let b = asked_to s.task t.asked t.now o in
        let c = heard_in s.task t.now s.stream t.hearing b in
        record {
          task = rw is refl;
          fine = rw is
              (beating_fine s.task.work t.now c
              (in_fine s.task t.now s.stream t.hearing b invokes
              (asked_fine s.task t.asked t.now o invokes
              (opened_fine s.task t.now a invokes f))));
        }

turns_fine : (task : Task) (s : Standing) (turns : List Turn) → s.task ≡ task
    → is_show task.work ≡ false → Fine task.work s.course
    → Fine task.work (after_turns s turns).course
turns_fine task s [] is invokes f = f
turns_fine task s (t ∷ turns) is invokes f =
    let first = turn_fine s t (subst (λ x. is_show x.work ≡ false) (sym is) invokes)
    (subst (λ x. Fine x.work s.course) (sym is) f) in
    turns_fine task (after_turn s t) turns (first.task ∙ is) invokes
    (subst (λ x. Fine x.work (after_turn s t).course) is first.fine)

pub new_fine : (task : Task) → is_show task.work ≡ false → Fine task.work (new_user task).course
new_fine task invokes =
    let first = first_is_bind task.work invokes in
    record { fine = λ is. absurd cc; last = λ goes at. absurd cc }

pub done_is_answered : (task : Task) (turns : List Turn) → is_show task.work ≡ false
    → (after_turns (new_user task) turns).course.status ≡ Some Done
    → IsAnswered task.work (after_turns (new_user task) turns).course
done_is_answered task turns invokes done =
    (turns_fine task (new_user task) turns refl invokes (new_fine task invokes)).fine done
