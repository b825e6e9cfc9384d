-- What a user prints of messages.
use Rattle.std.proofs.Common.{◌≡◌, ℕ, ◌+◌, Bool, true, false, Option, Some, None, List, [], ◌∷◌, ◌++◌}
use Rattle.std.proofs.Common.{refl, sym, ap, subst, ◌∙◌, append_assoc, append-nil}
use Rattle.std.specs.Prelude.{if◌then◌else◌, length}
use Rattle.isp1_tml.specs.Fault.{capped}
use Rattle.isp1_tml.specs.Message.{Content, spelling}
use Rattle.user_lines.specs.declared.told.Told.{Told}
use Rattle.user_lines.specs.Told.{told_in}
use Rattle.user_lines.specs.Lines.{lines_of, bad_line}
use Rattle.user_lines.specs.Shown.{Shown, shown, shown_by}
use Rattle.user_task.specs.declared.task.Task.{Task}
use Rattle.user_task.specs.Invocation.{Said, bind, start, schedule, transfer, stop, unbind}
use Rattle.user_task.specs.Invocation.{invocation_at}
use Rattle.user_task.specs.Work.{service_of}
use Rattle.user_core.specs.Course.{is_over, rests, may_say}
use Rattle.user_core.specs.Dialogue.{Talk, said_to, next_said, reports_by, reporting, going_on, went_on}
use Rattle.user_core.specs.Dialogue.{told_to, heard, heard_by}
use Rattle.user_core.specs.Dialogue.{refused_at, bad_at}
use Rattle.user_core.specs.Hearing.{heard_all}
use Rattle.user_core.specs.Laws.{Prints, PrintsInOrder}

pub if_lines : (d x y : Talk) (b : Bool) → x.lines ≡ d.lines → y.lines ≡ d.lines
    → (if b then x else y).lines ≡ d.lines
if_lines d x y true g h = g
if_lines d x y false g h = h

said_lines : (task : Task) (now : ℕ) (d : Talk) (s : Said)
    → (said_to task now d s).lines ≡ d.lines
unfolding said_to
said_lines task now d s = refl

next_lines : (task : Task) (now : ℕ) (d : Talk) (o : Option Said)
    → (next_said task now d o).lines ≡ d.lines
next_lines task now d None = refl
next_lines task now d (Some s) =
    if_lines d (said_to task now d s) d (may_say task.work d.course s) (said_lines task now d s) refl

reports_lines : (task : Task) (now : ℕ) (d : Talk) (o : Option Said)
    → (reports_by task now d o).lines ≡ d.lines
reports_lines task now d None = refl
reports_lines task now d (Some bind) = refl
reports_lines task now d (Some start) = refl
reports_lines task now d (Some (schedule cycle)) = said_lines task now d (schedule cycle)
reports_lines task now d (Some (transfer line)) = refl
reports_lines task now d (Some stop) = refl
reports_lines task now d (Some unbind) = refl

reporting_lines : (task : Task) (now : ℕ) (d : Talk) → (reporting task now d).lines ≡ d.lines
unfolding reporting
reporting_lines task now d = reports_lines task now d (invocation_at task.work d.course.said)

going_lines : (task : Task) (now : ℕ) (d : Talk) → (going_on task now d).lines ≡ d.lines
unfolding going_on
going_lines task now d = next_lines task now d (invocation_at task.work d.course.said)

pub went_lines : (task : Task) (now : ℕ) (d : Talk) → (went_on task now d).lines ≡ d.lines
unfolding went_on
went_lines task now d =
    let e = reporting task now d in
    if_lines d d (going_on task now e) (rests d.course) refl
    (going_lines task now e ∙ reporting_lines task now d)

told_lines : (task : Task) (d : Talk) (t : Told) → (told_to task d t).lines ≡ d.lines ++ lines_of t
unfolding told_to
told_lines task d t = refl

-- ---- behind the end nothing is heard

over_heard : (task : Task) (now place : ℕ) (d : Talk) (m : Content) → is_over d.course ≡ true
    → heard task now place d m ≡ d
unfolding heard
over_heard task now place d m is = rw is refl

over_refused : (refused : Bool) (place : ℕ) (d : Talk) → is_over d.course ≡ true
    → refused_at refused place d ≡ d
over_refused false place d is = refl
over_refused true place d is = rw is refl

pub over_all : (task : Task) (now place : ℕ) (refused : Bool) (messages : List Content) (d : Talk)
    → is_over d.course ≡ true → heard_all task now place refused messages d ≡ d
over_all task now place refused [] d is = over_refused refused place d is
over_all task now place refused (m ∷ messages) d is =
    let next = capped (place + length (spelling m)) in
    ap (heard_all task now next refused messages) (over_heard task now place d m is)
    ∙ over_all task now next refused messages d is

-- ---- what is printed

-- nothing, since the user is over
none_printed : (s : Shown) (d e : Talk) → e ≡ d → is_over d.course ≡ true → Prints s d e
none_printed s d e same is = record {
  front = [];
  rest = s.text;
  lines = ap (λ (t : Talk). t.lines) same ∙ sym (append-nil d.lines);
  whole = refl;
  all = λ going.
      let over : is_over e.course ≡ true = ap (λ (t : Talk). is_over t.course) same ∙ is in
      absurd cc;
  good = λ going.
      let over : is_over e.course ≡ true = ap (λ (t : Talk). is_over t.course) same ∙ is in
      absurd cc;
}

last_printed : (task : Task) (place : ℕ) (refused over : Bool) (d : Talk)
    → is_over d.course ≡ over
    → Prints (shown (service_of task.work) place refused []) d (refused_at refused place d)
last_printed task place false over d is = record {
  front = [];
  rest = [];
  lines = sym (append-nil d.lines);
  whole = refl;
  all = λ going. refl;
  good = λ going. refl;
}
last_printed task place true true d is =
    none_printed (shown (service_of task.work) place true []) d (refused_at true place d)
    (over_refused true place d is) is
last_printed task place true false d is = record {
  front = bad_line place;
  rest = [];
  lines = rw is refl;
  whole = sym (append-nil (bad_line place));
  all = λ going. refl;
  good = λ going.
      let over : is_over (refused_at true place d).course ≡ true = rw is refl in
      absurd cc;
}

-- behind a message that isn't bad
more_printed : (s : Shown) (d c e : Talk) (text : List ℕ) → c.lines ≡ d.lines ++ text
    → Prints s c e → Prints (record s { text = text ++ s.text }) d e
more_printed s d c e text is later = record {
  front = text ++ later.front;
  rest = later.rest;
  lines = later.lines ∙ ap (λ x. x ++ later.front) is ∙ append_assoc d.lines text later.front;
  whole = ap (λ x. text ++ x) later.whole ∙ sym (append_assoc text later.front later.rest);
  all = later.all;
  good = later.good;
}

going_heard : (task : Task) (now place : ℕ) (d : Talk) (m : Content) → is_over d.course ≡ false
    → heard task now place d m
    ≡ heard_by task now place d (told_in (service_of task.work) m)
unfolding heard
going_heard task now place d m is = rw is refl

message_printed : (task : Task) (now place : ℕ) (d : Talk) (o : Option Told) (later : Shown)
    (after : Talk → Talk)
    → ((c : Talk) → is_over c.course ≡ true → after c ≡ c)
    → ((c : Talk) → Prints later c (after c))
    → Prints (shown_by place o later) d (after (heard_by task now place d o))
message_printed task now place d None later after stays prints = record {
  front = bad_line place;
  rest = [];
  lines = ap (λ (t : Talk). t.lines) (stays (bad_at place d) refl);
  whole = sym (append-nil (bad_line place));
  all = λ going. refl;
  good = λ going.
      let over : is_over (after (bad_at place d)).course ≡ true =
      ap (λ (t : Talk). is_over t.course) (stays (bad_at place d) refl) in
      absurd cc;
}
message_printed task now place d (Some t) later after stays prints =
    let c = went_on task now (told_to task d t) in
    more_printed later d c (after c) (lines_of t)
    (went_lines task now (told_to task d t) ∙ told_lines task d t) (prints c)

first_printed : (task : Task) (now place : ℕ) (d : Talk) (m : Content) (over : Bool)
    (later : Shown) (after : Talk → Talk) → is_over d.course ≡ over
    → ((c : Talk) → is_over c.course ≡ true → after c ≡ c)
    → ((c : Talk) → Prints later c (after c))
    → Prints (shown_by place (told_in (service_of task.work) m) later) d
    (after (heard task now place d m))
first_printed task now place d m true later after is stays prints =
    none_printed (shown_by place (told_in (service_of task.work) m) later) d
    (after (heard task now place d m))
    (ap after (over_heard task now place d m is) ∙ stays d is) is
first_printed task now place d m false later after is stays prints =
    subst
    (λ c. Prints (shown_by place (told_in (service_of task.work) m) later) d (after c))
    (sym (going_heard task now place d m is))
    (message_printed task now place d (told_in (service_of task.work) m) later after stays prints)

pub prints_in_order : PrintsInOrder
prints_in_order task now place refused [] d =
    last_printed task place refused (is_over d.course) d refl
prints_in_order task now place refused (m ∷ messages) d =
    let next = capped (place + length (spelling m)) in
    first_printed task now place d m (is_over d.course)
    (shown (service_of task.work) next refused messages)
    (heard_all task now next refused messages) refl
    (λ c is. over_all task now next refused messages c is)
    (λ c. prints_in_order task now next refused messages c)
