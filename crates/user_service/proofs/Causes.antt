-- What brought the status of a user that ended.
use Rattle.std.proofs.Common.{◌≡◌, ℕ, ◌+◌, ◌==◌, Bool, true, false, ◌&&◌, ◌||◌}
use Rattle.std.proofs.Common.{if◌then◌else◌, is_some, Option, Some, None, List, [], ◌∷◌, length, refl}
use Rattle.std.proofs.Common.{ap, sym, subst, ◌∙◌}
use Rattle.std.specs.List.{list_any}
use Rattle.isp1_tml.specs.Fault.{capped}
use Rattle.isp1_tml.specs.Message.{Content, spelling}
use Rattle.user_core.specs.declared.course.Course.{Course}
use Rattle.user_core.specs.declared.event.Event.{Event}
use Rattle.user_core.specs.declared.event.Event.TheVariants.{Nothing, Returned, Halted, Emptied}
use Rattle.user_core.specs.declared.event.Event.TheVariants.{EndOfData, Aborted}
use Rattle.user_core.specs.declared.status.Status.{Status}
use Rattle.user_core.specs.declared.status.Status.TheVariants.{Done, Refused, BadMessage, PeerEnded}
use Rattle.user_core.specs.Course.{is_over, rests, after, answered, aborted, closes, finished_by}
use Rattle.user_core.specs.Course.{is_awaited, has_begun, was_last, may_say, receives}
use Rattle.user_core.specs.Dialogue.{Talk, said_to, next_said, reports_by, reporting, going_on, went_on}
use Rattle.user_core.specs.Dialogue.{told_to, heard, heard_by}
use Rattle.user_core.specs.Dialogue.{refused_at, closed_by, opened, begun, beats, beating, bad_at, asked_to, in_course}
use Rattle.user_core.specs.Event.{event_of}
use Rattle.user_core.specs.Hearing.{Kept, Hearing, nothing, came, ended, heard_all, heard_in, unread_in}
use Rattle.user_core.specs.Laws.{Turn, after_turn, after_turns}
use Rattle.user_core.specs.Turn.{Standing, talk_of, new_user}
use Rattle.user_core.proofs.Printed.{over_all}
use Rattle.user_lines.specs.declared.told.Told.{Told}
use Rattle.user_lines.specs.Told.{told_in}
use Rattle.user_task.specs.declared.task.Task.{Task}
use Rattle.user_task.specs.declared.work.Work.{Work}
use Rattle.user_task.specs.Invocation.{Said, start, schedule, transfer, stop, unbind, invocation_at}
use Rattle.user_task.specs.Work.{is_show, service_of}
use Rattle.user_service.specs.Causes.{brings_by, brings_told, brings, brings_in}
use Rattle.user_service.specs.Causes.{is_peer_end}
use Rattle.user_core.specs.declared.course.Awaited.{Awaited}
use Rattle.user_lines.specs.declared.tag.Tag.{Tag}
use Rattle.user_service.specs.Causes.{unbound}
use Rattle.user_service.specs.Streams.{IsAnswered}
use Rattle.user_service.proofs.Answered.{Fine, both_none, first_is_bind, heard_fine, opened_fine}
use Rattle.user_service.proofs.Answered.{turn_fine, new_fine, asked_fine, closing_fine, last_is_unbind, reporting_none}
use Rattle.user_task.specs.Invocation.{bind}
use Rattle.std.proofs.Common.{zero, suc, arith}
use Rattle.std.specs.Prelude.{not}

or_left : (a b : Bool) → a ≡ true → (a || b) ≡ true
or_left true b is = refl
or_left false b is = absurd cc

or_right : (a b : Bool) → b ≡ true → (a || b) ≡ true
or_right true b is = refl
or_right false b is = is

-- it goes on, and so isn't over
goes_on : (o : Option Status) → o ≡ None → is_some o ≡ false
goes_on o none = ap is_some none

-- ---- what is told

answered_brings : (st : Status) (fits refused : Bool) (c : Course) → c.status ≡ None
    → (answered fits refused c).status ≡ Some st → (st ≡ Refused) × (refused ≡ true)
answered_brings st false refused c none is = absurd cc
answered_brings st true true c none is = (cc, refl)
answered_brings st true false c none is = absurd cc

closes_keeps : (came : Bool) (c : Course) → (closes came c).status ≡ c.status
closes_keeps true c = refl
closes_keeps false c = refl

aborted_brings : (st : Status) (reads : Bool) (c : Course) → c.status ≡ None
    → (aborted reads c).status ≡ Some st → st ≡ PeerEnded
aborted_brings st true c none is = absurd cc
aborted_brings st false c none is = cc

after_brings : (st : Status) (work : Work) (event : Event) (c : Course) → c.status ≡ None
    → (after work event c).status ≡ Some st → brings_by st event ≡ true
unfolding after
after_brings st work Nothing c none is = absurd cc
after_brings st work (Returned t invoke refused) c none is =
    let by = answered_brings st (is_awaited c.awaited t invoke) refused c none is in
    subst (λ x. brings_by x (Returned t invoke refused) ≡ true) (sym by.0) by.1
after_brings st work Halted c none is =
    let same = closes_keeps (has_begun c.said) c in absurd cc
after_brings st work EndOfData c none is =
    let same = closes_keeps (has_begun c.said) c in absurd cc
after_brings st work (Emptied last_ok) c none is =
    let same = closes_keeps (was_last work c.said last_ok) c in absurd cc
after_brings st work Aborted c none is =
    subst (λ x. brings_by x Aborted ≡ true) (sym (aborted_brings st (is_show work) c none is)) refl

told_brings : (st : Status) (task : Task) (d : Talk) (t : Told) → d.course.status ≡ None
    → (told_to task d t).course.status ≡ Some st → brings_told st (Some t) ≡ true
unfolding told_to
told_brings st task d t none is = after_brings st task.work (event_of t) d.course none is

-- ---- where all is done, the last return was told

and_true : (a : Bool) → a ≡ true → (a && true) ≡ true
and_true true is = refl
and_true false is = absurd cc

-- where all was said, the return of UNBIND is awaited
abbrev AwaitsLast : Work → Course → Type 0
AwaitsLast work c = invocation_at work c.said ≡ None → c.awaited ≡ Some unbound

-- and where it isn't any more, it was told
answered_done : (work : Work) (fits refused : Bool) (c : Course) (t : Tag) (invoke : Option ℕ)
    → is_awaited c.awaited t invoke ≡ fits → AwaitsLast work c
    → (answered fits refused c).status ≡ None → IsAnswered work (answered fits refused c)
    → (is_awaited (Some unbound) t invoke && not refused) ≡ true
answered_done work false refused c t invoke fits last goes done =
    let awaits = last done.0 in absurd cc
answered_done work true true c t invoke fits last goes done = absurd cc
answered_done work true false c t invoke fits last goes done =
    and_true (is_awaited (Some unbound) t invoke)
    (subst (λ x. is_awaited x t invoke ≡ true) (last done.0) fits)

closed_undone : (work : Work) (came : Bool) (c : Course) → AwaitsLast work c
    → IsAnswered work (closes came c) → ⊥
closed_undone work true c last done = let awaits = last done.0 in cc
closed_undone work false c last done = let awaits = last done.0 in cc

aborted_undone : (work : Work) (reads : Bool) (c : Course) → AwaitsLast work c
    → IsAnswered work (aborted reads c) → ⊥
aborted_undone work true c last done = let awaits = last done.0 in cc
aborted_undone work false c last done = let awaits = last done.0 in cc

cleared : (work : Work) (event : Event) (c : Course) → AwaitsLast work c
    → (after work event c).status ≡ None → IsAnswered work (after work event c)
    → brings_by Done event ≡ true
unfolding after
cleared work Nothing c last goes done = let awaits = last done.0 in absurd cc
cleared work (Returned t invoke refused) c last goes done =
    answered_done work (is_awaited c.awaited t invoke) refused c t invoke refl last goes done
cleared work Halted c last goes done =
    absurd (closed_undone work (has_begun c.said) c last done)
cleared work EndOfData c last goes done =
    absurd (closed_undone work (has_begun c.said) c last done)
cleared work (Emptied last_ok) c last goes done =
    absurd (closed_undone work (was_last work c.said last_ok) c last done)
cleared work Aborted c last goes done =
    absurd (aborted_undone work (is_show work) c last done)

-- what is told, with what stands there then
record Told_so (task : Task) (d e : Talk) (t : Told) : Type 0 where
  course : e.course ≡ after task.work (event_of t) d.course

told_so : (task : Task) (d : Talk) (t : Told) → Told_so task d (told_to task d t) t
unfolding told_to
told_so task d t = record { course = refl }

if_status : (x y : Talk) (b : Bool) (o : Option Status) → x.course.status ≡ o
    → y.course.status ≡ o → (if b then x else y).course.status ≡ o
if_status x y true o first second = first
if_status x y false o first second = second

said_status : (task : Task) (now : ℕ) (d : Talk) (s : Said)
    → (said_to task now d s).course.status ≡ d.course.status
unfolding said_to
said_status task now d s = refl

finished_status : (st : Status) (show : Bool) (c : Course) → c.status ≡ None
    → (finished_by show c).status ≡ Some st → st ≡ Done
finished_status st true c none is = absurd cc
finished_status st false c none is = cc

some_status : (task : Task) (now : ℕ) (d : Talk) (s : Said)
    → (next_said task now d (Some s)).course.status ≡ d.course.status
some_status task now d s =
    if_status (said_to task now d s) d (may_say task.work d.course s) d.course.status
    (said_status task now d s) refl

-- all is done behind what is told
done_brings : (st : Status) (task : Task) (now : ℕ) (d e : Talk) (t : Told) (o : Option Said)
    → Told_so task d e t → Fine task.work d.course → d.course.status ≡ None
    → e.course.status ≡ None → e.course.awaited ≡ None
    → invocation_at task.work e.course.said ≡ o
    → (next_said task now e o).course.status ≡ Some st → brings_told st (Some t) ≡ true
done_brings st task now d e t None so f none goes awaits at is =
    let done : st ≡ Done = finished_status st (is_show task.work) e.course goes is in
    subst (λ x. brings_told x (Some t) ≡ true) (sym done)
    (cleared task.work (event_of t) d.course (f.last none)
    (sym (ap (λ (c : Course). c.status) so.course) ∙ goes)
    (subst (IsAnswered task.work) so.course (at, awaits)))
done_brings st task now d e t (Some s) so f none goes awaits at is =
    absurd
    (let no_status : None ≡ Some st = sym goes ∙ (sym (some_status task now e s) ∙ is) in cc)

-- ---- what asks for reports is never the last

invokes_at : (work : Work) (place : ℕ) (s : Said) → invocation_at work place ≡ Some s
    → is_show work ≡ false
invokes_at work place s here = by (is_show work) refl
  where
    by : (b : Bool) → is_show work ≡ b → is_show work ≡ false
    by false is = is
    by true is = absurd (let nothing_there : None ≡ Some s = rw is at here in cc)

after_report : (task : Task) (now : ℕ) (e : Talk) (cycle : ℕ)
    → invocation_at task.work e.course.said ≡ Some (schedule cycle)
    → invocation_at task.work (said_to task now e (schedule cycle)).course.said ≡ None → ⊥
unfolding said_to
after_report task now e cycle here behind =
    let same : schedule cycle ≡ unbind =
    last_is_unbind task.work e.course.said (schedule cycle)
    (invokes_at task.work e.course.said (schedule cycle) here) here behind in
    cc

-- where an invocation comes next, nobody ends
going_none : (task : Task) (now : ℕ) (e : Talk)
    → (invocation_at task.work e.course.said ≡ None → ⊥) → e.course.status ≡ None
    → (going_on task now e).course.status ≡ None
unfolding going_on
going_none task now e more none = by (invocation_at task.work e.course.said) refl
  where
    by : (o : Option Said) → invocation_at task.work e.course.said ≡ o
        → (next_said task now e o).course.status ≡ None
    by None is = absurd (more is)
    by (Some s) is = some_status task now e s ∙ none

done_going : (st : Status) (task : Task) (now : ℕ) (d e : Talk) (t : Told)
    → Told_so task d e t → Fine task.work d.course → d.course.status ≡ None
    → e.course.status ≡ None → e.course.awaited ≡ None
    → (going_on task now e).course.status ≡ Some st → brings_told st (Some t) ≡ true
unfolding going_on
done_going st task now d e t so f none goes awaits is =
    done_brings st task now d e t (invocation_at task.work e.course.said) so f none goes awaits refl
    is

done_reports : (st : Status) (task : Task) (now : ℕ) (d e : Talk) (t : Told) (o : Option Said)
    → Told_so task d e t → Fine task.work d.course → d.course.status ≡ None
    → e.course.status ≡ None → e.course.awaited ≡ None
    → invocation_at task.work e.course.said ≡ o
    → (going_on task now (reports_by task now e o)).course.status ≡ Some st
    → brings_told st (Some t) ≡ true
done_reports st task now d e t None so f none goes awaits here is =
    done_going st task now d e t so f none goes awaits is
done_reports st task now d e t (Some bind) so f none goes awaits here is =
    done_going st task now d e t so f none goes awaits is
done_reports st task now d e t (Some start) so f none goes awaits here is =
    done_going st task now d e t so f none goes awaits is
done_reports st task now d e t (Some (schedule cycle)) so f none goes awaits here is =
    let e2 = said_to task now e (schedule cycle) in
    let nobody : (going_on task now e2).course.status ≡ None =
    going_none task now e2 (after_report task now e cycle here)
    (said_status task now e (schedule cycle) ∙ goes) in
    absurd (let no_status : None ≡ Some st = sym nobody ∙ is in cc)
done_reports st task now d e t (Some (transfer line)) so f none goes awaits here is =
    done_going st task now d e t so f none goes awaits is
done_reports st task now d e t (Some stop) so f none goes awaits here is =
    done_going st task now d e t so f none goes awaits is
done_reports st task now d e t (Some unbind) so f none goes awaits here is =
    done_going st task now d e t so f none goes awaits is

done_reporting : (st : Status) (task : Task) (now : ℕ) (d e : Talk) (t : Told)
    → Told_so task d e t → Fine task.work d.course → d.course.status ≡ None
    → e.course.status ≡ None → e.course.awaited ≡ None
    → (going_on task now (reporting task now e)).course.status ≡ Some st
    → brings_told st (Some t) ≡ true
unfolding reporting
done_reporting st task now d e t so f none goes awaits is =
    done_reports st task now d e t (invocation_at task.work e.course.said) so f none goes awaits
    refl is

went_brings : (st : Status) (task : Task) (now : ℕ) (d e : Talk) (t : Told)
    → Told_so task d e t → Fine task.work d.course → d.course.status ≡ None
    → (went_on task now e).course.status ≡ Some st
    → (e.course.status ≡ Some st → brings_told st (Some t) ≡ true)
    → brings_told st (Some t) ≡ true
unfolding went_on
went_brings st task now d e t so f none is told = by (rests e.course) refl
  where
    by : (b : Bool) → rests e.course ≡ b → brings_told st (Some t) ≡ true
    by true rest = told (rw rest at is)
    by false rest =
        let both = both_none e.course rest in
        done_reporting st task now d e t so f none both.0 both.1 (rw rest at is)

-- ---- messages

bad_brings : (st : Status) (place : ℕ) (d : Talk) → (bad_at place d).course.status ≡ Some st
    → brings_told st None ≡ true
bad_brings st place d is =
    let same : BadMessage ≡ st = cc in
    subst (λ x. brings_told x None ≡ true) same refl

heard_by_brings : (st : Status) (task : Task) (now place : ℕ) (d : Talk) (o : Option Told)
    → Fine task.work d.course → d.course.status ≡ None
    → (heard_by task now place d o).course.status ≡ Some st → brings_told st o ≡ true
heard_by_brings st task now place d None f none is = bad_brings st place d is
heard_by_brings st task now place d (Some t) f none is =
    went_brings st task now d (told_to task d t) t (told_so task d t) f none is
    (told_brings st task d t none)

heard_brings : (st : Status) (task : Task) (now place : ℕ) (d : Talk) (m : Content)
    → Fine task.work d.course → d.course.status ≡ None
    → (heard task now place d m).course.status ≡ Some st
    → brings_told st (told_in (service_of task.work) m) ≡ true
unfolding heard
heard_brings st task now place d m f none is =
    let going : is_over d.course ≡ false = goes_on d.course.status none in
    heard_by_brings st task now place d (told_in (service_of task.work) m) f none
    (rw going at is)

refused_brings : (st : Status) (refused : Bool) (place : ℕ) (d : Talk) → d.course.status ≡ None
    → (refused_at refused place d).course.status ≡ Some st
    → (refused && brings_told st None) ≡ true
refused_brings st false place d none is = absurd cc
refused_brings st true place d none is =
    let going : is_over d.course ≡ false = goes_on d.course.status none in
    bad_brings st place d (rw going at is)

or_assoc : (a b c : Bool) → (a || (b || c)) ≡ true → ((a || b) || c) ≡ true
or_assoc true b c is = refl
or_assoc false b c is = is

-- a message before others: it ended the user, or one of the others did
first_brings : (st : Status) (task : Task) (now place next : ℕ) (refused : Bool)
    (messages : List Content) (d e : Talk) (m : Content) (later : Bool) (o : Option Status)
    → heard task now place d m ≡ e → e.course.status ≡ o → Fine task.work d.course
    → d.course.status ≡ None
    → (heard_all task now next refused messages e).course.status ≡ Some st
    → (e.course.status ≡ None → later ≡ true)
    → (brings_told st (told_in (service_of task.work) m) || later) ≡ true
first_brings st task now place next refused messages d e m later None heard_is status f none is
    others =
    or_right (brings_told st (told_in (service_of task.work) m)) later (others status)
first_brings st task now place next refused messages d e m later (Some other) heard_is status f
    none is others =
    let stays = over_all task now next refused messages e (ap is_some status) in
    let ends : e.course.status ≡ Some st =
    sym (ap (λ (x : Talk). x.course.status) stays) ∙ is in
    or_left (brings_told st (told_in (service_of task.work) m)) later
    (heard_brings st task now place d m f none
    (ap (λ (x : Talk). x.course.status) heard_is ∙ ends))

all_bring : (st : Status) (task : Task) (now place : ℕ) (refused : Bool) (messages : List Content)
    (d : Talk) → is_show task.work ≡ false → Fine task.work d.course → d.course.status ≡ None
    → (heard_all task now place refused messages d).course.status ≡ Some st
    → (list_any (λ (m : Content). brings_told st (told_in (service_of task.work) m)) messages
    || (refused && brings_told st None)) ≡ true
all_bring st task now place refused [] d invokes f none is =
    refused_brings st refused place d none is
all_bring st task now place refused (m ∷ messages) d invokes f none is =
    let next = capped (place + length (spelling m)) in
    let e = heard task now place d m in
    let later =
    list_any (λ (m : Content). brings_told st (told_in (service_of task.work) m)) messages
    || (refused && brings_told st None) in
    or_assoc (brings_told st (told_in (service_of task.work) m))
    (list_any (λ (m : Content). brings_told st (told_in (service_of task.work) m)) messages)
    (refused && brings_told st None)
    (first_brings st task now place next refused messages d e m later e.course.status refl refl
    f none is (λ goes. all_bring st task now next refused messages e invokes
    (heard_fine task now place d m invokes f) goes is))

-- ---- turns

beating_status : (now : ℕ) (d : Talk) → (beating now d).course.status ≡ d.course.status
unfolding beating
beating_status now d = by (beats d now) refl
  where
    by : (b : Bool) → beats d now ≡ b → (beating now d).course.status ≡ d.course.status
    by true is = rw is refl
    by false is = rw is refl

is_zero : (n : ℕ) → (n == 0) ≡ true → n ≡ 0
is_zero zero is = refl
is_zero (suc n) is = absurd (grind arith)

-- a turn's opening ends nobody
bind_reports : (task : Task) (now : ℕ) (d : Talk)
    → invocation_at task.work d.course.said ≡ Some bind → reporting task now d ≡ d
unfolding reporting
bind_reports task now d here = ap (reports_by task now d) here

bind_more : (task : Task) (d : Talk) → invocation_at task.work d.course.said ≡ Some bind
    → invocation_at task.work d.course.said ≡ None → ⊥
bind_more task d here none = let both : Some bind ≡ None = sym here ∙ none in cc

went_none : (task : Task) (now : ℕ) (d : Talk)
    → invocation_at task.work d.course.said ≡ Some bind → d.course.status ≡ None
    → (went_on task now d).course.status ≡ None
unfolding went_on
went_none task now d here none = by (rests d.course) refl
  where
    by : (b : Bool) → rests d.course ≡ b → (went_on task now d).course.status ≡ None
    by true is = rw is none
    by false is =
        rw is
        (subst (λ (x : Talk). (going_on task now x).course.status ≡ None)
        (sym (bind_reports task now d here))
        (going_none task now d (bind_more task d here) none))

opened_none : (task : Task) (now : ℕ) (d : Talk) → is_show task.work ≡ false
    → d.course.status ≡ None → (opened task now d).course.status ≡ None
unfolding opened
opened_none task now d invokes none = by (d.course.said == 0) refl
  where
    by : (b : Bool) → (d.course.said == 0) ≡ b → (opened task now d).course.status ≡ None
    by true is =
        let at : invocation_at task.work d.course.said ≡ Some bind =
        ap (invocation_at task.work) (is_zero d.course.said is)
        ∙ first_is_bind task.work invokes in
        rw is (went_none task now d at none)
    by false is = rw is none

-- nor does a user end by being asked to: it only says what comes next
more_next : (task : Task) (d : Talk) → Fine task.work d.course → d.course.status ≡ None
    → d.course.awaited ≡ None → invocation_at task.work d.course.said ≡ None → ⊥
more_next task d f none awaits is =
    let last : Some unbound ≡ None = sym (f.last none is) ∙ awaits in cc

more_reports : (task : Task) (now : ℕ) (d : Talk) (o : Option Said)
    → invocation_at task.work d.course.said ≡ o → Fine task.work d.course
    → d.course.status ≡ None → d.course.awaited ≡ None
    → invocation_at task.work (reports_by task now d o).course.said ≡ None → ⊥
more_reports task now d None here f none awaits is = more_next task d f none awaits is
more_reports task now d (Some bind) here f none awaits is = more_next task d f none awaits is
more_reports task now d (Some start) here f none awaits is = more_next task d f none awaits is
more_reports task now d (Some (schedule cycle)) here f none awaits is =
    after_report task now d cycle here is
more_reports task now d (Some (transfer line)) here f none awaits is =
    more_next task d f none awaits is
more_reports task now d (Some stop) here f none awaits is = more_next task d f none awaits is
more_reports task now d (Some unbind) here f none awaits is = more_next task d f none awaits is

more_reporting : (task : Task) (now : ℕ) (d : Talk) → Fine task.work d.course
    → d.course.status ≡ None → d.course.awaited ≡ None
    → invocation_at task.work (reporting task now d).course.said ≡ None → ⊥
unfolding reporting
more_reporting task now d f none awaits is =
    more_reports task now d (invocation_at task.work d.course.said) refl f none awaits is

went_going : (task : Task) (now : ℕ) (d : Talk) → Fine task.work d.course
    → d.course.status ≡ None → (went_on task now d).course.status ≡ None
unfolding went_on
went_going task now d f none = by (rests d.course) refl
  where
    by : (b : Bool) → rests d.course ≡ b → (went_on task now d).course.status ≡ None
    by true is = rw is none
    by false is =
        let awaits = (both_none d.course is).1 in
        rw is
        (going_none task now (reporting task now d) (more_reporting task now d f none awaits)
        (reporting_none task now d none awaits).0)

asked_none : (task : Task) (asked : Bool) (now : ℕ) (d : Talk) → Fine task.work d.course
    → d.course.status ≡ None → (asked_to task asked now d).course.status ≡ None
unfolding asked_to
asked_none task asked now d f none =
    let e = in_course (closes true d.course) d in
    if_status (went_on task now e) d (asked && receives task.work) None
    (went_going task now e (closing_fine task.work d.course f) none) none

closed_brings : (st : Status) (show : Bool) (place : ℕ) (rest : List ℕ) (d : Talk)
    → show ≡ false → (closed_by show place rest d).course.status ≡ Some st
    → is_peer_end st ≡ true
closed_brings st true place rest d invokes is = absurd cc
closed_brings st false place rest d invokes is =
    let same : PeerEnded ≡ st = cc in
    subst (λ x. is_peer_end x ≡ true) same refl

in_brings : (st : Status) (task : Task) (now : ℕ) (k : Kept) (h : Hearing) (d : Talk)
    → is_show task.work ≡ false → Fine task.work d.course → d.course.status ≡ None
    → (heard_in task now k h d).course.status ≡ Some st
    → brings st (service_of task.work) k h ≡ true
in_brings st task now k nothing d invokes f none is = absurd cc
in_brings st task now k (came octets) d invokes f none is =
    let u = unread_in k octets in
    all_bring st task now u.place (is_some u.fault) u.messages d invokes f none is
in_brings st task now k ended d invokes f none is =
    closed_brings st (is_show task.work) k.place k.rest d invokes is

turn_brings : (st : Status) (s : Standing) (t : Turn) → is_show s.task.work ≡ false
    → Fine s.task.work s.course → s.course.status ≡ None
    → (after_turn s t).course.status ≡ Some st
    → brings st (service_of s.task.work) s.stream t.hearing ≡ true
turn_brings st s t invokes f none is =
    let going : is_over s.course ≡ false = goes_on s.course.status none in
    let a = begun t.waits t.now (talk_of s) in
    let o = opened s.task t.now a in
    let b = asked_to s.task t.asked t.now o in
    let c = heard_in s.task t.now s.stream t.hearing b in
    let f_open = opened_fine s.task t.now a invokes f in
    let none_open = opened_none s.task t.now a invokes none in
    let ends : (beating t.now c).course.status ≡ Some st = rw going at is in
    in_brings st s.task t.now s.stream t.hearing b invokes
    (asked_fine s.task t.asked t.now o invokes f_open)
    (asked_none s.task t.asked t.now o f_open none_open)
    (sym (beating_status t.now c) ∙ ends)

over_turn : (s : Standing) (t : Turn) → is_over s.course ≡ true → after_turn s t ≡ s
over_turn s t is = rw is refl

over_turns : (s : Standing) (turns : List Turn) → is_over s.course ≡ true
    → after_turns s turns ≡ s
over_turns s [] is = refl
over_turns s (t ∷ turns) is =
    ap (λ x. after_turns x turns) (over_turn s t is) ∙ over_turns s turns is

-- a turn before others
turn_first : (st : Status) (task : Task) (s : Standing) (t : Turn) (turns : List Turn)
    (later : Bool) (o : Option Status) → (after_turn s t).course.status ≡ o → s.task ≡ task
    → is_show task.work ≡ false → Fine task.work s.course → s.course.status ≡ None
    → (after_turns (after_turn s t) turns).course.status ≡ Some st
    → ((after_turn s t).course.status ≡ None → later ≡ true)
    → (brings st (service_of task.work) s.stream t.hearing || later) ≡ true
turn_first st task s t turns later None status same invokes f none is others =
    or_right (brings st (service_of task.work) s.stream t.hearing) later (others status)
turn_first st task s t turns later (Some other) status same invokes f none is others =
    let stays = over_turns (after_turn s t) turns (ap is_some status) in
    let ends : (after_turn s t).course.status ≡ Some st =
    sym (ap (λ (x : Standing). x.course.status) stays) ∙ is in
    or_left (brings st (service_of task.work) s.stream t.hearing) later
    (subst (λ (x : Task). brings st (service_of x.work) s.stream t.hearing ≡ true) same
    (turn_brings st s t
    (subst (λ (x : Task). is_show x.work ≡ false) (sym same) invokes)
    (subst (λ (x : Task). Fine x.work s.course) (sym same) f) none ends))

turns_bring : (st : Status) (task : Task) (s : Standing) (turns : List Turn) → s.task ≡ task
    → is_show task.work ≡ false → Fine task.work s.course → s.course.status ≡ None
    → (after_turns s turns).course.status ≡ Some st
    → brings_in st (service_of task.work) s turns ≡ true
turns_bring st task s [] same invokes f none is = absurd cc
turns_bring st task s (t ∷ turns) same invokes f none is =
    let n = after_turn s t in
    let first = turn_fine s t (subst (λ (x : Task). is_show x.work ≡ false) (sym same) invokes)
    (subst (λ (x : Task). Fine x.work s.course) (sym same) f) in
    turn_first st task s t turns (brings_in st (service_of task.work) n turns) n.course.status refl
    same invokes f none is
    (λ goes. turns_bring st task n turns (first.task ∙ same) invokes
    (subst (λ (x : Task). Fine x.work n.course) same first.fine) goes is)

pub is_brought : (st : Status) (task : Task) (turns : List Turn) → is_show task.work ≡ false
    → (after_turns (new_user task) turns).course.status ≡ Some st
    → brings_in st (service_of task.work) (new_user task) turns ≡ true
is_brought st task turns invokes is =
    turns_bring st task (new_user task) turns refl invokes (new_fine task invokes) refl is
