-- What a user says over turns.
use Rattle.std.proofs.Common.{◌≡◌, ◌⊎◌, inl, inr, ℕ, ◌+◌, ◌==◌, Bool, true, false, Option, Some}
use Rattle.std.proofs.Common.{None, List, [], ◌∷◌, ◌++◌, refl, sym, ap, subst, ◌∙◌, append_assoc, append-nil}
use Rattle.std.specs.Prelude.{if◌then◌else◌, is_some, length, ◌&&◌}
use Rattle.isp1_tml.specs.Fault.{capped}
use Rattle.isp1_auth.specs.Numbers.{next_number}
use Rattle.isp1_tml.specs.Message.{Content, spelling, heartbeat}
use Rattle.user_lines.specs.declared.told.Told.{Told}
use Rattle.user_lines.specs.Told.{told_in}
use Rattle.user_task.specs.declared.task.Task.{Task}
use Rattle.user_task.specs.declared.work.Work.{Work}
use Rattle.user_task.specs.Invocation.{Said, bind, start, schedule, transfer, stop, unbind}
use Rattle.user_task.specs.Invocation.{invocation_at}
use Rattle.user_task.specs.Work.{is_show, service_of}
use Rattle.user_core.specs.declared.course.Course.{Course}
use Rattle.user_core.specs.declared.event.Event.{Event}
use Rattle.user_core.specs.declared.event.Event.TheVariants.{Nothing, Returned, Halted, Emptied}
use Rattle.user_core.specs.declared.event.Event.TheVariants.{EndOfData, Aborted}
use Rattle.user_core.specs.Event.{event_of}
use Rattle.user_core.specs.Course.{is_over, rests, after, answered, aborted, closes, finished_by}
use Rattle.user_core.specs.Course.{is_awaited, has_begun, was_last, may_say, receives}
use Rattle.user_core.specs.Dialogue.{Talk, front_of, message_said, said_to, next_said, reports_by}
use Rattle.user_core.specs.Dialogue.{reporting, going_on, went_on, told_to}
use Rattle.user_core.specs.Dialogue.{heard, heard_by, refused_at, closed_by, opened}
use Rattle.user_core.specs.Dialogue.{begun, beats, beating, bad_at, asked_to, in_course}
use Rattle.user_core.specs.Hearing.{Kept, Hearing, nothing, came, ended, heard_all, heard_in, unread_in}
use Rattle.user_core.specs.Turn.{Standing, talk_of, talk_in, new_user}
use Rattle.user_core.specs.Laws.{Utterance, invoked, beaten, octets_by, octets_said, place_after}
use Rattle.user_core.specs.Laws.{latest_after, Says, Turn, after_turn, after_turns, answer_in, offers}
use Rattle.user_core.specs.Laws.{OffersInOrder, SaysNothing, SaysNext, AnswersOnce, OneAnswer}

-- ---- what is said joins

octets_join : (task : Task) (place latest : ℕ) (us vs : List Utterance)
    → octets_said task place latest (us ++ vs)
    ≡ octets_said task place latest us
    ++ octets_said task (place_after place us) (latest_after latest us) vs
octets_join task place latest [] vs = refl
octets_join task place latest (beaten ∷ us) vs =
    ap (λ x. spelling heartbeat ++ x) (octets_join task place latest us vs)
    ∙ sym (append_assoc (spelling heartbeat) (octets_said task place latest us)
    (octets_said task (place_after place us) (latest_after latest us) vs))
octets_join task place latest (invoked now ∷ us) vs =
    let first = octets_by task place latest now (invocation_at task.work place) in
    let next = next_number latest in
    ap (λ x. first ++ x) (octets_join task (place + 1) next us vs)
    ∙ sym (append_assoc first (octets_said task (place + 1) next us)
    (octets_said task (place_after (place + 1) us) (latest_after next us) vs))

place_join : (place : ℕ) (us vs : List Utterance)
    → place_after place (us ++ vs) ≡ place_after (place_after place us) vs
place_join place [] vs = refl
place_join place (beaten ∷ us) vs = place_join place us vs
place_join place (invoked now ∷ us) vs = place_join (place + 1) us vs

latest_join : (latest : ℕ) (us vs : List Utterance)
    → latest_after latest (us ++ vs) ≡ latest_after (latest_after latest us) vs
latest_join latest [] vs = refl
latest_join latest (beaten ∷ us) vs = latest_join latest us vs
latest_join latest (invoked now ∷ us) vs = latest_join (next_number latest) us vs

-- ---- from one talk to a later one

record Grows (task : Task) (d e : Talk) : Type 0 where
  pub said : List Utterance
  pub octets : e.offer ≡ d.offer ++ octets_said task d.course.said d.latest said
  pub to : e.course.said ≡ place_after d.course.said said
  pub latest : e.latest ≡ latest_after d.latest said

stays : (task : Task) (d e : Talk) → e.offer ≡ d.offer → e.course.said ≡ d.course.said
    → e.latest ≡ d.latest → Grows task d e
stays task d e o s l = record {
  said = [];
  octets = o ∙ sym (append-nil d.offer);
  to = s;
  latest = l;
}

joins : (task : Task) (d e f : Talk) → Grows task d e → Grows task e f → Grows task d f
joins task d e f g h = record {
  said = g.said ++ h.said;
  octets = h.octets
      ∙ ap (λ x. x ++ octets_said task e.course.said e.latest h.said) g.octets
      ∙ append_assoc d.offer (octets_said task d.course.said d.latest g.said)
      (octets_said task e.course.said e.latest h.said)
      ∙ ap (λ x. d.offer ++ x)
      (rw (g.to, g.latest) (sym (octets_join task d.course.said d.latest g.said h.said)));
  to = h.to ∙ ap (λ x. place_after x h.said) g.to
      ∙ sym (place_join d.course.said g.said h.said);
  latest = h.latest ∙ ap (λ x. latest_after x h.said) g.latest
      ∙ sym (latest_join d.latest g.said h.said);
}

-- ---- what is heard says nothing by itself

answered_said : (fits refused : Bool) (c : Course) → (answered fits refused c).said ≡ c.said
answered_said false refused c = refl
answered_said true true c = refl
answered_said true false c = refl

closes_said : (came : Bool) (c : Course) → (closes came c).said ≡ c.said
closes_said true c = refl
closes_said false c = refl

aborted_said : (reads : Bool) (c : Course) → (aborted reads c).said ≡ c.said
aborted_said true c = refl
aborted_said false c = refl

finished_said : (show : Bool) (c : Course) → (finished_by show c).said ≡ c.said
finished_said true c = refl
finished_said false c = refl

after_said : (work : Work) (event : Event) (c : Course) → (after work event c).said ≡ c.said
unfolding after
after_said work Nothing c = refl
after_said work (Returned t invoke refused) c =
    answered_said (is_awaited c.awaited t invoke) refused c
after_said work Halted c = closes_said (has_begun c.said) c
after_said work EndOfData c = closes_said (has_begun c.said) c
after_said work (Emptied last_ok) c = closes_said (was_last work c.said last_ok) c
after_said work Aborted c = aborted_said (is_show work) c

same_said : (task : Task) (d : Talk) → Grows task d d
same_said task d = stays task d d refl refl refl

if_grows : (task : Task) (d x y : Talk) (b : Bool) → Grows task d x → Grows task d y
    → Grows task d (if b then x else y)
if_grows task d x y true g h = g
if_grows task d x y false g h = h

-- ---- what is said

said_grows : (task : Task) (now : ℕ) (d : Talk) (s : Said)
    → invocation_at task.work d.course.said ≡ Some s → Grows task d (said_to task now d s)
unfolding said_to
said_grows task now d s is = record {
  said = invoked now ∷ [];
  octets = append_assoc d.offer (front_of s)
      (message_said task s d.course.said d.latest now)
      ∙ ap (λ x. d.offer ++ x)
      (rw is (sym (append-nil (front_of s ++ message_said task s d.course.said d.latest now))));
  to = refl;
  latest = refl;
}

next_grows : (task : Task) (now : ℕ) (d : Talk) (o : Option Said)
    → invocation_at task.work d.course.said ≡ o → Grows task d (next_said task now d o)
next_grows task now d None is =
    stays task d (next_said task now d None) refl (finished_said (is_show task.work) d.course) refl
next_grows task now d (Some s) is =
    if_grows task d (said_to task now d s) d (may_say task.work d.course s)
    (said_grows task now d s is) (same_said task d)

reports_grows : (task : Task) (now : ℕ) (d : Talk) (o : Option Said)
    → invocation_at task.work d.course.said ≡ o → Grows task d (reports_by task now d o)
reports_grows task now d None is = same_said task d
reports_grows task now d (Some bind) is = same_said task d
reports_grows task now d (Some start) is = same_said task d
reports_grows task now d (Some (schedule cycle)) is = said_grows task now d (schedule cycle) is
reports_grows task now d (Some (transfer line)) is = same_said task d
reports_grows task now d (Some stop) is = same_said task d
reports_grows task now d (Some unbind) is = same_said task d

reporting_grows : (task : Task) (now : ℕ) (d : Talk) → Grows task d (reporting task now d)
unfolding reporting
reporting_grows task now d = reports_grows task now d (invocation_at task.work d.course.said) refl

going_grows : (task : Task) (now : ℕ) (d : Talk) → Grows task d (going_on task now d)
unfolding going_on
going_grows task now d = next_grows task now d (invocation_at task.work d.course.said) refl

went_grows : (task : Task) (now : ℕ) (d : Talk) → Grows task d (went_on task now d)
unfolding went_on
went_grows task now d =
    let e = reporting task now d in
    if_grows task d d (going_on task now e) (rests d.course) (same_said task d)
    (joins task d e (going_on task now e) (reporting_grows task now d) (going_grows task now e))

told_grows : (task : Task) (d : Talk) (t : Told) → Grows task d (told_to task d t)
unfolding told_to
told_grows task d t =
    stays task d (told_to task d t) refl (after_said task.work (event_of t) d.course) refl

bad_grows : (task : Task) (place : ℕ) (d : Talk) → Grows task d (bad_at place d)
bad_grows task place d = stays task d (bad_at place d) refl refl refl

heard_by_grows : (task : Task) (now place : ℕ) (d : Talk) (o : Option Told)
    → Grows task d (heard_by task now place d o)
heard_by_grows task now place d None = bad_grows task place d
heard_by_grows task now place d (Some t) =
    joins task d (told_to task d t) (went_on task now (told_to task d t)) (told_grows task d t)
    (went_grows task now (told_to task d t))

heard_grows : (task : Task) (now place : ℕ) (d : Talk) (m : Content)
    → Grows task d (heard task now place d m)
unfolding heard
heard_grows task now place d m =
    if_grows task d d (heard_by task now place d (told_in (service_of task.work) m))
    (is_over d.course) (same_said task d)
    (heard_by_grows task now place d (told_in (service_of task.work) m))

refused_grows : (task : Task) (refused : Bool) (place : ℕ) (d : Talk)
    → Grows task d (refused_at refused place d)
refused_grows task false place d = same_said task d
refused_grows task true place d =
    if_grows task d d (bad_at place d) (is_over d.course) (same_said task d)
    (bad_grows task place d)

all_grow : (task : Task) (now place : ℕ) (refused : Bool) (messages : List Content) (d : Talk)
    → Grows task d (heard_all task now place refused messages d)
all_grow task now place refused [] d = refused_grows task refused place d
all_grow task now place refused (m ∷ messages) d =
    let next = capped (place + length (spelling m)) in
    let e = heard task now place d m in
    joins task d e (heard_all task now next refused messages e) (heard_grows task now place d m)
    (all_grow task now next refused messages e)

closed_grows : (task : Task) (show : Bool) (place : ℕ) (rest : List ℕ) (d : Talk)
    → Grows task d (closed_by show place rest d)
closed_grows task true place [] d =
    stays task d (closed_by true place [] d) refl refl refl
closed_grows task true place (octet ∷ rest) d = bad_grows task place d
closed_grows task false place rest d = stays task d (closed_by false place rest d) refl refl refl

in_grows : (task : Task) (now : ℕ) (k : Kept) (h : Hearing) (d : Talk)
    → Grows task d (heard_in task now k h d)
in_grows task now k nothing d = same_said task d
in_grows task now k (came octets) d =
    let u = unread_in k octets in
    all_grow task now u.place (is_some u.fault) u.messages d
in_grows task now k ended d = closed_grows task (is_show task.work) k.place k.rest d

opened_grows : (task : Task) (now : ℕ) (d : Talk) → Grows task d (opened task now d)
unfolding opened
opened_grows task now d =
    if_grows task d (went_on task now d) d (d.course.said == 0) (went_grows task now d)
    (same_said task d)

asked_grows : (task : Task) (asked : Bool) (now : ℕ) (d : Talk)
    → Grows task d (asked_to task asked now d)
unfolding asked_to
asked_grows task asked now d =
    let e = in_course (closes true d.course) d in
    if_grows task d (went_on task now e) d (asked && receives task.work)
    (joins task d e (went_on task now e) (stays task d e refl refl refl) (went_grows task now e))
    (same_said task d)

beating_grows : (task : Task) (now : ℕ) (d : Talk) → Grows task d (beating now d)
unfolding beating
beating_grows task now d =
    if_grows task d
    (record d {
      beat = record d.beat { sent = now };
      offer = d.offer ++ spelling heartbeat;
    })
    d (beats d now)
    (record { said = beaten ∷ []; octets = refl; to = refl; latest = refl })
    (same_said task d)

-- ---- turns

begun_grows : (task : Task) (waits : Bool) (now : ℕ) (s : Standing)
    → Grows task (talk_of s) (begun waits now (talk_of s))
begun_grows task waits now s =
    stays task (talk_of s) (begun waits now (talk_of s)) refl refl refl

turn_grows : (task : Task) (waits asked : Bool) (now : ℕ) (s : Standing) (h : Hearing)
    → Grows task (talk_of s) (talk_in task waits asked now (talk_of s) s.stream h)
turn_grows task waits asked now s h =
    let a = begun waits now (talk_of s) in
    let o = opened task now a in
    let b = asked_to task asked now o in
    let c = heard_in task now s.stream h b in
    joins task (talk_of s) c (beating now c)
    (joins task (talk_of s) b c
    (joins task (talk_of s) o b
    (joins task (talk_of s) a o (begun_grows task waits now s) (opened_grows task now a))
    (asked_grows task asked now o))
    (in_grows task now s.stream h b))
    (beating_grows task now c)

-- what a turn says, from where the user stands to where it stands then
pub record Turns (s : Standing) (t : Turn) : Type 0 where
  pub task : (after_turn s t).task ≡ s.task
  pub says : Says s.task s.course.said s.latest (after_turn s t).course.said
      (after_turn s t).latest (answer_in s t).offer

turn_says : (s : Standing) (t : Turn) → Turns s t
turn_says s t = by (is_over s.course) refl
  where
    by : (over : Bool) → is_over s.course ≡ over → Turns s t
    by true is = record {
      task = rw is refl;
      says = rw is (record { said = []; octets_are = refl; place_is = refl; latest_is = refl });
    }
    by false is =
        let g = turn_grows s.task t.waits t.asked t.now s t.hearing in
        record {
          task = rw is refl;
          says = rw is (record {
            said = g.said;
            octets_are = g.octets;
            place_is = g.to;
            latest_is = g.latest;
          });
        }

says_join : (task : Task) (p l q m r n : ℕ) (a b : List ℕ) → Says task p l q m a
    → Says task q m r n b → Says task p l r n (a ++ b)
says_join task p l q m r n a b g h = record {
  said = g.said ++ h.said;
  octets_are =
      ap (λ x. x ++ b) g.octets_are
      ∙ ap (λ x. octets_said task p l g.said ++ x)
      (h.octets_are
      ∙ ap (λ x. octets_said task x m h.said) g.place_is
      ∙ ap (λ x. octets_said task (place_after p g.said) x h.said) g.latest_is)
      ∙ sym (octets_join task p l g.said h.said);
  place_is = h.place_is ∙ ap (λ x. place_after x h.said) g.place_is
      ∙ sym (place_join p g.said h.said);
  latest_is = h.latest_is ∙ ap (λ x. latest_after x h.said) g.latest_is
      ∙ sym (latest_join l g.said h.said);
}

turns_say : (task : Task) (s : Standing) (turns : List Turn) → s.task ≡ task
    → Says task s.course.said s.latest (after_turns s turns).course.said
    (after_turns s turns).latest (offers s turns)
turns_say task s [] is =
    record { said = []; octets_are = refl; place_is = refl; latest_is = refl }
turns_say task s (t ∷ turns) is =
    let n = after_turn s t in
    let first = turn_says s t in
    says_join task s.course.said s.latest n.course.said n.latest
    (after_turns n turns).course.said (after_turns n turns).latest
    (answer_in s t).offer (offers n turns)
    (subst (λ x. Says x s.course.said s.latest n.course.said n.latest (answer_in s t).offer) is
    first.says)
    (turns_say task n turns (first.task ∙ is))

pub offers_in_order : OffersInOrder
offers_in_order task turns = turns_say task (new_user task) turns refl

-- ---- one answer

-- nothing, or the next invocation
abbrev SaysOne : Task → ℕ → Talk → Talk → Type 0
SaysOne task now d e = SaysNothing d e ⊎ (s : Said) × SaysNext task now s d e

-- nothing, or what asks for reports
abbrev SaysReport : Task → ℕ → Talk → Talk → Type 0
SaysReport task now d e = SaysNothing d e ⊎ (cycle : ℕ) × SaysNext task now (schedule cycle) d e

still : (d e : Talk) → e.course.said ≡ d.course.said → e.latest ≡ d.latest → e.offer ≡ d.offer
    → SaysNothing d e
still d e s l o = record { said = s; latest = l; offer = o }

unmoved : (d : Talk) → SaysNothing d d
unmoved d = still d d refl refl refl

quiet : (task : Task) (now : ℕ) (d e : Talk) → SaysNothing d e → AnswersOnce task now d e
quiet task now d e none = record { reported = d; report = inl (unmoved d); answer = inl none }

if_once : (task : Task) (now : ℕ) (d x y : Talk) (b : Bool) → AnswersOnce task now d x
    → AnswersOnce task now d y → AnswersOnce task now d (if b then x else y)
if_once task now d x y true g h = g
if_once task now d x y false g h = h

if_says : (task : Task) (now : ℕ) (d x y : Talk) (b : Bool) → SaysOne task now d x
    → SaysOne task now d y → SaysOne task now d (if b then x else y)
if_says task now d x y true g h = g
if_says task now d x y false g h = h

said_next : (task : Task) (now : ℕ) (d : Talk) (s : Said)
    → invocation_at task.work d.course.said ≡ Some s
    → SaysNext task now s d (said_to task now d s)
unfolding said_to
said_next task now d s is = record { next = is; said = refl; latest = refl; offer = refl }

next_says : (task : Task) (now : ℕ) (d : Talk) (o : Option Said)
    → invocation_at task.work d.course.said ≡ o → SaysOne task now d (next_said task now d o)
next_says task now d None is =
    inl (still d (next_said task now d None) (finished_said (is_show task.work) d.course) refl refl)
next_says task now d (Some s) is =
    if_says task now d (said_to task now d s) d (may_say task.work d.course s)
    (inr (s, said_next task now d s is)) (inl (unmoved d))

going_says : (task : Task) (now : ℕ) (d : Talk) → SaysOne task now d (going_on task now d)
unfolding going_on
going_says task now d = next_says task now d (invocation_at task.work d.course.said) refl

reports_says : (task : Task) (now : ℕ) (d : Talk) (o : Option Said)
    → invocation_at task.work d.course.said ≡ o → SaysReport task now d (reports_by task now d o)
reports_says task now d None is = inl (unmoved d)
reports_says task now d (Some bind) is = inl (unmoved d)
reports_says task now d (Some start) is = inl (unmoved d)
reports_says task now d (Some (schedule cycle)) is =
    inr (cycle, said_next task now d (schedule cycle) is)
reports_says task now d (Some (transfer line)) is = inl (unmoved d)
reports_says task now d (Some stop) is = inl (unmoved d)
reports_says task now d (Some unbind) is = inl (unmoved d)

reporting_says : (task : Task) (now : ℕ) (d : Talk) → SaysReport task now d (reporting task now d)
unfolding reporting
reporting_says task now d = reports_says task now d (invocation_at task.work d.course.said) refl

went_once : (task : Task) (now : ℕ) (d : Talk) → AnswersOnce task now d (went_on task now d)
unfolding went_on
went_once task now d =
    let e = reporting task now d in
    if_once task now d d (going_on task now e) (rests d.course) (quiet task now d d (unmoved d))
    (record { reported = e; report = reporting_says task now d; answer = going_says task now e })

-- what is told changes nothing of what was said
nothing_then : (d e f : Talk) → SaysNothing d e → SaysNothing e f → SaysNothing d f
nothing_then d e f n m =
    still d f (m.said ∙ n.said) (m.latest ∙ n.latest) (m.offer ∙ n.offer)

next_from : (task : Task) (now : ℕ) (s : Said) (d e f : Talk) → SaysNothing d e
    → SaysNext task now s e f → SaysNext task now s d f
next_from task now s d e f n m = record {
  next = ap (invocation_at task.work) (sym n.said) ∙ m.next;
  said = m.said ∙ ap (λ x. x + 1) n.said;
  latest = m.latest ∙ ap next_number n.latest;
  offer = m.offer
      ∙ ap (λ o. (o ++ front_of s) ++ message_said task s e.course.said e.latest now) n.offer
      ∙ ap (λ x. (d.offer ++ front_of s) ++ message_said task s x e.latest now) n.said
      ∙ ap (λ x. (d.offer ++ front_of s) ++ message_said task s d.course.said x now) n.latest;
}

report_from : (task : Task) (now : ℕ) (d e f : Talk) → SaysNothing d e
    → SaysReport task now e f → SaysReport task now d f
report_from task now d e f n (inl m) = inl (nothing_then d e f n m)
report_from task now d e f n (inr (cycle, m)) =
    inr (cycle, next_from task now (schedule cycle) d e f n m)

behind_told : (task : Task) (now : ℕ) (d e f : Talk) → SaysNothing d e → AnswersOnce task now e f
    → AnswersOnce task now d f
behind_told task now d e f n once = record {
  reported = once.reported;
  report = report_from task now d e once.reported n once.report;
  answer = once.answer;
}

told_once : (task : Task) (now place : ℕ) (d : Talk) (o : Option Told)
    → AnswersOnce task now d (heard_by task now place d o)
unfolding told_to
told_once task now place d None =
    quiet task now d (bad_at place d) (still d (bad_at place d) refl refl refl)
told_once task now place d (Some t) =
    let e = told_to task d t in
    behind_told task now d e (went_on task now e)
    (still d e (after_said task.work (event_of t) d.course) refl refl) (went_once task now e)

pub one_answer : OneAnswer
unfolding heard
one_answer task now place d m =
    if_once task now d d (heard_by task now place d (told_in (service_of task.work) m))
    (is_over d.course) (quiet task now d d (unmoved d))
    (told_once task now place d (told_in (service_of task.work) m))
