-- What a user prints over turns.
use Rattle.std.proofs.Common.{◌≡◌, ℕ, ◌+◌, Bool, true, false, Option, Some, None, List, []}
use Rattle.std.proofs.Common.{◌∷◌, ◌++◌, length, refl, sym, ap, subst, ◌∙◌, append_assoc, append-nil}
use Rattle.std.proofs.Common.{zero, suc, add-zero, arith}
use Rattle.std.specs.Prelude.{if◌then◌else◌, is_some, not, ◌&&◌, ◌==◌}
use Rattle.std.proofs.lemmas.List.{get_or-append-add, append_cancel_left, length-append}
use Rattle.isp1_tml.specs.declared.tml_fault.TmlFault.{TmlFault}
use Rattle.isp1_tml.specs.Fault.{capped}
use Rattle.isp1_tml.specs.Message.{Content, spelling, spellings}
use Rattle.isp1_tml.specs.Stream.{IsStream}
use Rattle.isp1_tml.specs.Reading.{Reading, reading, reading_within, at_end, IsRead, GoesOnFrom}
use Rattle.isp1_tml.specs.Unread.{Unread, unread_by, unread_of}
use Rattle.sle_numbers.specs.declared.service_type.ServiceType.{ServiceType}
use Rattle.user_lines.specs.declared.told.Told.{Told}
use Rattle.user_lines.specs.Told.{told_in}
use Rattle.user_lines.specs.Lines.{lines_of, bad_line}
use Rattle.user_lines.specs.Shown.{Shown, shown, shown_by, shown_of}
use Rattle.user_task.specs.declared.task.Task.{Task}
use Rattle.user_task.specs.Work.{is_show, service_of}
use Rattle.user_core.specs.Course.{is_over, closes, receives}
use Rattle.user_core.specs.Dialogue.{Talk, went_on, opened, begun, beats, beating, closed_at}
use Rattle.user_core.specs.Dialogue.{closed_by, asked_to, in_course}
use Rattle.user_core.specs.Hearing.{Kept, Hearing, nothing, came, ended, unread_in}
use Rattle.user_core.specs.Hearing.{place_behind, heard_in, stream_in}
use Rattle.user_core.specs.Turn.{Standing, talk_of, standing_of, new_user}
use Rattle.user_core.specs.Laws.{Turn, after_turn, after_turns, answer_in, printed, octets_in, ends_in}
use Rattle.user_core.specs.Laws.{came_before, ends_before, left_line, text_by, stream_text, text_from}
use Rattle.user_core.specs.Laws.{AreOctets, PrintsStream, LinesInOrder}
use Rattle.user_core.proofs.Places.{SamePlace, same_reading}
use Rattle.user_core.proofs.Printed.{if_lines, went_lines, prints_in_order}

-- ---- octets

octets_behind : (a b : List ℕ) → AreOctets (a ++ b) → AreOctets b
octets_behind a b o i = rw (← get_or-append-add a b i 0) (o (length a + i))

octets_before : (a b : List ℕ) → AreOctets (a ++ b) → AreOctets a
octets_before [] b o i = omega arith
octets_before (x ∷ a) b o zero = o zero
octets_before (x ∷ a) b o (suc i) = octets_before a b (λ j. o (suc j)) i

-- ---- the lines of messages, and of more behind them

abbrev then_by : Bool → Shown → Shown → Shown
then_by true a b = a
then_by false a b = record b { text = a.text ++ b.text }

abbrev before : List ℕ → Shown → Shown
before text s = record s { text = text ++ s.text }

before_then : (text : List ℕ) (bad : Bool) (a b : Shown) → a.bad ≡ bad
    → before text (then_by bad a b) ≡ then_by bad (before text a) b
before_then text true a b is = refl
before_then text false a b is =
    ap (λ x. record { text = x; bad = b.bad; place = b.place }) (sym (append_assoc text a.text b.text))

abbrev then_shown : ServiceType → Bool → List Content → Shown → Shown
then_shown v refused ns a = then_by a.bad a (shown v a.place refused ns)

joined_by : (v : ServiceType) (refused : Bool) (ns : List Content) (place : ℕ) (o : Option Told)
    (a whole : Shown) → whole ≡ then_shown v refused ns a
    → shown_by place o whole ≡ then_shown v refused ns (shown_by place o a)
joined_by v refused ns place None a whole is = refl
joined_by v refused ns place (Some t) a whole is =
    ap (before (lines_of t)) is
    ∙ before_then (lines_of t) a.bad a (shown v a.place refused ns) refl

joined : (v : ServiceType) (place : ℕ) (refused : Bool) (ms ns : List Content)
    → shown v place refused (ms ++ ns) ≡ then_shown v refused ns (shown v place false ms)
joined v place refused [] ns = refl
joined v place refused (m ∷ ms) ns =
    let next = capped (place + length (spelling m)) in
    joined_by v refused ns place (told_in v m) (shown v next false ms)
    (shown v next refused (ms ++ ns)) (joined v next refused ms ns)

place_by : (place behind : ℕ) (o : Option Told) (a : Shown) → (a.bad ≡ false → a.place ≡ behind)
    → (shown_by place o a).bad ≡ false → (shown_by place o a).place ≡ behind
place_by place behind None a h good = absurd cc
place_by place behind (Some t) a h good = h good

place_is : (v : ServiceType) (place : ℕ) (ms : List Content) → (shown v place false ms).bad ≡ false
    → (shown v place false ms).place ≡ place_behind place ms
place_is v place [] good = refl
place_is v place (m ∷ ms) good =
    let next = capped (place + length (spelling m)) in
    place_by place (place_behind next ms) (told_in v m) (shown v next false ms)
    (place_is v next ms) good

refused_by : (place : ℕ) (o : Option Told) (a : Shown) → a.bad ≡ true
    → (shown_by place o a).bad ≡ true
refused_by place None a is = refl
refused_by place (Some t) a is = is

refused_is_bad : (v : ServiceType) (place : ℕ) (ms : List Content)
    → (shown v place true ms).bad ≡ true
refused_is_bad v place [] = refl
refused_is_bad v place (m ∷ ms) =
    let next = capped (place + length (spelling m)) in
    refused_by place (told_in v m) (shown v next true ms) (refused_is_bad v next ms)

-- a place behind messages counts as all their octets behind the place before them
behind_is : (place : ℕ) (ms : List Content)
    → SamePlace (place + length (spellings ms)) (place_behind place ms)
behind_is place [] = omega arith
behind_is place (m ∷ ms) =
    let a = length (spelling m) in
    let later = behind_is (capped (place + a)) ms in
    omega (arith, later, length-append (spelling m) (spellings ms))

-- ---- a stream that goes on

-- nothing of what was kept is a message, and it isn't refused
abbrev Settled : Kept → Type 0
Settled k = reading k.place k.rest ≡ at_end k.rest None

-- a stream of which a beginning was printed, and the text of what is left
abbrev Behind : ServiceType → Bool → Unread → Unread → Unread → Type 0
Behind v closed first later whole =
    (shown_of v first).bad ≡ false
    → stream_text v closed whole ≡ (shown_of v first).text ++ stream_text v closed later

abbrev from_reading : ℕ → Reading → Unread
from_reading place r = unread_by place r

joined_text : (v : ServiceType) (closed : Bool) (place : ℕ) (ms ns : List Content) (rest : List ℕ)
    (fault : Option TmlFault) → (shown v place false ms).bad ≡ false
    → stream_text v closed
    (record { place = place; messages = ms ++ ns; rest = rest; fault = fault })
    ≡ (shown v place false ms).text
    ++ stream_text v closed
    (record { place = place_behind place ms; messages = ns; rest = rest; fault = fault })
joined_text v closed place ms ns rest fault good =
    let a = shown v place false ms in
    let b = shown v (place_behind place ms) (is_some fault) ns in
    let is : shown v place (is_some fault) (ms ++ ns) ≡ record b { text = a.text ++ b.text } =
    joined v place (is_some fault) ms ns
    ∙ rw (good, place_is v place ms good) refl in
    ap (λ s. text_by closed s rest) is
    ∙ append_assoc a.text b.text (left_line (closed && not b.bad) b.place rest)

-- the lines of messages begin those of more messages
record Longer (a b : List ℕ) : Type 0 where
  pub more : List ℕ
  pub is : b ≡ a ++ more

same_longer : (a b : List ℕ) → b ≡ a → Longer a b
same_longer a b is = record { more = []; is = is ∙ sym (append-nil a) }

then_longer : (bad : Bool) (a b : Shown) → a.bad ≡ bad → Longer a.text (then_by bad a b).text
then_longer true a b is = same_longer a.text a.text refl
then_longer false a b is = record { more = b.text; is = refl }

more_messages : (v : ServiceType) (place : ℕ) (refused : Bool) (ms ns : List Content)
    → Longer (shown v place false ms).text (shown v place refused (ms ++ ns)).text
more_messages v place refused ms ns =
    let a = shown v place false ms in
    let more = then_longer a.bad a (shown v a.place refused ns) refl in
    record {
      more = more.more;
      is = ap (λ (s : Shown). s.text) (joined v place refused ms ns) ∙ more.is;
    }

abbrev EachIsRead : Type 0
EachIsRead =
    (place : ℕ) (octets : List ℕ) → AreOctets octets
    → IsRead place octets (reading place octets)

abbrev WorkedOut : Type 0
WorkedOut =
    (place : ℕ) (octets : List ℕ) (messages : List Content) (rest : List ℕ)
    (fault : Option TmlFault) → IsStream place octets messages rest fault
    → reading place octets ≡ record { messages = messages; rest = rest; fault = fault }

abbrev GoingOn : Type 0
GoingOn =
    (place : ℕ) (octets more : List ℕ) (messages : List Content) (rest : List ℕ)
    → IsStream place octets messages rest None
    → GoesOnFrom messages (reading (place + length (spellings messages)) (rest ++ more))
    (reading place (octets ++ more))

abbrev RefusedForGood : Type 0
RefusedForGood =
    (place : ℕ) (octets more : List ℕ) (messages : List Content) (rest : List ℕ)
    (fault : TmlFault) → IsStream place octets messages rest (Some fault)
    → IsStream place (octets ++ more) messages (rest ++ more) (Some fault)

module _ (each : EachIsRead) (out : WorkedOut) (on : GoingOn) (stay : RefusedForGood) where
  -- the lines of a longer stream begin as those of a shorter one
  longer_by : (v : ServiceType) (p : ℕ) (x y : List ℕ) (r : Reading) (fault : Option TmlFault)
      → IsStream p x r.messages r.rest fault
      → Longer (shown v p (is_some fault) r.messages).text (shown_of v (unread_of p (x ++ y))).text
  longer_by v p x y r (Some fault) s =
      let whole = out p (x ++ y) r.messages (r.rest ++ y) (Some fault)
      (stay p x y r.messages r.rest fault s) in
      same_longer (shown v p true r.messages).text (shown_of v (unread_of p (x ++ y))).text
      (ap (λ (w : Reading). (shown_of v (unread_by p w)).text) whole)
  longer_by v p x y r None s =
      let n = p + length (spellings r.messages) in
      let later = reading n (r.rest ++ y) in
      let whole = reading p (x ++ y) in
      let goes = on p x y r.messages r.rest s in
      let more = more_messages v p (is_some whole.fault) r.messages later.messages in
      record {
        more = more.more;
        is = ap (λ ms. (shown v p (is_some whole.fault) ms).text) goes.all ∙ more.is;
      }

  longer_text : (v : ServiceType) (p : ℕ) (x y : List ℕ) → AreOctets x
      → Longer (shown_of v (unread_of p x)).text (shown_of v (unread_of p (x ++ y))).text
  longer_text v p x y o =
      longer_by v p x y (reading p x) (reading p x).fault (each p x o)

  -- what is left of a stream that isn't refused is settled
  settled_by : (p : ℕ) (x : List ℕ) (ms : List Content) (rest : List ℕ) → IsStream p x ms rest None
      → Settled (record { rest = rest; place = place_behind p ms })
  settled_by p x ms rest s =
      let n = p + length (spellings ms) in
      let last : IsStream n rest [] rest None = record {
        whole = refl;
        each = tt;
        refused = rw add-zero s.refused;
        partial = s.partial;
      } in
      sym (same_reading n (place_behind p ms) rest (behind_is p ms)) ∙ out n rest [] rest None last

  -- and the text of what comes later is that of what is left with it
  text_by_parts : (v : ServiceType) (closed : Bool) (p : ℕ) (x y : List ℕ) (ms : List Content)
      (rest : List ℕ) → IsStream p x ms rest None → (shown v p false ms).bad ≡ false
      → stream_text v closed (unread_of p (x ++ y))
      ≡ (shown v p false ms).text
      ++ stream_text v closed (unread_of (place_behind p ms) (rest ++ y))
  text_by_parts v closed p x y ms rest s good =
      let n = p + length (spellings ms) in
      let later = reading (place_behind p ms) (rest ++ y) in
      let same = same_reading n (place_behind p ms) (rest ++ y) (behind_is p ms) in
      let goes = on p x y ms rest s in
      let all = goes.all ∙ ap (λ (r : Reading). ms ++ r.messages) same in
      let left = goes.rest ∙ ap (λ (r : Reading). r.rest) same in
      let fault = goes.fault ∙ ap (λ (r : Reading). r.fault) same in
      let whole : unread_of p (x ++ y) ≡ record {
        place = p;
        messages = ms ++ later.messages;
        rest = later.rest;
        fault = later.fault;
      } = rw (all, left, fault) refl in
      ap (stream_text v closed) whole
      ∙ joined_text v closed p ms later.messages later.rest later.fault good

  -- ---- a turn

  -- What a turn that heard this comes to, of a user that kept these octets before and has talked so
  -- behind it: it printed a beginning of the stream's lines, and what is left is printed later.
  record Heard (task : Task) (k : Kept) (h : Hearing) (later : List ℕ) (closed : Bool) (e : Talk)
      : Type 0 where
    pub text : List ℕ
    pub is : stream_text (service_of task.work) (is_show task.work && ends_before h closed)
        (unread_in k (came_before h later)) ≡ e.lines ++ text
    pub goes : is_over e.course ≡ false
        → (text ≡ stream_text (service_of task.work) (is_show task.work && closed)
        (unread_in (stream_in k h) later))
        × Settled (stream_in k h) × AreOctets ((stream_in k h).rest ++ later)

  refused_never : (v : ServiceType) (p : ℕ) (ms : List Content) (fault : Option TmlFault)
      → (shown v p (is_some fault) ms).bad ≡ false → fault ≡ None
  refused_never v p ms None good = refl
  refused_never v p ms (Some fault) good =
      let bad = refused_is_bad v p ms in absurd cc

  came_heard : (task : Task) (now : ℕ) (k : Kept) (octets later : List ℕ) (closed : Bool) (d : Talk)
      → d.lines ≡ [] → AreOctets (k.rest ++ (octets ++ later))
      → Heard task k (came octets) later closed (heard_in task now k (came octets) d)
  came_heard task now k octets later closed d none o =
      let v = service_of task.work in
      let x = k.rest ++ octets in
      let u = unread_in k octets in
      let all_octets : AreOctets (x ++ later) =
      subst AreOctets (sym (append_assoc k.rest octets later)) o in
      let own = octets_before x later all_octets in
      let e = heard_in task now k (came octets) d in
      let p = prints_in_order task now u.place (is_some u.fault) u.messages d in
      let lines : e.lines ≡ p.front = p.lines ∙ ap (λ (l : List ℕ). l ++ p.front) none in
      let longer = longer_text v k.place x later own in
      let whole : unread_in k (octets ++ later) ≡ unread_of k.place (x ++ later) =
      ap (unread_of k.place) (sym (append_assoc k.rest octets later)) in
      let ends = is_show task.work && closed in
      let s = shown_of v (unread_of k.place (x ++ later)) in
      let r = (unread_of k.place (x ++ later)).rest in
      let tail = left_line (ends && not s.bad) s.place r in
      let is : stream_text v ends (unread_in k (octets ++ later))
      ≡ e.lines ++ (p.rest ++ (longer.more ++ tail)) =
      ap (stream_text v ends) whole
      ∙ ap (λ (t : List ℕ). t ++ tail) (longer.is ∙ ap (λ (t : List ℕ). t ++ longer.more) p.whole)
      ∙ append_assoc (p.front ++ p.rest) longer.more tail
      ∙ append_assoc p.front p.rest (longer.more ++ tail)
      ∙ ap (λ (t : List ℕ). t ++ (p.rest ++ (longer.more ++ tail))) (sym lines) in
      record {
        text = p.rest ++ (longer.more ++ tail);
        is = is;
        goes = λ going.
            let good = p.good going in
            let fine = refused_never v u.place u.messages u.fault good in
            let stream = subst (λ f. IsStream k.place x u.messages u.rest f) fine
            (each k.place x own) in
            let clean : (shown v k.place false u.messages).bad ≡ false =
            subst (λ f. (shown v k.place (is_some f) u.messages).bad ≡ false) fine good in
            let parts = text_by_parts v ends k.place x later u.messages u.rest stream clean in
            let now_rest = p.all going in
            let first : (shown v k.place false u.messages).text ≡ e.lines =
            subst (λ f. (shown v k.place (is_some f) u.messages).text ≡ p.front ++ p.rest) fine
            p.whole
            ∙ ap (λ (l : List ℕ). p.front ++ l) now_rest ∙ append-nil p.front ∙ sym lines in
            let split = ap (stream_text v ends) whole ∙ parts
            ∙ ap (λ (l : List ℕ). l
            ++ stream_text v ends (unread_of (place_behind k.place u.messages) (u.rest ++ later)))
            first in (
              append_cancel_left e.lines (p.rest ++ (longer.more ++ tail))
                  (stream_text v ends
                  (unread_of (place_behind k.place u.messages) (u.rest ++ later)))
                  (sym is ∙ split),
              settled_by k.place x u.messages u.rest stream,
              octets_behind (spellings u.messages) (u.rest ++ later)
                  (subst AreOctets
                  (ap (λ (l : List ℕ). l ++ later) stream.whole
                  ∙ append_assoc (spellings u.messages) u.rest later) all_octets),
            );
      }

  nothing_heard : (task : Task) (now : ℕ) (k : Kept) (later : List ℕ) (closed : Bool) (d : Talk)
      → d.lines ≡ [] → Settled k → AreOctets (k.rest ++ later)
      → Heard task k nothing later closed (heard_in task now k nothing d)
  nothing_heard task now k later closed d none settled o =
      let text = stream_text (service_of task.work) (is_show task.work && closed)
      (unread_in k later) in
      record {
        text = text;
        is = ap (λ (l : List ℕ). l ++ text) (sym none);
        goes = λ going. (refl, settled, o);
      }

  -- the line of what is left at the stream's end
  closed_lines : (show : Bool) (place : ℕ) (rest : List ℕ) (d : Talk) → d.lines ≡ []
      → (closed_by show place rest d).lines ≡ left_line show place rest
  closed_lines false place [] d none = none
  closed_lines false place (octet ∷ rest) d none = none
  closed_lines true place [] d none = none
  closed_lines true place (octet ∷ rest) d none =
      ap (λ (l : List ℕ). l ++ bad_line place) none

  closed_over : (show : Bool) (place : ℕ) (rest : List ℕ) (d : Talk)
      → is_over (closed_by show place rest d).course ≡ true
  closed_over false place rest d = refl
  closed_over true place [] d = refl
  closed_over true place (octet ∷ rest) d = refl

  closed_text : (show : Bool) (place : ℕ) (rest : List ℕ)
      → left_line ((show && true) && true) place rest ≡ left_line show place rest
  closed_text true place rest = refl
  closed_text false place [] = refl
  closed_text false place (octet ∷ rest) = refl

  end_heard : (task : Task) (now : ℕ) (k : Kept) (later : List ℕ) (closed : Bool) (d : Talk)
      → d.lines ≡ [] → Settled k
      → Heard task k ended later closed (heard_in task now k ended d)
  end_heard task now k later closed d none settled =
      let v = service_of task.work in
      let show = is_show task.work in
      let e = closed_at task k.place k.rest d in
      let alone : reading k.place (k.rest ++ []) ≡ at_end k.rest None =
      ap (reading k.place) (append-nil k.rest) ∙ settled in
      record {
        text = [];
        is = ap (λ (r : Reading). stream_text v (show && true) (unread_by k.place r)) alone
            ∙ closed_text show k.place k.rest
            ∙ sym (closed_lines show k.place k.rest d none) ∙ sym (append-nil e.lines);
        goes = λ going. let over = closed_over show k.place k.rest d in absurd cc;
      }

  any_heard : (task : Task) (now : ℕ) (k : Kept) (h : Hearing) (later : List ℕ) (closed : Bool)
      (d : Talk) → d.lines ≡ [] → Settled k → AreOctets (k.rest ++ came_before h later)
      → Heard task k h later closed (heard_in task now k h d)
  any_heard task now k nothing later closed d none settled o =
      nothing_heard task now k later closed d none settled o
  any_heard task now k (came octets) later closed d none settled o =
      came_heard task now k octets later closed d none o
  any_heard task now k ended later closed d none settled o =
      end_heard task now k later closed d none settled

  -- ---- turns

  if_course : (d x y : Talk) (b : Bool) → x.course ≡ d.course → y.course ≡ d.course
      → (if b then x else y).course ≡ d.course
  if_course d x y true g h = g
  if_course d x y false g h = h

  beating_lines : (now : ℕ) (d : Talk) → (beating now d).lines ≡ d.lines
  unfolding beating
  beating_lines now d = if_lines d _ d (beats d now) refl refl

  beating_course : (now : ℕ) (d : Talk) → (beating now d).course ≡ d.course
  unfolding beating
  beating_course now d = if_course d _ d (beats d now) refl refl

  opened_lines : (task : Task) (now : ℕ) (d : Talk) → (opened task now d).lines ≡ d.lines
  unfolding opened
  opened_lines task now d =
      if_lines d (went_on task now d) d (d.course.said == 0) (went_lines task now d) refl

  asked_lines : (task : Task) (asked : Bool) (now : ℕ) (d : Talk)
      → (asked_to task asked now d).lines ≡ d.lines
  unfolding asked_to
  asked_lines task asked now d =
      let e = in_course (closes true d.course) d in
      if_lines d (went_on task now e) d (asked && receives task.work) (went_lines task now e) refl

  -- who is over prints nothing, and stays so
  over_prints : (s : Standing) (turns : List Turn) → is_over s.course ≡ true
      → (printed s turns ≡ []) × (after_turns s turns ≡ s)
  over_prints s [] is = (refl, refl)
  over_prints s (t ∷ turns) is =
      let same : after_turn s t ≡ s = rw is refl in
      let none : (answer_in s t).lines ≡ [] = rw is refl in
      let later = over_prints s turns is in (
        ap (λ (l : List ℕ). l ++ printed (after_turn s t) turns) none
            ∙ ap (λ (n : Standing). printed n turns) same ∙ later.0,
        ap (λ (n : Standing). after_turns n turns) same ∙ later.1,
      )

  never_left : (show : Bool) (place : ℕ) (rest : List ℕ)
      → left_line ((show && false) && true) place rest ≡ []
  never_left true place rest = refl
  never_left false place rest = refl

  -- What one turn comes to.
  record Turned (s : Standing) (t : Turn) (turns : List Turn) : Type 0 where
    pub text : List ℕ
    pub is : text_from s.task s.stream (t ∷ turns) ≡ (answer_in s t).lines ++ text
    pub goes : is_over (after_turn s t).course ≡ false
        → (text ≡ text_from (after_turn s t).task (after_turn s t).stream turns)
        × Settled (after_turn s t).stream
        × AreOctets ((after_turn s t).stream.rest ++ octets_in turns)

  one_turn : (s : Standing) (t : Turn) (turns : List Turn) → is_over s.course ≡ false
      → Settled s.stream → AreOctets (s.stream.rest ++ octets_in (t ∷ turns)) → Turned s t turns
  one_turn s t turns is settled octets =
      let b = begun t.waits t.now (talk_of s) in
      let o = opened s.task t.now b in
      let d = asked_to s.task t.asked t.now o in
      let e = heard_in s.task t.now s.stream t.hearing d in
      let h = any_heard s.task t.now s.stream t.hearing (octets_in turns) (ends_in turns) d
      (asked_lines s.task t.asked t.now o ∙ opened_lines s.task t.now b) settled octets in
      let after : after_turn s t
      ≡ standing_of s.task (beating t.now e) (stream_in s.stream t.hearing) = rw is refl in
      let lines : (answer_in s t).lines ≡ (beating t.now e).lines = rw is refl in
      record {
        text = h.text;
        is = h.is
            ∙ ap (λ (l : List ℕ). l ++ h.text) (sym (lines ∙ beating_lines t.now e));
        goes = λ going.
            subst
            (λ (n : Standing). (h.text ≡ text_from n.task n.stream turns) × Settled n.stream
            × AreOctets (n.stream.rest ++ octets_in turns))
            (sym after)
            (h.goes
            (sym (ap is_over (beating_course t.now e))
            ∙ sym (ap (λ (n : Standing). is_over n.course) after) ∙ going));
      }

  turns_by : (s : Standing) (t : Turn) (turns : List Turn) → (turned : Turned s t turns)
      → (over : Bool) → is_over (after_turn s t).course ≡ over
      → (over ≡ false → PrintsStream (after_turn s t) turns) → PrintsStream s (t ∷ turns)
  turns_by s t turns turned true is later =
      let n = after_turn s t in
      let first = (answer_in s t).lines in
      let o = over_prints n turns is in
      record {
        rest = turned.text;
        whole = turned.is
            ∙ ap (λ (l : List ℕ). l ++ turned.text)
            (sym (ap (λ (l : List ℕ). first ++ l) o.0 ∙ append-nil first));
        all = λ going.
            let over : is_over (after_turns n turns).course ≡ true =
            ap (λ (m : Standing). is_over m.course) o.1 ∙ is in
            absurd cc;
      }
  turns_by s t turns turned false is later =
      let n = after_turn s t in
      let first = (answer_in s t).lines in
      let p = later refl in
      record {
        rest = p.rest;
        whole = turned.is
            ∙ ap (λ (l : List ℕ). first ++ l) ((turned.goes is).0 ∙ p.whole)
            ∙ sym (append_assoc first (printed n turns) p.rest);
        all = p.all;
      }

  turns_print : (s : Standing) (turns : List Turn) → is_over s.course ≡ false → Settled s.stream
      → AreOctets (s.stream.rest ++ octets_in turns) → PrintsStream s turns
  turns_print s [] is settled o =
      let none : reading s.stream.place (s.stream.rest ++ []) ≡ at_end s.stream.rest None =
      ap (reading s.stream.place) (append-nil s.stream.rest) ∙ settled in
      record {
        rest = [];
        whole = ap
            (λ (r : Reading). stream_text (service_of s.task.work) (is_show s.task.work && false)
            (unread_by s.stream.place r)) none
            ∙ never_left (is_show s.task.work) s.stream.place s.stream.rest;
        all = λ going. refl;
      }
  turns_print s (t ∷ turns) is settled o =
      let turned = one_turn s t turns is settled o in
      turns_by s t turns turned (is_over (after_turn s t).course) refl
      (λ going.
      let g = turned.goes going in turns_print (after_turn s t) turns going g.1 g.2)

  nothing_read : (place : ℕ) → reading place [] ≡ at_end [] None
  unfolding reading_within
  nothing_read place = refl

  pub lines_in_order : LinesInOrder
  lines_in_order task turns o = turns_print (new_user task) turns refl (nothing_read 0) o
