-- What the polls of a talk gave is what its user has heard.
use Rattle.std.proofs.Common.{◌≡◌, ℕ, ◌+◌, Bool, true, false, is_some}
use Rattle.std.proofs.Common.{Option, Some, None, List, [], ◌∷◌, ◌++◌, length, map, refl, ap, sym, subst}
use Rattle.std.proofs.Common.{◌∙◌, append_assoc, append-nil, length-append, arith}
use Rattle.std.proofs.lemmas.Bool.{and_parts}
use Rattle.std.proofs.lemmas.Grind.{flat_map-append}
use Rattle.std.proofs.lemmas.List.Elements.{filter_map-append}
use Rattle.std.specs.List.{filter_map, flat_map, list_all}
use Rattle.link_model.specs.declared.call.Call.{Call}
use Rattle.link_model.specs.declared.call.Heard.{Heard}
use Rattle.link_model.specs.declared.call.Heard.TheVariants as heard
use Rattle.link_model.specs.Calls.{octets_heard, octets_handed, blocks_in, block_in, polls_in, poll_in}
use Rattle.link_model.specs.Calls.{arrived_at}
use Rattle.octet_core.specs.Told.{Tells}
use Rattle.user_core.specs.declared.status.Status.{Status}
use Rattle.user_core.specs.Course.{is_over}
use Rattle.user_core.specs.Dialogue.{Talk, closed_by, beats, beating, begun, opened, asked_to}
use Rattle.user_core.specs.Hearing.{ended}
use Rattle.user_core.specs.Laws.{Turn, after_turn, after_turns, octets_in, came_before, printed}
use Rattle.user_core.specs.Laws.{answer_in}
use Rattle.user_core.specs.Turn.{Standing, talk_of}
use Rattle.user_talk.specs.Rounds.{TalkState, Round, turn_at, answer_at, hearing_in, poll_calls, turn_of}
use Rattle.user_talk.specs.Rounds.{after_round, after_rounds, turns_of, calls_in, lines_in, readings_in}
use Rattle.user_talk.specs.Running.{Tail, whole, unheard, broken, tail_calls, tail_count, tail_lines}
use Rattle.user_talk.specs.Running.{tail_polled, is_polled, PollsBehindFirst, GoesThrough, but_last}
use Rattle.user_talk.specs.Running.{before_polls, tail_readings}
use Rattle.user_talk.specs.declared.reading.Reading.{Reading}
use Rattle.user_talk.proofs.Handed.{polls_once, its_turns}

-- the turn that was broken off, where there is one
abbrev pub broken_turns : TalkState → Tail → List Turn
broken_turns s whole = []
broken_turns s unheard = []
broken_turns s (broken h read) = turn_at s read (hearing_in h) ∷ []

abbrev pub all_turns : TalkState → List Round → Tail → List Turn
all_turns s rounds tail = turns_of s rounds ++ broken_turns (after_rounds s rounds) tail

abbrev pub all_calls : TalkState → List Round → Tail → List Call
all_calls s rounds tail = calls_in s rounds ++ tail_calls tail

abbrev pub heards : List Round → List Heard
heards rounds = filter_map (λ (r : Round). r.heard) rounds

abbrev as_list : Option Heard → List Heard
as_list None = []
as_list (Some h) = h ∷ []

heards_first : (r : Round) (rounds : List Round)
    → heards (r ∷ rounds) ≡ as_list r.heard ++ heards rounds
heards_first r rounds = by_heard r.heard
  where
    by_heard : (h : Option Heard)
        → heards (record r { heard = h } ∷ rounds) ≡ as_list h ++ heards rounds
    by_heard None = refl
    by_heard (Some h) = refl

-- ---- how often was polled

pub polls_are : (s : TalkState) (rounds : List Round) (tail : Tail)
    → polls_in (all_calls s rounds tail) ≡ heards rounds ++ polls_in (tail_calls tail)
polls_are s rounds tail =
    filter_map-append poll_in (calls_in s rounds) (tail_calls tail)
    ∙ ap (λ l. l ++ polls_in (tail_calls tail)) (polls_once s rounds)

one_heard : (h : Option Heard) → is_some h ≡ true → length (as_list h) ≡ 1
one_heard None is = absurd cc
one_heard (Some h) is = refl

heards_counted : (rounds : List Round) → list_all is_polled rounds ≡ true
    → length (heards rounds) ≡ length rounds
heards_counted [] all = refl
heards_counted (r ∷ rounds) all =
    let parts = and_parts (is_polled r) (list_all is_polled rounds) all in
    omega (
      arith,
      ap length (heards_first r rounds),
      length-append (as_list r.heard) (heards rounds),
      one_heard r.heard parts.0,
      heards_counted rounds parts.1,
    )

tail_counted : (tail : Tail) → tail_polled tail ≡ true
    → length (polls_in (tail_calls tail)) ≡ tail_count tail
tail_counted whole polled = refl
tail_counted unheard polled = refl
tail_counted (broken None read) polled = absurd cc
tail_counted (broken (Some h) read) polled = refl

none_counted : (tail : Tail) → tail_polled tail ≡ false
    → length (polls_in (tail_calls tail)) + 1 ≡ tail_count tail
none_counted whole polled = absurd cc
none_counted unheard polled = absurd cc
none_counted (broken None read) polled = refl
none_counted (broken (Some h) read) polled = absurd cc

none_first : (r : Round) (rounds : List Round) → r.heard ≡ None
    → length (heards (r ∷ rounds)) ≡ length (heards rounds)
none_first r rounds is =
    ap length (heards_first r rounds)
    ∙ ap (λ h. length (as_list h ++ heards rounds)) is

-- the first turn polls nothing, and each other one polls once
pub polls_counted : (s : TalkState) (rounds : List Round) (tail : Tail)
    → PollsBehindFirst rounds tail
    → length (polls_in (all_calls s rounds tail)) + 1 ≡ length rounds + tail_count tail
polls_counted s [] tail polls =
    omega (arith, ap length (polls_are s [] tail), none_counted tail polls)
polls_counted s (r ∷ rounds) tail polls =
    omega (
      arith,
      ap length (polls_are s (r ∷ rounds) tail),
      length-append (heards (r ∷ rounds)) (polls_in (tail_calls tail)),
      none_first r rounds polls.0,
      heards_counted rounds polls.1.0,
      tail_counted tail polls.1.1,
    )

-- ---- behind the end of the stream the user doesn't go on

beating_status : (now : ℕ) (d : Talk) → (beating now d).course.status ≡ d.course.status
unfolding beating
beating_status now d = by (beats d now) refl
  where
    by : (b : Bool) → beats d now ≡ b → (beating now d).course.status ≡ d.course.status
    by true is = rw is refl
    by false is = rw is refl

closed_ends : (show : Bool) (place : ℕ) (rest : List ℕ) (d : Talk)
    → (closed_by show place rest d).course.status ≡ None → ⊥
closed_ends true place [] d is = cc
closed_ends true place (octet ∷ rest) d is = cc
closed_ends false place rest d is = cc

over_is_some : (o : Option Status) → is_some o ≡ true → o ≡ None → ⊥
over_is_some None over is = cc
over_is_some (Some status) over is = cc

ended_ends : (s : Standing) (t : Turn) → t.hearing ≡ ended
    → (after_turn s t).course.status ≡ None → ⊥
ended_ends s t is goes = by (is_over s.course) refl
  where
    at_end : Turn
    at_end = record t { hearing = ended }

    goes_on : (after_turn s at_end).course.status ≡ None
    goes_on = subst (λ h. (after_turn s (record t { hearing = h })).course.status ≡ None) is goes

    by : (over : Bool) → is_over s.course ≡ over → ⊥
    by true over = over_is_some s.course.status over (rw over at goes_on)
    by false over =
        let d = asked_to s.task t.asked t.now
        (opened s.task t.now (begun t.waits t.now (talk_of s))) in
        closed_ends _ s.stream.place s.stream.rest d
        (sym (beating_status t.now _) ∙ (rw over at goes_on))

-- ---- the octets that came

came_once : (h : Option Heard) (later : List ℕ) → (hearing_in h ≡ ended → ⊥)
    → came_before (hearing_in h) later ≡ flat_map arrived_at (as_list h) ++ later
came_once None later goes = refl
came_once (Some (heard.Arrived octets)) later goes = ap (λ l. l ++ later) (sym (append-nil octets))
came_once (Some heard.Nothing) later goes = refl
came_once (Some heard.Closed) later goes = absurd (goes refl)
came_once (Some heard.Failed) later goes = refl

came_last : (h : Option Heard)
    → came_before (hearing_in h) [] ≡ flat_map arrived_at (as_list h)
came_last None = refl
came_last (Some (heard.Arrived octets)) = refl
came_last (Some heard.Nothing) = refl
came_last (Some heard.Closed) = refl
came_last (Some heard.Failed) = refl

arrived_first : (r : Round) (rounds : List Round)
    → flat_map arrived_at (heards (r ∷ rounds))
    ≡ flat_map arrived_at (as_list r.heard) ++ flat_map arrived_at (heards rounds)
arrived_first r rounds =
    ap (flat_map arrived_at) (heards_first r rounds)
    ∙ flat_map-append arrived_at (as_list r.heard) (heards rounds)

came_through : (s : TalkState) (rounds : List Round) (more : List Turn) → GoesThrough s rounds
    → octets_in (turns_of s rounds ++ more)
    ≡ flat_map arrived_at (heards rounds) ++ octets_in more
came_through s [] more goes = refl
came_through s (r ∷ rounds) more goes =
    let later = octets_in (turns_of (after_round s r) rounds ++ more) in
    came_once r.heard later (λ is. ended_ends s.user (turn_of s r) is goes.0)
    ∙ (ap (λ l. flat_map arrived_at (as_list r.heard) ++ l)
    (came_through (after_round s r) rounds more goes.1.1)
    ∙ (sym (append_assoc (flat_map arrived_at (as_list r.heard))
    (flat_map arrived_at (heards rounds)) (octets_in more))
    ∙ ap (λ l. l ++ octets_in more) (sym (arrived_first r rounds))))

came_whole : (s : TalkState) (rounds : List Round) → GoesThrough s (but_last rounds)
    → octets_in (turns_of s rounds) ≡ flat_map arrived_at (heards rounds)
came_whole s [] goes = refl
came_whole s (r ∷ []) goes =
    came_last r.heard
    ∙ (sym (append-nil (flat_map arrived_at (as_list r.heard))) ∙ sym (arrived_first r []))
came_whole s (r ∷ q ∷ rounds) goes =
    let later = octets_in (turns_of (after_round s r) (q ∷ rounds)) in
    came_once r.heard later (λ is. ended_ends s.user (turn_of s r) is goes.0)
    ∙ (ap (λ l. flat_map arrived_at (as_list r.heard) ++ l)
    (came_whole (after_round s r) (q ∷ rounds) goes.1.1)
    ∙ sym (arrived_first r (q ∷ rounds)))

heard_are : (s : TalkState) (rounds : List Round) (tail : Tail)
    → octets_heard (all_calls s rounds tail)
    ≡ flat_map arrived_at (heards rounds) ++ octets_heard (tail_calls tail)
heard_are s rounds tail =
    ap (flat_map arrived_at) (polls_are s rounds tail)
    ∙ flat_map-append arrived_at (heards rounds) (polls_in (tail_calls tail))

tail_heard : (h : Option Heard)
    → octets_heard (poll_calls h) ≡ flat_map arrived_at (as_list h)
tail_heard None = refl
tail_heard (Some h) = refl

pub came_all : (s : TalkState) (rounds : List Round) (tail : Tail)
    → GoesThrough s (before_polls rounds tail)
    → octets_in (all_turns s rounds tail) ≡ octets_heard (all_calls s rounds tail)
came_all s rounds whole goes =
    ap octets_in (append-nil (turns_of s rounds))
    ∙ (came_whole s rounds goes
    ∙ (sym (append-nil (flat_map arrived_at (heards rounds))) ∙ sym (heard_are s rounds whole)))
came_all s rounds unheard goes =
    came_through s rounds [] goes ∙ sym (heard_are s rounds unheard)
came_all s rounds (broken h read) goes =
    let t = after_rounds s rounds in
    came_through s rounds (turn_at t read (hearing_in h) ∷ []) goes
    ∙ (ap (λ l. flat_map arrived_at (heards rounds) ++ l) (came_last h ∙ sym (tail_heard h))
    ∙ sym (heard_are s rounds (broken h read)))

-- ---- what was handed over

tail_hands : (tail : Tail) → octets_handed (tail_calls tail) ≡ []
tail_hands whole = refl
tail_hands unheard = refl
tail_hands (broken None read) = refl
tail_hands (broken (Some h) read) = refl

pub handed_are : (s : TalkState) (rounds : List Round) (tail : Tail)
    → octets_handed (all_calls s rounds tail) ≡ octets_handed (calls_in s rounds)
handed_are s rounds tail =
    ap (flat_map (λ (block : List ℕ). block))
    (filter_map-append block_in (calls_in s rounds) (tail_calls tail))
    ∙ (flat_map-append (λ (block : List ℕ). block) (blocks_in (calls_in s rounds))
    (blocks_in (tail_calls tail))
    ∙ (ap (λ l. octets_handed (calls_in s rounds) ++ l) (tail_hands tail)
    ∙ append-nil (octets_handed (calls_in s rounds))))

-- ---- what is printed

pub printed_both : (s : Standing) (a b : List Turn)
    → printed s (a ++ b) ≡ printed s a ++ printed (after_turns s a) b
printed_both s [] b = refl
printed_both s (t ∷ a) b =
    ap (λ l. (answer_in s t).lines ++ l) (printed_both (after_turn s t) a b)
    ∙ sym (append_assoc (answer_in s t).lines (printed (after_turn s t) a)
    (printed (after_turns (after_turn s t) a) b))

broken_prints : (s : TalkState) (tail : Tail)
    → printed s.user (broken_turns s tail) ≡ tail_lines s tail
broken_prints s whole = refl
broken_prints s unheard = refl
broken_prints s (broken h read) = append-nil (answer_at s read (hearing_in h)).lines

pub printed_all : (s : TalkState) (rounds : List Round) (tail : Tail)
    → printed s.user (all_turns s rounds tail)
    ≡ lines_in s rounds ++ tail_lines (after_rounds s rounds) tail
printed_all s rounds tail =
    let t = after_rounds s rounds in
    let its = its_turns s rounds in
    printed_both s.user (turns_of s rounds) (broken_turns t tail)
    ∙ (ap (λ l. l ++ printed (after_turns s.user (turns_of s rounds)) (broken_turns t tail))
    (sym its.printed)
    ∙ (ap (λ u. lines_in s rounds ++ printed u (broken_turns t tail)) (sym its.user)
    ∙ ap (λ l. lines_in s rounds ++ l) (broken_prints t tail)))

-- ---- what is asked

abbrev asked_in : List Turn → List Bool
asked_in turns = map (λ (t : Turn). t.asked) turns

abbrev asked_of : List Reading → List Bool
asked_of readings = map (λ (r : Reading). r.asked) readings

asked_last : (s : TalkState) (tail : Tail)
    → asked_in (broken_turns s tail) ≡ asked_of (tail_readings tail)
asked_last s whole = refl
asked_last s unheard = refl
asked_last s (broken h read) = refl

asked_first : (s : TalkState) (rounds : List Round) (more : List Turn) (rest : List Reading)
    → asked_in more ≡ asked_of rest
    → asked_in (turns_of s rounds ++ more) ≡ asked_of (readings_in rounds ++ rest)
asked_first s [] more rest is = is
asked_first s (r ∷ rounds) more rest is =
    ap (λ l. r.read.asked ∷ l) (asked_first (after_round s r) rounds more rest is)

-- each turn asks once
pub asked_all : (a b : Option (List Bool)) (s : TalkState) (rounds : List Round) (tail : Tail)
    → Tells a b (map (λ (r : Reading). r.asked) (readings_in rounds ++ tail_readings tail))
    → Tells a b (map (λ (t : Turn). t.asked) (all_turns s rounds tail))
asked_all a b s rounds tail told =
    let t = after_rounds s rounds in
    subst (λ l. Tells a b l)
    (sym
    (asked_first s rounds (broken_turns t tail) (tail_readings tail) (asked_last t tail)))
    told
