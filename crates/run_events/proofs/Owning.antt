-- The own events of a run's workers, and whose the history's are.
use mathlib.Core.List.{map-append}
use Rattle.std.proofs.Common.{◌≡◌, ◌==◌, ℕ, suc, ◌+◌, ◌≤◌, ◌<◌, Bool, true, false, ◌||◌, cond, List}
use Rattle.std.proofs.Common.{[], ◌∷◌, ◌++◌, Option, Some, All, map, filter, length, refl, ap}
use Rattle.std.proofs.Common.{◌∙◌, append-nil, arith, eq-eqb}
use Rattle.std.proofs.lemmas.Bool.Decides.{nat_tests}
use Rattle.std.proofs.lemmas.List.Elements.{filter-append}
use Rattle.std.proofs.lemmas.List.Folds.{list_any-append}
use Rattle.std.specs.List.{list_any, AllByRecursion, sum_by}
use Rattle.cds_time.specs.declared.cds.Cds.{Cds}
use Rattle.link_model.specs.declared.call.Call.{Call as LinkCall}
use Rattle.door_model.specs.Shown.{Shown}
use Rattle.turn_lock.specs.PassState.{Lock}
use Rattle.turn_lock.specs.Own.{MakeUp, weight_of}
use Rattle.turn_lock.specs.declared.view.Mark.{Mark}
use Rattle.station_config.specs.declared.site.Site.{Site}
use Rattle.station_book.specs.State.{Opening, Event, Call, publish, answer, quit, take, done}
use Rattle.station_book.specs.State.{interrupted, uplink, gone}
use Rattle.station_seats.specs.Seats.{owns_of}
use Rattle.station_seats.specs.declared.seat.DoorSeat.{DoorSeat}
use Rattle.recorder.specs.declared.recorded.Recorded.{Recorded}
use Rattle.recorder_turns.specs.Steps.{publishings}
use Rattle.antenna_turns.specs.Steps.{Step, looked, radiated, broke_off, IsStep, marks_of, marks_in}
use Rattle.door_turns.specs.Doors.{EachWorks}
use Rattle.station_world.specs.Life.{is_take}
use Rattle.run_laws.proofs.Among.{events, Without, only_there}
use Rattle.run_laws.proofs.Calls.{owner, AreOf, or_none}
use Rattle.run_laws.proofs.Sessions.{sessions_of}
use Rattle.run_laws.proofs.Doors.{IsDoor, AreDoors}
use Rattle.run_events.specs.Turns.{is_recorders, take_in}
use Rattle.run_events.proofs.Walking.{calls_in, or_parts}

-- ---- kinds of events

abbrev pub of_recorder : ℕ → Event → Bool
of_recorder number e = is_recorders number e.call

abbrev pub of_antenna : Event → Bool
of_antenna e = is_take e.call

same_number : (n : ℕ) → (n == n) ≡ true
same_number n = eq-eqb n n refl

below : (n number : ℕ) → n < number → (n == number) ≡ false
below n number less = grind (arith, nat_tests)

above : (number : ℕ) → (number + 1 == number) ≡ false
above number = grind (arith, nat_tests)

none_both : (p : Event → Bool) (xs ys : List Event) → list_any p xs ≡ false
    → list_any p ys ≡ false → list_any p (xs ++ ys) ≡ false
none_both p xs ys first second =
    list_any-append p xs ys ∙ or_none (list_any p xs) (list_any p ys) first second

one_none : (p : Event → Bool) (e : Event) → p e ≡ false → list_any p (e ∷ []) ≡ false
one_none p e is = or_none (p e) false is refl

-- ---- doors

-- what a door calls is neither the recorder's nor a take
pub neither : (number : ℕ) (c : Call) (door : ℕ) → owner c ≡ Some door
    → (is_recorders number c || is_take c) ≡ false
neither number (answer other reading ask want) door is = refl
neither number (quit other) door is = refl
neither number (publish entries) door is = absurd (cc is)
neither number (take reading) door is = absurd (cc is)
neither number (done run id reading) door is = refl
neither number (interrupted run id reading) door is = refl
neither number (uplink production status reading) door is = refl
neither number (gone worker) door is = absurd (cc is)

no_recorder : (c : Call) (door number : ℕ) → owner c ≡ Some door → is_recorders number c ≡ false
no_recorder c door number is =
    (or_parts (is_recorders number c) (is_take c) (neither number c door is)).0

no_take : (c : Call) (door : ℕ) → owner c ≡ Some door → is_take c ≡ false
no_take c door is = (or_parts (is_recorders 0 c) (is_take c) (neither 0 c door is)).1

none_owned : (p : Event → Bool) (door : ℕ)
    → ((e : Event) → owner e.call ≡ Some door → p e ≡ false) → (es : List Event)
    → AreOf door es → list_any p es ≡ false
none_owned p door not_so [] are = refl
none_owned p door not_so (e ∷ es) are =
    or_none (p e) _ (not_so e are.0) (none_owned p door not_so es are.1)

door_none : (p : Event → Bool) (site : Site) (door : ℕ) (es : List Event)
    → ((e : Event) → owner e.call ≡ Some door → p e ≡ false)
    → ((e : Event) → e.call ≡ gone door → p e ≡ false) → IsDoor site door es
    → list_any p es ≡ false
door_none p site door es not_so nor_gone d =
    ap (list_any p) d.own
    ∙ none_both p d.asked (d.last ∷ [])
    (none_owned p door not_so d.asked (sessions_of site door d.asked d.sessions))
    (one_none p d.last (nor_gone d.last d.is_gone))

pub doors_no_recorder : (site : Site) (number n : ℕ) (lists : List (List (Mark Event)))
    → n + length lists ≤ number → AreDoors site n lists → Without (of_recorder number) lists
doors_no_recorder site number n [] few are = tt
doors_no_recorder site number n (ms ∷ lists) few are = (
  door_none (of_recorder number) site n (events ms)
      (λ e is. no_recorder e.call n number is)
      (λ e is. ap (is_recorders number) is ∙ below n number (omega (arith, few))) are.0,
  doors_no_recorder site number (n + 1) lists (omega (arith, few)) are.1,
)

pub doors_no_take : (site : Site) (n : ℕ) (lists : List (List (Mark Event)))
    → AreDoors site n lists → Without of_antenna lists
doors_no_take site n [] are = tt
doors_no_take site n (ms ∷ lists) are = (
  door_none of_antenna site n (events ms) (λ e is. no_take e.call n is) (λ e is. ap is_take is)
      are.0,
  doors_no_take site (n + 1) lists are.1,
)

module _ {G L C : Type 0} (shown : G → Option Shown) (faults : G → ℕ)
    (calls : L → Option (List LinkCall)) (link_faults : L → ℕ) (readings : C → Option (List Cds))
    (lock : Lock Opening) (site : Site) (draw links : ℕ) where
  abbrev Each : ℕ → List DoorSeat → List DoorSeat → List G → List G → List C → List C → Type 0
  Each n ss ss' gs gs' cs cs' =
      EachWorks shown faults calls link_faults readings lock site draw links n ss ss' gs gs' cs cs'

  pub as_many : (n : ℕ) (ss ss' : List DoorSeat) (gs gs' : List G) (cs cs' : List C)
      → Each n ss ss' gs gs' cs cs' → length (owns_of ss') ≡ length gs
  as_many n [] [] [] [] [] [] a = refl
  as_many n [] [] [] [] [] (c' ∷ cs') a = absurd a
  as_many n [] [] [] [] (c ∷ cs) _ a = absurd a
  as_many n [] [] [] (g' ∷ gs') _ _ a = absurd a
  as_many n [] [] (g ∷ gs) _ _ _ a = absurd a
  as_many n [] (s' ∷ ss') _ _ _ _ a = absurd a
  as_many n (s ∷ ss) [] _ _ _ _ a = absurd a
  as_many n (s ∷ ss) (s' ∷ ss') [] _ _ _ a = absurd a
  as_many n (s ∷ ss) (s' ∷ ss') (g ∷ gs) [] _ _ a = absurd a
  as_many n (s ∷ ss) (s' ∷ ss') (g ∷ gs) (g' ∷ gs') [] _ a = absurd a
  as_many n (s ∷ ss) (s' ∷ ss') (g ∷ gs) (g' ∷ gs') (c ∷ cs) [] a = absurd a
  as_many n (s ∷ ss) (s' ∷ ss') (g ∷ gs) (g' ∷ gs') (c ∷ cs) (c' ∷ cs') a =
      let rest = as_many (n + 1) ss ss' gs gs' cs cs' a.1 in omega (arith, rest)

-- ---- the recorder

published_none : (es : List Event) (steps : List Recorded) → calls_in es ≡ publishings steps
    → list_any of_antenna es ≡ false
published_none [] steps is = refl
published_none (e ∷ es) [] is = absurd (cc is)
published_none (e ∷ es) (s ∷ steps) is =
    let call : e.call ≡ publish s.entries = cc is in
    or_none (is_take e.call) _ (ap is_take call) (published_none es steps (cc is))

all_published : (number : ℕ) (es : List Event) (steps : List Recorded)
    → calls_in es ≡ publishings steps → filter (of_recorder number) es ≡ es
all_published number [] steps is = refl
all_published number (e ∷ es) [] is = absurd (cc is)
all_published number (e ∷ es) (s ∷ steps) is =
    let call : e.call ≡ publish s.entries = cc is in
    let rest = filter (of_recorder number) es in
    ap (λ (b : Bool). cond b (e ∷ rest) rest) (ap (is_recorders number) call)
    ∙ ap (λ (xs : List Event). e ∷ xs) (all_published number es steps (cc is))

-- The recorder's own events: it published what these steps stored, and said that it is gone.
pub record IsRecorders (number : ℕ) (steps : List Recorded) (es : List Event) : Type 0 where
  pub published : List Event
  pub last : Event
  pub own : es ≡ published ++ last ∷ []
  pub calls_are : calls_in published ≡ publishings steps
  pub is_gone : last.call ≡ gone number

module _ (number : ℕ) (steps : List Recorded) (es : List Event)
    (r : IsRecorders number steps es) where
  pub recorder_calls : calls_in (filter (of_recorder number) es)
      ≡ publishings steps ++ gone number ∷ []
  recorder_calls =
      let p = of_recorder number in
      let last : filter p (r.last ∷ []) ≡ r.last ∷ [] =
      ap (λ (b : Bool). cond b (r.last ∷ []) [])
      (ap (is_recorders number) r.is_gone ∙ same_number number) in
      ap (λ (xs : List Event). calls_in (filter p xs)) r.own
      ∙ (ap calls_in (filter-append p r.published (r.last ∷ [])
      ∙ (ap (λ (xs : List Event). xs ++ filter p (r.last ∷ []))
      (all_published number r.published steps r.calls_are)
      ∙ ap (λ (xs : List Event). r.published ++ xs) last))
      ∙ (map-append (λ (e : Event). e.call) r.published (r.last ∷ [])
      ∙ (ap (λ (cs : List Call). cs ++ r.last.call ∷ []) r.calls_are
      ∙ ap (λ (c : Call). publishings steps ++ c ∷ []) r.is_gone)))

  pub recorder_no_take : list_any of_antenna es ≡ false
  recorder_no_take =
      ap (list_any of_antenna) r.own
      ∙ none_both of_antenna r.published (r.last ∷ [])
      (published_none r.published steps r.calls_are)
      (one_none of_antenna r.last (ap is_take r.is_gone))

-- ---- the antenna's worker

step_takes : (s : Step) → IsStep s → filter of_antenna (events (marks_of s)) ≡ take_in s ∷ []
step_takes (looked m) is =
    ap (λ (c : Call). cond (is_take c) (m.event ∷ []) []) is.2.call
step_takes (radiated m octets n) is =
    ap (λ (c : Call). cond (is_take m.event.call)
    (m.event ∷ cond (is_take c) (n.event ∷ []) []) (cond (is_take c) (n.event ∷ []) [])) is.3.call
    ∙ ap (λ (c : Call). cond (is_take c) (m.event ∷ []) []) is.2.call
step_takes (broke_off m octets n) is =
    ap (λ (c : Call). cond (is_take m.event.call)
    (m.event ∷ cond (is_take c) (n.event ∷ []) []) (cond (is_take c) (n.event ∷ []) [])) is.3.call
    ∙ ap (λ (c : Call). cond (is_take c) (m.event ∷ []) []) is.2.call

step_no_recorder : (number : ℕ) (s : Step) → IsStep s
    → list_any (of_recorder number) (events (marks_of s)) ≡ false
step_no_recorder number (looked m) is =
    one_none (of_recorder number) m.event (ap (is_recorders number) is.2.call)
step_no_recorder number (radiated m octets n) is =
    or_none (of_recorder number m.event) _ (ap (is_recorders number) is.2.call)
    (one_none (of_recorder number) n.event (ap (is_recorders number) is.3.call))
step_no_recorder number (broke_off m octets n) is =
    or_none (of_recorder number m.event) _ (ap (is_recorders number) is.2.call)
    (one_none (of_recorder number) n.event (ap (is_recorders number) is.3.call))

pub each_right : (steps : List Step) → All IsStep steps → AllByRecursion IsStep steps
each_right [] right = tt
each_right (s ∷ steps) right = (
  right 0 s (omega arith),
  each_right steps (λ k d lt. right (suc k) d (omega (arith, lt))),
)

split_steps : (s : Step) (steps : List Step)
    → events (marks_in (s ∷ steps)) ≡ events (marks_of s) ++ events (marks_in steps)
split_steps s steps =
    map-append (λ (m : Mark Event). m.event) (marks_of s) (marks_in steps)

steps_take : (steps : List Step) → AllByRecursion IsStep steps
    → filter of_antenna (events (marks_in steps)) ≡ map take_in steps
steps_take [] right = refl
steps_take (s ∷ steps) right =
    ap (filter of_antenna) (split_steps s steps)
    ∙ (filter-append of_antenna (events (marks_of s)) (events (marks_in steps))
    ∙ (ap (λ (xs : List Event). xs ++ filter of_antenna (events (marks_in steps)))
    (step_takes s right.0)
    ∙ ap (λ (xs : List Event). take_in s ∷ xs) (steps_take steps right.1)))

steps_no_recorder : (number : ℕ) (steps : List Step) → AllByRecursion IsStep steps
    → list_any (of_recorder number) (events (marks_in steps)) ≡ false
steps_no_recorder number [] right = refl
steps_no_recorder number (s ∷ steps) right =
    ap (list_any (of_recorder number)) (split_steps s steps)
    ∙ none_both (of_recorder number) (events (marks_of s)) (events (marks_in steps))
    (step_no_recorder number s right.0) (steps_no_recorder number steps right.1)

-- Its own events: those of these steps, and that it is gone.
pub record IsAntennas (number : ℕ) (steps : List Step) (es : List Event) : Type 0 where
  pub last : Event
  pub own : es ≡ events (marks_in steps) ++ last ∷ []
  pub right : AllByRecursion IsStep steps
  pub is_gone : last.call ≡ gone number

module _ (number : ℕ) (steps : List Step) (es : List Event)
    (a : IsAntennas (number + 1) steps es) where
  pub antenna_takes : filter of_antenna es ≡ map take_in steps
  antenna_takes =
      let here : List Event = events (marks_in steps) in
      let last : filter of_antenna (a.last ∷ []) ≡ [] =
      ap (λ (c : Call). cond (is_take c) (a.last ∷ []) []) a.is_gone in
      ap (filter of_antenna) a.own
      ∙ (filter-append of_antenna here (a.last ∷ [])
      ∙ (ap (λ (xs : List Event). filter of_antenna here ++ xs) last
      ∙ (append-nil (filter of_antenna here) ∙ steps_take steps a.right)))

  pub antenna_no_recorder : list_any (of_recorder number) es ≡ false
  antenna_no_recorder =
      ap (list_any (of_recorder number)) a.own
      ∙ none_both (of_recorder number) (events (marks_in steps)) (a.last ∷ [])
      (steps_no_recorder number steps a.right)
      (one_none (of_recorder number) a.last (ap (is_recorders number) a.is_gone ∙ above number))

-- ---- the history

-- The recorder's calls in a history, and the takes, by what these workers did.
pub record AreTheirs (number : ℕ) (h : List Event) (recorded : List Recorded) (steps : List Step)
    : Type 0 where
  pub of_recorder : calls_in (filter (λ e. is_recorders number e.call) h)
      ≡ publishings recorded ++ gone number ∷ []
  pub of_antenna : filter (λ e. is_take e.call) h ≡ map take_in steps

module _ (site : Site) (number : ℕ) (h : List Event) (recorders antennas : List (Mark Event))
    (owns : List (List (Mark Event)))
    (weighs : (f : Event → ℕ) (h : List Event) (lists : List (List (Mark Event)))
    → MakeUp h lists → weight_of f lists ≡ sum_by f h)
    (made : MakeUp h ([] ∷ recorders ∷ antennas ∷ [] ∷ owns)) (recorded : List Recorded)
    (steps : List Step) (r : IsRecorders number recorded (events recorders))
    (a : IsAntennas (number + 1) steps (events antennas)) (are : AreDoors site 0 owns)
    (few : length owns ≤ number) where
  pub whose : AreTheirs number h recorded steps
  whose = record {
    of_recorder =
        ap calls_in
        (only_there (of_recorder number) h ([] ∷ []) recorders (antennas ∷ [] ∷ owns) weighs made
        (refl, tt) (
          antenna_no_recorder number steps (events antennas) a,
          (refl, doors_no_recorder site number 0 owns (omega (arith, few)) are),
        ))
        ∙ recorder_calls number recorded (events recorders) r;
    of_antenna =
        only_there of_antenna h ([] ∷ recorders ∷ []) antennas ([] ∷ owns) weighs made
        (refl, (recorder_no_take number recorded (events recorders) r, tt))
        (refl, doors_no_take site 0 owns are)
        ∙ antenna_takes number steps (events antennas) a;
  }
