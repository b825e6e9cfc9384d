-- What visits hand over in which what is due is taken.
use Rattle.std.proofs.Common.{◌≡◌, ℕ, ◌≤◌, Bool, true, false, cond, List, [], ◌∷◌, ◌++◌, map}
use Rattle.std.proofs.Common.{length, take, Option, Some, None, refl, ap, sym, ◌∙◌, arith, subst, nat_eq}
use Rattle.std.proofs.Common.{zero, suc, ◌&&◌, drop, slice_index_or, length-append}
use Rattle.std.proofs.Math.Seq.{take-append-add}
use Rattle.archive_terms.specs.Delivery.{Item, Mode}
use Rattle.archive_terms.specs.Rounds.{settled_items, settled_in, handed_in}
use Rattle.archive_terms.specs.Progress.{takes_whole, taken_rounds, keeps, all_keep}
use Rattle.std.specs.List.{filter}
use Rattle.std.specs.Option.{option_map_or}
use Rattle.std.proofs.lemmas.Bool.{and_parts, eqb-true}
use Rattle.std.proofs.lemmas.List.Elements.{filter_map-append}
use Rattle.archive_terms.specs.Archive.{Entry}
use Rattle.archive_terms.specs.Delivery.{Terms, Delivery, started, buffer}
use Rattle.archive_terms.specs.Rounds.{Answer, whole, stall, fail, Link, blocked, waiting, free}
use Rattle.archive_terms.specs.Rounds.{broken, Round, free_round, nothing, fate}
use Rattle.archive_terms.specs.Rounds.{answered, at_round, after_round, outcome, outcomes}
use Rattle.archive_terms.specs.Rounds.{after_rounds, handed_buffers, handed_buffer, handed_items}
use Rattle.archive_terms.specs.Rounds.{FrontsRise, last_front, picked_at, ends_run, Outcome}
use Rattle.return_core.specs.Course.{Course, with_step, is_offering}
use Rattle.return_core.specs.Standing.{StandsFor, goes_on, all_go_on, waiting_round, answered_round}
use Rattle.return_core.specs.Standing.{handed_over, at_front}
use Rattle.return_core.specs.Visits.{Visit, passed, stepped, visited, front_of, round_of}
use Rattle.return_core.specs.Visits.{rounds_of}
use Rattle.return_core.specs.Visits.{IsLook, AreLooks}
use Rattle.return_core.specs.Coming.{IsTaken, AreTaken, AreTakenOrKept, flagged, moment_of}
use Rattle.return_core.specs.Coming.{moments_of, all_find}
use Rattle.return_core.proofs.Behind.{not_failed}
use Rattle.return_core.proofs.Visits.{Law, one_stands, last_behind, front_same}
use Rattle.return_core.proofs.Stands.{steps}

-- ---- rounds behind others

first_behind : (t : Terms) (entries : List Entry) (r : Round) (rounds : List Round) (d : Delivery)
    → goes_on r.link ≡ true
    → outcomes t entries (r ∷ rounds) d
    ≡ outcome t entries r d ∷ outcomes t entries rounds (after_round t entries r d)
first_behind t entries r rounds d goes =
    ap (λ ends. outcome t entries r d
    ∷ cond ends [] (outcomes t entries rounds (after_round t entries r d)))
    (not_failed r.link (at_round t entries r d).fixed goes)

pub after_behind : (t : Terms) (entries : List Entry) (rounds : List Round) (r : Round)
    (d : Delivery)
    → all_go_on rounds ≡ true
    → after_rounds t entries (rounds ++ r ∷ []) d
    ≡ after_round t entries r (after_rounds t entries rounds d)
after_behind t entries [] r d goes = last (ends_run t entries r d)
  where
    last : (b : Bool) → cond b (after_round t entries r d) (after_round t entries r d)
        ≡ after_round t entries r d
    last true = refl
    last false = refl
after_behind t entries (x ∷ rounds) r d goes =
    let parts : (goes_on x.link ≡ true) × (all_go_on rounds ≡ true) = and_parts _ _ goes in
    let on : ends_run t entries x d ≡ false =
    not_failed x.link (at_round t entries x d).fixed parts.0 in
    let next : Delivery = after_round t entries x d in
    ap (λ b. cond b next (after_rounds t entries (rounds ++ r ∷ []) next)) on
    ∙ after_behind t entries rounds r next parts.1
    ∙ ap (λ b. after_round t entries r (cond b next (after_rounds t entries rounds next))) (sym on)

pub outcomes_behind : (t : Terms) (entries : List Entry) (rounds later : List Round) (d : Delivery)
    → all_go_on rounds ≡ true
    → outcomes t entries (rounds ++ later) d
    ≡ outcomes t entries rounds d ++ outcomes t entries later (after_rounds t entries rounds d)
outcomes_behind t entries [] later d goes = refl
outcomes_behind t entries (x ∷ rounds) later d goes =
    let parts : (goes_on x.link ≡ true) × (all_go_on rounds ≡ true) = and_parts _ _ goes in
    let on : ends_run t entries x d ≡ false =
    not_failed x.link (at_round t entries x d).fixed parts.0 in
    let next : Delivery = after_round t entries x d in
    first_behind t entries x (rounds ++ later) d parts.0
    ∙ ap (λ xs. outcome t entries x d ∷ xs) (outcomes_behind t entries rounds later next parts.1)
    ∙ ap (λ xs. xs ++ outcomes t entries later (after_rounds t entries rounds next))
    (sym (first_behind t entries x rounds d parts.0))
    ∙ ap (λ b. outcomes t entries (x ∷ rounds) d
    ++ outcomes t entries later (cond b next (after_rounds t entries rounds next))) (sym on)

-- ---- a visit whose buffer isn't due is one whose offer would be taken

abbrev pub freed : Visit → Round
freed v = free_round (front_of v) (moment_of v)

-- so are those with a flag
abbrev pub freed_by : List Bool → List Visit → List Round
freed_by (true ∷ flags) (v ∷ visits) = freed v ∷ freed_by flags visits
freed_by (false ∷ flags) (v ∷ visits) = round_of v ∷ freed_by flags visits
freed_by _ _ = []

-- an answer that is due's
none_is_open : (b : Bool) → None ≡ cond b (Some whole) None → b ≡ false
none_is_open true is = cc
none_is_open false is = refl

some_is_whole : (b : Bool) (x : Answer) → Some x ≡ cond b (Some whole) None
    → (b ≡ true) × (x ≡ whole)
some_is_whole true x is = (refl, cc)
some_is_whole false x is = cc

-- a round whose buffer isn't due does the same whether one of its own waits or not
open_same : (t : Terms) (entries : List Entry) (front now : ℕ) (d : Delivery) →
    let w = waiting_round front now in
    let f = free_round front now in
    (at_round t entries w d).fixed ≡ false
    → (outcome t entries w d ≡ outcome t entries f d)
    × (after_round t entries w d ≡ after_round t entries f d)
open_same t entries front now d open_yet =
    let s : Delivery = at_round t entries (waiting_round front now) d in
    let same : cond s.fixed (let none : Option Answer = None in none) None
    ≡ cond s.fixed (Some whole) None = rw open_yet refl in (
      ap (λ answer. option_map_or (λ x. fate t x s (buffer (picked_at t entries front) s)) answer
          nothing) same,
      ap (λ answer. option_map_or (λ x. answered t x s) answer s) same,
    )

module _ (law : Law) (t : Terms) (entries : List Entry) where
  abbrev come_to : List Round → Delivery
  come_to rounds = after_rounds t entries rounds started

  abbrev Same : List Round → List Visit → Type 0
  Same rounds visits =
      outcomes t entries (rounds_of visits) (come_to rounds)
      ≡ outcomes t entries (map freed visits) (come_to rounds)

  -- a visit's round, and another one that does the same
  record Does (r f : Round) (d : Delivery) : Type 0 where
    pub done : outcome t entries r d ≡ outcome t entries f d
    pub next : after_round t entries r d ≡ after_round t entries f d
    pub goes : goes_on r.link ≡ true
    pub free_goes : goes_on f.link ≡ true

  more_same : (r f : Round) (rounds others : List Round) (d : Delivery) → Does r f d
      → outcomes t entries rounds (after_round t entries r d)
      ≡ outcomes t entries others (after_round t entries r d)
      → outcomes t entries (r ∷ rounds) d ≡ outcomes t entries (f ∷ others) d
  more_same r f rounds others d does same =
      first_behind t entries r rounds d does.goes
      ∙ ap (λ xs. outcome t entries r d ∷ xs) same
      ∙ ap (λ o. o ∷ outcomes t entries others (after_round t entries r d)) does.done
      ∙ ap (λ e. outcome t entries f d ∷ outcomes t entries others e) does.next
      ∙ sym (first_behind t entries f others d does.free_goes)

  -- one that is taken does what a free round does
  taken_does : (c : Course) (rounds : List Round) (v : Visit) → StandsFor c t entries rounds
      → last_front t.selection.first rounds ≤ front_of v → IsLook entries c v → IsTaken c v
      → Does (round_of v) (freed v) (come_to rounds)
  taken_does c rounds (passed front now) s later look taken = absurd taken
  taken_does c rounds (stepped g now None) s later look taken =
      let step = steps c t entries rounds g now (law c t entries rounds s) s
      (record { shown = look; later = later }) in
      let open_yet : (at_front t entries rounds g.front now).fixed ≡ false =
      sym step.offers ∙ none_is_open (is_offering (with_step c g now)) taken in
      let same = open_same t entries g.front now (come_to rounds) open_yet in
      record { done = same.0; next = same.1; goes = refl; free_goes = refl }
  taken_does c rounds (stepped g now (Some answer)) s later look taken =
      let d : Delivery = come_to rounds in
      let is : answer ≡ whole =
      (some_is_whole (is_offering (with_step c g now)) answer taken).1 in
      record {
        done = ap (λ x. outcome t entries (answered_round g.front now x) d) is;
        next = ap (λ x. after_round t entries (answered_round g.front now x) d) is;
        goes = ap (λ x. goes_on (free x)) is;
        free_goes = refl;
      }

  -- and what comes after it
  record OneDoes (c : Course) (rounds : List Round) (v : Visit) (visits : List Visit) : Type 0 where
    pub next : come_to (rounds ++ round_of v ∷ [])
        ≡ after_round t entries (round_of v) (come_to rounds)
    pub stands : StandsFor (visited v c) t entries (rounds ++ round_of v ∷ [])
    pub looks : AreLooks entries (last_front t.selection.first (rounds ++ round_of v ∷ []))
        (visited v c) visits

  one_does : (c : Course) (rounds : List Round) (v : Visit) (visits : List Visit)
      → StandsFor c t entries rounds
      → AreLooks entries (last_front t.selection.first rounds) c (v ∷ visits)
      → goes_on (round_of v).link ≡ true → OneDoes c rounds v visits
  one_does c rounds v visits s looks goes = record {
    next = after_behind t entries rounds (round_of v) started s.going;
    stands = (one_stands law c t entries rounds v s looks.0 looks.1.0 goes).stands;
    looks = subst (λ from. AreLooks entries from (visited v c) visits)
        (sym (last_behind t.selection.first rounds (round_of v) ∙ front_same v)) looks.1.1;
  }

  pub same_done : (c : Course) (rounds : List Round) (visits : List Visit)
      → StandsFor c t entries rounds
      → AreLooks entries (last_front t.selection.first rounds) c visits
      → AreTaken c visits → Same rounds visits
  same_done c rounds [] s looks taken = refl
  same_done c rounds (v ∷ visits) s looks taken =
      let does = taken_does c rounds v s looks.0 looks.1.0 taken.0 in
      let one = one_does c rounds v visits s looks does.goes in
      more_same (round_of v) (freed v) (rounds_of visits) (map freed visits) (come_to rounds) does
      (subst (λ e. outcomes t entries (rounds_of visits) e
      ≡ outcomes t entries (map freed visits) e) one.next
      (same_done (visited v c) (rounds ++ round_of v ∷ []) visits one.stands one.looks taken.1))

  -- a link that loses nothing didn't fail
  keeps_goes : (mode : Mode) (link : Link) → keeps mode link ≡ true → goes_on link ≡ true
  keeps_goes mode blocked e = refl
  keeps_goes mode waiting e = refl
  keeps_goes mode (free whole) e = refl
  keeps_goes mode (free stall) e = refl
  keeps_goes mode (free fail) e = absurd (cc)
  keeps_goes mode broken e = absurd (cc)

  -- those with a flag do what free rounds do
  pub flagged_done : (c : Course) (rounds : List Round) (flags : List Bool) (visits : List Visit)
      → StandsFor c t entries rounds
      → AreLooks entries (last_front t.selection.first rounds) c visits
      → AreTakenOrKept t.mode c flags visits
      → outcomes t entries (rounds_of visits) (come_to rounds)
      ≡ outcomes t entries (freed_by flags visits) (come_to rounds)
  flagged_done c rounds [] [] s looks taken = refl
  flagged_done c rounds [] (v ∷ visits) s looks taken = absurd taken
  flagged_done c rounds (true ∷ flags) [] s looks taken = absurd taken
  flagged_done c rounds (false ∷ flags) [] s looks taken = absurd taken
  flagged_done c rounds (true ∷ flags) (v ∷ visits) s looks taken =
      let does = taken_does c rounds v s looks.0 looks.1.0 taken.0 in
      let one = one_does c rounds v visits s looks does.goes in
      more_same (round_of v) (freed v) (rounds_of visits) (freed_by flags visits) (come_to rounds)
      does
      (subst (λ e. outcomes t entries (rounds_of visits) e
      ≡ outcomes t entries (freed_by flags visits) e) one.next
      (flagged_done (visited v c) (rounds ++ round_of v ∷ []) flags visits one.stands one.looks
      taken.1))
  flagged_done c rounds (false ∷ flags) (v ∷ visits) s looks taken =
      let goes : goes_on (round_of v).link ≡ true = keeps_goes t.mode (round_of v).link taken.0 in
      let one = one_does c rounds v visits s looks goes in
      more_same (round_of v) (round_of v) (rounds_of visits) (freed_by flags visits)
      (come_to rounds) (record { done = refl; next = refl; goes = goes; free_goes = goes })
      (subst (λ e. outcomes t entries (rounds_of visits) e
      ≡ outcomes t entries (freed_by flags visits) e) one.next
      (flagged_done (visited v c) (rounds ++ round_of v ∷ []) flags visits one.stands one.looks
      taken.1))

all_freed : (front : ℕ) (visits : List Visit) → all_find front visits ≡ true
    → map freed visits ≡ map (free_round front) (moments_of visits)
all_freed front [] all = refl
all_freed front (v ∷ visits) all =
    let parts = and_parts (nat_eq (front_of v) front) (all_find front visits) all in
    let here : front_of v ≡ front = eqb-true (front_of v) front parts.0 in
    ap (λ f. free_round f (moment_of v) ∷ map freed visits) here
    ∙ ap (λ xs. free_round front (moment_of v) ∷ xs) (all_freed front visits parts.1)

-- what is done in all rounds, where each visit finds one front
pub done_still : Law → (c : Course) (t : Terms) (entries : List Entry) (rounds : List Round)
    (visits : List Visit) (front : ℕ)
    → StandsFor c t entries rounds
    → AreLooks entries (last_front t.selection.first rounds) c visits
    → all_find front visits ≡ true → AreTaken c visits
    → outcomes t entries (rounds ++ rounds_of visits) started
    ≡ outcomes t entries rounds started
    ++ outcomes t entries (map (free_round front) (moments_of visits))
    (after_rounds t entries rounds started)
done_still law c t entries rounds visits front s looks all taken =
    let d : Delivery = after_rounds t entries rounds started in
    outcomes_behind t entries rounds (rounds_of visits) started s.going
    ∙ ap (λ xs. outcomes t entries rounds started ++ xs)
    (same_done law t entries c rounds visits s looks taken
    ∙ ap (λ rs. outcomes t entries rs d) (all_freed front visits all))

pub last_from_none : (from : ℕ) (rounds : List Round) (front : ℕ) → last_front from rounds ≤ front
    → last_front 0 rounds ≤ front
last_from_none from [] front behind = omega arith
last_from_none from (r ∷ rounds) front behind = behind

-- ---- looks and fronts

pub looks_from : (entries : List Entry) (from front : ℕ) (c : Course) (visits : List Visit)
    → from ≤ front → AreLooks entries front c visits → AreLooks entries from c visits
looks_from entries from front c [] before looks = tt
looks_from entries from front c (v ∷ visits) before looks = (omega (arith, looks.0), looks.1)

pub looks_rise : (entries : List Entry) (from : ℕ) (c : Course) (visits : List Visit)
    → AreLooks entries from c visits → FrontsRise from (rounds_of visits)
looks_rise entries from c [] looks = tt
looks_rise entries from c (v ∷ visits) looks =
    let rest = looks_rise entries (front_of v) (visited v c) visits looks.1.1 in (
      subst (λ f. from ≤ f) (sym (front_same v)) looks.0,
      subst (λ f. FrontsRise f (rounds_of visits)) (sym (front_same v)) rest,
    )

pub freed_rise : (entries : List Entry) (from : ℕ) (c : Course) (visits : List Visit)
    → AreLooks entries from c visits → FrontsRise from (map freed visits)
freed_rise entries from c [] looks = tt
freed_rise entries from c (v ∷ visits) looks =
    (looks.0, freed_rise entries (front_of v) (visited v c) visits looks.1.1)

-- ---- buffers that were ready

-- the rounds behind hand over what was due first
pub due_behind : (before after due : List (List Item)) → take (length due) after ≡ due
    → take (length (before ++ due)) (before ++ after) ≡ before ++ due
due_behind before after due first =
    ap (λ n. take n (before ++ after)) (length-append before due)
    ∙ take-append-add before after (length due)
    ∙ ap (λ xs. before ++ xs) first

pub handed_behind : (t : Terms) (entries : List Entry) (rounds later : List Round)
    → all_go_on rounds ≡ true
    → handed_over t entries (rounds ++ later)
    ≡ handed_over t entries rounds
    ++ handed_buffers (outcomes t entries later (after_rounds t entries rounds started))
handed_behind t entries rounds later goes =
    ap handed_buffers (outcomes_behind t entries rounds later started goes)
    ∙ filter_map-append handed_buffer (outcomes t entries rounds started)
    (outcomes t entries later (after_rounds t entries rounds started))

pub freed_keep : (mode : Mode) (visits : List Visit) → all_keep mode (map freed visits) ≡ true
freed_keep mode [] = refl
freed_keep mode (v ∷ visits) = freed_keep mode visits

pub freed_taken : (visits : List Visit) → taken_rounds (map freed visits) ≡ length visits
freed_taken [] = refl
freed_taken (v ∷ visits) = ap suc (freed_taken visits)

pub flagged_rise : (entries : List Entry) (from : ℕ) (mode : Mode) (c : Course) (flags : List Bool)
    (visits : List Visit) → AreLooks entries from c visits → AreTakenOrKept mode c flags visits
    → FrontsRise from (freed_by flags visits)
flagged_rise entries from mode c [] [] looks taken = tt
flagged_rise entries from mode c [] (v ∷ visits) looks taken = absurd taken
flagged_rise entries from mode c (true ∷ flags) [] looks taken = absurd taken
flagged_rise entries from mode c (false ∷ flags) [] looks taken = absurd taken
flagged_rise entries from mode c (true ∷ flags) (v ∷ visits) looks taken = (
  looks.0,
  flagged_rise entries (front_of v) mode (visited v c) flags visits looks.1.1 taken.1,
)
flagged_rise entries from mode c (false ∷ flags) (v ∷ visits) looks taken =
    let rest = flagged_rise entries (front_of v) mode (visited v c) flags visits looks.1.1 taken.1
    in (
      subst (λ f. from ≤ f) (sym (front_same v)) looks.0,
      subst (λ f. FrontsRise f (freed_by flags visits)) (sym (front_same v)) rest,
    )

pub flagged_keep : (mode : Mode) (c : Course) (flags : List Bool) (visits : List Visit)
    → AreTakenOrKept mode c flags visits → all_keep mode (freed_by flags visits) ≡ true
flagged_keep mode c [] [] taken = refl
flagged_keep mode c [] (v ∷ visits) taken = absurd taken
flagged_keep mode c (true ∷ flags) [] taken = absurd taken
flagged_keep mode c (false ∷ flags) [] taken = absurd taken
flagged_keep mode c (true ∷ flags) (v ∷ visits) taken =
    flagged_keep mode (visited v c) flags visits taken.1
flagged_keep mode c (false ∷ flags) (v ∷ visits) taken =
    ap (λ b. b && all_keep mode (freed_by flags visits)) taken.0
    ∙ flagged_keep mode (visited v c) flags visits taken.1

pub flagged_taken : (mode : Mode) (c : Course) (flags : List Bool) (visits : List Visit)
    → AreTakenOrKept mode c flags visits → flagged flags ≤ taken_rounds (freed_by flags visits)
flagged_taken mode c [] [] taken = omega arith
flagged_taken mode c [] (v ∷ visits) taken = absurd taken
flagged_taken mode c (true ∷ flags) [] taken = absurd taken
flagged_taken mode c (false ∷ flags) [] taken = absurd taken
flagged_taken mode c (true ∷ flags) (v ∷ visits) taken =
    let rest = flagged_taken mode (visited v c) flags visits taken.1 in omega (arith, rest)
flagged_taken mode c (false ∷ flags) (v ∷ visits) taken =
    let rest = flagged_taken mode (visited v c) flags visits taken.1 in
    further (takes_whole (round_of v).link) rest
  where
    further : (whole : Bool) → flagged flags ≤ taken_rounds (freed_by flags visits)
        → flagged flags
        ≤ length (cond whole (round_of v ∷ filter (λ (r : Round). takes_whole r.link)
        (freed_by flags visits)) (filter (λ (r : Round). takes_whole r.link)
        (freed_by flags visits)))
    further true rest = omega (arith, rest)
    further false rest = rest

-- fewer come too
pub fewer : {A : Type 0} (m n : ℕ) (due all : List A) → m ≤ n
    → take (length (take n due)) all ≡ take n due → take (length (take m due)) all ≡ take m due
fewer zero n due all less is = refl
fewer (suc m) zero due all less is = absurd (omega (arith, less))
fewer (suc m) (suc n) [] all less is = refl
fewer (suc m) (suc n) (x ∷ due) [] less is = cc
fewer (suc m) (suc n) (x ∷ due) (y ∷ all) less is =
    let rest = fewer m n due all (omega (arith, less)) (ap (drop 1) is) in
    ap (λ z. z ∷ take (length (take m due)) all) (ap (λ xs. slice_index_or xs 0 x) is)
    ∙ ap (λ xs. x ∷ xs) rest

pub ready_behind_rounds : (t : Terms) (entries : List Entry) (rounds later : List Round)
    (due : List (List Item))
    → all_go_on rounds ≡ true
    → take (length due) (handed_buffers (outcomes t entries later
    (after_rounds t entries rounds started))) ≡ due
    → take (length (handed_over t entries rounds ++ due)) (handed_over t entries (rounds ++ later))
    ≡ handed_over t entries rounds ++ due
ready_behind_rounds t entries rounds later due goes first =
    ap (take (length (handed_over t entries rounds ++ due)))
    (handed_behind t entries rounds later goes)
    ∙ due_behind (handed_over t entries rounds)
    (handed_buffers (outcomes t entries later (after_rounds t entries rounds started))) due first

-- ---- all of it

-- where each offer is taken nothing is discarded
free_settled : (t : Terms) (entries : List Entry) (front now : ℕ) (d : Delivery)
    → settled_in (outcome t entries (free_round front now) d)
    ≡ handed_in (outcome t entries (free_round front now) d)
free_settled t entries front now d = on (at_round t entries (free_round front now) d).fixed
  where
    s : Delivery
    s = at_round t entries (free_round front now) d

    done : Bool → Outcome
    done fixed = option_map_or (λ x. fate t x s (buffer (picked_at t entries front) s))
        (cond fixed (Some whole) None) nothing

    on : (fixed : Bool) → settled_in (done fixed) ≡ handed_in (done fixed)
    on true = refl
    on false = refl

pub free_all_settled : (t : Terms) (entries : List Entry) (front : ℕ) (moments : List ℕ)
    (d : Delivery)
    → settled_items (outcomes t entries (map (free_round front) moments) d)
    ≡ handed_items (outcomes t entries (map (free_round front) moments) d)
free_all_settled t entries front [] d = refl
free_all_settled t entries front (now ∷ moments) d =
    let r : Round = free_round front now in
    let rest : List Round = map (free_round front) moments in
    let next : Delivery = after_round t entries r d in
    ap settled_items (first_behind t entries r rest d refl)
    ∙ ap (λ xs. xs ++ settled_items (outcomes t entries rest next))
    (free_settled t entries front now d)
    ∙ ap (λ xs. handed_in (outcome t entries r d) ++ xs)
    (free_all_settled t entries front moments next)
    ∙ ap handed_items (sym (first_behind t entries r rest d refl))
