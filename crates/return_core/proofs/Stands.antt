-- What a step and an answer make of the rounds that a delivery stands for.
use Rattle.std.proofs.Common.{◌≡◌, ℕ, ◌≤◌, Bool, true, false, cond, List, [], ◌∷◌, ◌++◌, map, take}
use Rattle.std.proofs.Common.{Option, Some, None, refl, sym, ◌∙◌, arith}
use Rattle.std.specs.List.{flat_map}
use Rattle.std.specs.Option.{option_map_or, option_to_list}
use Rattle.std.proofs.lemmas.List.{map-append}
use Rattle.std.proofs.lemmas.List.Elements.{filter_map-append}
use Rattle.archive_terms.specs.Archive.{Entry}
use Rattle.archive_terms.specs.Delivery.{Item, Terms, started, is_archived}
use Rattle.archive_terms.specs.Rounds.{Answer, whole, free, Round, nothing, outcomes, answer_on}
use Rattle.archive_terms.specs.Rounds.{FrontsRise, last_front}
use Rattle.archive_terms.specs.Continuity.{last_frame, told_items, told_buffers}
use Rattle.archive_terms.specs.Glimpse.{Glimpse, glimpse}
use Rattle.archive_terms.specs.Placed.{ToldItem, items_of, Placed, placed_at_start, want_of}
use Rattle.archive_terms.specs.Placed.{placed_answered, placed_at_round, placed_fate, told_where}
use Rattle.frame_select.specs.Item.{said_of}
use Rattle.return_core.specs.Course.{Course, want_of_course, is_offering, with_step, with_answer}
use Rattle.return_core.specs.Standing.{said_items, said_outcome, said_placed, goes_on, all_go_on}
use Rattle.return_core.specs.Standing.{waiting_round, blocked_round, answered_round, placed_after}
use Rattle.return_core.specs.Standing.{StandsFor, IsNextLook, at_front, handed_told, due_told}
use Rattle.return_core.specs.Standing.{Steps, Settles}
use Rattle.return_core.proofs.Filling.{last_frame-append}
use Rattle.return_core.proofs.ItemsSaid.{items_said, any_said, archived_said, want_said, step_said}
use Rattle.return_core.proofs.ItemsSaid.{answer_said, placed_said}
use Rattle.return_core.proofs.Behind.{PlacesAreCounts, rise_last, rise_parts, go_front, go_last}
use Rattle.return_core.proofs.Behind.{outcomes-append, placed_after-append, one_outcome, one_told}
use Rattle.return_core.proofs.Behind.{last_same, same_offer}

-- where a delivery stands after the step of the round behind these
abbrev pub placed_front : Terms → List Entry → List Round → ℕ → ℕ → Placed
placed_front t entries rounds front now =
    placed_at_round t entries (waiting_round front now)
    (placed_after t entries rounds (placed_at_start t))

-- what an answer does where none is given, and where one is given to what is fixed
no_answer : {X : Type 0} → (f : Answer → X) (b : Bool) (x : X)
    → option_map_or f (cond b None None) x ≡ x
no_answer f b x = grind arith

an_answer : {X : Type 0} → (f : Answer → X) (b : Bool) (answer : Answer) (x : X)
    → option_map_or f (cond b (Some answer) None) x ≡ cond b (f answer) x
an_answer f b answer x = grind arith

-- a waiting round ends with its step
waiting_is : (t : Terms) (entries : List Entry) (rounds : List Round) (front now : ℕ)
    → placed_after t entries (rounds ++ waiting_round front now ∷ []) (placed_at_start t)
    ≡ placed_front t entries rounds front now
waiting_is t entries rounds front now = simp (placed_after-append, no_answer)

-- an answered one with the answer to what is fixed
answered_is : (t : Terms) (entries : List Entry) (rounds : List Round) (front now : ℕ)
    (answer : Answer) →
    let q : Placed = placed_front t entries rounds front now in
    placed_after t entries (rounds ++ answered_round front now answer ∷ []) (placed_at_start t)
    ≡ cond q.fixed (placed_answered t answer q) q
answered_is t entries rounds front now answer = simp (placed_after-append, an_answer)

-- ---- by counts

offer_is : (t : Terms) (entries : List Entry) (rounds : List Round) (front now : ℕ)
    → PlacesAreCounts t entries
    → FrontsRise t.selection.first rounds → last_front t.selection.first rounds ≤ front
    → all_go_on rounds ≡ true
    → (placed_front t entries rounds front now).fixed ≡ (at_front t entries rounds front now).fixed
offer_is t entries rounds front now law rise later goes =
    same_offer t (at_front t entries rounds front now) _ _ _ _
    (one_outcome t entries rounds (answered_round front now whole) law
    (rise_last t.selection.first rounds (answered_round front now whole) rise later) goes)

told_buffers-append : (entries : List Entry) (before : Option ℕ) (bs : List (List Item))
    (b : List Item)
    → told_buffers entries before (bs ++ b ∷ [])
    ≡ told_buffers entries before bs ++ told_items entries
    (last_frame before (flat_map (λ x. x) bs)) b ∷ []
told_buffers-append entries before [] b = refl
told_buffers-append entries before (x ∷ bs) b =
    simp (told_buffers-append entries (last_frame before x) bs b, last_frame-append)

due_is : (t : Terms) (entries : List Entry) (rounds : List Round) (front now : ℕ)
    → PlacesAreCounts t entries
    → FrontsRise t.selection.first rounds → last_front t.selection.first rounds ≤ front
    → all_go_on rounds ≡ true
    → (placed_front t entries rounds front now).fixed ≡ true
    → (placed_front t entries rounds front now).held ≡ due_told t entries rounds front now
due_is t entries rounds front now law rise later goes due =
    let r : Round = answered_round front now whole in
    let counted : (at_front t entries rounds front now).fixed ≡ true =
    sym (offer_is t entries rounds front now law rise later goes) ∙ due in
    let told = one_told t entries rounds r law (rise_last t.selection.first rounds r rise later)
    goes in
    last_same (handed_told t entries rounds) _ _ (sym (simp (
      outcomes-append,
      goes,
      filter_map-append,
      told_buffers-append,
      due,
      counted,
    ) at told))

-- ---- a step

stepped_run : (c : Course) (t : Terms) (entries : List Entry) (rounds : List Round) (g : Glimpse)
    (now : ℕ)
    → StandsFor c t entries rounds → IsNextLook g c t entries rounds
    → (with_step c g now).run ≡ Some (record {
      terms = t;
      placed = said_placed (placed_front t entries rounds g.front now);
    })
stepped_run c t entries rounds g now s look =
    let p : Placed = placed_after t entries rounds (placed_at_start t) in
    let wanted : want_of_course c ≡ want_of t p = rw s.run (want_said t p) in
    cc (s.run, wanted, look.shown, step_said t (glimpse (take g.front entries) (want_of t p)) now p)

pub steps : (c : Course) (t : Terms) (entries : List Entry) (rounds : List Round) (g : Glimpse)
    (now : ℕ) → PlacesAreCounts t entries
    → StandsFor c t entries rounds → IsNextLook g c t entries rounds
    → Steps (with_step c g now) t entries rounds g.front now
steps c t entries rounds g now law s look = record {
  stands = record {
    some = s.some;
    archive = s.archive;
    first = s.first;
    rise = rise_last t.selection.first rounds (waiting_round g.front now) s.rise look.later;
    going = go_last rounds (waiting_round g.front now) s.going refl;
    run = rw waiting_is run;
  };
  offers = offering ∙ offer_is t entries rounds g.front now law s.rise look.later s.going;
  items = λ yes. rw (
    run,
    due_is t entries rounds g.front now law s.rise look.later s.going
        (sym offering ∙ yes),
  );
}
  where
    run : (with_step c g now).run ≡ Some (record {
      terms = t;
      placed = said_placed (placed_front t entries rounds g.front now);
    })
    run = stepped_run c t entries rounds g now s look

    offering : is_offering (with_step c g now) ≡ (placed_front t entries rounds g.front now).fixed
    offering = rw run

-- ---- an answer

fate_said : (t : Terms) (answer : Answer) (items : List Item)
    → said_outcome (placed_fate t answer items) ≡ placed_fate t answer (said_items items)
fate_said t answer items = grind (arith, any_said is_archived archived_said items)

pub settles : (c : Course) (t : Terms) (entries : List Entry) (rounds : List Round) (front now : ℕ)
    (answer : Answer) → PlacesAreCounts t entries
    → StandsFor c t entries (rounds ++ waiting_round front now ∷ [])
    → Settles c (with_answer c answer) t entries rounds front now answer
settles c t entries rounds front now answer law s = record {
  stands = λ goes_too. record {
    some = s.some;
    archive = s.archive;
    first = s.first;
    rise = rise;
    going = go_last rounds r goes goes_too;
    run = rw (run, answered_is, answer_said, placed_said q.fixed);
  };
  done = rw (
    outcomes-append t entries rounds r started goes,
    map-append,
    ← one_outcome t entries rounds r law rise goes,
    run,
    done_by q.fixed,
  );
  told = rw (one_told t entries rounds r law rise goes, map-append, run, told_by answer q.fixed);
}
  where
    q : Placed
    q = placed_front t entries rounds front now

    r : Round
    r = answered_round front now answer

    parts : FrontsRise t.selection.first rounds × (last_front t.selection.first rounds ≤ front)
    parts = rise_parts t.selection.first rounds (waiting_round front now) s.rise

    rise : FrontsRise t.selection.first (rounds ++ r ∷ [])
    rise = rise_last t.selection.first rounds r parts.0 parts.1

    goes : all_go_on rounds ≡ true
    goes = go_front rounds (waiting_round front now) s.going

    run : c.run ≡ Some (record { terms = t; placed = said_placed q })
    run = rw (← waiting_is) s.run

    done_by : (b : Bool) → said_outcome (option_map_or (λ a. placed_fate t a (items_of q.held))
        (cond b (Some answer) None) nothing)
        ≡ cond b (placed_fate t answer (items_of (map said_of q.held))) nothing
    done_by b = grind (arith, fate_said t answer (items_of q.held), items_said q.held)

    told_by : (a : Answer) (b : Bool)
        → map (λ (buffer : List ToldItem). map said_of buffer)
        (option_to_list (option_map_or (λ x. told_where x q.held) (cond b (Some a) None) None))
        ≡ cond b (option_to_list (told_where a (map said_of q.held))) []
    told_by a b = grind arith

-- ---- rounds without an offer

pub blocked_stands : (c : Course) (t : Terms) (entries : List Entry) (rounds : List Round)
    (front now : ℕ)
    → StandsFor c t entries rounds → last_front t.selection.first rounds ≤ front
    → StandsFor c t entries (rounds ++ blocked_round front now ∷ [])
blocked_stands c t entries rounds front now s later = record {
  some = s.some;
  archive = s.archive;
  first = s.first;
  rise = rise_last t.selection.first rounds (blocked_round front now) s.rise later;
  going = go_last rounds (blocked_round front now) s.going refl;
  run = simp (placed_after-append, no_answer) s.run;
}

pub not_due_stands : (c : Course) (t : Terms) (entries : List Entry) (rounds : List Round)
    (front now : ℕ) (answer : Answer)
    → StandsFor c t entries (rounds ++ waiting_round front now ∷ []) → is_offering c ≡ false
    → goes_on (free answer) ≡ true
    → StandsFor c t entries (rounds ++ answered_round front now answer ∷ [])
not_due_stands c t entries rounds front now answer s waits goes = record {
  some = s.some;
  archive = s.archive;
  first = s.first;
  rise = rise_last t.selection.first rounds (answered_round front now answer) parts.0 parts.1;
  going = go_last rounds (answered_round front now answer)
      (go_front rounds (waiting_round front now) s.going) goes;
  run = rw (answered_is, open_is) run;
}
  where
    parts : FrontsRise t.selection.first rounds × (last_front t.selection.first rounds ≤ front)
    parts = rise_parts t.selection.first rounds (waiting_round front now) s.rise

    q : Placed
    q = placed_front t entries rounds front now

    run : c.run ≡ Some (record { terms = t; placed = said_placed q })
    run = rw (← waiting_is) s.run

    open_is : q.fixed ≡ false
    open_is = rw run at waits

pub nothing_done : (t : Terms) (entries : List Entry) (rounds : List Round) (r : Round)
    → all_go_on rounds ≡ true → answer_on r.link ≡ None
    → outcomes t entries (rounds ++ r ∷ []) started
    ≡ outcomes t entries rounds started ++ nothing ∷ []
nothing_done t entries rounds r goes none = simp (outcomes-append, goes, none, no_answer)

-- fronts that rise from a place rise from the first
pub rise_from_none : (from : ℕ) (rounds : List Round) → FrontsRise from rounds → FrontsRise 0 rounds
rise_from_none from [] rise = tt
rise_from_none from (r ∷ rounds) rise = (omega arith, rise.1)
