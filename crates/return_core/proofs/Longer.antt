-- A delivery over a longer archive.
use Rattle.std.proofs.Common.{◌≡◌, ℕ, ◌≤◌, List, [], ◌∷◌, ◌++◌, length, take, refl, sym, ap}
use Rattle.std.proofs.Common.{◌∙◌, arith, Option, Some, length-append, append-nil, subst}
use Rattle.std.proofs.lemmas.List.{take-append-le}
use Rattle.std.proofs.Math.Seq.{take-append_seam}
use Rattle.archive_terms.specs.Archive.{Entry, IsArchive}
use Rattle.archive_terms.specs.Delivery.{Terms}
use Rattle.archive_terms.specs.Rounds.{Answer, Round, FrontsRise, last_front}
use Rattle.archive_terms.specs.Glimpse.{Want, wants_nothing, wants_front, wants_items, glimpse}
use Rattle.archive_terms.specs.Placed.{Placed, placed_at_start, placed_after_round}
use Rattle.frame_select.specs.Glimpse.{as_said}
use Rattle.return_core.specs.Course.{Course, want_of_course}
use Rattle.return_core.specs.Standing.{StandsFor, placed_after, said_placed}
use Rattle.return_core.specs.Visits.{Visit, passed, stepped, front_of, visited, rounds_of, IsLook}
use Rattle.return_core.specs.Visits.{AreLooks}
use Rattle.return_core.proofs.Visits.{front_same}

front_to_last : (f : ℕ) (rounds : List Round) → FrontsRise f rounds → f ≤ last_front f rounds
front_to_last f [] rise = omega arith
front_to_last f (r ∷ rounds) rise =
    let here : f ≤ r.front = rise.0 in omega (arith, front_to_last r.front rounds rise.1)

-- rounds whose fronts are places of an archive make of a delivery what they make of it over a
-- longer one
placed_longer : (t : Terms) (a b : List Entry) (f : ℕ) (rounds : List Round) (p : Placed)
    → FrontsRise f rounds → last_front f rounds ≤ length a
    → placed_after t (a ++ b) rounds p ≡ placed_after t a rounds p
placed_longer t a b f [] p rise within = refl
placed_longer t a b f (r ∷ rounds) p rise within =
    let here : r.front ≤ length a = omega (arith, front_to_last r.front rounds rise.1, within) in
    let same : take r.front (a ++ b) ≡ take r.front a = take-append-le r.front a b here in
    let one : placed_after_round t (a ++ b) r p ≡ placed_after_round t a r p =
    rw same (refl {a = placed_after_round t a r p}) in
    ap (placed_after t (a ++ b) rounds) one
    ∙ placed_longer t a b r.front rounds (placed_after_round t a r p) rise.1 within

pub stands_longer : (c : Course) (t : Terms) (a b : List Entry) (rounds : List Round)
    → StandsFor c t a rounds → last_front t.selection.first rounds ≤ length a
    → IsArchive (a ++ b) → StandsFor c t (a ++ b) rounds
stands_longer c t a b rounds old within archive = record {
  some = old.some;
  archive = archive;
  first =
      let here : t.selection.first ≤ length a = old.first in
      omega (arith, here, length-append a b);
  rise = old.rise;
  going = old.going;
  run = old.run ∙ ap (λ (p : Placed). Some (record { terms = t; placed = said_placed p }))
      (sym (placed_longer t a b t.selection.first rounds (placed_at_start t) old.rise within));
}

-- ---- looks

pub front_is : (entries : List Entry) (want : Want)
    → (as_said (glimpse entries want)).front ≡ length entries
front_is entries wants_nothing = refl
front_is entries wants_front = refl
front_is entries (wants_items w) = refl

-- a look at an archive is one at the front of each longer archive
pub look_stays : (a b : List Entry) (c : Course) (now : ℕ) (answer : Option Answer)
    → IsLook (a ++ b) c (stepped (as_said (glimpse a (want_of_course c))) now answer)
look_stays a b c now answer =
    let shown : take (as_said (glimpse a (want_of_course c))).front (a ++ b) ≡ a =
    ap (λ n. take n (a ++ b)) (front_is a (want_of_course c)) ∙ take-append_seam a b in
    ap (λ xs. as_said (glimpse xs (want_of_course c))) (sym shown)

pub look_whole : (a : List Entry) (c : Course) (now : ℕ) (answer : Option Answer)
    → IsLook a c (stepped (as_said (glimpse a (want_of_course c))) now answer)
look_whole a c now answer =
    subst (λ xs. IsLook xs c (stepped (as_said (glimpse a (want_of_course c))) now answer))
    (append-nil a) (look_stays a [] c now answer)

looks_rise : (entries : List Entry) (from : ℕ) (c : Course) (visits : List Visit)
    → AreLooks entries from c visits → from ≤ last_front from (rounds_of visits)
looks_rise entries from c [] looks = omega arith
looks_rise entries from c (v ∷ visits) looks =
    let here : from ≤ front_of v = looks.0 in
    let rest = looks_rise entries (front_of v) (visited v c) visits looks.1.1 in
    omega (arith, here, rest, ap (λ n. last_front n (rounds_of visits)) (front_same v))

pub looks_longer : (a b : List Entry) (from : ℕ) (c : Course) (visits : List Visit)
    → AreLooks a from c visits → last_front from (rounds_of visits) ≤ length a
    → AreLooks (a ++ b) from c visits
looks_longer a b from c [] looks within = tt
looks_longer a b from c (v ∷ visits) looks within = (
  looks.0,
  (one v looks.1.0 below, looks_longer a b (front_of v) (visited v c) visits looks.1.1 last),
)
  where
    last : last_front (front_of v) (rounds_of visits) ≤ length a
    last = subst (λ n. last_front n (rounds_of visits) ≤ length a) (front_same v) within

    below : front_of v ≤ length a
    below = omega (arith, looks_rise a (front_of v) (visited v c) visits looks.1.1, last)

    one : (x : Visit) → IsLook a c x → front_of x ≤ length a → IsLook (a ++ b) c x
    one (passed front now) look under = tt
    one (stepped g now answer) look under =
        look ∙ ap (λ xs. as_said (glimpse xs (want_of_course c)))
        (sym (take-append-le g.front a b under))
