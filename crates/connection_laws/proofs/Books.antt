-- The books of a script: a door has at most one instance in them, and none behind its quit.
use Rattle.std.proofs.Common.{◌≡◌, ◌==◌, ℕ, zero, suc, ◌+◌, ◌≤◌, ◌<◌, le_refl, Bool, true, false}
use Rattle.std.proofs.Common.{◌||◌, Option, Some, None, List, [], ◌∷◌, ◌++◌, length, get_or}
use Rattle.std.proofs.Common.{slice_get, slice_set, position, refl, ap, subst, ◌∙◌, arith}
use Rattle.std.proofs.lemmas.Bool.Decides.{nat_tests}
use Rattle.std.proofs.lemmas.List.Folds.{list_any-append}
use Rattle.std.proofs.lemmas.List.Quantifiers.{position-Some}
use Rattle.std.proofs.lemmas.List.Sums.{fold-append}
use Rattle.std.proofs.lemmas.Option.{slice_get-get_or}
use Rattle.std.specs.List.{list_any}
use Rattle.std.specs.Option.{option_map_or}
use Rattle.archive_terms.specs.Archive.{Entry}
use Rattle.station_config.specs.declared.site.Site.{Site}
use Rattle.station_book.specs.State.{State, Event, Call, publish, answer, quit, take, done}
use Rattle.station_book.specs.State.{interrupted, uplink, gone, opened}
use Rattle.station_book.specs.History.{replay, then_after, instance_of, is_of, after}
use Rattle.station_book.specs.Doors.{Has, is_by}
use Rattle.station_book.specs.Origin.{kinds_of, opening_of}
use Rattle.session_laws.specs.Losing.{RunHasDoor}
use Rattle.connection_laws.specs.Laws.{Laws}

pub replay-append : (b : State) (h k : List Event) → replay b (h ++ k) ≡ replay (replay b h) k
replay-append b h k = fold-append then_after b h k

pub none_both : {X : Type 0} → (p : X → Bool) (xs ys : List X) → list_any p xs ≡ false
    → list_any p ys ≡ false → list_any p (xs ++ ys) ≡ false
none_both p xs ys first second =
    list_any-append p xs ys ∙ ap (λ (b : Bool). b || list_any p ys) first ∙ second

-- ---- a door that no event is by

abbrev door_in : Call → ℕ
door_in (answer door reading ask want) = door
door_in (quit door) = door
door_in _ = 0

abbrev above : List Event → ℕ
above [] = 0
above (e ∷ h) = suc (door_in e.call + above h)

below_is : (other door : ℕ) → other < door → (other == door) ≡ false
below_is other door less = grind (arith, nat_tests)

is_apart : (call : Call) (door : ℕ) → door_in call < door → is_by door call ≡ false
is_apart (answer other reading ask want) door less = below_is other door less
is_apart (quit other) door less = below_is other door less
is_apart (publish entries) door less = refl
is_apart (take reading) door less = refl
is_apart (done run id reading) door less = refl
is_apart (interrupted run id reading) door less = refl
is_apart (uplink production status reading) door less = refl
is_apart (gone worker) door less = refl

none_above : (h : List Event) (door : ℕ) → above h ≤ door
    → list_any (λ e. is_by door e.call) h ≡ false
none_above [] door le = refl
none_above (e ∷ h) door le =
    ap (λ (b : Bool). b || list_any (λ (x : Event). is_by door x.call) h)
    (is_apart e.call door (omega (arith, le))) ∙ none_above h door (omega (arith, le))

-- ---- books of a site

-- a book of a site, in which a door has at most one instance, and a run a door
pub record IsOf (site : Site) (b : State) : Type 0 where
  pub services : b.opening.services ≡ kinds_of site.instances
  pub places : length b.doors ≡ length b.opening.services
  pub runs : RunHasDoor b
  pub single : (door i j : ℕ) → Has b door i → Has b door j → i ≡ j

-- so is each book behind it
abbrev pub StaysOf : Site → State → Type 0
StaysOf site b = (h : List Event) → IsOf site (replay b h)

pub later_of : (site : Site) (b : State) (h : List Event) → StaysOf site b
    → StaysOf site (replay b h)
later_of site b h stays k = subst (IsOf site) (replay-append b h k) (stays (h ++ k))

module _ (laws : Laws) (site : Site) (entries : List Entry) where
  abbrev new_book : State
  new_book = opened (opening_of site entries 0)

  pub new_of : StaysOf site new_book
  new_of h =
      let door = above h in
      let free = laws.begins site entries 0 door h (none_above h door (le_refl door)) in
      record {
        services = free.services;
        places = free.places;
        runs = free.runs;
        single = laws.single (opening_of site entries 0) h;
      }

  pub new_free : (c : ℕ) → instance_of new_book c ≡ None
  new_free c = (laws.begins site entries 0 c [] refl).free

-- ---- a quit

holder_is : (door : ℕ) (holder : Option ℕ) → is_of door holder ≡ true → holder ≡ Some door
holder_is door None is = absurd cc
holder_is door (Some other) is = ap (λ (n : ℕ). Some n) (grind (arith, nat_tests, is))

stands_at : (door : ℕ) (doors : List (Option ℕ)) (i : ℕ) → position (is_of door) doors ≡ Some i
    → slice_get doors i ≡ Some (Some door)
stands_at door doors i is =
    let at = position-Some (is_of door) doors i None is in
    slice_get-get_or doors i None at.0
    ∙ ap (λ (h : Option ℕ). Some h) (holder_is door (get_or doors i None) at.1)

-- where somebody stands behind a place that was cleared, it is another one, and he stood there
cleared : {X : Type 0} → (xs : List (Option X)) (i j : ℕ) (x : X)
    → slice_get (slice_set xs i None) j ≡ Some (Some x)
    → (i ≡ j → ⊥) × (slice_get xs j ≡ Some (Some x))
cleared [] i j x is = absurd (cc is)
cleared (y ∷ xs) zero zero x is = absurd (cc is)
cleared (y ∷ xs) zero (suc j) x is = (λ same. absurd (omega (arith, same)), is)
cleared (y ∷ xs) (suc i) zero x is = (λ same. absurd (omega (arith, same)), is)
cleared (y ∷ xs) (suc i) (suc j) x is =
    let rest = cleared xs i j x is in (λ same. rest.0 (omega (arith, same)), rest.1)

pub quit_frees : (site : Site) (b : State) (c : ℕ) → IsOf site b
    → instance_of (after b (quit c)) c ≡ None
quit_frees site b c is_of_site = by_place (instance_of b c) refl
  where
    by_found : (i : ℕ) → instance_of b c ≡ Some i → (o : Option ℕ)
        → position (is_of c) (slice_set b.doors i None) ≡ o → o ≡ None
    by_found i had None found = refl
    by_found i had (Some j) found =
        let there = cleared b.doors i j c (stands_at c (slice_set b.doors i None) j found) in
        absurd (there.0 (is_of_site.single c i j (stands_at c b.doors i had) there.1))

    by_place : (o : Option ℕ) → instance_of b c ≡ o
        → position (is_of c) (option_map_or (λ place. slice_set b.doors place None) o b.doors)
        ≡ None
    by_place None had = had
    by_place (Some i) had = by_found i had (position (is_of c) (slice_set b.doors i None)) refl
