-- What a look gives is of the archive.
use Rattle.std.proofs.Common.{◌≡◌, ℕ, zero, suc, ◌+◌, ◌^◌, ◌<◌, Bool, true, List, [], ◌∷◌, length}
use Rattle.std.proofs.Common.{map, take, Option, refl, arith}
use Rattle.std.specs.List.{list_all, filter, enumerate_from}
use Rattle.std.specs.Option.{option_or}
use Rattle.std.proofs.lemmas.Bool.{and_parts}
use Rattle.archive_terms.specs.Archive.{Entry, is_storable, is_archive}
use Rattle.archive_terms.specs.Delivery.{archived, archived_items}
use Rattle.archive_terms.specs.Continuity.{told_items, frame_place}
use Rattle.archive_terms.specs.Glimpse.{Want, wants_nothing, wants_front, wants_items, glimpse}
use Rattle.archive_terms.specs.Glimpse.{given_of}
use Rattle.frame_select.specs.Item.{said_of}
use Rattle.frame_select.specs.Glimpse.{as_said}
use Rattle.return_core.specs.Item.{is_of_archive, are_of_archive}

abbrev is_near : ℕ × Entry → Bool
is_near x = is_of_archive (archived x.0 x.1)

all_filter : {X : Type 0} → (p q : X → Bool) (xs : List X) → list_all p xs ≡ true
    → list_all p (filter q xs) ≡ true
all_filter p q [] all = refl
all_filter p q (x ∷ xs) all = grind (arith, all_filter p q xs)

all_take : {X : Type 0} → (p : X → Bool) (n : ℕ) (xs : List X) → list_all p xs ≡ true
    → list_all p (take n xs) ≡ true
all_take p zero xs all = refl
all_take p (suc n) [] all = refl
all_take p (suc n) (x ∷ xs) all = grind (arith, all_take p n xs)

numbered : (n : ℕ) (entries : List Entry) → list_all is_storable entries ≡ true
    → n + length entries < 2 ^ 64
    → list_all is_near (enumerate_from n entries) ≡ true
numbered n [] all few = refl
numbered n (entry ∷ entries) all few = grind (arith, numbered (n + 1) entries)

told_near : (all : List Entry) (before : Option ℕ) (xs : List (ℕ × Entry))
    → list_all is_near xs ≡ true
    → are_of_archive (map said_of (told_items all before (archived_items xs))) ≡ true
told_near all before [] near = refl
told_near all before (x ∷ xs) near =
    grind (arith, told_near all (option_or (frame_place (archived x.0 x.1)) before) xs)

pub look_near : (entries : List Entry) (want : Want) → is_archive entries ≡ true
    → length entries < 2 ^ 64
    → are_of_archive (as_said (glimpse entries want)).items ≡ true
look_near entries wants_nothing archive few = refl
look_near entries wants_front archive few = refl
look_near entries (wants_items w) archive few =
    let all = numbered 0 entries (and_parts _ _ archive).0 (omega arith) in
    told_near entries w.since (given_of entries w) (search (all, all_take, all_filter))
