-- The identifier at the front of octets.
use Rattle.std.proofs.Common.{◌≡◌, ℕ, ◌+◌, ◌%◌, ◌<◌, ◌≤◌, true, false, ◌==◌, not, if◌then◌else◌}
use Rattle.std.proofs.Common.{List, [], ◌∷◌, ◌++◌, length, take, drop, get_or, Option, Some, None}
use Rattle.std.proofs.Common.{option_map, refl, sym, ◌∙◌, ap, nat_lt}
use Rattle.std.proofs.lemmas.List.{drop_more, drop_all, take_more, append_assoc}
use Rattle.std.proofs.lemmas.Bool.{lt-ltb, le-ltb}
use Rattle.ber_core.specs.Tree.{begins_number, through_last, first_identifier}

option_map-option_map : {A B C : Type 0} (f : B → C) (g : A → B) (o : Option A)
    → option_map f (option_map g o) ≡ option_map (λ x. f (g x)) o
option_map-option_map f g None = refl
option_map-option_map f g (Some x) = refl

same_map : {A B : Type 0} (f g : A → B) (o : Option A) → ((x : A) → f x ≡ g x)
    → option_map f o ≡ option_map g o
same_map f g None h = refl
same_map f g (Some x) h = ap Some (h x)

-- one step of the search for the last octet of a number
pub through_last-more : (octets : List ℕ) (place : ℕ) → place < length octets
    → 128 ≤ get_or octets place 0
    → through_last octets ≡ option_map (λ rest. take place octets ++ rest)
    (through_last (drop place octets))
    → through_last octets ≡ option_map (λ rest. take (place + 1) octets ++ rest)
    (through_last (drop (place + 1) octets))
through_last-more octets place some high so_far =
    let at : through_last octets ≡ option_map (λ rest. take place octets ++ rest)
    (option_map (λ rest. get_or octets place 0 ∷ rest) (through_last (drop (place + 1) octets)))
    = rw (drop_more octets place 0 some, le-ltb (get_or octets place 0) 128 high) at so_far in
    at ∙ option_map-option_map _ _ (through_last (drop (place + 1) octets))
    ∙ same_map _ _ (through_last (drop (place + 1) octets))
    (λ rest. rw (take_more octets place 0 some, append_assoc) refl)

pub through_last-found : (octets : List ℕ) (place : ℕ) → place < length octets
    → get_or octets place 0 < 128
    → through_last octets ≡ option_map (λ rest. take place octets ++ rest)
    (through_last (drop place octets))
    → through_last octets ≡ Some (take (place + 1) octets)
through_last-found octets place some low so_far =
    let at : through_last octets ≡ Some (take place octets ++ get_or octets place 0 ∷ [])
    = rw (drop_more octets place 0 some, lt-ltb (get_or octets place 0) 128 low) at so_far in
    at ∙ ap Some (sym (take_more octets place 0 some))

pub through_last-none : (octets : List ℕ) (place : ℕ) → length octets ≤ place
    → through_last octets ≡ option_map (λ rest. take place octets ++ rest)
    (through_last (drop place octets)) → through_last octets ≡ None
through_last-none octets place past so_far = rw (drop_all place octets past) at so_far

option_map-same : {A B : Type 0} (f : A → B) (o p : Option A) (z : B)
    → ((y : A) → o ≡ Some y → p ≡ Some y) → option_map f o ≡ Some z → option_map f p ≡ Some z
option_map-same f None p z h e = cc
option_map-same f (Some y) p z h e = ap (option_map f) (h y refl) ∙ e

-- a number that is whole stays so whatever follows
through_last-append : (octets x found : List ℕ) → through_last octets ≡ Some found
    → through_last (octets ++ x) ≡ Some found
through_last-append [] x found e = cc
through_last-append (octet ∷ octets) x found e =
    elim (nat_lt octet 128) as (λ low.
    (if low then Some (octet ∷ []) else option_map (λ rest. octet ∷ rest) (through_last octets))
    ≡ Some found
    → (if low then Some (octet ∷ []) else option_map (λ rest. octet ∷ rest)
    (through_last (octets ++ x))) ≡ Some found) [
      | true ↦ λ h. h
      | false ↦ option_map-same (λ rest. octet ∷ rest) (through_last octets)
          (through_last (octets ++ x)) found (λ y. through_last-append octets x y)
    ] e

-- what stands for the number behind an identifier's first octet
number_of_tag : ℕ → List ℕ → Option (List ℕ)
number_of_tag first octets = if begins_number octets then option_map (λ number. first ∷ number)
    (through_last octets) else None

number_of_tag-append : (first : ℕ) (octets x found : List ℕ)
    → number_of_tag first octets ≡ Some found → number_of_tag first (octets ++ x) ≡ Some found
unfolding number_of_tag
number_of_tag-append first [] x found e = cc
number_of_tag-append first (octet ∷ octets) x found e =
    elim (begins_number (octet ∷ octets)) as (λ begins.
    (if begins then option_map (λ number. first ∷ number) (through_last (octet ∷ octets)) else None)
    ≡ Some found
    → (if begins then option_map (λ number. first ∷ number) (through_last (octet ∷ (octets ++ x)))
    else None) ≡ Some found) [
      | true ↦ option_map-same (λ number. first ∷ number) (through_last (octet ∷ octets))
          (through_last (octet ∷ (octets ++ x))) found
          (λ y. through_last-append (octet ∷ octets) x y)
      | false ↦ λ h. cc
    ] e

pub first_identifier-append : (tag x : List ℕ) → first_identifier tag ≡ Some tag
    → first_identifier (tag ++ x) ≡ Some tag
unfolding first_identifier number_of_tag
first_identifier-append [] x whole = cc
first_identifier-append (first ∷ octets) x whole =
    elim (not (first % 32 == 31)) as (λ single.
    (if single then Some (first ∷ []) else number_of_tag first octets) ≡ Some (first ∷ octets)
    → (if single then Some (first ∷ []) else number_of_tag first (octets ++ x))
    ≡ Some (first ∷ octets)) [
      | true ↦ λ h. h
      | false ↦ number_of_tag-append first octets x (first ∷ octets)
    ] whole

-- two whole identifiers at the front of the same octets are one
pub same_tag : (tag other x y : List ℕ) → first_identifier tag ≡ Some tag
    → first_identifier other ≡ Some other → tag ++ x ≡ other ++ y → tag ≡ other
same_tag tag other x y whole other_whole e =
    let found : Some tag ≡ Some other = sym (first_identifier-append tag x whole)
    ∙ ap first_identifier e ∙ first_identifier-append other y other_whole in
    cc
