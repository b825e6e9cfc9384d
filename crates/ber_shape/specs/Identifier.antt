-- Identifier octets (X.690 8.1.2): what is one, and which of several stands next.
use Rattle.std.proofs.Common.{◌≡◌, ℕ, ◌%◌, Bool, true, false, not, ◌&&◌, ◌||◌, ◌==◌, if◌then◌else◌}
use Rattle.std.proofs.Common.{nat_eq, nat_lt, List, [], ◌∷◌, ◌++◌, length, drop, get_or, Some}
use Rattle.std.proofs.Common.{Result, Ok, Err, ◌⊎◌, inl, inr, refl, sym, ◌∙◌, ap, arith}
use Rattle.std.specs.List.{starts_with, list_all}
use Rattle.std.proofs.lemmas.Bool.{ltb-true}
use Rattle.std.proofs.lemmas.Bool.Decides.{nat_tests}
use Rattle.ber_core.specs.declared.fault.BerFault.{BerFault}
use Rattle.ber_core.specs.Length.{IsOctets}
use Rattle.ber_core.specs.Tree.{first_identifier, begins_number, through_last, is_constructed}
use Rattle.ber_core.specs.Tree.{IsTag}
use Rattle.ber_core.specs.View.{View, left}
use Rattle.ber_core.specs.Reading.{next_content}
use Rattle.ber_core.specs.Facts.Found.{front_of}
use Rattle.ber_shape.specs.Results.{err_ok, chosen}

-- ---- what is one

-- the octets of a number end with it
abbrev pub ends_number : List ℕ → Bool
ends_number [] = false
ends_number (octet ∷ []) = nat_lt octet 128
ends_number (octet ∷ next ∷ octets) = not (nat_lt octet 128) && ends_number (next ∷ octets)

abbrev pub is_whole : List ℕ → Bool
is_whole [] = false
is_whole (first ∷ []) = not (first % 32 == 31)
is_whole (first ∷ next ∷ octets) = first % 32 == 31 && begins_number (next ∷ octets)
    && ends_number (next ∷ octets)

abbrev pub has_form : Bool → List ℕ → Bool
has_form true tag = is_constructed tag
has_form false tag = not (is_constructed tag)

-- one whole identifier, of a constructed element or of a primitive one
abbrev pub is_identifier : Bool → List ℕ → Bool
is_identifier of_constructed tag = is_whole tag && list_all (λ octet. nat_lt octet 256) tag
    && has_form of_constructed tag

pub both : (a b : Bool) → (a && b) ≡ true → (a ≡ true) × (b ≡ true)
both true b e = (refl, e)
both false b e = cc

pub not_false : (a : Bool) → not a ≡ true → a ≡ false
not_false true e = cc
not_false false e = refl

through_whole : (octet : ℕ) (octets : List ℕ) → ends_number (octet ∷ octets) ≡ true
    → through_last (octet ∷ octets) ≡ Some (octet ∷ octets)
through_whole octet [] e = rw e refl
through_whole octet (next ∷ octets) e =
    let h = both (not (nat_lt octet 128)) (ends_number (next ∷ octets)) e in
    rw (not_false (nat_lt octet 128) h.0, through_whole next octets h.1) refl

first_whole : (tag : List ℕ) → is_whole tag ≡ true → first_identifier tag ≡ Some tag
unfolding first_identifier
first_whole [] e = cc
first_whole (first ∷ []) e = rw e refl
first_whole (first ∷ next ∷ octets) e =
    let h = both (first % 32 == 31 && begins_number (next ∷ octets)) (ends_number (next ∷ octets)) e
    in
    let g = both (first % 32 == 31) (begins_number (next ∷ octets)) h.0 in
    rw (g.0, g.1, through_whole next octets h.1) refl

below : (octets : List ℕ) → list_all (λ octet. nat_lt octet 256) octets ≡ true → IsOctets octets
below [] e = tt
below (octet ∷ octets) e =
    let h = both (nat_lt octet 256) (list_all (λ octet. nat_lt octet 256) octets) e in
    (ltb-true octet 256 h.0, below octets h.1)

formed : (of_constructed : Bool) (tag : List ℕ) → has_form of_constructed tag ≡ true
    → is_constructed tag ≡ of_constructed
formed true tag e = e
formed false tag e = not_false (is_constructed tag) e

pub identifier_so : (of_constructed : Bool) (tag : List ℕ) → is_identifier of_constructed tag ≡ true
    → IsTag tag of_constructed
identifier_so of_constructed tag e =
    let h = both (is_whole tag && list_all (λ octet. nat_lt octet 256) tag)
    (has_form of_constructed tag) e in
    let g = both (is_whole tag) (list_all (λ octet. nat_lt octet 256) tag) h.0 in
    record {
      octets_all = below tag g.1;
      whole = first_whole tag g.0;
      bit = formed of_constructed tag h.1;
    }

-- ---- which of several stands next

-- the octets begin with one of these identifiers
abbrev pub begin_with : List (List ℕ) → List ℕ → Bool
begin_with [] octets = false
begin_with (tag ∷ tags) octets = starts_with nat_eq octets tag || begin_with tags octets

-- neither of two begins the other
abbrev pub are_apart : List ℕ → List ℕ → Bool
are_apart tag other = not (starts_with nat_eq other tag) && not (starts_with nat_eq tag other)

-- this identifier is none of those
abbrev pub is_apart : List ℕ → List (List ℕ) → Bool
is_apart tag [] = true
is_apart tag (other ∷ others) = are_apart tag other && is_apart tag others

-- an element that is found begins with its identifier
pub found_begins : (view : View) (tag : List ℕ) (found : ℕ × List ℕ)
    → next_content view tag ≡ Ok found → starts_with nat_eq (left view) tag ≡ true
unfolding next_content
found_begins view tag found e =
    elim (chosen (starts_with nat_eq (left view) tag) _ _ (Ok found) e) [
      | inl h ↦ h.0
      | inr h ↦ absurd (refused (starts_with nat_eq tag (left view)) _ _ found h.1)
    ]
  where
    refused : {A : Type 0} (test : Bool) (fault unlike : BerFault) (x : A)
        → ◌≡◌ {A = Result A BerFault} (if test then Err fault else Err unlike) (Ok x) → ⊥
    refused true fault unlike x e = err_ok fault x e
    refused false fault unlike x e = err_ok unlike x e

eq_self : (n : ℕ) → nat_eq n n ≡ true
eq_self n = grind (arith, nat_tests)

one_begins_other : (tag other x y : List ℕ) → tag ++ x ≡ other ++ y
    → (starts_with nat_eq other tag ≡ true) ⊎ (starts_with nat_eq tag other ≡ true)
one_begins_other [] other x y e = inl refl
one_begins_other (first ∷ tag) [] x y e = inr refl
one_begins_other (first ∷ tag) (second ∷ other) x y e =
    let same : first ≡ second = ap (λ octets. get_or octets 0 0) e in
    let behind : tag ++ x ≡ other ++ y = ap (drop 1) e in
    elim (one_begins_other tag other x y behind) [
      | inl h ↦ inl (rw (same, eq_self second) h)
      | inr h ↦ inr (rw (same, eq_self second) h)
    ]

not_both : (tag other octets : List ℕ) → are_apart tag other ≡ true
    → starts_with nat_eq octets other ≡ true → starts_with nat_eq octets tag ≡ true → ⊥
not_both tag other octets apart begins_other begins_tag =
    let h = both (not (starts_with nat_eq other tag)) (not (starts_with nat_eq tag other)) apart in
    elim (one_begins_other tag other (drop (length tag) octets) (drop (length other) octets)
    (sym (front_of octets tag begins_tag) ∙ front_of octets other begins_other)) [
      | inl so ↦ true_false (sym so ∙ not_false (starts_with nat_eq other tag) h.0)
      | inr so ↦ true_false (sym so ∙ not_false (starts_with nat_eq tag other) h.1)
    ]
  where
    true_false : true ≡ false → ⊥
    true_false e = cc

or_true : (a b : Bool) → (a || b) ≡ true → (a ≡ true) ⊎ (b ≡ true)
or_true true b e = inl refl
or_true false b e = inr e

pub or_more : (a b : Bool) → b ≡ true → (a || b) ≡ true
or_more true b e = refl
or_more false b e = e

pub or_first : (a b : Bool) → a ≡ true → (a || b) ≡ true
or_first true b e = refl
or_first false b e = cc

pub or_alone : (a : Bool) → (a || false) ≡ true → a ≡ true
or_alone true e = refl
or_alone false e = e

never : (a : Bool) → (a ≡ true → ⊥) → a ≡ false
never true no_way = absurd (no_way refl)
never false no_way = refl

-- where one of those stands next, this one doesn't
pub apart_so : (tag : List ℕ) (others : List (List ℕ)) (octets : List ℕ)
    → is_apart tag others ≡ true → begin_with others octets ≡ true
    → starts_with nat_eq octets tag ≡ false
apart_so tag [] octets apart e = cc
apart_so tag (other ∷ others) octets apart e =
    let h = both (are_apart tag other) (is_apart tag others) apart in
    elim (or_true (starts_with nat_eq octets other) (begin_with others octets) e) [
      | inl begins ↦ never (starts_with nat_eq octets tag) (not_both tag other octets h.0 begins)
      | inr begin ↦ apart_so tag others octets h.1 begin
    ]
