-- The labels of attributes: none begins another, and how much of one stands at the front of a text.
use Rattle.std.proofs.Common.{◌≡◌, ℕ, zero, suc, ◌+◌, ◌≤◌, ◌<◌, max, ◌⊎◌, inl, inr, true, false}
use Rattle.std.proofs.Common.{cond, nat_eq, Option, Some, List, [], ◌∷◌, ◌++◌, length, take, get_or}
use Rattle.std.proofs.Common.{refl, sym, ◌∙◌, ap, subst, arith, eq-eqb}
use Rattle.std.specs.List.{common_prefix_len, starts_with, find}
use Rattle.std.proofs.lemmas.Bool.{eqb-true, cases_lt}
use Rattle.sle_common.specs.declared.attribute.Attribute.{Attribute}
use Rattle.sle_common.specs.declared.attribute.Attribute.TheVariants.{Sagr, Spack, RslFg, FslFg}
use Rattle.sle_common.specs.declared.attribute.Attribute.TheVariants.{Raf, Rcf, Rocf, Cltu}
use Rattle.sle_common.specs.Attribute.{label_of, attributes}
use Rattle.sle_common.specs.TextParts.{shared, IsLongestLabel}

found : List ℕ → Option Attribute
found text = find (λ attribute. starts_with nat_eq text (label_of attribute)) attributes

found_label : (attribute : Attribute) (text : List ℕ)
    → found (label_of attribute ++ text) ≡ Some attribute
unfolding found
found_label Sagr text = refl
found_label Spack text = refl
found_label RslFg text = refl
found_label FslFg text = refl
found_label Raf text = refl
found_label Rcf text = refl
found_label Rocf text = refl
found_label Cltu text = refl

some_is : (a b : Attribute) → ◌≡◌ {A = Option Attribute} (Some a) (Some b) → a ≡ b
some_is a b e = cc

-- two labels at the front of one text are one
pub one_label : (a b : Attribute) (text other : List ℕ) → label_of a ++ text ≡ label_of b ++ other
    → a ≡ b
one_label a b text other e = some_is a b (sym (found_label a text) ∙ ap found e
    ∙ found_label b other)

cons_is : (x y : ℕ) (xs ys : List ℕ) → x ∷ xs ≡ y ∷ ys → (x ≡ y) × (xs ≡ ys)
cons_is x y xs ys e = (cc, cc)

-- The text's first m octets and these begin alike: they share as many, or all of these stand in the
-- text.
pub shared_at_least : (xs rest text more : List ℕ) (m : ℕ) → m ≤ length text
    → xs ++ rest ≡ take m text ++ more
    → (m ≤ common_prefix_len nat_eq xs text) ⊎ (common_prefix_len nat_eq xs text ≡ length xs)
shared_at_least [] rest text more m within e = inr refl
shared_at_least (x ∷ xs) rest text more zero within e = inl (omega arith)
shared_at_least (x ∷ xs) rest [] more (suc m) within e = absurd (omega (arith, within))
shared_at_least (x ∷ xs) rest (y ∷ text) more (suc m) within e =
    let (same, others) = cons_is x y (xs ++ rest) (take m text ++ more) e in
    let test : nat_eq x y ≡ true = eq-eqb x y same in
    elim (shared_at_least xs rest text more m (omega (arith, within)) others) [
      | inl more_shared ↦ inl (rw test (omega (arith, more_shared)))
      | inr all ↦ inr (rw test (omega (arith, all)))
    ]

-- a text that begins with all of them
pub shared_whole : (xs rest : List ℕ) → common_prefix_len nat_eq xs (xs ++ rest) ≡ length xs
shared_whole [] rest = refl
shared_whole (x ∷ xs) rest =
    let test : nat_eq x x ≡ true = eq-eqb x x refl in
    rw test (omega (arith, shared_whole xs rest))

-- what they share stands in both
pub take-shared : (xs text : List ℕ) → take (common_prefix_len nat_eq xs text) text
    ≡ take (common_prefix_len nat_eq xs text) xs
take-shared [] text = refl
take-shared (x ∷ xs) [] = refl
take-shared (x ∷ xs) (y ∷ text) =
    elim (nat_eq x y) as (λ test. nat_eq x y ≡ test
    → take (cond test (1 + common_prefix_len nat_eq xs text) 0) (y ∷ text)
    ≡ take (cond test (1 + common_prefix_len nat_eq xs text) 0) (x ∷ xs)) [
      | true ↦ λ same. grind (arith, eqb-true x y same, take-shared xs text)
      | false ↦ λ other. refl
    ] refl

-- ---- the attributes one after another

pub record IsShort (text : List ℕ) (longest : ℕ) (attribute : Attribute) : Type 0 where
  pub upto : shared attribute text ≤ longest
  pub none : shared attribute text < length (label_of attribute)

pub record HasTried (text : List ℕ) (tried longest : ℕ) : Type 0 where
  pub reached : (longest ≡ 0) ⊎ ((attribute : Attribute) × (longest ≡ shared attribute text))
  pub short : (k : ℕ) → k < tried → IsShort text longest (get_or attributes k Sagr)

pub none_tried : (text : List ℕ) → HasTried text 0 0
none_tried text = record { reached = inl refl; short = λ k below. absurd (omega (arith, below)) }

pub all_tried : (text : List ℕ) (longest : ℕ) → HasTried text 8 longest
    → IsLongestLabel text longest
all_tried text longest tried = record {
  reached = tried.reached;
  longest = λ a. (short a).upto;
  none = λ a. (short a).none;
}
  where
    short : (a : Attribute) → IsShort text longest a
    short Sagr = tried.short 0 (omega arith)
    short Spack = tried.short 1 (omega arith)
    short RslFg = tried.short 2 (omega arith)
    short FslFg = tried.short 3 (omega arith)
    short Raf = tried.short 4 (omega arith)
    short Rcf = tried.short 5 (omega arith)
    short Rocf = tried.short 6 (omega arith)
    short Cltu = tried.short 7 (omega arith)

pub one_tried : (text : List ℕ) (tried longest new : ℕ) (attribute : Attribute)
    → HasTried text tried longest → get_or attributes tried Sagr ≡ attribute
    → shared attribute text < length (label_of attribute)
    → new ≡ max longest (shared attribute text) → HasTried text (tried + 1) new
one_tried text tried longest new attribute before is none greatest =
    record {
      reached = reached (cases_lt longest (shared attribute text)) before.reached;
      short = short;
    }
  where
    reached : (longest < shared attribute text) ⊎ (shared attribute text ≤ longest)
        → (longest ≡ 0) ⊎ ((a : Attribute) × (longest ≡ shared a text))
        → (new ≡ 0) ⊎ ((a : Attribute) × (new ≡ shared a text))
    reached (inl more) r = inr (attribute, omega (arith, greatest, more))
    reached (inr less) (inl none) = inl (omega (arith, greatest, less, none))
    reached (inr less) (inr (a, is)) = inr (a, omega (arith, greatest, less, is))

    raised : (a : Attribute) → IsShort text longest a → IsShort text new a
    raised a short = record { upto = omega (arith, short.upto, greatest); none = short.none }

    here : IsShort text new attribute
    here = record { upto = omega (arith, greatest); none = none }

    by_place : (k : ℕ) → (k < tried) ⊎ (tried ≤ k) → k < tried + 1
        → IsShort text new (get_or attributes k Sagr)
    by_place k (inl below) within = raised (get_or attributes k Sagr) (before.short k below)
    by_place k (inr reached) within =
        let same : tried ≡ k = omega (arith, reached, within) in
        subst (λ k. IsShort text new (get_or attributes k Sagr)) same
        (subst (IsShort text new) (sym is) here)

    short : (k : ℕ) → k < tried + 1 → IsShort text new (get_or attributes k Sagr)
    short k within = by_place k (cases_lt k tried) within
