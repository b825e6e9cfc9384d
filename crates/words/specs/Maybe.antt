-- One of two rows, and a row of one word at most.
use Rattle.std.proofs.Common.{◌≡◌, ℕ, suc, ◌≤◌, ◌⊎◌, inl, inr, min, max, Bool, true, false, ◌||◌}
use Rattle.std.proofs.Common.{nat_le, List, length, Option, Some, None, refl, subst, arith}
use Rattle.std.proofs.lemmas.Bool.{leb-true}
use Rattle.words.specs.Alphabet.{EachOf, each_of_more}
use Rattle.words.specs.Either.{on_either, either_of, or_else}
use Rattle.words.specs.Kind.{Kind}
use Rattle.words.specs.Last.{last}
use Rattle.words.specs.Row.{Row, nothing, row_as}
use Rattle.words.specs.Steps.{some_bind, some_is, or_left, or_right}

-- one of two rows, the first that is read
module _ {X Y : Type 0} (r : Row X) (s : Row Y) (apart : (ws : List (List ℕ)) (y : Y) → s.Fits y
    → s.Spells y ws → r.read ws ≡ None) where
  rows_spelled : (ws : List (List ℕ)) (z : X ⊎ Y) (o : Option X) → r.read ws ≡ o
      → or_else o (s.read ws) ≡ Some z → on_either r.Fits s.Fits z
      × on_either (λ x. r.Spells x ws) (λ y. s.Spells y ws) z
  rows_spelled ws z (Some x) is e = subst (λ z. on_either r.Fits s.Fits z
      × on_either (λ x. r.Spells x ws) (λ y. s.Spells y ws) z) (some_is (inl x) z e)
      (r.is_spelled ws x is)
  rows_spelled ws z None is e =
      let read = some_bind (s.read ws) (λ y. Some (inr y)) z e in
      subst (λ z. on_either r.Fits s.Fits z × on_either (λ x. r.Spells x ws) (λ y. s.Spells y ws) z)
      (some_is (inr read.0) z read.2) (s.is_spelled ws read.0 read.1)

  pub rows_is : (ws : List (List ℕ)) (z : X ⊎ Y) → or_else (r.read ws) (s.read ws) ≡ Some z
      → on_either r.Fits s.Fits z × on_either (λ x. r.Spells x ws) (λ y. s.Spells y ws) z
  rows_is ws z e = rows_spelled ws z (r.read ws) refl e

  pub rows_again : (ws : List (List ℕ)) (z : X ⊎ Y) → on_either r.Fits s.Fits z
      → on_either (λ x. r.Spells x ws) (λ y. s.Spells y ws) z
      → or_else (r.read ws) (s.read ws) ≡ Some z
  rows_again ws (inl x) fits e = rw (r.is_read ws x fits e) refl
  rows_again ws (inr y) fits e = rw (apart ws y fits e, s.is_read ws y fits e) refl

  pub rows_canonical : (z : X ⊎ Y) → on_either r.Fits s.Fits z
      → on_either (λ x. r.Spells x (either_of r.write s.write z))
      (λ y. s.Spells y (either_of r.write s.write z)) z
  rows_canonical (inl x) fits = r.canonical x fits
  rows_canonical (inr y) fits = s.canonical y fits

  pub rows_clean : (ws : List (List ℕ)) (z : X ⊎ Y) → on_either r.Fits s.Fits z
      → on_either (λ x. r.Spells x ws) (λ y. s.Spells y ws) z
      → EachOf (λ c. r.alphabet c || s.alphabet c) ws
  rows_clean ws (inl x) fits e = each_of_more r.alphabet (λ c. r.alphabet c || s.alphabet c)
      (λ c h. or_left (r.alphabet c) (s.alphabet c) h) ws (r.clean ws x fits e)
  rows_clean ws (inr y) fits e = each_of_more s.alphabet (λ c. r.alphabet c || s.alphabet c)
      (λ c h. or_right (r.alphabet c) (s.alphabet c) h) ws (s.clean ws y fits e)

  pub rows_counted : (ws : List (List ℕ)) (z : X ⊎ Y) → on_either r.Fits s.Fits z
      → on_either (λ x. r.Spells x ws) (λ y. s.Spells y ws) z
      → (min r.least s.least ≤ length ws) × (length ws ≤ max r.most s.most)
  rows_counted ws (inl x) fits e = let n = r.counted ws x fits e in
      (omega (arith, n.0), omega (arith, n.1))
  rows_counted ws (inr y) fits e = let n = s.counted ws y fits e in
      (omega (arith, n.0), omega (arith, n.1))

  abbrev pub one_of : Row (X ⊎ Y)
  one_of = record {
    read = λ ws. or_else (r.read ws) (s.read ws);
    write = either_of r.write s.write;
    Fits = on_either r.Fits s.Fits;
    Spells = λ z ws. on_either (λ x. r.Spells x ws) (λ y. s.Spells y ws) z;
    alphabet = λ c. r.alphabet c || s.alphabet c;
    least = min r.least s.least;
    most = max r.most s.most;
    is_spelled = rows_is;
    is_read = rows_again;
    canonical = rows_canonical;
    clean = rows_clean;
    counted = rows_counted;
  }

abbrev pub option_of : {X : Type 0} → Unit {0} ⊎ X → Option X
option_of (inl n) = None
option_of (inr x) = Some x

abbrev pub side_of : {X : Type 0} → Option X → Unit {0} ⊎ X
side_of None = inl tt
side_of (Some x) = inr x

pub option_there : {X : Type 0} → (o : Option X) → option_of (side_of o) ≡ o
option_there None = refl
option_there (Some x) = refl

pub side_back : {X : Type 0} → (s : Unit {0} ⊎ X) → side_of (option_of s) ≡ s
side_back (inl n) = refl
side_back (inr x) = refl

-- rows with other numbers of words
pub apart_by_count : {X Y : Type 0} (r : Row X) (s : Row Y)
    → (nat_le (suc s.most) r.least || nat_le (suc r.most) s.least) ≡ true
    → (ws : List (List ℕ)) (y : Y) → s.Fits y → s.Spells y ws → r.read ws ≡ None
apart_by_count {X} r s e ws y fits spells =
    elim (r.read ws) as (λ o. r.read ws ≡ o → o ≡ None) [
      | None ↦ λ is. refl
      | Some x ↦ λ is.
          let h = r.is_spelled ws x is in
          let n = r.counted ws x h.0 h.1 in
          let m = s.counted ws y fits spells in
          absurd (no (nat_le (suc s.most) r.least) (nat_le (suc r.most) s.least) refl refl e n.0 n.1
          m.0 m.1)
    ] refl
  where
    no : (a b : Bool) → nat_le (suc s.most) r.least ≡ a → nat_le (suc r.most) s.least ≡ b
        → (a || b) ≡ true → r.least ≤ length ws → length ws ≤ r.most → s.least ≤ length ws
        → length ws ≤ s.most → ⊥
    no true b is as_well e p q u v = omega (arith, leb-true (suc s.most) r.least is, p, v)
    no false true is as_well e p q u v = omega (arith, leb-true (suc r.most) s.least as_well, q, u)
    no false false is as_well e p q u v = cc

-- one word at most
abbrev pub maybe : {X : Type 0} → Kind X → Row (Option X)
maybe k = row_as (one_of nothing (last k) (apart_by_count nothing (last k) refl))
    (record { to = option_of; from = side_of; there = option_there; back = side_back })
