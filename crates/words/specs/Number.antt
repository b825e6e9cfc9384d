-- A word that is a number of a range.
use Rattle.std.proofs.Common.{◌≡◌, ℕ, zero, suc, ◌<◌, ◌≤◌, ◌^◌, min, Bool, true, false, not, ◌&&◌}
use Rattle.std.proofs.Common.{◌||◌, ◌==◌, if◌then◌else◌, nat_le, List, length, Option, Some, None}
use Rattle.std.proofs.Common.{refl, sym, ap, subst, arith, eq-eqb, slice_index}
use Rattle.std.proofs.lemmas.Bool.{and_parts, eqb-true, leb-true, le-leb}
use Rattle.std.proofs.lemmas.Fmt.{digits_decimal, digits_value-decimal, decimal_nonempty}
use Rattle.std.proofs.lemmas.Fmt.{first_decimal, decimal_digit, decimal-digits_value}
use Rattle.std.proofs.lemmas.Str.Parse.{IsNumeralModel, IsDigitsTest, numerals_by_value}
use Rattle.std.specs.Char.{is_ascii_digit}
use Rattle.std.specs.Fmt.{decimal}
use Rattle.std.specs.List.{list_all}
use Rattle.std.specs.Str.Parse.{digits_value}
use Rattle.words.specs.Alphabet.{Of, of_all}
use Rattle.words.specs.Kind.{Kind}
use Rattle.words.specs.Steps.{if_some, or_left, or_right}

-- decimal digits without sign and without leading zeros
abbrev pub is_number : List ℕ → Bool
is_number w = nat_le 1 (length w) && (list_all is_ascii_digit w
    && (length w == 1 || not (slice_index w 0 == 48)))

-- the greatest number of a range, of 64 bits
abbrev pub capped : ℕ → ℕ
capped most = min most 18446744073709551615

abbrev pub number_read : ℕ → ℕ → List ℕ → Option ℕ
number_read least most w =
    if is_number w && (nat_le least (digits_value 10 w) && nat_le (digits_value 10 w) (capped most))
    then Some (digits_value 10 w) else None

abbrev pub IsWithin : ℕ → ℕ → ℕ → Type 0
IsWithin least most n = (least ≤ n) × (n ≤ capped most)

all_ascii : List ℕ → Type 0
all_ascii ds = list_all is_ascii_digit ds ≡ true

and_so : (a b : Bool) → a ≡ true → b ≡ true → (a && b) ≡ true
and_so true b e f = f
and_so false b e f = absurd cc

pub tells : IsDigitsTest (λ ds. list_all is_ascii_digit ds ≡ true)
tells = record {
  empty = refl;
  parts = λ c cs e. let k = and_parts (is_ascii_digit c) (list_all is_ascii_digit cs) e in
      let m = and_parts (nat_le 48 c) (nat_le c 57) k.0 in
      ((leb-true 48 c m.0, leb-true c 57 m.1), k.1);
  more = λ c cs k e. and_so (is_ascii_digit c) (list_all is_ascii_digit cs)
      (and_so (nat_le 48 c) (nat_le c 57) (le-leb 48 c k.0) (le-leb c 57 k.1)) e;
}

pub model : IsNumeralModel (λ ds. list_all is_ascii_digit ds ≡ true) (digits_value 10)
model = numerals_by_value (λ ds. list_all is_ascii_digit ds ≡ true) tells

no_zero : (n x : ℕ) → (n == 1 || not (x == 48)) ≡ true → x ≡ 48 → n ≡ 1
no_zero n x e same = elim (n == 1) as (λ b. (n == 1) ≡ b → (b || not (x == 48)) ≡ true → n ≡ 1) [
  | true ↦ λ is h. eqb-true n 1 is
  | false ↦ λ is h. absurd (apart (x == 48) (eq-eqb x 48 same) h)
] refl e
  where
    apart : (b : Bool) → b ≡ true → not b ≡ true → ⊥
    apart true is e = cc
    apart false is e = cc

-- a number's word is what is written of it
pub is_decimal : (w : List ℕ) → is_number w ≡ true → digits_value 10 w ≤ 18446744073709551615
    → w ≡ decimal (digits_value 10 w)
is_decimal w e small =
    let h = and_parts (nat_le 1 (length w)) (list_all is_ascii_digit w
    && (length w == 1 || not (slice_index w 0 == 48))) e in
    let g = and_parts (list_all is_ascii_digit w) (length w == 1 || not (slice_index w 0 == 48)) h.1
    in
    sym (decimal-digits_value model w g.0 (omega (arith, leb-true 1 (length w) h.0))
    (λ same. no_zero (length w) (slice_index w 0) g.1 same) (omega (arith, small)))

pub number_of_decimal : (n : ℕ) → n < 2 ^ 64 → is_number (decimal n) ≡ true
number_of_decimal n small =
    and_so (nat_le 1 (length (decimal n))) (list_all is_ascii_digit (decimal n)
    && (length (decimal n) == 1 || not (slice_index (decimal n) 0 == 48)))
    (le-leb 1 (length (decimal n)) (omega (arith, decimal_nonempty n small)))
    (and_so (list_all is_ascii_digit (decimal n)) (length (decimal n) == 1
    || not (slice_index (decimal n) 0 == 48)) (digits_decimal model n small) (lead n small))
  where
    lead : (n : ℕ) → n < 2 ^ 64 → (length (decimal n) == 1 || not (slice_index (decimal n) 0 == 48))
        ≡ true
    lead zero small = or_left (length (decimal zero) == 1)
        (not (slice_index (decimal zero) 0 == 48))
        (eq-eqb (length (decimal zero)) 1 (ap length (decimal_digit zero (omega arith))))
    lead (suc n) small =
        or_right (length (decimal (suc n)) == 1) (not (slice_index (decimal (suc n)) 0 == 48))
        (other (slice_index (decimal (suc n)) 0) (first_decimal (suc n) (omega arith) small))
      where
        other : (x : ℕ) → 48 < x → not (x == 48) ≡ true
        other x above = elim (x == 48) as (λ b. (x == 48) ≡ b
            → not b ≡ true) [
              | true ↦ λ e. absurd (omega (arith, eqb-true x 48 e))
              | false ↦ λ e.
                  refl
            ] refl

module _ (least most : ℕ) where
  pub number_spelled : (w : List ℕ) (n : ℕ) → number_read least most w ≡ Some n
      → IsWithin least most n × (w ≡ decimal n)
  number_spelled w n e =
      let v = digits_value 10 w in
      let found = if_some (is_number w && (nat_le least v && nat_le v (capped most))) v n e in
      let h = and_parts (is_number w) (nat_le least v && nat_le v (capped most)) found.0 in
      let g = and_parts (nat_le least v) (nat_le v (capped most)) h.1 in
      subst (λ n. IsWithin least most n × (w ≡ decimal n)) found.1 (
        (leb-true least v g.0, leb-true v (capped most) g.1),
        is_decimal w h.0 (omega (arith, leb-true v (capped most) g.1)),
      )

  pub number_again : (w : List ℕ) (n : ℕ) → IsWithin least most n → w ≡ decimal n
      → number_read least most w ≡ Some n
  number_again w n fits e =
      let small : n < 2 ^ 64 = omega (arith, fits.1) in
      let value = digits_value-decimal model n small in
      rw (
        e,
        number_of_decimal n small,
        value,
        le-leb least n fits.0,
        le-leb n (capped most) fits.1,
      ) refl

  pub number_clean : (w : List ℕ) (n : ℕ) → IsWithin least most n → w ≡ decimal n
      → Of is_ascii_digit w
  number_clean w n fits e = subst (Of is_ascii_digit) (sym e)
      (of_all is_ascii_digit (decimal n) (digits_decimal model n (omega (arith, fits.1))))

  abbrev pub number : Kind ℕ
  number = record {
    read = number_read least most;
    write = decimal;
    Fits = IsWithin least most;
    Spells = λ n w. w ≡ decimal n;
    alphabet = is_ascii_digit;
    is_spelled = number_spelled;
    is_read = number_again;
    canonical = λ n fits. refl;
    clean = number_clean;
  }
