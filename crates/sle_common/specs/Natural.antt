-- An INTEGER (X.690 8.3) that isn't negative, as the number that it is.
use Rattle.std.proofs.Common.{◌≡◌, ℕ, ℤ, pos, negsuc, ◌+◌, ◌^◌, ◌<◌, ◌≤◌, true, false, nat_lt, List}
use Rattle.std.proofs.Common.{refl, arith}
use Rattle.std.proofs.lemmas.Int.{ints}
use Rattle.ber_shape.specs.Content.{InRange, integer}
use Rattle.ber_shape.specs.Identifier.{is_identifier}
use Rattle.ber_shape.specs.Element.{Element, simple}
use Rattle.ber_shape.specs.Same.{element_where}

pub record IsBetween (least greatest n : ℕ) : Type 0 where
  pub least_so : least ≤ n
  pub greatest_so : n ≤ greatest

abbrev pub magnitude : ℤ → ℕ
magnitude (pos n) = n
magnitude (negsuc n) = n + 1

pub natural_there : (least greatest n : ℕ) → nat_lt greatest (2 ^ 64) ≡ true
    → IsBetween least greatest n → InRange (pos least) (pos greatest) (pos n)
    × (magnitude (pos n) ≡ n)
natural_there least greatest n small holds =
    let below : greatest < 2 ^ 64 = grind arith in (
      record {
        bits = record {
          least = omega (arith, ints);
          greatest = omega (arith, ints, holds.greatest_so);
        };
        least_so = omega (arith, ints, holds.least_so);
        greatest_so = omega (arith, ints, holds.greatest_so);
      },
      refl,
    )

pub natural_back : (least greatest : ℕ) (z : ℤ) → InRange (pos least) (pos greatest) z
    → IsBetween least greatest (magnitude z) × (pos (magnitude z) ≡ z)
natural_back least greatest (pos n) fits =
    let low = fits.least_so in
    let high = fits.greatest_so in
    (record { least_so = omega (arith, ints); greatest_so = omega (arith, ints) }, refl)
natural_back least greatest (negsuc n) fits = let low = fits.least_so in
    absurd (omega (arith, ints))

-- from least to greatest
abbrev pub natural : (tag : List ℕ) (least greatest : ℕ) → is_identifier false tag ≡ true
    → nat_lt greatest (2 ^ 64) ≡ true → Element ℕ
natural tag least greatest whole small = element_where
    (simple tag (integer (pos least) (pos greatest)) whole) (record {
      to = magnitude;
      from = pos;
      Holds = IsBetween least greatest;
      there = λ n holds. natural_there least greatest n small holds;
      back = natural_back least greatest;
    })
