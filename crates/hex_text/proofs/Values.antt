-- What a digit is worth.
use Rattle.std.proofs.Common.{◌≡◌, ℕ, ◌<◌, ◌≤◌, Option, Some, None, unwrap_or, refl, sym, ap}
use Rattle.std.proofs.Common.{◌∙◌, arith}
use Rattle.hex.specs.Hex.{hex_digit_value}

-- a digit's value, or 16 for what is no digit
abbrev pub value_of : ℕ → ℕ
value_of c = unwrap_or (hex_digit_value c) 16

value_is_small : (c v : ℕ) → hex_digit_value c ≡ Some v → v < 16
value_is_small c v h = grind (arith)

small_is_some : (o : Option ℕ) (v : ℕ) → v ≡ unwrap_or o 16 → v < 16 → o ≡ Some v
small_is_some (Some w) v e small = ap Some (sym e)
small_is_some None v e small = absurd (omega (arith, e, small))

pub is_digit : (c v : ℕ) → v ≡ value_of c → v < 16 → hex_digit_value c ≡ Some v
is_digit c v e small = small_is_some (hex_digit_value c) v e small

pub is_no_digit : (c v : ℕ) → v ≡ value_of c → 16 ≤ v → hex_digit_value c ≡ None
is_no_digit c v e wide =
    elim (hex_digit_value c) as (λ o. hex_digit_value c ≡ o → o ≡ None) [
      | None ↦ λ is. refl
      | Some w ↦ λ is.
          let same : v ≡ w = e ∙ ap (λ o. unwrap_or o 16) is in
          absurd (omega (arith, value_is_small c w is, wide, same))
    ] refl
