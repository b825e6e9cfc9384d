-- What is left to read of an entry.
use Rattle.std.specs.Prelude.{ℕ, ◌+◌, List, drop, refl}
use Rattle.std.specs.Coded.{Coded, code_by, coded×, coded_ℕ, coded_list}

-- the octets that are left, and the place of the first of them
pub record Left : Type 0 where
  pub place : ℕ
  pub octets : List ℕ

abbrev pub left_code : Coded Left
left_code =
    code_by (ℕ × List ℕ) (coded× coded_ℕ (coded_list coded_ℕ))
    (λ left. (left.place, left.octets)) (λ p. record { place = p.0; octets = p.1 }) (λ _. refl)

-- from a place of octets on
abbrev pub from : ℕ → List ℕ → Left
from place octets = record { place = place; octets = drop place octets }

-- behind n octets more
abbrev pub past : ℕ → Left → Left
past n left = record { place = left.place + n; octets = drop n left.octets }
