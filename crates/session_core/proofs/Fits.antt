-- What a return of association holds fits: a version, a diagnostic, and a name.
use Rattle.std.proofs.Common.{◌≡◌, ℕ, pos, negsuc, ◌-◌, ◌^◌, ◌<◌, Bool, true, ◌&&◌, nat_le, List}
use Rattle.std.proofs.Common.{[], ◌∷◌, refl, arith}
use Rattle.std.proofs.lemmas.Int.{ints}
use Rattle.std.specs.List.{list_all}
use Rattle.ber_core.specs.Reading.{is_visible}
use Rattle.ber_shape.specs.Content.{InRange, IsVisible}
use Rattle.station_config.specs.Validity.{IsName}

pub number_fits : (n : ℕ) → n < 2 ^ 16 → InRange (negsuc (2 ^ 63 - 1)) (pos (2 ^ 64 - 1)) (pos n)
number_fits n small = omega (arith, ints)

-- 21 to 7E, as a name's characters are
abbrev is_graphic : ℕ → Bool
is_graphic c = nat_le 33 c && nat_le c 126

graphic_visible : (c : ℕ) → is_graphic c ≡ true → is_visible c ≡ true
graphic_visible c e = grind arith

all_visible : (name : List ℕ) → list_all is_graphic name ≡ true → list_all is_visible name ≡ true
all_visible [] e = refl
all_visible (c ∷ name) e = grind (arith, all_visible name)

pub name_fits : (name : List ℕ) → IsName name → IsVisible 3 16 name
name_fits name is = grind (arith, all_visible name)
