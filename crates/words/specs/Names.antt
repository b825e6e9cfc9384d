-- A word that is a name: so many characters from 21 to 7E.
use Rattle.std.proofs.Common.{◌≡◌, ℕ, Bool, true, ◌&&◌, nat_le, List, length}
use Rattle.std.proofs.lemmas.Bool.{and_parts}
use Rattle.std.specs.List.{list_all}
use Rattle.words.specs.Alphabet.{Of, of_all}
use Rattle.words.specs.Kind.{Kind}
use Rattle.words.specs.Plain.{plain}

abbrev pub is_graphic : ℕ → Bool
is_graphic c = nat_le 33 c && nat_le c 126

abbrev pub is_name : ℕ → ℕ → List ℕ → Bool
is_name least most w = (nat_le least (length w) && nat_le (length w) most) && list_all is_graphic w

pub name_octets : (least most : ℕ) (w : List ℕ) → is_name least most w ≡ true → Of is_graphic w
name_octets least most w e = of_all is_graphic w
    (and_parts (nat_le least (length w) && nat_le (length w) most) (list_all is_graphic w) e).1

abbrev pub name : ℕ → ℕ → Kind (List ℕ)
name least most = plain (is_name least most) is_graphic (name_octets least most)
