-- How octets stand in a page. This product's own, but for the references (HTML, 13.1.4).
use Rattle.std.specs.Prelude.{ℕ, ◌+◌, ◌/◌, ◌%◌, Bool, ◌==◌, ◌&&◌, ◌||◌, not, List, [], ◌∷◌, ◌++◌, codes}
use Rattle.std.specs.Prelude.{if◌then◌else◌, ltb, leb}
use Rattle.std.specs.List.{flat_map}

-- & < > " '
abbrev pub is_markup : ℕ → Bool
is_markup c = c == 38 || c == 60 || c == 62 || c == 34 || c == 39

-- a line end, or a printed character of ASCII but the backslash
abbrev pub is_plain : ℕ → Bool
is_plain c = c == 10 || (leb 32 c && leb c 126 && not (c == 92))

-- a hexadecimal digit
abbrev pub digit : ℕ → ℕ
digit n = if ltb n 10 then 48 + n else 87 + n

-- An octet of markup is a reference to its character; each other one stands for itself or, where it
-- is no printed character, for its two digits.
abbrev pub shown : ℕ → List ℕ
shown c = if is_markup c then codes "&#x" ++ (digit (c / 16) ∷ digit (c % 16) ∷ 59 ∷ [])
    else (if is_plain c then c ∷ [] else codes "\\x" ++ (digit (c / 16) ∷ digit (c % 16) ∷ []))

abbrev pub escaped : List ℕ → List ℕ
escaped octets = flat_map shown octets
