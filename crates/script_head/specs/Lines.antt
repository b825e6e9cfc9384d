-- The lines of a script. This product's own format.
use Rattle.std.specs.Prelude.{ℕ, ◌==◌, if◌then◌else◌, List, [], ◌∷◌}

-- the most octets of a script
abbrev pub most_octets : ℕ
most_octets = 16777216

-- the lines of a text end with an octet 0A; the last may lack it
abbrev pub onto_line : ℕ → List (List ℕ) → List (List ℕ)
onto_line octet [] = (octet ∷ []) ∷ []
onto_line octet (line ∷ lines) = (octet ∷ line) ∷ lines

abbrev pub lines_of : List ℕ → List (List ℕ)
lines_of [] = []
lines_of (octet ∷ text) = if octet == 10 then [] ∷ lines_of text
    else onto_line octet (lines_of text)
