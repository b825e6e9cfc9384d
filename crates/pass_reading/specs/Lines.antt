-- The lines of a script. This product's own.
use Rattle.std.specs.Prelude.{ℕ, List, [], ◌∷◌, ◌==◌, if◌then◌else◌, map}
use Rattle.line_table.specs.declared.row.Row.{Row}
use Rattle.words.specs.Parts.{parts}

-- a text without the line end that it may end with
abbrev pub without_end : List ℕ → List ℕ
without_end [] = []
without_end (octet ∷ []) = if octet == 10 then [] else octet ∷ []
without_end (octet ∷ next ∷ text) = octet ∷ without_end (next ∷ text)

abbrev pub lines_of : List ℕ → List (List ℕ)
lines_of [] = []
lines_of (octet ∷ text) = parts 10 (without_end (octet ∷ text))

-- the lines that rows have
abbrev pub lines_in : List Row → List (List ℕ)
lines_in rows = map (λ row. row.line.items) rows
