-- The head of a script: where its first line is `site`, the lines behind it up to a line `end` are
-- the configuration of its station. This product's own format.
use Rattle.std.specs.Prelude.{◌≡◌, ℕ, zero, suc, ◌+◌, Bool, if◌then◌else◌, Option, Some, None}
use Rattle.std.specs.Prelude.{Result, List, [], ◌∷◌, ◌++◌, length, option_map, codes}
use Rattle.std.specs.Str.{bytes_eq}
use denote.Ref.{Bor}
use Rattle.station_config.specs.Drafts.{Refusal, empty, told_from, finished}
use Rattle.station_config.specs.declared.site.Site.{Site}
use Rattle.script_head.specs.Lines.{lines_of}

abbrev pub is_site : List ℕ → Bool
is_site line = bytes_eq line (codes "site")

abbrev pub is_end : List ℕ → Bool
is_end line = bytes_eq line (codes "end")

-- the lines before the first that is `end`, and those behind it, where there is one
abbrev pub before_end : List (List ℕ) → List (List ℕ)
before_end [] = []
before_end (line ∷ lines) = if is_end line then [] else line ∷ before_end lines

abbrev pub behind_end : List (List ℕ) → Option (List (List ℕ))
behind_end [] = None
behind_end (line ∷ lines) = if is_end line then Some lines else behind_end lines

-- the lines of the configuration
abbrev pub settings : List (List ℕ) → List (List ℕ)
settings [] = []
settings (first ∷ others) = if is_site first then before_end others else []

-- the site that they say, or the first one that is refused, by its number in the script: the first
-- of them is its line 2
abbrev pub site_of : List (List ℕ) → Result Site Refusal
site_of lines = finished (told_from 2 empty (settings lines))

abbrev pub empty_lines : ℕ → List (List ℕ)
empty_lines zero = []
empty_lines (suc count) = [] ∷ empty_lines count

-- the lines that run, where the head is ended: the head's own are left empty, so that each line
-- keeps its number
abbrev pub running : List (List ℕ) → Option (List (List ℕ))
running [] = Some []
running (first ∷ others) =
    if is_site first
    then option_map (λ later. empty_lines (length (before_end others) + 2) ++ later)
    (behind_end others)
    else Some (first ∷ others)

-- the lines that run are so many empty ones and those of a rest; or all are so many, and the head
-- isn't ended
abbrev pub Splits : List (List ℕ) → ℕ → Option (Bor (List ℕ)) → Type 0
Splits lines count None = (running lines ≡ None) × (length lines ≡ count)
Splits lines count (Some rest) = running lines ≡ Some (empty_lines count ++ lines_of rest.now)
