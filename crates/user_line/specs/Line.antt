-- The lines that have a form: a command's name, and after it as many words as the command has, of
-- which it may leave the further last one away. None of them is an option. This product's own.
use Rattle.std.specs.Prelude.{ℕ, nat_le, take, drop, ◌==◌, ◌&&◌, Bool, true, false, not, if◌then◌else◌, List, [], ◌∷◌}
use Rattle.std.specs.Prelude.{length, codes, map, Option, Some, None}
use Rattle.std.specs.List.{list_all}
use Rattle.std.specs.Str.{bytes_eq}
use denote.Ref.{Bor}
use Rattle.user_line.specs.declared.form.Form.{Form}
use Rattle.user_line.specs.declared.form.Form.TheVariants.{Show, Raf, Rcf, Cltu}
use Rattle.user_line.specs.declared.line.Line.{Line}

abbrev pub Text : Type 0
Text = List ℕ

-- texts, without where they lie
abbrev pub texts_of : List (Bor Text) → List Text
texts_of texts = map (λ text. text.now) texts

-- a command's name
abbrev pub name_of : Form → Text
name_of Show = codes "show"
name_of Raf = codes "raf"
name_of Rcf = codes "rcf"
name_of Cltu = codes "cltu"

-- the names of its words, in order, with the further one, that a line may leave away
abbrev pub ids_of : Form → List Text
ids_of Show = codes "SERVICE" ∷ []
ids_of Raf = codes "PORT" ∷ codes "NAME" ∷ codes "PASS" ∷ codes "INSTANCE" ∷ codes "START"
    ∷ codes "STOP" ∷ codes "QUALITY" ∷ codes "TURNS" ∷ codes "REPORT" ∷ []
ids_of Rcf = codes "PORT" ∷ codes "NAME" ∷ codes "PASS" ∷ codes "INSTANCE" ∷ codes "START"
    ∷ codes "STOP" ∷ codes "CHANNEL" ∷ codes "TURNS" ∷ codes "REPORT" ∷ []
ids_of Cltu = codes "PORT" ∷ codes "NAME" ∷ codes "PASS" ∷ codes "INSTANCE" ∷ codes "FIRST"
    ∷ codes "TURNS" ∷ codes "REPORT" ∷ []

-- how many of its words a line has at least
abbrev pub least_of : Form → ℕ
least_of Show = 1
least_of Raf = 8
least_of Rcf = 8
least_of Cltu = 6

abbrev pub required_of : Form → List Text
required_of form = take (least_of form) (ids_of form)

abbrev pub further_of : Form → List Text
further_of form = drop (least_of form) (ids_of form)

-- the command that has this name
abbrev pub form_of : Text → Option Form
form_of word =
    if bytes_eq word (name_of Show) then Some Show
    else if bytes_eq word (name_of Raf) then Some Raf
    else if bytes_eq word (name_of Rcf) then Some Rcf
    else if bytes_eq word (name_of Cltu) then Some Cltu
    else None

-- a word that isn't empty and doesn't begin with a hyphen
abbrev pub is_plain : Text → Bool
is_plain [] = false
is_plain (c ∷ cs) = not (c == 45)

-- so many words that a command has them, with the further one or without it
abbrev pub has_count : Form → ℕ → Bool
has_count form count = nat_le (least_of form) count && nat_le count (length (ids_of form))

-- the words of a command
abbrev pub is_line : Form → List Text → Bool
is_line form words = has_count form (length words) && list_all is_plain words

-- a command with its words
abbrev pub line_by : Option Form → List Text → Option (Form × List Text)
line_by None words = None
line_by (Some form) words = if is_line form words then Some (form, words) else None

abbrev pub line_of : List Text → Option (Form × List Text)
line_of [] = None
line_of (name ∷ words) = line_by (form_of name) words

abbrev pub line_seen : Line → Form × List Text
line_seen line = (line.form, texts_of line.words.items)
