-- What clap reads of a line that has a form.
use Rattle.std.specs.Prelude.{◌≡◌, true, List, ◌∷◌, length, take}
use Rattle.clap.specs.Words.{subcommand_of, takes}
use Rattle.user_line.specs.declared.form.Form.{Form}
use Rattle.user_line.specs.Line.{Text, name_of, ids_of, is_line}
use Rattle.user_line.specs.Clap.{program, values_in}

-- clap takes the line, and gives its words in order
pub record Reads (form : Form) (words : List Text) : Type 0 where
  pub takes : takes program (name_of form ∷ words) ≡ true
  pub values : values_in (take (length words) (ids_of form))
      (subcommand_of program (name_of form ∷ words)) ≡ words

abbrev pub ClapReads : Type 0
ClapReads = (form : Form) (words : List Text) → is_line form words ≡ true → Reads form words
