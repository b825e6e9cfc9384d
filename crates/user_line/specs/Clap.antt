-- What clap is told of the commands, and where it puts the words of a line.
use Rattle.std.specs.Prelude.{ℕ, Bool, true, false, List, [], ◌∷◌, Option}
use Rattle.std.specs.Prelude.{Some, None, codes, map, option_map, unwrap_or}
use Rattle.clap.specs.Words.{App, Row, Rule, Shape, new_app, new_rule, with_rule, with_subcommand}
use Rattle.clap.specs.Words.{first_of}
use Rattle.clap.specs.Simple.{on_top}
use Rattle.user_line.specs.declared.form.Form.{Form}
use Rattle.user_line.specs.declared.form.Form.TheVariants.{Show, Raf, Rcf, Cltu}
use Rattle.user_line.specs.Line.{Text, name_of, required_of, further_of}

-- a word that must be there, or may be
abbrev pub positional : Bool → Text → Rule
positional required id = record (new_rule id) { required = required }

abbrev pub with_words : Bool → App → List Text → App
with_words required app [] = app
with_words required app (id ∷ ids) =
    with_words required (with_rule app (positional required id)) ids

-- a command that has these words, of which only the further one may be left away
abbrev pub command_of : Form → App
command_of form =
    with_words false (with_words true (new_app (name_of form)) (required_of form)) (further_of form)

-- a program that has no words of its own, no help and no name in front
abbrev pub bare : App
bare = on_top (λ s. record s {
  no_binary_name = true;
  disable_help_flag = true;
  disable_help_subcommand = true;
  subcommand_required = true;
}) (new_app (codes "user_cli"))

abbrev pub with_form : App → Form → App
with_form app form = with_subcommand app (command_of form).top

abbrev pub program : App
program = with_form (with_form (with_form (with_form bare Show) Raf) Rcf) Cltu

-- the value of a word by its name
abbrev pub value_in : List Row → Text → Text
value_in rows id = unwrap_or (first_of id rows) []

abbrev pub values_at : List Text → Option (List Row) → List Text
values_at ids None = []
values_at ids (Some rows) = map (value_in rows) ids

-- the values of the words of the command that was entered, in order
abbrev pub values_in : List Text → Option (Text × List Row) → List Text
values_in ids entered = values_at ids (option_map (λ found. found.1) entered)
