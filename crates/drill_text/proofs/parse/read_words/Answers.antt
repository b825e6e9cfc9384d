use Rattle.std.proofs.Common.{◌≡◌, Option, Some, sym, subst, rules}
use Rattle.words.specs.Reading.{Gives, parts_behind}
use Rattle.drill_text.proofs.Forms.{said}
use Rattle.drill_text.specs.declared.script_line.ScriptLine.{ScriptLine}
use Rattle.drill_text.proofs.parse.read_words.Goals as goal

-- the row of the first word's form
pub returns-clause-exact : goal.returns-clause-exact
returns-clause-exact c =
    let some : c.from_word.result ≡ Some c.in_ok-form.form = search rules in
    let same = said c.args.line.now c.split_part.result.0.now
    (parts_behind 32 c.split_part.result.1) c.from_word.result c.in_ok-form.form c.requires
    c.split_part.ensures c.from_word.ensures some in
    subst (λ (found : Option ScriptLine). Gives {A = ScriptLine} {X = ScriptLine} (λ s. s)
    c.read_form.result found) (sym same) c.read_form.ensures
