use Rattle.std.proofs.Common.{◌≡◌, ◌∷◌, Option, Some, sym, subst, rules}
use Rattle.words.specs.Reading.{Gives, parts_behind}
use Rattle.drill_text.proofs.Forms.{asked}
use Rattle.drill_text.specs.declared.ask_line.AskLine.{AskLine}
use Rattle.drill_text.proofs.ask_row.AskRowWords.read.Goals as goal

-- the row of the first word's form
pub returns : goal.returns
returns c =
    let first : c.args.words ≡ Some c.in_ok-ok_or.field-0 = search rules in
    let is : parts_behind c.args.separator c.args.words
    ≡ c.split_part.result.0.now ∷ parts_behind c.args.separator c.split_part.result.1 =
    rw first c.split_part.ensures in
    let some : c.from_word.result ≡ Some c.in_ok-form.form = search rules in
    let same = asked (parts_behind c.args.separator c.args.words) c.split_part.result.0.now
    (parts_behind c.args.separator c.split_part.result.1) c.from_word.result c.in_ok-form.form
    is c.from_word.ensures some in
    record {
      exact = subst (λ (found : Option AskLine). Gives {A = AskLine} {X = AskLine} (λ a. a)
          c.read_form.result found) (sym same) c.read_form.ensures;
    }
