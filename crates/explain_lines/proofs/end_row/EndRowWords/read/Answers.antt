use Rattle.std.proofs.Common.{◌≡◌, ◌∷◌, Option, Some, sym, ◌∙◌, ap, subst, rules}
use Rattle.std.specs.Option.{option_map}
use Rattle.words.specs.Listed.{value_of}
use Rattle.words.specs.Reading.{Gives, parts_behind}
use Rattle.drill_text.specs.Ends.{end_word, all_ends}
use Rattle.drill_text.specs.declared.end_word.EndWord.{EndWord}
use Rattle.explain_lines.proofs.Forms.{ended}
use Rattle.explain_lines.specs.Transcribed.{end_form_of}
use Rattle.explain_lines.proofs.end_row.EndRowWords.read.Goals as goal

-- the row of the first word's form
pub returns : goal.returns
returns c =
    let first : c.args.words ≡ Some c.in_ok-ok_or.field-0 = search rules in
    let is : parts_behind c.args.separator c.args.words
    ≡ c.split_part.result.0.now ∷ parts_behind c.args.separator c.split_part.result.1 =
    rw first c.split_part.ensures in
    let some : c.from_word.result ≡ Some c.in_ok-form.form = search rules in
    let form : value_of end_word all_ends c.split_part.result.0.now
    ≡ Some (end_form_of c.in_ok-form.form) = sym c.from_word.ensures
    ∙ ap (option_map end_form_of) some in
    let same = ended (parts_behind c.args.separator c.args.words) c.split_part.result.0.now
    (parts_behind c.args.separator c.split_part.result.1) (end_form_of c.in_ok-form.form) is form in
    record {
      exact = subst (λ (found : Option EndWord). Gives {A = EndWord} {X = EndWord} (λ a. a)
          c.read_form.result found) (sym same) c.read_form.ensures;
    }
