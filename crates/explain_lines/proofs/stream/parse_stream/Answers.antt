use Rattle.std.proofs.Common.{◌≡◌, Option, Some, sym, ◌∙◌, subst, rules}
use Rattle.words.specs.Listed.{value_of}
use Rattle.words.specs.Reading.{Gives, parts_behind}
use Rattle.words.specs.Table.{Says}
use Rattle.explain_lines.proofs.Forms.{told}
use Rattle.explain_lines.specs.Stream.{stream, heard, word_of, all_forms}
use Rattle.explain_lines.specs.declared.stream_line.StreamLine.{StreamLine}
use Rattle.explain_lines.proofs.stream.parse_stream.Goals as goal

-- the row of the first word's form
pub returns : goal.returns
returns c =
    let some : c.from_word.result ≡ Some c.in_ok-form.form = search rules in
    let form : value_of word_of all_forms c.split_part.result.0.now ≡ Some c.in_ok-form.form =
    sym c.from_word.ensures ∙ some in
    let same = told c.args.line.now c.split_part.result.0.now
    (parts_behind 32 c.split_part.result.1) c.in_ok-form.form c.split_part.ensures form in
    subst (λ (found : Option (Says stream)). Gives {A = StreamLine} {X = Says stream} heard
    c.read_form.result found) (sym same) c.read_form.ensures
