use Rattle.std.proofs.Common.{◌≡◌, Option, Some, sym, ◌∙◌, ap, subst, rules}
use Rattle.std.specs.Option.{option_map}
use Rattle.words.specs.Listed.{value_of}
use Rattle.words.specs.Reading.{Gives, parts_behind}
use Rattle.words.specs.Table.{Says}
use Rattle.drill_text.specs.Transcript.{transcript, word_of, all_forms}
use Rattle.explain_lines.proofs.Forms.{transcribed}
use Rattle.explain_lines.specs.Transcribed.{form_of, heard}
use Rattle.explain_lines.specs.declared.transcribed.Transcribed.{Transcribed}
use Rattle.explain_lines.proofs.transcript.parse_transcript.Goals as goal

-- the row of the first word's form
pub returns : goal.returns
returns c =
    let some : c.from_word.result ≡ Some c.in_ok-form.form = search rules in
    let form : value_of word_of all_forms c.split_part.result.0.now
    ≡ Some (form_of c.in_ok-form.form) = sym c.from_word.ensures ∙ ap (option_map form_of) some in
    let same = transcribed c.args.line.now c.split_part.result.0.now
    (parts_behind 32 c.split_part.result.1) (form_of c.in_ok-form.form) c.split_part.ensures form in
    subst (λ (found : Option (Says transcript)). Gives {A = Transcribed} {X = Says transcript} heard
    c.read_form.result found) (sym same) c.read_form.ensures
