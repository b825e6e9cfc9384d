-- A line by the form of its first word.
use Rattle.std.proofs.Common.{◌≡◌, ℕ, List, ◌∷◌, Option, Some, refl, ◌∙◌, ap}
use Rattle.words.specs.Line.{reading}
use Rattle.words.specs.Listed.{value_of}
use Rattle.words.specs.Parts.{parts}
use Rattle.words.specs.Steps.{◌>>=◌}
use Rattle.words.specs.Table.{Table, table_read}
use Rattle.drill_text.proofs.Forms.{by_form}
use Rattle.drill_text.specs.Ends.{End, end, ends, end_of, end_word, all_ends}
use Rattle.drill_text.specs.Transcript as transcripts
use Rattle.explain_lines.specs.Stream as streams
use Rattle.explain_lines.specs.Transcribed.{form_reading, end_reading}
use Rattle.explain_lines.specs.declared.stream_form.StreamForm.{StreamForm}

-- what stands behind the word of a form is read by its row
behind_word : {Form : Type 0} (t : Table Form) (w : List ℕ) (ws : List (List ℕ)) (f : Form)
    → value_of t.word t.all w ≡ Some f
    → table_read t (w ∷ ws) ≡ ((t.row f).read ws >>= λ p. Some (f, p))
behind_word t w ws f e = rw e refl

pub transcribed : (text w : List ℕ) (ws : List (List ℕ)) (f : transcripts.Form)
    → parts 32 text ≡ w ∷ ws → value_of transcripts.word_of transcripts.all_forms w ≡ Some f
    → reading transcripts.lines text ≡ form_reading f ws
unfolding form_reading
transcribed text w ws f is e = ap (table_read transcripts.transcript) is
    ∙ behind_word transcripts.transcript w ws f e

pub told : (text w : List ℕ) (ws : List (List ℕ)) (f : StreamForm) → parts 32 text ≡ w ∷ ws
    → value_of streams.word_of streams.all_forms w ≡ Some f
    → reading streams.lines text ≡ streams.form_reading f ws
unfolding streams.form_reading
told text w ws f is e = ap (table_read streams.stream) is ∙ behind_word streams.stream w ws f e

pub ended : (ps : List (List ℕ)) (w : List ℕ) (ws : List (List ℕ)) (f : End) → ps ≡ w ∷ ws
    → value_of end_word all_ends w ≡ Some f → end.read ps ≡ end_reading f ws
unfolding end_reading
ended ps w ws f is e = ap end.read is ∙ by_form ends end_of w ws f e
