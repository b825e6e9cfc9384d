-- A row of forms by the form of its first word.
use Rattle.std.proofs.Common.{◌≡◌, ℕ, false, List, ◌∷◌, Option, Some, None, refl, sym, ◌∙◌, ap}
use Rattle.words.specs.Listed.{value_of}
use Rattle.words.specs.Parts.{parts}
use Rattle.words.specs.Steps.{◌>>=◌}
use Rattle.words.specs.Table.{Table, Says, table_read}
use Rattle.drill_text.specs.Asks.{ask, asks, ask_of, ask_word, ask_forms, ask_reading}
use Rattle.drill_text.specs.Reading.{reading, form_reading}
use Rattle.drill_text.specs.Script.{script, script_word, script_forms, line_of, is_skipped}
use Rattle.drill_text.specs.declared.ask_form.AskForm.{AskForm}
use Rattle.drill_text.specs.declared.script_form.ScriptForm.{ScriptForm}
use Rattle.drill_text.specs.declared.script_line.ScriptLine.{ScriptLine}

-- what stands behind the word of a form is read by its row
pub by_form : {Form X : Type 0} (t : Table Form) (of : (f : Form) → t.Behind f
    → X) (w : List ℕ) (ws : List (List ℕ)) (f : Form) → value_of t.word t.all w ≡ Some f
    → (table_read t (w ∷ ws) >>= λ s. Some (of s.0 s.1))
    ≡ ((t.row f).read ws >>= λ p. Some (of f p))
by_form {Form} {X} t of w ws f e =
    rw e (elim ((t.row f).read ws) as (λ o. ◌>>=◌ {A = Says t} {B = X}
    (◌>>=◌ {A = t.Behind f} {B = Says t} o (λ x. Some (f, x))) (λ s. Some (of s.0 s.1))
    ≡ (o >>= λ p. Some (of f p))) [ None ↦ refl | Some p ↦ refl ])

-- a word of no form begins no line
pub no_form : {Form X : Type 0} (t : Table Form) (of : (f : Form) → t.Behind f
    → X) (w : List ℕ) (ws : List (List ℕ)) → value_of t.word t.all w ≡ None
    → (table_read t (w ∷ ws) >>= λ s. Some (of s.0 s.1)) ≡ None
no_form t of w ws e = rw e refl

pub asked : (ps : List (List ℕ)) (w : List ℕ) (ws : List (List ℕ)) (o : Option AskForm)
    (f : AskForm) → ps ≡ w ∷ ws → o ≡ value_of ask_word ask_forms w → o ≡ Some f
    → ask.read ps ≡ ask_reading f ws
unfolding ask_reading
asked ps w ws o f is found some = ap ask.read is ∙ by_form asks ask_of w ws f (sym found ∙ some)

pub unasked : (ps : List (List ℕ)) (w : List ℕ) (ws : List (List ℕ)) (o : Option AskForm)
    → ps ≡ w ∷ ws → o ≡ value_of ask_word ask_forms w → o ≡ None → ask.read ps ≡ None
unasked ps w ws o is found none = ap ask.read is ∙ no_form asks ask_of w ws (sym found ∙ none)

abbrev lines_read : List (List ℕ) → Option ScriptLine
lines_read ps = table_read script ps >>= λ s. Some (line_of s.0 s.1)

not_skipped : (text : List ℕ) → is_skipped text ≡ false → reading text ≡ lines_read (parts 32 text)
not_skipped text e = rw e refl

pub said : (text w : List ℕ) (ws : List (List ℕ)) (o : Option ScriptForm) (f : ScriptForm)
    → is_skipped text ≡ false → parts 32 text ≡ w ∷ ws → o ≡ value_of script_word script_forms w
    → o ≡ Some f → reading text ≡ form_reading f ws
unfolding form_reading
said text w ws o f skips is found some = not_skipped text skips ∙ ap lines_read is
    ∙ by_form script line_of w ws f (sym found ∙ some)

pub unsaid : (text w : List ℕ) (ws : List (List ℕ)) (o : Option ScriptForm)
    → is_skipped text ≡ false → parts 32 text ≡ w ∷ ws → o ≡ value_of script_word script_forms w
    → o ≡ None → reading text ≡ None
unsaid text w ws o skips is found none = not_skipped text skips ∙ ap lines_read is
    ∙ no_form script line_of w ws (sym found ∙ none)
