-- Script lines are read exactly where they say a thing.
use Rattle.std.proofs.Common.{◌≡◌, ℕ, inl, inr, false, not, ◌==◌, List, [], ◌∷◌, ◌++◌, Option, Some}
use Rattle.std.proofs.Common.{None, refl, sym, ◌∙◌, ap, subst}
use Rattle.record_form.specs.declared.entry.Entry.TheVariants.{Frame, LossOfSync, Production, Seal}
use Rattle.words.specs.Alphabet.{Of}
use Rattle.words.specs.Line.{IsLineOf, IsExact, exact}
use Rattle.words.specs.Line as line
use Rattle.words.specs.Parts.{behind, joined_by}
use Rattle.words.specs.Steps.{◌>>=◌, some_bind, some_is, chosen, contradicted}
use Rattle.words.specs.Table.{Says, table_spelled}
use Rattle.drill_text.specs.Reading.{forms, reading, in_form, said_by, text_of, Fits, IsLine}
use Rattle.drill_text.specs.Reading.{canonical, AreExact}
use Rattle.drill_text.specs.Script.{script, script_word, Behind, line_of, of_line, is_skipped}
use Rattle.drill_text.specs.declared.script_form.ScriptForm.{ScriptForm}
use Rattle.drill_text.specs.declared.script_form.ScriptForm.TheVariants.{Frame as FrameForm}
use Rattle.drill_text.specs.declared.script_form.ScriptForm.TheVariants.{Loss as LossForm}
use Rattle.drill_text.specs.declared.script_form.ScriptForm.TheVariants.{Production as ProductionForm}
use Rattle.drill_text.specs.declared.script_form.ScriptForm.TheVariants.{Mark as MarkForm}
use Rattle.drill_text.specs.declared.script_form.ScriptForm.TheVariants.{Start as StartForm}
use Rattle.drill_text.specs.declared.script_form.ScriptForm.TheVariants.{Clock as ClockForm}
use Rattle.drill_text.specs.declared.script_form.ScriptForm.TheVariants.{Open as OpenForm}
use Rattle.drill_text.specs.declared.script_form.ScriptForm.TheVariants.{In as InForm}
use Rattle.drill_text.specs.declared.script_form.ScriptForm.TheVariants.{Ask as AskForm}
use Rattle.drill_text.specs.declared.script_form.ScriptForm.TheVariants.{Shut as ShutForm}
use Rattle.drill_text.specs.declared.script_form.ScriptForm.TheVariants.{Break as BreakForm}
use Rattle.drill_text.specs.declared.script_form.ScriptForm.TheVariants.{Round as RoundForm}
use Rattle.drill_text.specs.declared.script_form.ScriptForm.TheVariants.{Stall as StallForm}
use Rattle.drill_text.specs.declared.script_form.ScriptForm.TheVariants.{Take as TakeForm}
use Rattle.drill_text.specs.declared.script_form.ScriptForm.TheVariants.{Done as DoneForm}
use Rattle.drill_text.specs.declared.script_form.ScriptForm.TheVariants.{Uplink as UplinkForm}
use Rattle.drill_text.specs.declared.script_form.ScriptForm.TheVariants.{Crash as CrashForm}
use Rattle.drill_text.specs.declared.script_form.ScriptForm.TheVariants.{Fault as FaultForm}
use Rattle.drill_text.specs.declared.script_line.ScriptLine.{ScriptLine}
use Rattle.drill_text.specs.declared.script_line.ScriptLine.TheVariants.{Skip, Offer, Desk, Clock}
use Rattle.drill_text.specs.declared.script_line.ScriptLine.TheVariants.{Open, Piece, Ask, Shut}
use Rattle.drill_text.specs.declared.script_line.ScriptLine.TheVariants.{Break, Round, Stall, Take}
use Rattle.drill_text.specs.declared.script_line.ScriptLine.TheVariants.{Done, Uplink, Crash, Fault}

forms_are_exact : IsExact forms
forms_are_exact = exact forms (record { some = refl; blank = refl; end = refl })

-- no first word is that of a comment
not_skipped : (f : ScriptForm) (rest : List ℕ) → is_skipped (script_word f ++ rest) ≡ false
not_skipped FrameForm rest = refl
not_skipped LossForm rest = refl
not_skipped ProductionForm rest = refl
not_skipped MarkForm rest = refl
not_skipped StartForm rest = refl
not_skipped ClockForm rest = refl
not_skipped OpenForm rest = refl
not_skipped InForm rest = refl
not_skipped AskForm rest = refl
not_skipped ShutForm rest = refl
not_skipped BreakForm rest = refl
not_skipped RoundForm rest = refl
not_skipped StallForm rest = refl
not_skipped TakeForm rest = refl
not_skipped DoneForm rest = refl
not_skipped UplinkForm rest = refl
not_skipped CrashForm rest = refl
not_skipped FaultForm rest = refl

abbrev line_from : Option (Says script) → ScriptLine
line_from None = Skip
line_from (Some s) = line_of s.0 s.1

there : (says : ScriptLine) → line_from (of_line says) ≡ says
there Skip = refl
there (Offer (Frame ert quality antenna lost octets)) = refl
there (Offer (LossOfSync at carrier subcarrier symbol)) = refl
there (Offer (Production status)) = refl
there (Offer (Seal at)) = refl
there (Desk start stop quality) = refl
there (Clock at) = refl
there (Open c) = refl
there (Piece c octets) = refl
there (Ask c asked) = refl
there (Shut c) = refl
there (Break c) = refl
there (Round c n) = refl
there (Stall c n) = refl
there (Take fail) = refl
there Done = refl
there (Uplink production status) = refl
there (Crash k left) = refl
there (Fault k) = refl

back : (f : ScriptForm) (p : Behind f) → of_line (line_of f p) ≡ Some (f, p)
back FrameForm p = refl
back LossForm p = refl
back ProductionForm p = refl
back MarkForm p = refl
back StartForm p = refl
back ClockForm p = refl
back OpenForm p = refl
back InForm p = refl
back AskForm p = refl
back ShutForm p = refl
back BreakForm p = refl
back RoundForm p = refl
back StallForm p = refl
back TakeForm p = refl
back DoneForm p = refl
back UplinkForm p = refl
back CrashForm p = refl
back FaultForm p = refl

of_first : (s : Says script) (text w : List ℕ) (ws : List (List ℕ)) → text ≡ w ++ behind 32 ws
    → w ≡ script_word s.0 → is_skipped text ≡ false
of_first s text w ws e first = ap is_skipped (e ∙ ap (λ w. w ++ behind 32 ws) first)
    ∙ not_skipped s.0 (behind 32 ws)

form_line : (s : Says script) (text : List ℕ) → IsLineOf forms s text → is_skipped text ≡ false
form_line s text l = at l.words l.is l.spelled
  where
    at : (ws : List (List ℕ)) → text ≡ joined_by 32 ws → table_spelled script s ws
        → is_skipped text ≡ false
    at [] e spelled = absurd spelled
    at (w ∷ ws) e spelled = of_first s text w ws e spelled.0

is_line : (text : List ℕ) (says : ScriptLine) → reading text ≡ Some says
    → Fits says × IsLine says text
is_line text says e =
    elim (chosen (is_skipped text) (Some Skip)
    (line.reading forms text >>= λ s. Some (line_of s.0 s.1)) (Some says) e) [
      | inl h ↦ subst (λ says. Fits says × IsLine says text) (some_is Skip says h.1) (tt, h.0)
      | inr h ↦
          let found = some_bind (line.reading forms text) (λ s. Some (line_of s.0 s.1)) says h.1 in
          let s = found.0 in
          let is : forms.Fits s × IsLineOf forms s text = (forms_are_exact.read text s).0 found.1 in
          let held : in_form (of_line (line_of s.0 s.1))
          × said_by (of_line (line_of s.0 s.1)) text =
          subst (λ o. in_form o × said_by o text) (sym (back s.0 s.1)) is in
          subst (λ says. Fits says × IsLine says text) (some_is (line_of s.0 s.1) says found.2) held
    ]

again : (o : Option (Says script)) (text : List ℕ) → in_form o → said_by o text
    → reading text ≡ Some (line_from o)
again None text fits e = rw e refl
again (Some s) text fits l = rw (form_line s text l, (forms_are_exact.read text s).1 (fits, l)) refl

says_again : (text : List ℕ) (says : ScriptLine) → Fits says → IsLine says text
    → reading text ≡ Some says
says_again text says fits l = again (of_line says) text fits l ∙ ap Some (there says)

canonical_line : (o : Option (Says script)) → in_form o → said_by o (text_of o)
canonical_line None fits = refl
canonical_line (Some s) fits =
    ((forms_are_exact.read (line.spelling forms s) s).0 (forms_are_exact.back s fits)).1

no_end : (o : Option (Says script)) (text : List ℕ) → is_skipped text ≡ false → in_form o
    → said_by o text → Of (λ octet. not (octet == 10)) text
no_end None text none fits e = contradicted (is_skipped text) e none
no_end (Some s) text none fits l = forms_are_exact.one_line s text fits l

pub lines_are_exact : AreExact
lines_are_exact = record {
  read = λ text says. (is_line text says, λ h. says_again text says h.0 h.1);
  back = λ says fits. says_again (canonical says) says fits (canonical_line (of_line says) fits);
  one_line = λ says text none fits l. no_end (of_line says) text none fits l;
}
