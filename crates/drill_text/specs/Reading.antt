-- What a line of a script says, and the lines that say it.
use Rattle.std.proofs.Common.{◌≡◌, ℕ, ◌↔◌, true, false, not, ◌==◌, if◌then◌else◌, IsTrue, List, []}
use Rattle.std.proofs.Common.{◌∷◌, ◌++◌, Option, Some, None, Result, Ok, Err}
use Rattle.archive_terms.specs.Archive.{is_valid}
use Rattle.record_form.specs.Entry.{entry_of}
use Rattle.record_form.specs.Reading.{AreOctets}
use Rattle.record_form.specs.declared.entry.Entry.{Entry}
use Rattle.record_form.specs.declared.entry.Entry.TheVariants.{Frame}
use Rattle.words.specs.Alphabet.{Of}
use Rattle.words.specs.Line.{IsLineOf}
use Rattle.words.specs.Line as line
use Rattle.words.specs.Listed.{value_of}
use Rattle.words.specs.Parts.{parts}
use Rattle.words.specs.Row.{Row}
use Rattle.words.specs.Steps.{◌>>=◌}
use Rattle.words.specs.Table.{Says, of_forms}
use Rattle.words.specs.declared.unread.Unread.{Unread}
use Rattle.words.specs.declared.unread.Unread.TheVariants.{Bad as Unreadable, Memory as NoMemory}
use Rattle.drill_text.specs.Script.{script, line_of, of_line, is_skipped, script_word, script_forms}
use Rattle.drill_text.specs.declared.script_form.ScriptForm.{ScriptForm}
use Rattle.drill_text.specs.declared.script_line.ScriptLine.{ScriptLine}
use Rattle.drill_text.specs.declared.script_line.ScriptLine.TheVariants.{Skip, Offer}
use Rattle.drill_text.specs.declared.line_fault.LineFault.{LineFault}
use Rattle.drill_text.specs.declared.line_fault.LineFault.TheVariants.{Bad, Memory}

-- the rows of all forms
abbrev pub forms : Row (Says script)
forms = of_forms script

-- what the words behind a form's word say
unfoldable pub form_reading : ScriptForm → List (List ℕ) → Option ScriptLine
form_reading f ws = (script.row f).read ws >>= λ p. Some (line_of f p)

-- what a line says, its end left away
abbrev pub reading : List ℕ → Option ScriptLine
reading text = if is_skipped text then Some Skip
    else (line.reading forms text >>= λ s. Some (line_of s.0 s.1))

-- the form whose word is the first of these
abbrev pub first_form : List (List ℕ) → Option ScriptForm
first_form [] = None
first_form (w ∷ ws) = value_of script_word script_forms w

-- no form has the line's first word
abbrev pub IsUnknown : List ℕ → Type 0
IsUnknown text = (is_skipped text ≡ false) × (first_form (parts 32 text) ≡ None)

-- each word of the line is in its range
abbrev pub in_form : Option (Says script) → Type 0
in_form None = Unit {0}
in_form (Some s) = forms.Fits s

abbrev pub Fits : ScriptLine → Type 0
Fits says = in_form (of_line says)

-- an entry is valid
abbrev pub HasValidEntry : ScriptLine → Type 0
HasValidEntry (Offer e) = IsTrue (is_valid (entry_of e))
HasValidEntry _ = Unit {0}

-- the antenna and the frame of an entry are octets
abbrev pub HasOctets : Entry → Type 0
HasOctets (Frame ert quality antenna lost octets) = AreOctets antenna × AreOctets octets
HasOctets _ = Unit {0}

-- the lines that say this: its form's word and what stands behind it, one blank apart
abbrev pub said_by : Option (Says script) → List ℕ → Type 0
said_by None text = is_skipped text ≡ true
said_by (Some s) text = IsLineOf forms s text

abbrev pub IsLine : ScriptLine → List ℕ → Type 0
IsLine says text = said_by (of_line says) text

-- the canonical line
abbrev pub text_of : Option (Says script) → List ℕ
text_of None = []
text_of (Some s) = line.spelling forms s

abbrev pub canonical : ScriptLine → List ℕ
canonical says = text_of (of_line says)

-- the line that offers an entry, with its end
abbrev pub entry_text : Entry → List ℕ
entry_text e = canonical (Offer e) ++ 10 ∷ []

-- what a call answers; want of memory is free
abbrev pub Reads : Result ScriptLine LineFault → Option ScriptLine → Type 0
Reads (Ok says) found = found ≡ Some says
Reads (Err Bad) found = found ≡ None
Reads (Err Memory) found = Unit {0}

abbrev pub fault_of : Unread → LineFault
fault_of Unreadable = Bad
fault_of NoMemory = Memory

-- Lines are read exactly where they say a thing that is in its ranges, the canonical one is read
-- back, and none that is not skipped holds a line end.
pub record AreExact : Type 0 where
  pub read : (text : List ℕ) (says : ScriptLine)
      → (reading text ≡ Some says) ↔ (Fits says × IsLine says text)
  pub back : (says : ScriptLine) → Fits says → reading (canonical says) ≡ Some says
  pub one_line : (says : ScriptLine) (text : List ℕ) → (is_skipped text ≡ false) → Fits says
      → IsLine says text → Of (λ octet. not (octet == 10)) text
