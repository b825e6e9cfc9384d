-- The text that names CLTUs. This product's own.
use Rattle.std.proofs.Common.{◌≡◌, ℕ, ◌+◌, ◌==◌, min, Bool, true, false, List, [], ◌∷◌, ◌++◌}
use Rattle.std.proofs.Common.{if◌then◌else◌, Option, Some, None, Result, Ok, Err, refl}
use Rattle.std.specs.Prelude.{codes}
use Rattle.cds_time.specs.declared.cds.Cds.{Cds}
use Rattle.user_task.specs.declared.cltus.CltuLine.{CltuLine}
use Rattle.words.specs.Fixed.{fixed}
use Rattle.words.specs.HexOctets.{hex}
use Rattle.words.specs.Kind.{Kind}
use Rattle.words.specs.Last.{last}
use Rattle.words.specs.Line.{reading}
use Rattle.words.specs.Listed.{AreListed, listed}
use Rattle.words.specs.Number.{number as digits}
use Rattle.words.specs.Parts.{parts}
use Rattle.words.specs.Row.{Row}
use Rattle.words.specs.Then.{◌▸◌}
use Rattle.words.specs.Times.{when}
use Rattle.cltu_lines.specs.declared.text_fault.TextFault.{TextFault}
use Rattle.cltu_lines.specs.declared.text_fault.TextFault.TheVariants.{BadLine, Memory}

-- 0: a notice is wanted; 1: none is
abbrev pub notify_word : Bool → List ℕ
notify_word true = codes "0"
notify_word false = codes "1"

abbrev pub notices : List Bool
notices = true ∷ false ∷ []

pub notices_are_listed : AreListed notify_word notices
notices_are_listed true = refl
notices_are_listed false = refl

abbrev pub notify : Kind Bool
notify = listed notify_word notices notices_are_listed

abbrev pub cltu_word : List ℕ
cltu_word = codes "cltu"

abbrev pub CltuParts : Type 0
CltuParts = Unit {0} × (ℕ × (Option Cds × (Option Cds × (ℕ × (Bool × List ℕ)))))

-- cltu ID EARLIEST LATEST DELAY NOTIFY HEX
abbrev pub cltu_row : Row CltuParts
cltu_row = fixed cltu_word ▸ digits 0 4294967295 ▸ when ▸ when ▸ digits 0 4294967295 ▸ notify
    ▸ last (hex 1 65536)

abbrev pub cltu_of : Option CltuParts → Option CltuLine
cltu_of None = None
cltu_of (Some (w, (id, (earliest, (latest, (delay, (wanted, octets))))))) = Some (record {
  id = id;
  earliest = earliest;
  latest = latest;
  radiation_delay = delay;
  wanted = wanted;
  octets = octets;
})

-- the CLTU that a line names
unfoldable pub line_read : List ℕ → Option CltuLine
line_read line = cltu_of (reading cltu_row line)

-- an empty line and a comment name none
abbrev pub is_skipped : List ℕ → Bool
is_skipped [] = true
is_skipped (octet ∷ octets) = octet == 35

-- numbers stay at the greatest one
abbrev pub next : ℕ → ℕ
next number = min (number + 1) 4294967295

abbrev pub and_others : CltuLine → Result (List CltuLine) ℕ → Result (List CltuLine) ℕ
and_others cltu (Ok cltus) = Ok (cltu ∷ cltus)
and_others cltu (Err number) = Err number

abbrev pub named : ℕ → Option CltuLine → Result (List CltuLine) ℕ → Result (List CltuLine) ℕ
named number None others = Err number
named number (Some cltu) others = and_others cltu others

-- a line before others
abbrev pub told_by : ℕ → List ℕ → Result (List CltuLine) ℕ → Result (List CltuLine) ℕ
told_by number line others =
    if is_skipped line then others else named number (line_read line) others

-- what these lines name, or the number of the first bad one; the first has this number
abbrev pub told_from : ℕ → List (List ℕ) → Result (List CltuLine) ℕ
told_from number [] = Ok []
told_from number (line ∷ lines) = told_by number line (told_from (next number) lines)

-- lines end with 0A, and what stands behind the last one is a line too
abbrev pub text_told : List ℕ → Result (List CltuLine) ℕ
text_told text = told_from 1 (parts 10 text)

-- the CLTUs that a text names, or its first bad line; want of memory is free
abbrev pub Names : Result (List CltuLine) TextFault → Result (List CltuLine) ℕ → Type 0
Names (Ok cltus) told = told ≡ Ok cltus
Names (Err (BadLine number)) told = told ≡ Err number
Names (Err Memory) told = Unit {0}

-- ---- one line after the other

-- CLTUs before those that are still to be read
abbrev pub before : List CltuLine → Result (List CltuLine) ℕ → Result (List CltuLine) ℕ
before cltus (Ok more) = Ok (cltus ++ more)
before cltus (Err number) = Err number

-- why a line names none: whatever stands behind it, it is the bad one
abbrev pub TellsLine : ℕ → List ℕ → TextFault → Type 0
TellsLine number line (BadLine n) =
    (n ≡ number) × ((more : Result (List CltuLine) ℕ) → told_by number line more ≡ Err number)
TellsLine number line Memory = Unit {0}
