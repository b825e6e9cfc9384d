-- What a call that reads a word or a row of words answers.
use Rattle.std.specs.Prelude.{◌≡◌, ℕ, List, [], Option, Some, None, Result, Ok, Err}
use Rattle.words.specs.declared.unread.Unread.{Unread}
use Rattle.words.specs.declared.unread.Unread.TheVariants.{Bad, Memory}
use Rattle.words.specs.declared.cause.Cause.{Cause}
use Rattle.words.specs.declared.line_fault.LineFault.{LineFault}
use Rattle.words.specs.declared.line_fault.LineFault.TheVariants.{Line, Memory as NoMemory}
use Rattle.words.specs.Parts.{parts}
use denote.Ref.{Bor}

-- the value that is found, or Bad where there is none; want of memory is free
abbrev pub Gives : {A X : Type 0} → (A → X) → Result A Unread → Option X → Type 0
Gives seen (Ok value) found = found ≡ Some (seen value)
Gives seen (Err Bad) found = found ≡ None
Gives seen (Err Memory) found = Unit {0}

-- the parts behind a separator, if there was one
abbrev pub parts_behind : ℕ → Option (Bor (List ℕ)) → List (List ℕ)
parts_behind separator None = []
parts_behind separator (Some text) = parts separator text.now

-- what was lent, without where it lies
abbrev pub lent : Option (Bor (List ℕ)) → Option (List ℕ)
lent None = None
lent (Some text) = Some text.now

-- the value of a line, or its first cause; want of memory is free
abbrev pub Judges : {A X : Type 0} → (A → X) → Result A LineFault → Result X Cause → Type 0
Judges seen (Ok value) found = found ≡ Ok (seen value)
Judges seen (Err (Line cause)) found = found ≡ Err cause
Judges seen (Err NoMemory) found = Unit {0}

abbrev pub seen_option : {A X : Type 0} → (A → X) → Option A → Option X
seen_option seen None = None
seen_option seen (Some value) = Some (seen value)
