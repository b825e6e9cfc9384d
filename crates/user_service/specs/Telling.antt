-- How a program ends whose input names no CLTUs. The words are this product's own.
use Rattle.std.specs.Prelude.{◌≡◌, ◌⊎◌, ℕ, Option, List, [], ◌∷◌, ◌++◌, codes}
use Rattle.std.specs.Fmt.{decimal}
use Rattle.user_show.specs.Ending.{EndsWith}
use Rattle.user_show.specs.declared.ending.Ending.{Ending}
use Rattle.user_show.specs.declared.ending.Ending.TheVariants as ending
use Rattle.user_service.specs.declared.unsent.Unsent.{Unsent}
use Rattle.user_service.specs.declared.unsent.Unsent.TheVariants.{ReadFault, TooLong, BadLine, Memory}

abbrev pub bad_line : ℕ → List ℕ
bad_line number = codes "bad line " ++ decimal number ++ 10 ∷ []

abbrev pub line_of : Unsent → List ℕ
line_of ReadFault = codes "read fault\n"
line_of TooLong = codes "input too long\n"
line_of (BadLine number) = bad_line number
line_of Memory = []

abbrev pub ending_of : Unsent → Ending
ending_of ReadFault = ending.ReadFault
ending_of TooLong = ending.InputTooLong
ending_of (BadLine number) = ending.BadLine
ending_of Memory = ending.Memory

-- A program writes why it sends nothing and ends so; or memory is refused, and it writes nothing.
abbrev pub TellsWhy : Option (List ℕ) → Option (List ℕ) → ℕ → ℕ → Unsent → Ending → Type 0
TellsWhy before after faults_before faults_after why ended =
    EndsWith before after faults_before faults_after (line_of why) (ending_of why) ended
    ⊎ ((ended ≡ ending.Memory) × (after ≡ before) × (faults_after ≡ faults_before))
