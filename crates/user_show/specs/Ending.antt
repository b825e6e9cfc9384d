-- How a user program ends. The codes are this product's own.
use Rattle.std.specs.Prelude.{◌≡◌, ◌⊎◌, ℕ, Option, List}
use Rattle.octet_core.specs.Fault.{Rose, count_up}
use Rattle.octet_core.specs.Written.{Gains, GainsFront}
use Rattle.user_show.specs.declared.ending.Ending.{Ending}
use Rattle.user_show.specs.declared.ending.Ending.TheVariants as ending

abbrev pub code : Ending → ℕ
code ending.Done = 0
code ending.Usage = 2
code ending.Refused = 3
code ending.BadMessage = 5
code ending.ReadFault = 6
code ending.WriteFault = 7
code ending.LinkFault = 8
code ending.TurnsSpent = 10
code ending.PeerEnded = 11
code ending.InputTooLong = 12
code ending.BadLine = 13
code ending.Memory = 70

-- A program that writes a line and then ends so: all of it was written, or the output failed, once.
abbrev pub EndsWith : Option (List ℕ) → Option (List ℕ) → ℕ → ℕ → List ℕ → Ending → Ending → Type 0
EndsWith before after faults_before faults_after line own ended =
    ((ended ≡ own) × Gains before after line × (faults_after ≡ faults_before))
    ⊎ ((ended ≡ ending.WriteFault) × GainsFront before after line
    × (faults_after ≡ count_up faults_before))

-- an ending that names an object comes only where its count of faults rose
abbrev pub ReadRose : Ending → ℕ → ℕ → Type 0
ReadRose ending.ReadFault before after = Rose before after
ReadRose _ before after = Unit {0}

abbrev pub WriteRose : Ending → ℕ → ℕ → Type 0
WriteRose ending.WriteFault before after = Rose before after
WriteRose _ before after = Unit {0}
