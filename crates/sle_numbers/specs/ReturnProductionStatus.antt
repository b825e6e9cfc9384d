-- The status of return production (CCSDS 911.1-B, annex A, RafProductionStatus).
use Rattle.std.specs.Prelude.{ℕ, List, [], ◌∷◌, codes, refl}
use Rattle.sle_numbers.specs.Numbered.{AreNumbered}
use Rattle.sle_numbers.specs.declared.return_production_status.ReturnProductionStatus.{ReturnProductionStatus}
use Rattle.sle_numbers.specs.declared.return_production_status.ReturnProductionStatus.TheVariants as value

abbrev pub number_of : ReturnProductionStatus → ℕ
number_of value.Running = 0
number_of value.Interrupted = 1
number_of value.Halted = 2

abbrev pub word_of : ReturnProductionStatus → List ℕ
word_of value.Running = codes "running"
word_of value.Interrupted = codes "interrupted"
word_of value.Halted = codes "halted"

-- in the table's order
abbrev pub all : List ReturnProductionStatus
all = value.Running ∷ value.Interrupted ∷ value.Halted ∷ []

pub each : AreNumbered number_of all
each value.Running = record { found = refl; small = refl }
each value.Interrupted = record { found = refl; small = refl }
each value.Halted = record { found = refl; small = refl }
