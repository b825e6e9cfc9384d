-- The status of forward production (CCSDS 912.1-B, annex A, ProductionStatus).
use Rattle.std.specs.Prelude.{ℕ, List, [], ◌∷◌, codes, refl}
use Rattle.sle_numbers.specs.Numbered.{AreNumbered}
use Rattle.fcltu_numbers.specs.declared.cltu_production_status.CltuProductionStatus.{CltuProductionStatus}
use Rattle.fcltu_numbers.specs.declared.cltu_production_status.CltuProductionStatus.TheVariants as value

abbrev pub number_of : CltuProductionStatus → ℕ
number_of value.Operational = 0
number_of value.Configured = 1
number_of value.Interrupted = 2
number_of value.Halted = 3

abbrev pub word_of : CltuProductionStatus → List ℕ
word_of value.Operational = codes "operational"
word_of value.Configured = codes "configured"
word_of value.Interrupted = codes "interrupted"
word_of value.Halted = codes "halted"

-- in the table's order
abbrev pub all : List CltuProductionStatus
all = value.Operational ∷ value.Configured ∷ value.Interrupted ∷ value.Halted ∷ []

pub each : AreNumbered number_of all
each value.Operational = record { found = refl; small = refl }
each value.Configured = record { found = refl; small = refl }
each value.Interrupted = record { found = refl; small = refl }
each value.Halted = record { found = refl; small = refl }
