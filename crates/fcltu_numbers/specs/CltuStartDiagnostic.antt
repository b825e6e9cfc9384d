-- Why a START of FCLTU is refused (CCSDS 912.1-B, annex A, DiagnosticCltuStart).
use Rattle.std.specs.Prelude.{ℕ, List, [], ◌∷◌, codes, refl}
use Rattle.sle_numbers.specs.Numbered.{AreNumbered}
use Rattle.fcltu_numbers.specs.declared.cltu_start_diagnostic.CltuStartDiagnostic.{CltuStartDiagnostic}
use Rattle.fcltu_numbers.specs.declared.cltu_start_diagnostic.CltuStartDiagnostic.TheVariants as value

abbrev pub number_of : CltuStartDiagnostic → ℕ
number_of value.OutOfService = 0
number_of value.UnableToComply = 1
number_of value.ProductionTimeExpired = 2
number_of value.InvalidCltuId = 3

abbrev pub word_of : CltuStartDiagnostic → List ℕ
word_of value.OutOfService = codes "outOfService"
word_of value.UnableToComply = codes "unableToComply"
word_of value.ProductionTimeExpired = codes "productionTimeExpired"
word_of value.InvalidCltuId = codes "invalidCltuId"

-- in the table's order
abbrev pub all : List CltuStartDiagnostic
all = value.OutOfService ∷ value.UnableToComply ∷ value.ProductionTimeExpired
    ∷ value.InvalidCltuId ∷ []

pub each : AreNumbered number_of all
each value.OutOfService = record { found = refl; small = refl }
each value.UnableToComply = record { found = refl; small = refl }
each value.ProductionTimeExpired = record { found = refl; small = refl }
each value.InvalidCltuId = record { found = refl; small = refl }
