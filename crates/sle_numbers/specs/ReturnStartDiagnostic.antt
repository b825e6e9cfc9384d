-- Why a START of RAF or RCF is refused (CCSDS 911.1-B and 911.2-B, annex A, DiagnosticRafStart and
-- DiagnosticRcfStart).
use Rattle.std.specs.Prelude.{ℕ, List, [], ◌∷◌, codes, refl}
use Rattle.sle_numbers.specs.Numbered.{AreNumbered}
use Rattle.sle_numbers.specs.declared.return_start_diagnostic.ReturnStartDiagnostic.{ReturnStartDiagnostic}
use Rattle.sle_numbers.specs.declared.return_start_diagnostic.ReturnStartDiagnostic.TheVariants as value

abbrev pub number_of : ReturnStartDiagnostic → ℕ
number_of value.OutOfService = 0
number_of value.UnableToComply = 1
number_of value.InvalidStartTime = 2
number_of value.InvalidStopTime = 3
number_of value.MissingTimeValue = 4
number_of value.InvalidGvcId = 5

abbrev pub word_of : ReturnStartDiagnostic → List ℕ
word_of value.OutOfService = codes "outOfService"
word_of value.UnableToComply = codes "unableToComply"
word_of value.InvalidStartTime = codes "invalidStartTime"
word_of value.InvalidStopTime = codes "invalidStopTime"
word_of value.MissingTimeValue = codes "missingTimeValue"
word_of value.InvalidGvcId = codes "invalidGvcId"

-- in the table's order
abbrev pub all : List ReturnStartDiagnostic
all = value.OutOfService ∷ value.UnableToComply ∷ value.InvalidStartTime ∷ value.InvalidStopTime
    ∷ value.MissingTimeValue ∷ value.InvalidGvcId ∷ []

pub each : AreNumbered number_of all
each value.OutOfService = record { found = refl; small = refl }
each value.UnableToComply = record { found = refl; small = refl }
each value.InvalidStartTime = record { found = refl; small = refl }
each value.InvalidStopTime = record { found = refl; small = refl }
each value.MissingTimeValue = record { found = refl; small = refl }
each value.InvalidGvcId = record { found = refl; small = refl }
