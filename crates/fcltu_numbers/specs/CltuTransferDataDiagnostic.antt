-- Why a CLTU isn't queued (CCSDS 912.1-B, annex A, DiagnosticCltuTransferData).
use Rattle.std.specs.Prelude.{ℕ, List, [], ◌∷◌, codes, refl}
use Rattle.sle_numbers.specs.Numbered.{AreNumbered}
use Rattle.fcltu_numbers.specs.declared.cltu_transfer_data_diagnostic.CltuTransferDataDiagnostic.{CltuTransferDataDiagnostic}
use Rattle.fcltu_numbers.specs.declared.cltu_transfer_data_diagnostic.CltuTransferDataDiagnostic.TheVariants as value

abbrev pub number_of : CltuTransferDataDiagnostic → ℕ
number_of value.UnableToProcess = 0
number_of value.UnableToStore = 1
number_of value.OutOfSequence = 2
number_of value.InconsistentTimeRange = 3
number_of value.InvalidTime = 4
number_of value.LateSldu = 5
number_of value.InvalidDelayTime = 6
number_of value.CltuError = 7

abbrev pub word_of : CltuTransferDataDiagnostic → List ℕ
word_of value.UnableToProcess = codes "unableToProcess"
word_of value.UnableToStore = codes "unableToStore"
word_of value.OutOfSequence = codes "outOfSequence"
word_of value.InconsistentTimeRange = codes "inconsistentTimeRange"
word_of value.InvalidTime = codes "invalidTime"
word_of value.LateSldu = codes "lateSldu"
word_of value.InvalidDelayTime = codes "invalidDelayTime"
word_of value.CltuError = codes "cltuError"

-- in the table's order
abbrev pub all : List CltuTransferDataDiagnostic
all = value.UnableToProcess ∷ value.UnableToStore ∷ value.OutOfSequence
    ∷ value.InconsistentTimeRange ∷ value.InvalidTime ∷ value.LateSldu ∷ value.InvalidDelayTime
    ∷ value.CltuError ∷ []

pub each : AreNumbered number_of all
each value.UnableToProcess = record { found = refl; small = refl }
each value.UnableToStore = record { found = refl; small = refl }
each value.OutOfSequence = record { found = refl; small = refl }
each value.InconsistentTimeRange = record { found = refl; small = refl }
each value.InvalidTime = record { found = refl; small = refl }
each value.LateSldu = record { found = refl; small = refl }
each value.InvalidDelayTime = record { found = refl; small = refl }
each value.CltuError = record { found = refl; small = refl }
