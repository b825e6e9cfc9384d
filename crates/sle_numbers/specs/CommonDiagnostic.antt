-- Why an operation is refused, where the reason is common to all (CCSDS 911.1-B, annex A,
-- Diagnostics).
use Rattle.std.specs.Prelude.{ℕ, List, [], ◌∷◌, codes, refl}
use Rattle.sle_numbers.specs.Numbered.{AreNumbered}
use Rattle.sle_numbers.specs.declared.common_diagnostic.CommonDiagnostic.{CommonDiagnostic}
use Rattle.sle_numbers.specs.declared.common_diagnostic.CommonDiagnostic.TheVariants as value

abbrev pub number_of : CommonDiagnostic → ℕ
number_of value.DuplicateInvokeId = 100
number_of value.OtherReason = 127

abbrev pub word_of : CommonDiagnostic → List ℕ
word_of value.DuplicateInvokeId = codes "duplicateInvokeId"
word_of value.OtherReason = codes "otherReason"

-- in the table's order
abbrev pub all : List CommonDiagnostic
all = value.DuplicateInvokeId ∷ value.OtherReason ∷ []

pub each : AreNumbered number_of all
each value.DuplicateInvokeId = record { found = refl; small = refl }
each value.OtherReason = record { found = refl; small = refl }
