-- Why a GET-PARAMETER is refused (CCSDS 911.1-B, annex A).
use Rattle.std.specs.Prelude.{ℕ, List, [], ◌∷◌, codes, refl}
use Rattle.sle_numbers.specs.Numbered.{AreNumbered}
use Rattle.sle_numbers.specs.declared.get_parameter_diagnostic.GetParameterDiagnostic.{GetParameterDiagnostic}
use Rattle.sle_numbers.specs.declared.get_parameter_diagnostic.GetParameterDiagnostic.TheVariants as value

abbrev pub number_of : GetParameterDiagnostic → ℕ
number_of value.UnknownParameter = 0

abbrev pub word_of : GetParameterDiagnostic → List ℕ
word_of value.UnknownParameter = codes "unknownParameter"

-- in the table's order
abbrev pub all : List GetParameterDiagnostic
all = value.UnknownParameter ∷ []

pub each : AreNumbered number_of all
each value.UnknownParameter = record { found = refl; small = refl }
