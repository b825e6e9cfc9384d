-- Why a THROW-EVENT is refused (CCSDS 912.1-B, annex A, DiagnosticCltuThrowEvent).
use Rattle.std.specs.Prelude.{ℕ, List, [], ◌∷◌, codes, refl}
use Rattle.sle_numbers.specs.Numbered.{AreNumbered}
use Rattle.fcltu_numbers.specs.declared.cltu_throw_event_diagnostic.CltuThrowEventDiagnostic.{CltuThrowEventDiagnostic}
use Rattle.fcltu_numbers.specs.declared.cltu_throw_event_diagnostic.CltuThrowEventDiagnostic.TheVariants as value

abbrev pub number_of : CltuThrowEventDiagnostic → ℕ
number_of value.OperationNotSupported = 0
number_of value.EventInvocIdOutOfSequence = 1
number_of value.NoSuchEvent = 2

abbrev pub word_of : CltuThrowEventDiagnostic → List ℕ
word_of value.OperationNotSupported = codes "operationNotSupported"
word_of value.EventInvocIdOutOfSequence = codes "eventInvocIdOutOfSequence"
word_of value.NoSuchEvent = codes "noSuchEvent"

-- in the table's order
abbrev pub all : List CltuThrowEventDiagnostic
all = value.OperationNotSupported ∷ value.EventInvocIdOutOfSequence ∷ value.NoSuchEvent ∷ []

pub each : AreNumbered number_of all
each value.OperationNotSupported = record { found = refl; small = refl }
each value.EventInvocIdOutOfSequence = record { found = refl; small = refl }
each value.NoSuchEvent = record { found = refl; small = refl }
