-- Why an association is aborted (CCSDS 911.1-B, annex A, PeerAbortDiagnostic).
use Rattle.std.specs.Prelude.{ℕ, List, [], ◌∷◌, codes, refl}
use Rattle.sle_numbers.specs.Numbered.{AreNumbered}
use Rattle.sle_numbers.specs.declared.peer_abort_diagnostic.PeerAbortDiagnostic.{PeerAbortDiagnostic}
use Rattle.sle_numbers.specs.declared.peer_abort_diagnostic.PeerAbortDiagnostic.TheVariants as value

abbrev pub number_of : PeerAbortDiagnostic → ℕ
number_of value.AccessDenied = 0
number_of value.UnexpectedResponderId = 1
number_of value.OperationalRequirement = 2
number_of value.ProtocolError = 3
number_of value.CommunicationsFailure = 4
number_of value.EncodingError = 5
number_of value.ReturnTimeout = 6
number_of value.EndOfServiceProvisionPeriod = 7
number_of value.UnsolicitedInvokeId = 8
number_of value.OtherReason = 127

abbrev pub word_of : PeerAbortDiagnostic → List ℕ
word_of value.AccessDenied = codes "accessDenied"
word_of value.UnexpectedResponderId = codes "unexpectedResponderId"
word_of value.OperationalRequirement = codes "operationalRequirement"
word_of value.ProtocolError = codes "protocolError"
word_of value.CommunicationsFailure = codes "communicationsFailure"
word_of value.EncodingError = codes "encodingError"
word_of value.ReturnTimeout = codes "returnTimeout"
word_of value.EndOfServiceProvisionPeriod = codes "endOfServiceProvisionPeriod"
word_of value.UnsolicitedInvokeId = codes "unsolicitedInvokeId"
word_of value.OtherReason = codes "otherReason"

-- in the table's order
abbrev pub all : List PeerAbortDiagnostic
all = value.AccessDenied ∷ value.UnexpectedResponderId ∷ value.OperationalRequirement
    ∷ value.ProtocolError ∷ value.CommunicationsFailure ∷ value.EncodingError
    ∷ value.ReturnTimeout ∷ value.EndOfServiceProvisionPeriod ∷ value.UnsolicitedInvokeId
    ∷ value.OtherReason ∷ []

pub each : AreNumbered number_of all
each value.AccessDenied = record { found = refl; small = refl }
each value.UnexpectedResponderId = record { found = refl; small = refl }
each value.OperationalRequirement = record { found = refl; small = refl }
each value.ProtocolError = record { found = refl; small = refl }
each value.CommunicationsFailure = record { found = refl; small = refl }
each value.EncodingError = record { found = refl; small = refl }
each value.ReturnTimeout = record { found = refl; small = refl }
each value.EndOfServiceProvisionPeriod = record { found = refl; small = refl }
each value.UnsolicitedInvokeId = record { found = refl; small = refl }
each value.OtherReason = record { found = refl; small = refl }
