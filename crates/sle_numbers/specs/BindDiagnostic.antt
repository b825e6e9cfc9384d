-- Why a BIND is refused (CCSDS 911.1-B, annex A, BindDiagnostic).
use Rattle.std.specs.Prelude.{ℕ, List, [], ◌∷◌, codes, refl}
use Rattle.sle_numbers.specs.Numbered.{AreNumbered}
use Rattle.sle_numbers.specs.declared.bind_diagnostic.BindDiagnostic.{BindDiagnostic}
use Rattle.sle_numbers.specs.declared.bind_diagnostic.BindDiagnostic.TheVariants as value

abbrev pub number_of : BindDiagnostic → ℕ
number_of value.AccessDenied = 0
number_of value.ServiceTypeNotSupported = 1
number_of value.VersionNotSupported = 2
number_of value.NoSuchServiceInstance = 3
number_of value.AlreadyBound = 4
number_of value.SiNotAccessibleToThisInitiator = 5
number_of value.InconsistentServiceType = 6
number_of value.InvalidTime = 7
number_of value.OutOfService = 8
number_of value.OtherReason = 127

abbrev pub word_of : BindDiagnostic → List ℕ
word_of value.AccessDenied = codes "accessDenied"
word_of value.ServiceTypeNotSupported = codes "serviceTypeNotSupported"
word_of value.VersionNotSupported = codes "versionNotSupported"
word_of value.NoSuchServiceInstance = codes "noSuchServiceInstance"
word_of value.AlreadyBound = codes "alreadyBound"
word_of value.SiNotAccessibleToThisInitiator = codes "siNotAccessibleToThisInitiator"
word_of value.InconsistentServiceType = codes "inconsistentServiceType"
word_of value.InvalidTime = codes "invalidTime"
word_of value.OutOfService = codes "outOfService"
word_of value.OtherReason = codes "otherReason"

-- in the table's order
abbrev pub all : List BindDiagnostic
all = value.AccessDenied ∷ value.ServiceTypeNotSupported ∷ value.VersionNotSupported
    ∷ value.NoSuchServiceInstance ∷ value.AlreadyBound ∷ value.SiNotAccessibleToThisInitiator
    ∷ value.InconsistentServiceType ∷ value.InvalidTime ∷ value.OutOfService ∷ value.OtherReason
    ∷ []

pub each : AreNumbered number_of all
each value.AccessDenied = record { found = refl; small = refl }
each value.ServiceTypeNotSupported = record { found = refl; small = refl }
each value.VersionNotSupported = record { found = refl; small = refl }
each value.NoSuchServiceInstance = record { found = refl; small = refl }
each value.AlreadyBound = record { found = refl; small = refl }
each value.SiNotAccessibleToThisInitiator = record { found = refl; small = refl }
each value.InconsistentServiceType = record { found = refl; small = refl }
each value.InvalidTime = record { found = refl; small = refl }
each value.OutOfService = record { found = refl; small = refl }
each value.OtherReason = record { found = refl; small = refl }
