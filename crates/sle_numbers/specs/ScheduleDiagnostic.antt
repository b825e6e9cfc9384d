-- Why a SCHEDULE-STATUS-REPORT is refused (CCSDS 911.1-B, annex A,
-- DiagnosticScheduleStatusReport).
use Rattle.std.specs.Prelude.{ℕ, List, [], ◌∷◌, codes, refl}
use Rattle.sle_numbers.specs.Numbered.{AreNumbered}
use Rattle.sle_numbers.specs.declared.schedule_diagnostic.ScheduleDiagnostic.{ScheduleDiagnostic}
use Rattle.sle_numbers.specs.declared.schedule_diagnostic.ScheduleDiagnostic.TheVariants as value

abbrev pub number_of : ScheduleDiagnostic → ℕ
number_of value.NotSupportedInThisDeliveryMode = 0
number_of value.AlreadyStopped = 1
number_of value.InvalidReportingCycle = 2

abbrev pub word_of : ScheduleDiagnostic → List ℕ
word_of value.NotSupportedInThisDeliveryMode = codes "notSupportedInThisDeliveryMode"
word_of value.AlreadyStopped = codes "alreadyStopped"
word_of value.InvalidReportingCycle = codes "invalidReportingCycle"

-- in the table's order
abbrev pub all : List ScheduleDiagnostic
all = value.NotSupportedInThisDeliveryMode ∷ value.AlreadyStopped ∷ value.InvalidReportingCycle
    ∷ []

pub each : AreNumbered number_of all
each value.NotSupportedInThisDeliveryMode = record { found = refl; small = refl }
each value.AlreadyStopped = record { found = refl; small = refl }
each value.InvalidReportingCycle = record { found = refl; small = refl }
