-- The status of the uplink (CCSDS 912.1-B, annex A, UplinkStatus).
use Rattle.std.specs.Prelude.{ℕ, List, [], ◌∷◌, codes, refl}
use Rattle.sle_numbers.specs.Numbered.{AreNumbered}
use Rattle.fcltu_numbers.specs.declared.uplink_status.UplinkStatus.{UplinkStatus}
use Rattle.fcltu_numbers.specs.declared.uplink_status.UplinkStatus.TheVariants as value

abbrev pub number_of : UplinkStatus → ℕ
number_of value.UplinkStatusNotAvailable = 0
number_of value.NoRfAvailable = 1
number_of value.NoBitLock = 2
number_of value.Nominal = 3

abbrev pub word_of : UplinkStatus → List ℕ
word_of value.UplinkStatusNotAvailable = codes "uplinkStatusNotAvailable"
word_of value.NoRfAvailable = codes "noRfAvailable"
word_of value.NoBitLock = codes "noBitLock"
word_of value.Nominal = codes "nominal"

-- in the table's order
abbrev pub all : List UplinkStatus
all = value.UplinkStatusNotAvailable ∷ value.NoRfAvailable ∷ value.NoBitLock ∷ value.Nominal ∷ []

pub each : AreNumbered number_of all
each value.UplinkStatusNotAvailable = record { found = refl; small = refl }
each value.NoRfAvailable = record { found = refl; small = refl }
each value.NoBitLock = record { found = refl; small = refl }
each value.Nominal = record { found = refl; small = refl }
