-- What became of a CLTU (CCSDS 912.1-B, annex A, CltuStatus).
use Rattle.std.specs.Prelude.{ℕ, List, [], ◌∷◌, codes, refl}
use Rattle.sle_numbers.specs.Numbered.{AreNumbered}
use Rattle.fcltu_numbers.specs.declared.cltu_status.CltuStatus.{CltuStatus}
use Rattle.fcltu_numbers.specs.declared.cltu_status.CltuStatus.TheVariants as value

abbrev pub number_of : CltuStatus → ℕ
number_of value.Radiated = 0
number_of value.Expired = 1
number_of value.Interrupted = 2
number_of value.RadiationStarted = 4

abbrev pub word_of : CltuStatus → List ℕ
word_of value.Radiated = codes "radiated"
word_of value.Expired = codes "expired"
word_of value.Interrupted = codes "interrupted"
word_of value.RadiationStarted = codes "radiationStarted"

-- in the table's order
abbrev pub all : List CltuStatus
all = value.Radiated ∷ value.Expired ∷ value.Interrupted ∷ value.RadiationStarted ∷ []

pub each : AreNumbered number_of all
each value.Radiated = record { found = refl; small = refl }
each value.Expired = record { found = refl; small = refl }
each value.Interrupted = record { found = refl; small = refl }
each value.RadiationStarted = record { found = refl; small = refl }
