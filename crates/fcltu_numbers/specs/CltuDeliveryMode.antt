-- How CLTUs are radiated (CCSDS 912.1-B, annex A, DeliveryMode).
use Rattle.std.specs.Prelude.{ℕ, List, [], ◌∷◌, codes, refl}
use Rattle.sle_numbers.specs.Numbered.{AreNumbered}
use Rattle.fcltu_numbers.specs.declared.cltu_delivery_mode.CltuDeliveryMode.{CltuDeliveryMode}
use Rattle.fcltu_numbers.specs.declared.cltu_delivery_mode.CltuDeliveryMode.TheVariants as value

abbrev pub number_of : CltuDeliveryMode → ℕ
number_of value.Online = 3

abbrev pub word_of : CltuDeliveryMode → List ℕ
word_of value.Online = codes "fwdOnline"

-- in the table's order
abbrev pub all : List CltuDeliveryMode
all = value.Online ∷ []

pub each : AreNumbered number_of all
each value.Online = record { found = refl; small = refl }
