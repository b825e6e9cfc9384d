-- How a return service gives its frames (CCSDS 911.1-B, annex A, DeliveryMode).
use Rattle.std.specs.Prelude.{ℕ, List, [], ◌∷◌, codes, refl}
use Rattle.sle_numbers.specs.Numbered.{AreNumbered}
use Rattle.sle_numbers.specs.declared.return_delivery_mode.ReturnDeliveryMode.{ReturnDeliveryMode}
use Rattle.sle_numbers.specs.declared.return_delivery_mode.ReturnDeliveryMode.TheVariants as value

abbrev pub number_of : ReturnDeliveryMode → ℕ
number_of value.TimelyOnline = 0
number_of value.CompleteOnline = 1
number_of value.Offline = 2

abbrev pub word_of : ReturnDeliveryMode → List ℕ
word_of value.TimelyOnline = codes "rtnTimelyOnline"
word_of value.CompleteOnline = codes "rtnCompleteOnline"
word_of value.Offline = codes "rtnOffline"

-- in the table's order
abbrev pub all : List ReturnDeliveryMode
all = value.TimelyOnline ∷ value.CompleteOnline ∷ value.Offline ∷ []

pub each : AreNumbered number_of all
each value.TimelyOnline = record { found = refl; small = refl }
each value.CompleteOnline = record { found = refl; small = refl }
each value.Offline = record { found = refl; small = refl }
