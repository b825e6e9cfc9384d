-- What kind of service a BIND asks for (CCSDS 911.1-B, annex A, ApplicationIdentifier).
use Rattle.std.specs.Prelude.{ℕ, List, [], ◌∷◌, codes, refl}
use Rattle.sle_numbers.specs.Numbered.{AreNumbered}
use Rattle.sle_numbers.specs.declared.service_type.ServiceType.{ServiceType}
use Rattle.sle_numbers.specs.declared.service_type.ServiceType.TheVariants as value

abbrev pub number_of : ServiceType → ℕ
number_of value.RtnAllFrames = 0
number_of value.RtnChFrames = 2
number_of value.FwdCltu = 16

abbrev pub word_of : ServiceType → List ℕ
word_of value.RtnAllFrames = codes "rtnAllFrames"
word_of value.RtnChFrames = codes "rtnChFrames"
word_of value.FwdCltu = codes "fwdCltu"

-- in the table's order
abbrev pub all : List ServiceType
all = value.RtnAllFrames ∷ value.RtnChFrames ∷ value.FwdCltu ∷ []

pub each : AreNumbered number_of all
each value.RtnAllFrames = record { found = refl; small = refl }
each value.RtnChFrames = record { found = refl; small = refl }
each value.FwdCltu = record { found = refl; small = refl }
