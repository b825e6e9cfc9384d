-- Why a user ends an association (CCSDS 911.1-B, annex A, UnbindReason).
use Rattle.std.specs.Prelude.{ℕ, List, [], ◌∷◌, codes, refl}
use Rattle.sle_numbers.specs.Numbered.{AreNumbered}
use Rattle.sle_numbers.specs.declared.unbind_reason.UnbindReason.{UnbindReason}
use Rattle.sle_numbers.specs.declared.unbind_reason.UnbindReason.TheVariants as value

abbrev pub number_of : UnbindReason → ℕ
number_of value.End = 0
number_of value.Suspend = 1
number_of value.VersionNotSupported = 2
number_of value.Other = 127

abbrev pub word_of : UnbindReason → List ℕ
word_of value.End = codes "end"
word_of value.Suspend = codes "suspend"
word_of value.VersionNotSupported = codes "versionNotSupported"
word_of value.Other = codes "other"

-- in the table's order
abbrev pub all : List UnbindReason
all = value.End ∷ value.Suspend ∷ value.VersionNotSupported ∷ value.Other ∷ []

pub each : AreNumbered number_of all
each value.End = record { found = refl; small = refl }
each value.Suspend = record { found = refl; small = refl }
each value.VersionNotSupported = record { found = refl; small = refl }
each value.Other = record { found = refl; small = refl }
