-- The quality of a frame (CCSDS 911.1-B, annex A, FrameQuality).
use Rattle.std.specs.Prelude.{ℕ, List, [], ◌∷◌, codes, refl}
use Rattle.sle_numbers.specs.Numbered.{AreNumbered}
use Rattle.sle_numbers.specs.declared.frame_quality.FrameQuality.{FrameQuality}
use Rattle.sle_numbers.specs.declared.frame_quality.FrameQuality.TheVariants as value

abbrev pub number_of : FrameQuality → ℕ
number_of value.Good = 0
number_of value.Erred = 1
number_of value.Undetermined = 2

abbrev pub word_of : FrameQuality → List ℕ
word_of value.Good = codes "good"
word_of value.Erred = codes "erred"
word_of value.Undetermined = codes "undetermined"

-- in the table's order
abbrev pub all : List FrameQuality
all = value.Good ∷ value.Erred ∷ value.Undetermined ∷ []

pub each : AreNumbered number_of all
each value.Good = record { found = refl; small = refl }
each value.Erred = record { found = refl; small = refl }
each value.Undetermined = record { found = refl; small = refl }
