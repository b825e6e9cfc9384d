-- Which frames a START of RAF asks for (CCSDS 911.1-B, annex A, RequestedFrameQuality).
use Rattle.std.specs.Prelude.{ℕ, List, [], ◌∷◌, codes, refl}
use Rattle.sle_numbers.specs.Numbered.{AreNumbered}
use Rattle.sle_numbers.specs.declared.requested_frame_quality.RequestedFrameQuality.{RequestedFrameQuality}
use Rattle.sle_numbers.specs.declared.requested_frame_quality.RequestedFrameQuality.TheVariants as value

abbrev pub number_of : RequestedFrameQuality → ℕ
number_of value.GoodFramesOnly = 0
number_of value.ErredFrameOnly = 1
number_of value.AllFrames = 2

abbrev pub word_of : RequestedFrameQuality → List ℕ
word_of value.GoodFramesOnly = codes "goodFramesOnly"
word_of value.ErredFrameOnly = codes "erredFrameOnly"
word_of value.AllFrames = codes "allFrames"

-- in the table's order
abbrev pub all : List RequestedFrameQuality
all = value.GoodFramesOnly ∷ value.ErredFrameOnly ∷ value.AllFrames ∷ []

pub each : AreNumbered number_of all
each value.GoodFramesOnly = record { found = refl; small = refl }
each value.ErredFrameOnly = record { found = refl; small = refl }
each value.AllFrames = record { found = refl; small = refl }
