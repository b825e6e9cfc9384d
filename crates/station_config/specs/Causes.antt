-- Why a line is refused, and the numbers of the causes.
use Rattle.std.specs.Prelude.{ℕ}
use Rattle.station_config.specs.declared.cause.Cause.{Cause}
use Rattle.station_config.specs.declared.cause.Cause.TheVariants.{FirstWord, Count, Word, Repeated}
use Rattle.station_config.specs.declared.cause.Cause.TheVariants.{NoOwner, Surplus}
use Rattle.words.specs.declared.cause.Cause.{Cause as OfWords}
use Rattle.words.specs.declared.cause.Cause.TheVariants.{FirstWord as BadFirst, Count as BadCount}
use Rattle.words.specs.declared.cause.Cause.TheVariants.{Word as BadWord}

abbrev pub number_of : Cause → ℕ
number_of FirstWord = 1
number_of Count = 2
number_of Word = 3
number_of Repeated = 4
number_of NoOwner = 5
number_of Surplus = 6

abbrev pub cause_of_words : OfWords → Cause
cause_of_words BadFirst = FirstWord
cause_of_words BadCount = Count
cause_of_words BadWord = Word
