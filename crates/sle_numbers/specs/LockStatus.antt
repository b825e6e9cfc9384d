-- The status of a lock (CCSDS 911.1-B, annex A, LockStatus).
use Rattle.std.specs.Prelude.{ℕ, List, [], ◌∷◌, codes, refl}
use Rattle.sle_numbers.specs.Numbered.{AreNumbered}
use Rattle.sle_numbers.specs.declared.lock_status.LockStatus.{LockStatus}
use Rattle.sle_numbers.specs.declared.lock_status.LockStatus.TheVariants as value

abbrev pub number_of : LockStatus → ℕ
number_of value.InLock = 0
number_of value.OutOfLock = 1
number_of value.NotInUse = 2
number_of value.Unknown = 3

abbrev pub word_of : LockStatus → List ℕ
word_of value.InLock = codes "inLock"
word_of value.OutOfLock = codes "outOfLock"
word_of value.NotInUse = codes "notInUse"
word_of value.Unknown = codes "unknown"

-- in the table's order
abbrev pub all : List LockStatus
all = value.InLock ∷ value.OutOfLock ∷ value.NotInUse ∷ value.Unknown ∷ []

pub each : AreNumbered number_of all
each value.InLock = record { found = refl; small = refl }
each value.OutOfLock = record { found = refl; small = refl }
each value.NotInUse = record { found = refl; small = refl }
each value.Unknown = record { found = refl; small = refl }
