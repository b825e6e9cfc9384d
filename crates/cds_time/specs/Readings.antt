-- What a clock tells of its readings.
use Rattle.std.specs.Prelude.{◌≡◌, ℕ, ◌+◌, ◌-◌, nat_le, min, if◌then◌else◌, Option, Some, None}
use Rattle.std.specs.Prelude.{IfSome, IsSomeAnd, unwrap_or, List, [], ◌∷◌, ◌++◌, length, take}
use Rattle.std.specs.Prelude.{slice_get}
use Rattle.cds_time.specs.Moment.{epoch}
use Rattle.cds_time.specs.declared.cds.Cds.{Cds}

-- after a call an object that still tells has told what it told before, and this answer last
abbrev pub TellsNext : {A : Type 0} → Option (List A) → Option (List A) → A → Type 0
TellsNext before after answer =
    IfSome after (λ told. IsSomeAnd before (λ earlier. told ≡ earlier ++ answer ∷ []))

-- the readings that a clock in memory is to give, and how many it was asked for, up to one more
-- than there are
pub record Script : Type 0 where
  pub readings : List Cds
  pub given : ℕ

-- the next reading: the one in turn, behind the last one the last again, and of an empty list the
-- epoch
abbrev pub next_reading : Script → Cds
next_reading script =
    unwrap_or (slice_get script.readings script.given)
    (unwrap_or (slice_get script.readings (length script.readings - 1)) epoch)

-- the script after a reading
abbrev pub after_reading : Script → Script
after_reading script = record script { given = min (script.given + 1) (length script.readings + 1) }

-- what was given, or nothing once more readings were asked for than there are
abbrev pub told_by : Script → Option (List Cds)
told_by script =
    if nat_le script.given (length script.readings) then Some (take script.given script.readings)
    else None
