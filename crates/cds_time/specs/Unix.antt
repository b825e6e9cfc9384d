-- The time that a machine's Unix time names (POSIX: days of 86,400 seconds since 1970-01-01).
use Rattle.std.specs.Prelude.{◌≡◌, ℕ, ◌+◌, ◌*◌, ◌/◌, ◌%◌, nat_lt, if◌then◌else◌, Option, Some, None}
use Rattle.std.specs.Prelude.{unwrap_or, List, map}
use Rattle.std.specs.Option.{option_map, option_and_then}
use Rattle.std.specs.Duration.{as_nanos}
use Rattle.std.specs.declared.time.Duration.{Duration}
use Rattle.cds_time.specs.Moment.{in_micros, epoch}
use Rattle.cds_time.specs.declared.cds.Cds.{Cds}
use Rattle.cds_time.specs.declared.cds.Rest.TheVariants.{Micros}
use Rattle.cds_time.specs.declared.cds.TheConstants.{DAYS_TO_1970, MOMENT_END, PICOS_A_DAY}
use Rattle.cds_time.specs.declared.cds.TheConstants.{PICOS_A_NANO}

-- the moment of this many nanoseconds since 1970-01-01
abbrev pub moment_since_1970 : ℕ → ℕ
moment_since_1970 nanos = DAYS_TO_1970 * PICOS_A_DAY + nanos * PICOS_A_NANO

-- the time of that moment, rounded down to the microsecond, or none past the last day
abbrev pub of_unix_time : ℕ → Option Cds
of_unix_time nanos =
    if nat_lt (moment_since_1970 nanos) MOMENT_END then Some (in_micros (moment_since_1970 nanos))
    else None

-- what a machine shows, in nanoseconds
abbrev pub nanos_of : Option Duration → Option ℕ
nanos_of shown = option_map as_nanos shown

-- the reading of what a machine shows: the epoch where that is none, or past the last day
abbrev pub reading_of : Option ℕ → Cds
reading_of shown = unwrap_or (option_and_then of_unix_time shown) epoch

-- the readings of all that was shown, or none where the machine doesn't tell
abbrev pub readings_of : Option (List (Option ℕ)) → Option (List Cds)
readings_of shown = option_map (map reading_of) shown

-- A Unix time by its fields: the days since 1970 and 4,383 more, and what is left of the day.
abbrev pub UnixTimeByFields : Type 0
UnixTimeByFields =
    (nanos : ℕ) (time : Cds) → of_unix_time nanos ≡ Some time
    → (time.days ≡ 4383 + nanos / 86400000000000)
    × (time.millis ≡ nanos % 86400000000000 / 1000000)
    × (time.rest ≡ Micros (nanos % 1000000 / 1000))
