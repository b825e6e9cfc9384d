-- Moments and counts as texts for people. This product's own.
use Rattle.std.specs.Prelude.{ℕ, ◌-◌, ◌/◌, ◌%◌, ◌==◌, nat_lt, List, ◌++◌, codes, decimal}
use Rattle.std.specs.Prelude.{if◌then◌else◌}

-- two numbers, each with its unit
unfoldable pub two : ℕ → List ℕ → ℕ → List ℕ → List ℕ
two a unit b part = decimal a ++ unit ++ decimal b ++ part

unfoldable pub one : ℕ → List ℕ → List ℕ
one a unit = decimal a ++ unit

-- so many seconds
abbrev pub seconds_text : ℕ → List ℕ
seconds_text s = if nat_lt s 60 then one s (codes " s")
    else (if nat_lt s 3600 then two (s / 60) (codes " min ") (s % 60) (codes " s")
    else (if nat_lt s 86400 then two (s / 3600) (codes " h ") (s / 60 % 60) (codes " min")
    else two (s / 86400) (codes " d ") (s / 3600 % 24) (codes " h")))

-- how long ago a moment is, in milliseconds; 0 is a moment that hasn't come
abbrev pub age_text : ℕ → ℕ → List ℕ
age_text at moment = if moment == 0 then codes "never" else seconds_text ((at - moment) / 1000)

-- a whole number and tenths
unfoldable pub tenths : ℕ → ℕ → List ℕ → List ℕ
tenths whole tenth unit = decimal whole ++ codes "." ++ decimal tenth ++ unit

-- so many octets
abbrev pub octets_text : ℕ → List ℕ
octets_text n = if nat_lt n 1000 then one n (codes " B")
    else (if nat_lt n 1000000 then tenths (n / 1000) (n / 100 % 10) (codes " kB")
    else (if nat_lt n 1000000000 then tenths (n / 1000000) (n / 100000 % 10) (codes " MB")
    else tenths (n / 1000000000) (n / 100000000 % 10) (codes " GB")))

-- a number of two digits
unfoldable pub padded : ℕ → List ℕ
padded n = if nat_lt n 10 then codes "0" ++ decimal n else decimal n

-- the time of the day of a moment, in UTC
unfoldable pub time_text : ℕ → List ℕ
time_text at = padded (at / 3600000 % 24) ++ codes ":" ++ padded (at / 60000 % 60) ++ codes ":"
    ++ padded (at / 1000 % 60)
