-- The limits of the forward service (CCSDS 912.1-B; those of delays and notices are this product's
-- own).
use Rattle.std.specs.Prelude.{ℕ}

-- the last numbers: of identifications and of counts in reports, and of runs
abbrev pub last_id : ℕ
last_id = 4294967295

abbrev pub last_count : ℕ
last_count = 4294967295

abbrev pub last_run : ℕ
last_run = 18446744073709551615

-- the longest delay, in microseconds, and from how many notices on nothing radiates
abbrev pub longest_delay : ℕ
longest_delay = 600000000

abbrev pub many_notices : ℕ
many_notices = 1000
