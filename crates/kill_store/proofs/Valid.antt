-- Each numbered entry is valid.
use Rattle.std.proofs.Common.{◌≡◌, ℕ, ◌<◌, ◌%◌, true, arith}
use Rattle.std.proofs.lemmas.Bool.{lt-ltb}
use Rattle.cds_time.specs.declared.cds.Rest.TheVariants.{Micros}
use Rattle.archive_terms.specs.Archive.{is_moment}
use Rattle.kill_store.specs.Numbered.{time_of}

in_a_day : (millis : ℕ) → millis < 86400000
    → is_moment (record { days = 20000; millis = millis; rest = Micros 0 }) ≡ true
in_a_day millis less = rw (lt-ltb millis 86400000 less) (lt-ltb _ _ (omega arith))

pub is_time : (number : ℕ) → is_moment (time_of number) ≡ true
is_time number = in_a_day (number % 86400000) (omega arith)
