-- What a talk reads of its clock and of the one who may ask it to end. This product's own.
use Rattle.std.specs.Prelude.{◌≡◌, ℕ, Bool, Option, List, map, unwrap_or}
use Rattle.cds_time.specs.Moment.{moment_of}
use Rattle.cds_time.specs.declared.cds.Cds.{Cds}
use Rattle.octet_core.specs.Told.{Tells}
use Rattle.user_talk.specs.declared.reading.Reading.{Reading}

-- a time that names no moment counts as the moment 0
abbrev pub moment_shown : Cds → ℕ
moment_shown time = unwrap_or (moment_of time) 0

-- A clock that tells showed the moments of these readings, in order; and whether the end is asked
-- was answered as they say, where that is told.
pub record Reads (before after : Option (List Cds)) (asked_before asked_after : Option (List Bool))
    (readings : List Reading) : Type 0 where
  pub shown : List Cds
  pub told : Tells before after shown
  pub moments_are : map moment_shown shown ≡ map (λ (r : Reading). r.now) readings
  pub asked : Tells asked_before asked_after (map (λ (r : Reading). r.asked) readings)
