-- CDS times by CCSDS 301.0-B (day segmented, epoch 1958-01-01): the moment that one names, and its
-- octets.
use Rattle.std.specs.Prelude.{ℕ, ◌+◌, ◌*◌, ◌/◌, ◌%◌, Bool, ◌&&◌, nat_lt, if◌then◌else◌, Option}
use Rattle.std.specs.Prelude.{Some, None, List, ◌++◌, take, drop, true, false}
use Rattle.std.specs.Int.{w16, w32, to_be_bytes, from_be_bytes}
use Rattle.cds_time.specs.declared.cds.Cds.{Cds}
use Rattle.cds_time.specs.declared.cds.Rest.{Rest}
use Rattle.cds_time.specs.declared.cds.Rest.TheVariants.{Micros, Picos}
use Rattle.cds_time.specs.declared.cds.TheConstants.{MILLIS_A_DAY, MICROS_A_MILLI, PICOS_A_MICRO}
use Rattle.cds_time.specs.declared.cds.TheConstants.{PICOS_A_MILLI}

-- the part below the millisecond, in picoseconds
abbrev pub picos_of : Rest → ℕ
picos_of (Micros n) = n * PICOS_A_MICRO
picos_of (Picos n) = n

-- the part below the millisecond is less than one
abbrev pub is_within_milli : Rest → Bool
is_within_milli rest = nat_lt (picos_of rest) PICOS_A_MILLI

-- the fields are in range
abbrev pub names_moment : Cds → Bool
names_moment time = nat_lt time.millis MILLIS_A_DAY && is_within_milli time.rest

-- the picoseconds since 1958-01-01, where the fields are in range
abbrev pub moment_of : Cds → Option ℕ
moment_of time =
    if names_moment time
    then Some ((time.days * MILLIS_A_DAY + time.millis) * PICOS_A_MILLI + picos_of time.rest)
    else None

-- a whole number of milliseconds, and microseconds below one, as a time
abbrev pub of_millis : ℕ → ℕ → Cds
of_millis millis micros = record {
  days = millis / MILLIS_A_DAY;
  millis = millis % MILLIS_A_DAY;
  rest = Micros micros;
}

-- the time of a moment, rounded down to the microsecond
abbrev pub in_micros : ℕ → Cds
in_micros moment =
    let micros = moment / PICOS_A_MICRO in
    of_millis (micros / MICROS_A_MILLI) (micros % MICROS_A_MILLI)

-- 1958-01-01, the moment 0
abbrev pub epoch : Cds
epoch = record { days = 0; millis = 0; rest = Micros 0 }

-- the part below the millisecond as octets: 2 for microseconds, 4 for picoseconds
abbrev pub rest_octets : Rest → List ℕ
rest_octets (Micros n) = to_be_bytes w16 n
rest_octets (Picos n) = to_be_bytes w32 n

-- the fields as octets, the high one first: days 2, milliseconds 4, the rest
abbrev pub octets_of : Cds → List ℕ
octets_of time = to_be_bytes w16 time.days ++ to_be_bytes w32 time.millis ++ rest_octets time.rest

-- the fields that stand in 8 octets
abbrev pub of_micro_octets : List ℕ → Cds
of_micro_octets octets = record {
  days = from_be_bytes w16 (take 2 octets);
  millis = from_be_bytes w32 (take 4 (drop 2 octets));
  rest = Micros (from_be_bytes w16 (drop 6 octets));
}

-- the fields that stand in 10 octets
abbrev pub of_pico_octets : List ℕ → Cds
of_pico_octets octets = record {
  days = from_be_bytes w16 (take 2 octets);
  millis = from_be_bytes w32 (take 4 (drop 2 octets));
  rest = Picos (from_be_bytes w32 (drop 6 octets));
}

-- whether a time has the microsecond form
abbrev pub is_micros : Rest → Bool
is_micros (Micros _) = true
is_micros (Picos _) = false
