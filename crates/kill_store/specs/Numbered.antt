-- The entries of numbers, and the lines that count them. This sample's own.
use Rattle.std.specs.Prelude.{ℕ, ◌+◌, ◌-◌, ◌*◌, ◌%◌, ◌==◌, if◌then◌else◌, List, [], ◌∷◌, ◌++◌}
use Rattle.std.specs.Prelude.{map, replicate}
use Rattle.std.specs.List.{flat_map, range_with_len}
use Rattle.std.specs.Fmt.{decimal}
use Rattle.cds_time.specs.declared.cds.Cds.{Cds}
use Rattle.cds_time.specs.declared.cds.Rest.TheVariants.{Micros}
use Rattle.archive_terms.specs.Archive.{Entry, frame, loss_of_sync, production, seal}

-- a time that rises with the number, for less than a day
abbrev pub time_of : ℕ → Cds
time_of number = record { days = 20000; millis = number % 86400000; rest = Micros 0 }

-- the entry behind so many others
abbrev pub numbered : ℕ → Entry
numbered number =
    if number % 8 == 5 then loss_of_sync (record {
      at = time_of number;
      carrier = number % 4;
      subcarrier = 1;
      symbol = 2;
    })
    else if number % 8 == 6 then production (number % 3)
    else if number % 8 == 7 then seal (time_of number)
    else frame (record {
      ert = time_of number;
      quality = number % 3;
      antenna = 65 ∷ [];
      lost = number % 10;
      octets = replicate (1 + ((number % 1000) * 37) % 1000) (number % 251);
    })

-- the numbers from the first up to the last one, without it
abbrev pub between : ℕ → ℕ → List ℕ
between first last = range_with_len first (last - first)

-- the entries that bring an archive of `first` entries to `last`
abbrev pub numbered_between : ℕ → ℕ → List Entry
numbered_between first last = map numbered (between first last)

-- a count as a line
abbrev pub count_line : ℕ → List ℕ
count_line count = decimal count ++ 10 ∷ []

-- the lines that count up from `first`, which isn't told, to `last`, which is
abbrev pub counts : ℕ → ℕ → List ℕ
counts first last = flat_map (λ number. count_line (number + 1)) (between first last)
