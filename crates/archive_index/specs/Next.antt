-- The next entry that a START picks.
use Rattle.std.specs.Prelude.{ℕ, Option, List, slice_get, option_map}
use Rattle.archive_terms.specs.Archive.{Entry}
use Rattle.archive_terms.specs.Selection.{Selection}
use Rattle.archive_terms.specs.Glimpse.{picked_from}

-- the least picked place at or after a place: that of the first of the picked entries from there on
abbrev pub next_picked : List Entry → Selection → ℕ → Option ℕ
next_picked entries s place = option_map (λ x. x.0) (slice_get (picked_from entries s place) 0)
