-- Sorted lists of what an index keeps of entries.
use Rattle.std.specs.Prelude.{◌≡◌, ℕ, ◌+◌, ◌<◌, ◌≤◌, max, Bool, true, false, ◌&&◌, nat_le, List}
use Rattle.std.specs.Prelude.{[], ◌∷◌, slice_get, Some, None, zero, suc, Option, if◌then◌else◌, map}
use Rattle.std.specs.Option.{option_or, unwrap_or}
use Rattle.archive_terms.specs.Archive.{Entry, frame, seal, frame_time, seal_time}
use Rattle.archive_terms.specs.Selection.{Filter, fits, Selection, is_not_after}
use Rattle.archive_terms.specs.Continuity.{lost_of}
use Rattle.archive_index.specs.declared.row.Row.{Row}

-- whether a row is at a place or after it, at a moment or later
abbrev pub reaches : ℕ → ℕ → Row → Bool
reaches place moment r = nat_le place r.place && nat_le moment r.moment

-- later rows have later places, and no earlier moments
abbrev pub IsRising : List Row → Type 0
IsRising rows = (i j : ℕ) (r q : Row) → i < j → slice_get rows i ≡ Some r
    → slice_get rows j ≡ Some q → (r.place < q.place) × (r.moment ≤ q.moment)

-- the first row at a place or after it, at a moment or later
pub record IsFirstFrom (place moment : ℕ) (rows : List Row) (n : ℕ) : Type 0 where
  pub before : (k : ℕ) (r : Row) → k < n → slice_get rows k ≡ Some r
      → reaches place moment r ≡ false
  pub behind : (k : ℕ) (r : Row) → n ≤ k → slice_get rows k ≡ Some r
      → reaches place moment r ≡ true

-- the row before a place in a list
abbrev pub row_before : List Row → ℕ → Option Row
row_before rows zero = None
row_before rows (suc k) = slice_get rows k

-- an entry's moment, where it has one
abbrev pub moment_in : Entry → ℕ
moment_in e = unwrap_or (option_or (frame_time e) (seal_time e)) 0

-- the row of an entry at a place, with the frames lost up to and including it
abbrev pub row_at : ℕ → ℕ → Entry → Row
row_at place through e = record { place = place; moment = moment_in e; lost = through }

-- the rows of the entries that fit, in order, after some entries that lost so many frames
abbrev pub rows_behind : (Entry → Bool) → ℕ → ℕ → List Entry → List Row
rows_behind fits place lost [] = []
rows_behind fits place lost (e ∷ entries) =
    let through = lost + lost_of e in
    let rest = rows_behind fits (place + 1) through entries in
    if fits e then row_at place through e ∷ rest else rest

abbrev pub rows_of : (Entry → Bool) → List Entry → List Row
rows_of fits entries = rows_behind fits 0 0 entries

-- whether an entry is a frame that a filter lets through
abbrev pub passes : Filter → Entry → Bool
passes filter (frame f) = fits filter f
passes filter _ = false

abbrev pub is_seal : Entry → Bool
is_seal (seal _) = true
is_seal _ = false

-- the rows of a list that some of their numbers name
abbrev pub IsThrough : List Row → List ℕ → List Row → Type 0
IsThrough rows numbers named = map (λ n. slice_get rows n) numbers ≡ map (λ r. Some r) named

-- whether a selection admits the frame of a row, which its filter lets through, from a place on
abbrev pub start_of : Selection → ℕ
start_of s = unwrap_or s.start 0

abbrev pub is_wanted : Selection → ℕ → Row → Bool
is_wanted s from r = reaches (max from s.first) (start_of s) r && is_not_after s.stop r.moment
