-- What a disk may hold, and what its calls make of that. This product's own rule.
use Rattle.std.specs.Prelude.{ℕ, ◌+◌, ◌≤◌, ◌<◌, ◌≡◌, ◌⊎◌, min, max, Bool, ◌&&◌, false, nat_le}
use Rattle.std.specs.Prelude.{nat_lt, List, [], ◌∷◌, ◌++◌, length, take, drop, slice_index}
use Rattle.std.specs.List.{list_any}

-- What is pending since the last good sync: the octets that the sync left, the least and the
-- greatest length since, the ranges written since, each as its place and its number of octets, and
-- the octets that a read gives.
pub record Pending : Type 0 where
  pub synced : List ℕ
  pub least : ℕ
  pub greatest : ℕ
  pub written : List (ℕ × ℕ)
  pub content : List ℕ

-- whether the octet at a place lies in a range
abbrev pub is_inside : ℕ → ℕ × ℕ → Bool
is_inside place range = nat_le range.0 place && nat_lt place (range.0 + range.1)

-- whether the octet at a place lies in one of the ranges
abbrev pub is_written : List (ℕ × ℕ) → ℕ → Bool
is_written ranges place = list_any (is_inside place) ranges

-- An image of a disk: its length lies between the least and the greatest since the last good sync,
-- and each octet below the least length and in no range written since is the synced one. All others
-- are free.
pub record IsImage (pending : Pending) (image : List ℕ) : Type 0 where
  pub no_shorter : pending.least ≤ length image
  pub no_longer : length image ≤ pending.greatest
  pub kept : (place : ℕ) → place < pending.least → is_written pending.written place ≡ false
      → slice_index image place ≡ slice_index pending.synced place

-- nothing pending: a good sync left these octets
abbrev pub all_synced : List ℕ → Pending
all_synced octets = record {
  synced = octets;
  least = length octets;
  greatest = length octets;
  written = [];
  content = octets;
}

-- the content with these octets at a place
abbrev pub overwritten : List ℕ → ℕ → List ℕ → List ℕ
overwritten content place octets = take place content ++ octets
    ++ drop (place + length octets) content

-- a range pending too, with what a read gives then
abbrev pub with_range : ℕ → ℕ → List ℕ → Pending → Pending
with_range place count content pending = record pending {
  greatest = max pending.greatest (place + count);
  written = (place, count) ∷ pending.written;
  content = content;
}

-- a cut pending too, with what a read gives then
abbrev pub with_cut : ℕ → List ℕ → Pending → Pending
with_cut size content pending = record pending { least = min pending.least size; content = content }

-- what a write leaves
abbrev pub after_write : ℕ → List ℕ → Pending → Pending
after_write place octets pending =
    with_range place (length octets) (overwritten pending.content place octets) pending

-- what a cut leaves
abbrev pub after_cut : ℕ → Pending → Pending
after_cut size pending = with_cut size (take size pending.content) pending

-- what a good sync leaves
abbrev pub after_sync : Pending → Pending
after_sync pending = all_synced pending.content

-- what octets become that were written and synced
abbrev pub written_and_synced : ℕ → List ℕ → Pending → Pending
written_and_synced place octets told = all_synced (overwritten told.content place octets)

-- The old octets, but free in a range and past their end, and no longer than the range reaches.
pub record IsTorn (place count : ℕ) (old new : List ℕ) : Type 0 where
  pub no_shorter : length old ≤ length new
  pub no_longer : length new ≤ max (length old) (place + count)
  pub kept : (at : ℕ) → at < length old → is_inside at (place, count) ≡ false
      → slice_index new at ≡ slice_index old at

-- The old octets below a size, free from there on, and no longer than they were.
pub record IsCutShort (size : ℕ) (old new : List ℕ) : Type 0 where
  pub no_longer : length new ≤ length old
  pub kept : (at : ℕ) → at < size → at < length new → slice_index new at ≡ slice_index old at

-- what a failed write may leave: all as it was, or its range pending, with the content torn there
abbrev pub FailsToWrite : ℕ → ℕ → Pending → Pending → Type 0
FailsToWrite place count old new =
    (new ≡ old)
    ⊎ ((content : List ℕ) × IsTorn place count old.content content
    × (new ≡ with_range place count content old))

-- what a failed cut may leave: all as it was, or the cut pending, with the content cut to no less
-- than the size
abbrev pub FailsToCut : ℕ → Pending → Pending → Type 0
FailsToCut size old new =
    (new ≡ old) ⊎ ((length : ℕ) × (size ≤ length)
    × (new ≡ with_cut size (take length old.content) old))

-- The content is an image, and the last good sync left no less than the least length.
pub record IsCoherent (pending : Pending) : Type 0 where
  pub synced : pending.least ≤ length pending.synced
  pub content : IsImage pending pending.content
