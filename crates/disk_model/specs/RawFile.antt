-- A file as the system has it: what was asked to have it, and what its calls leave.
use Rattle.std.specs.Prelude.{ℕ, ◌+◌, ◌≤◌, ◌<◌, ◌≡◌, ◌⊎◌, Bool, true, false, Option, IfSome}
use Rattle.std.specs.Prelude.{option_map, List, [], ◌∷◌, length, take, drop, slice_index, Result}
use Rattle.std.specs.Prelude.{IfErr}
use Rattle.std.specs.IoError.{error_kind}
use Rattle.std.specs.declared.io.Error.{Error}
use Rattle.std.specs.declared.io.ErrorKind.TheVariants.{Interrupted}
use Rattle.disk_model.specs.Images.{Pending, with_range, overwritten, is_inside}

-- What was asked of the system to have a file: its path, whether it was to be made where there is
-- none, whether its folder was synced for its name, whether it is locked, and what it held when it
-- was opened, where the file tells.
pub record Asked : Type 0 where
  pub path : List ℕ
  pub to_be_made : Bool
  pub name_synced : Bool
  pub locked : Bool
  pub found : Option (List ℕ)

-- what a file that tells holds
abbrev pub content_in : Option Pending → Option (List ℕ)
content_in pending = option_map (λ told. told.content) pending

-- a file that was just opened
abbrev pub just_opened : List ℕ → Bool → Option Pending → Asked
just_opened path to_be_made pending = record {
  path = path;
  to_be_made = to_be_made;
  name_synced = false;
  locked = false;
  found = content_in pending;
}

abbrev pub with_lock : Asked → Asked
with_lock asked = record asked { locked = true }

abbrev pub with_name_synced : Asked → Asked
with_name_synced asked = record asked { name_synced = true }

-- The file of exactly this path is had as it was found: it is locked, and where it was to be made
-- its folder was synced.
pub record HasFile (path : List ℕ) (to_be_made : Bool) (asked : Asked) (pending : Option Pending)
    : Type 0 where
  pub of_path : asked.path ≡ path
  pub made : asked.to_be_made ≡ to_be_made
  pub named : to_be_made ≡ true → asked.name_synced ≡ true
  pub locked : asked.locked ≡ true
  pub as_found : asked.found ≡ content_in pending

-- so many octets are all that a file holds that tells
abbrev pub IsSizeOf : Option Pending → ℕ → Type 0
IsSizeOf pending size = IfSome pending (λ told. size ≡ length told.content)

-- a file that tells holds no fewer octets
abbrev pub HasAtLeast : Option Pending → ℕ → Type 0
HasAtLeast pending size = IfSome pending (λ told. size ≤ length told.content)

-- the first n of these octets are those of a file that tells, from a place on
abbrev pub ReadsFront : Option Pending → ℕ → ℕ → List ℕ → Type 0
ReadsFront pending place n octets = IfSome pending (λ told. take n octets
    ≡ take n (drop place told.content))

-- the first n octets of a write are there, and the range of all of them is pending
abbrev pub after_first_piece : ℕ → List ℕ → ℕ → Pending → Pending
after_first_piece place octets n told =
    with_range place (length octets) (overwritten told.content place (take n octets)) told

-- the first n of these octets are there too, in a range that is pending
abbrev pub after_further_piece : ℕ → List ℕ → ℕ → Pending → Pending
after_further_piece place octets n told =
    record told { content = overwritten told.content place (take n octets) }

-- The old octets, but free in a range, and as many.
pub record IsTornWithin (place count : ℕ) (old new : List ℕ) : Type 0 where
  pub same_length : length new ≡ length old
  pub kept : (at : ℕ) → at < length old → is_inside at (place, count) ≡ false
      → slice_index new at ≡ slice_index old at

-- what a first piece may leave that failed: all as it was, or the range pending and torn
abbrev pub FailsToBegin : ℕ → ℕ → Pending → Pending → Type 0
FailsToBegin place count old new =
    (new ≡ old)
    ⊎ ((content : List ℕ) × IsTornWithin place count old.content content
    × (new ≡ with_range place count content old))

-- what a further piece may leave that failed
abbrev pub FailsToGoOn : ℕ → ℕ → Pending → Pending → Type 0
FailsToGoOn place count old new =
    (content : List ℕ) × IsTornWithin place count old.content content
    × (new ≡ record old { content = content })

-- a range lies in the newest of the ranges written
abbrev pub IsInNewest : ℕ → ℕ → List (ℕ × ℕ) → Type 0
IsInNewest place count [] = ⊥
IsInNewest place count (range ∷ ranges) =
    (range.0 ≤ place) × (place + count ≤ range.0 + range.1)

-- a range lies in that of the last write, where the file tells
abbrev pub IsInLastWrite : Option Pending → ℕ → ℕ → Type 0
IsInLastWrite pending place count = IfSome pending (λ told. IsInNewest place count told.written)

-- what holds of a call that was interrupted
abbrev pub IfInterrupted : {T : Type 0} → Result T Error → Type 0 → Type 0
IfInterrupted result P = IfErr result (λ error. error_kind error ≡ Interrupted → P)
