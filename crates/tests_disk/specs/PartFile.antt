-- A file in memory that moves its octets in parts: what its changes leave.
use Rattle.std.specs.Prelude.{ℕ, ◌+◌, ◌≤◌, ◌≡◌, max, nat_le, Bool, true, false, ◌&&◌, Some, List}
use Rattle.std.specs.Prelude.{[], ◌∷◌, ◌++◌, length, take, fold, if◌then◌else◌}
use Rattle.disk_model.specs.Images.{Pending, IsImage, all_synced, with_range}
use Rattle.disk_model.specs.Images.{overwritten, after_cut, after_sync}
use Rattle.disk_model.specs.RawFile.{Asked, just_opened}
use Rattle.tests_disk.specs.declared.change.Change.{Change}
use Rattle.tests_disk.specs.declared.change.Change.TheVariants.{Begun, WentOn, Cut, Synced}

-- what it held when it was opened, the changes since, and what was asked to have it
pub record PartState : Type 0 where
  pub start : List ℕ
  pub log : List Change
  pub asked : Asked

-- whether a range lies in the newest of the ranges written
abbrev pub is_in_newest : ℕ → ℕ → List (ℕ × ℕ) → Bool
is_in_newest place count [] = false
is_in_newest place count (range ∷ ranges) =
    nat_le range.0 place && nat_le (place + count) (range.0 + range.1)

-- whether the last write may go on so: in its range, and not past the end
abbrev pub goes_on : ℕ → List ℕ → Pending → Bool
goes_on place octets told =
    is_in_newest place (length octets) told.written && nat_le place (length told.content)

abbrev pub after_change : Pending → Change → Pending
after_change told (Begun place count octets) =
    with_range place (max count (length octets)) (overwritten told.content place octets) told
after_change told (WentOn place octets) =
    if goes_on place octets told
    then record told { content = overwritten told.content place octets } else told
after_change told (Cut size) = after_cut size told
after_change told Synced = after_sync told

-- whether a change takes effect as it is
abbrev pub fits : Pending → Change → Bool
fits told (Begun place count octets) = nat_le (length octets) count
fits told (WentOn place octets) = goes_on place octets told
fits told (Cut size) = true
fits told Synced = true

-- what is pending after the changes of a log, of a file that held these octets
abbrev pub pending_after : List ℕ → List Change → Pending
pending_after start log = fold after_change (all_synced start) log

abbrev pub pending_of : PartState → Pending
pending_of file = pending_after file.start file.log

-- the images since a moment are those after so many changes or more
abbrev pub IsImageSince : PartState → ℕ → List ℕ → Type 0
IsImageSince file since image =
    (moment : ℕ) × (since ≤ moment) × (moment ≤ length file.log)
    × IsImage (pending_after file.start (take moment file.log)) image

-- a file that was just opened
abbrev pub opened : List ℕ → Bool → List ℕ → PartState
opened path to_be_made octets = record {
  start = octets;
  log = [];
  asked = just_opened path to_be_made (Some (all_synced octets));
}

abbrev pub with_change : PartState → Change → PartState
with_change file change = record file { log = file.log ++ change ∷ [] }

-- the file holds what its changes made of what it held
abbrev pub Agrees : List ℕ → List Change → List ℕ → Type 0
Agrees start log content = content ≡ (pending_after start log).content
