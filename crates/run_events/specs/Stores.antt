-- What the recorder does with its archive in a step, as events of a world. This product's own.
use Rattle.std.specs.Prelude.{◌≡◌, ◌⊎◌, ℕ, ◌+◌, true, false, Option, Some, None, Result, Ok, Err}
use Rattle.std.specs.Prelude.{List, [], ◌∷◌, ◌++◌, map}
use Rattle.archive_terms.specs.Archive.{Entry}
use Rattle.recorder_turns.specs.declared.tally.Tally.{Tally}
use Rattle.recorder_turns.specs.declared.recording_fault.RecordingFault.{RecordingFault}
use Rattle.recorder_turns.specs.declared.recording_fault.RecordingFault.TheVariants.{SourceFault}
use Rattle.recorder_turns.specs.declared.recording_fault.RecordingFault.TheVariants.{DiskFault}
use Rattle.recorder_turns.specs.declared.recording_fault.RecordingFault.TheVariants.{TurnsSpent}
use Rattle.recorder_turns.specs.declared.recording_fault.RecordingFault.TheVariants.{Memory}
use Rattle.station_world.specs.File.{with_batch, without_batch, refused}
use Rattle.station_world.specs.World.{Event, offers, begins_store, ends_store, reopens}

-- ---- a step that stored what it was given

-- entries are taken, and stored as one batch
abbrev pub stored_once : List Entry → List Event
stored_once entries = map offers entries ++ begins_store ∷ ends_store true ∷ []

-- they are taken, and their store fails
abbrev pub store_failed : List Entry → List Event
store_failed entries = map offers entries ++ begins_store ∷ ends_store false ∷ []

-- How entries were stored: at once; or their store failed, and the file that was opened again had
-- them; or it hadn't, and they were taken and stored once more.
pub data Way : Type 0 where
  at_once : Way
  landed : Way
  once_more : Way

abbrev pub store_events : Way → List Entry → List Event
store_events at_once entries = stored_once entries
store_events landed entries = store_failed entries ++ reopens with_batch ∷ []
store_events once_more entries =
    store_failed entries ++ reopens without_batch ∷ stored_once entries

-- Which way it was, by how many entries the archive had behind the step's reopen, where one was
-- made: it had so many before, and so many were stored.
abbrev pub IsWay : Option ℕ → ℕ → ℕ → Way → Type 0
IsWay None had stored way = way ≡ at_once
IsWay (Some count) had stored way =
    (count ≡ had + stored) × (way ≡ landed) ⊎ (count ≡ had) × (way ≡ once_more)

-- ---- a step that didn't end

-- What was done of it: nothing with the archive. Entries were taken, and wait. A store of entries
-- failed, and the file wasn't opened again, or that was refused. They were lost, and of them these
-- were taken once more, or a second store of these failed too. Or entries were stored, and not
-- published.
pub data Tail : Type 0 where
  nothing : Tail
  taken : List Entry → Tail
  left_broken : List Entry → Tail
  not_opened : List Entry → Tail
  lost_then_taken : List Entry → List Entry → Tail
  lost_then_failed : List Entry → List Entry → Tail
  unpublished : Way → List Entry → Tail

abbrev pub tail_events : Tail → List Event
tail_events nothing = []
tail_events (taken entries) = map offers entries
tail_events (left_broken entries) = store_failed entries
tail_events (not_opened entries) = store_failed entries ++ reopens refused ∷ []
tail_events (lost_then_taken lost again) =
    store_failed lost ++ reopens without_batch ∷ map offers again
tail_events (lost_then_failed lost again) =
    store_failed lost ++ reopens without_batch ∷ store_failed again
tail_events (unpublished way entries) = store_events way entries

-- With what a recorder's worker ends: whose step broke off by a fault of the disk, by a want of
-- memory, or that had begun none.
abbrev pub EndsWith : Result Tally RecordingFault → Tail → Type 0
EndsWith (Ok tally) nothing = Unit {0}
EndsWith (Err SourceFault) nothing = Unit {0}
EndsWith (Err TurnsSpent) nothing = Unit {0}
EndsWith (Err DiskFault) (not_opened entries) = Unit {0}
EndsWith (Err DiskFault) (lost_then_failed lost again) = Unit {0}
EndsWith (Err Memory) (taken entries) = Unit {0}
EndsWith (Err Memory) (left_broken entries) = Unit {0}
EndsWith (Err Memory) (lost_then_taken lost again) = Unit {0}
EndsWith (Err Memory) (unpublished way entries) = Unit {0}
EndsWith _ _ = ⊥
