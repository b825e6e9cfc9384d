-- What is counted of the buffers that a START hands over.
use Rattle.std.specs.Prelude.{◌≡◌, ℕ, Bool, false, ℤ, Option, List}
use Rattle.std.specs.List.{count_by, sum_by, list_any, flat_map}
use Rattle.archive_terms.specs.Delivery.{Item, archived, is_end_of_data}
use Rattle.station_desk.specs.ToldBuffer.{ToldBuffer, message_octets}
use Rattle.sha1.specs.Sha1.{Holds}
use Rattle.rehearsal.specs.declared.tally.Tally.{Tally}
use Rattle.rehearsal.specs.Frames.{is_frame}

-- whether an item as it is told is a frame, and whether it is the end of data
abbrev pub tells_frame : Item × Option ℤ → Bool
tells_frame (archived _ entry, _) = is_frame entry
tells_frame _ = false

abbrev pub tells_end : Item × Option ℤ → Bool
tells_end x = is_end_of_data x.0

-- the frames of buffers, the buffers that have one, and the items that are the end of data
abbrev pub frames_sent : List ToldBuffer → ℕ
frames_sent told = sum_by (λ buffer. count_by tells_frame buffer) told

abbrev pub buffers_sent : List ToldBuffer → ℕ
buffers_sent told = count_by (λ buffer. list_any tells_frame buffer) told

abbrev pub ends_sent : List ToldBuffer → ℕ
ends_sent told = sum_by (λ buffer. count_by tells_end buffer) told

-- the octets of their messages, one after the other
abbrev pub octets_sent : List ToldBuffer → List ℕ
octets_sent told = flat_map message_octets told

-- a tally is that of these buffers
pub record Counts (tally : Tally) (told : List ToldBuffer) : Type 0 where
  pub frames : tally.frames ≡ frames_sent told
  pub buffers : tally.buffers ≡ buffers_sent told
  pub ends : tally.ends ≡ ends_sent told
  pub octets : Holds tally.hasher (octets_sent told)
