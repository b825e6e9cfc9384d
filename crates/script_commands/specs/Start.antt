-- The STARTs of a script, and what each one hands over.
use Rattle.std.specs.Prelude.{◌≡◌, ℕ, ◌≤◌, IsTrue, Some, None, List, ◌∷◌}
use Rattle.std.specs.Prelude.{◌++◌, map}
use Rattle.cds_time.specs.declared.cds.Cds.{Cds}
use Rattle.isp1_tml.specs.Message.{Content}
use Rattle.archive_terms.specs.Archive.{Entry}
use Rattle.archive_terms.specs.Delivery.{Item}
use Rattle.archive_terms.specs.Continuity.{told_buffers}
use Rattle.station_config.specs.declared.site.Site.{Site}
use Rattle.sle_numbers.specs.RequestedFrameQuality.{number_of}
use Rattle.sle_numbers.specs.declared.requested_frame_quality.RequestedFrameQuality.{RequestedFrameQuality}
use Rattle.drill_text.specs.Reading.{reading}
use Rattle.drill_text.specs.declared.script_line.ScriptLine.TheVariants.{Desk}
use Rattle.station_desk.specs.Start.{moment}
use Rattle.station_law.specs.State.{State, start as new_world}
use Rattle.station_desk.specs.ToldBuffer.{ToldBuffer, buffer_message}
use Rattle.station_desk.specs.Start.{desk_buffers}
use Rattle.station_law.specs.Lines.{step_text}
use Rattle.station_law.specs.Runs.{after, in_order}
use Rattle.script_head.specs.Lines.{lines_of}
use Rattle.script_commands.specs.Script.{script_of, runs}

-- a START: the site at which it is taken, the lines before it and those after it, and the times
-- and the quality that it asks for
pub record Start : Type 0 where
  pub site : Site
  pub earlier : List (List ℕ)
  pub later : List (List ℕ)
  pub start : Cds
  pub stop : Cds
  pub quality : RequestedFrameQuality

-- the world that it finds
abbrev pub world_at : Start → State
world_at s = after step_text (new_world s.site) s.earlier

-- it is one of the lines that a script runs, after lines in order, and its stop isn't before its
-- start
pub record IsStartOf (script : List ℕ) (s : Start) : Type 0 where
  pub line : List ℕ
  pub stands : script_of (lines_of script) ≡ runs s.site (s.earlier ++ line ∷ s.later)
  pub good : IsTrue (in_order step_text (new_world s.site) s.earlier)
  pub says : reading line ≡ Some (Desk s.start s.stop s.quality)
  pub ordered : moment s.start ≤ moment s.stop

-- each START of a script is so
abbrev pub EachStart : List ℕ → (Start → Type 0) → Type 0
EachStart script IsSo = (s : Start) → IsStartOf script s → IsSo s

-- the archived entries when it is taken
abbrev pub archive_at : Start → List Entry
archive_at s = (world_at s).store.published

-- the buffers that it hands over, and their messages by an archive
abbrev pub buffers_of : Start → List (List Item)
buffers_of s = desk_buffers (archive_at s) s.start s.stop (number_of s.quality)

abbrev pub told_by : List Entry → Start → List ToldBuffer
told_by archive s = told_buffers archive None (buffers_of s)

abbrev pub messages_by : List Entry → Start → List Content
messages_by archive s = map buffer_message (told_by archive s)

abbrev pub messages_of : Start → List Content
messages_of s = messages_by (archive_at s) s
