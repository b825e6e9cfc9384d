-- The laws that those on scripts rest on: on scripts and their connections, on buffers and what a
-- user reads of them, and on streams.
use Rattle.std.specs.Prelude.{ℕ, List, [], map, None}
use Rattle.std.specs.List.{AllByRecursion}
use Rattle.cds_time.specs.declared.cds.Cds.{Cds}
use Rattle.isp1_tml.specs.Message.{Content, IsMessage, spellings}
use Rattle.isp1_tml.specs.Stream.{IsStream}
use Rattle.archive_terms.specs.Archive.{Entry, IsArchive}
use Rattle.station_config.specs.declared.site.Site.{Site}
use Rattle.station_law.specs.State.{start as new_world}
use Rattle.station_desk.specs.ToldBuffer.{ToldBuffer, buffer_message}
use Rattle.station_desk.specs.Readable.{AreReadable}
use Rattle.station_desk.specs.Start.{told_desk}
use Rattle.station_law.specs.Lines.{step_text}
use Rattle.station_law.specs.Runs.{AreTold}
use Rattle.station_law.specs.Connections.{AreSessions}
use Rattle.connection_laws.specs.Delivered.{AreDelivered}
use Rattle.connection_laws.specs.Lossless.{AreLossless}
use Rattle.drill_text.specs.Reading.{reading}
use Rattle.script_world.specs.Script.{AreInWorld}
use Rattle.connection_events.specs.InWorld.{StartsAreInWorld}
use Rattle.piece_laws.specs.Pieces.{AreOfOctets}

pub record Laws : Type 0 where
  pub told : (site : Site) (lines : List (List ℕ)) → AreTold step_text (new_world site) lines
  pub readable : (entries : List Entry) (start stop : Cds) (quality : ℕ) → IsArchive entries
      → AreReadable (told_desk entries start stop quality)
  pub messages : (told : List ToldBuffer) → AreReadable told
      → AllByRecursion IsMessage (map buffer_message told)
  pub connections : AreSessions reading
  pub lossless : AreLossless reading
  pub deliveries : AreDelivered reading
  pub world : AreInWorld reading
  pub in_world : StartsAreInWorld reading
  pub pieces : AreOfOctets
  pub streams : (place : ℕ) (messages : List Content) → AllByRecursion IsMessage messages
      → IsStream place (spellings messages) messages [] None
