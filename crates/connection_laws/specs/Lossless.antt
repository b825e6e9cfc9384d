-- No connection of a script loses a reply: the book answers none of its asks Lost, and so it never
-- ends with the diagnostic otherReason (127), which a session gives of a lost reply alone. This
-- product's own.
use Rattle.std.specs.Prelude.{IsTrue, IsFalse, ℕ, Option, List, slice_get, Contains}
use Rattle.std.specs.List.{list_any, AllByRecursion}
use Rattle.station_book.specs.Doors.{HasOneForward}
use Rattle.station_book.specs.Origin.{kinds_of}
use Rattle.station_config.specs.declared.site.Site.{Site}
use Rattle.drill_text.specs.declared.end_word.EndWord.TheVariants.{Aborted}
use Rattle.drill_text.specs.declared.script_line.ScriptLine.{ScriptLine}
use Rattle.drill_text.specs.declared.script_line.ScriptLine.TheVariants.{Open}
use Rattle.session_laws.specs.Losing.{loses}
use Rattle.station_links.specs.declared.link_line.LinkLine.{LinkLine}
use Rattle.station_links.specs.declared.link_line.LinkLine.TheVariants.{Ended}
use Rattle.station_links.specs.Run.{BringsPieces}
use Rattle.station_law.specs.Connections.{Life, life}
use Rattle.station_law.specs.Lines.{step, step_read}
use Rattle.station_law.specs.Runs.{after}
use Rattle.station_law.specs.Standing.{is_free}
use Rattle.station_law.specs.State.{State, start}

-- the line `ended C aborted 127`
abbrev pub lost_end : LinkLine
lost_end = Ended (Aborted 127)

-- no event of a life is answered Lost, and none of its lines is that one
pub record IsLossless (v : Life) : Type 0 where
  pub replies : IsFalse (list_any (λ e. loses e.reply) v.events)
  pub ends : Contains v.said lost_end → ⊥

module _ {L : Type 0} (reads : L → Option ScriptLine) where
  -- the world behind lines of a site
  abbrev pub world_behind : Site → List L → State
  world_behind site lines = after (λ state line. step_read state (reads line)) (start site) lines

  -- Of every connection that a line opens at a free door behind any lines, over any lines behind it
  -- whose pieces are octets, where at most one instance of the site is the forward service's.
  abbrev pub AreLossless : Type 0
  AreLossless =
      (site : Site) (earlier later : List L) (c : ℕ)
      → HasOneForward (kinds_of site.instances)
      → let before = world_behind site earlier in
      let v = life reads c (step before (Open c)).next later in
      IsTrue (is_free (slice_get before.doors.connections c))
      → AllByRecursion BringsPieces v.deeds → IsLossless v
