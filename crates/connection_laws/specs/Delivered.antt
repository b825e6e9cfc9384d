-- What each START on a connection of a script was handed is what *Delivery* of it hands over of the
-- archive, then and after any later lines, of which a power failure may be one.
use Rattle.std.specs.Prelude.{◌≡◌, IsTrue, ℕ, Option, Some, List, slice_get}
use Rattle.std.specs.List.{AllByRecursion}
use mathlib.Core.List.{IsPrefix}
use Rattle.archive_terms.specs.Archive.{Entry, IsArchive}
use Rattle.station_config.specs.Validity.{IsSite}
use Rattle.station_config.specs.declared.site.Site.{Site}
use Rattle.drill_text.specs.declared.script_line.ScriptLine.{ScriptLine}
use Rattle.drill_text.specs.declared.script_line.ScriptLine.TheVariants.{Open}
use Rattle.session_core.specs.Lists.{Began}
use Rattle.session_core.specs.Session.{Round}
use Rattle.session_laws.specs.Handing.{EachHandsOver, EachSendsWhereServed}
use Rattle.station_links.specs.Connected.{began, opened}
use Rattle.station_links.specs.Run.{BringsPieces, rounds_by}
use Rattle.station_law.specs.Connections.{life}
use Rattle.station_law.specs.Lines.{step, step_read}
use Rattle.station_law.specs.Runs.{after}
use Rattle.station_law.specs.Standing.{is_free}
use Rattle.station_law.specs.State.{State}
use Rattle.connection_laws.specs.Lossless.{world_behind}

-- What each START among a session's rounds was handed is right by each archive that begins with
-- these entries.
abbrev pub AreHanded : Began → List Round → List Entry → Type 0
AreHanded b rounds stored =
    (archive : List Entry) → IsArchive archive → IsPrefix stored archive
    → EachHandsOver b rounds archive

-- these entries are an archive that begins with those
pub record Follows (stored archive : List Entry) : Type 0 where
  pub archive_is : IsArchive archive
  pub begins : IsPrefix stored archive

module _ {L : Type 0} (reads : L → Option ScriptLine) where
  -- the world that further lines leave
  abbrev pub world_after : State → List L → State
  world_after state lines = after (λ state line. step_read state (reads line)) state lines

  -- What the STARTs in these rounds were handed is right by what is stored in this world, by what
  -- is stored after any more lines, and by each other archive that begins with it; and no message
  -- of a service was handed over, or dropped, but where a started service served the round.
  pub record IsDelivered (b : Began) (rounds : List Round) (now : State) : Type 0 where
    pub handed : AreHanded b rounds now.store.published
    pub only : EachSendsWhereServed b rounds
    pub later : (more : List L)
        → Follows now.store.published (world_after now more).store.published

  -- Of every connection that a line opens at a free door after any lines of a valid site, over any
  -- lines after it whose pieces are octets.
  abbrev pub AreDelivered : Type 0
  AreDelivered =
      (site : Site) (earlier later : List L) (line : L) (c : ℕ) → IsSite site
      → reads line ≡ Some (Open c)
      → let before = world_behind reads site earlier in
      let opening = (step before (Open c)).next in
      let deeds = (life reads c opening later).deeds in
      IsTrue (is_free (slice_get before.doors.connections c)) → AllByRecursion BringsPieces deeds
      → IsDelivered (began site c before.clock)
      (rounds_by site c (opened c before.clock) deeds) (world_after opening later)
