-- Each START on a connection of a script is one of the STARTs of the world behind its lines. This
-- product's own.
use Rattle.std.specs.Prelude.{◌≡◌, ℕ, IsTrue, Option, Some, List, ◌∷◌, ◌++◌, slice_get}
use Rattle.std.specs.List.{AllByRecursion}
use Rattle.return_pdu.specs.declared.return_kind.ReturnKind.{ReturnKind}
use Rattle.station_config.specs.Validity.{IsSite}
use Rattle.station_config.specs.declared.site.Site.{Site}
use Rattle.drill_text.specs.declared.script_line.ScriptLine.{ScriptLine}
use Rattle.drill_text.specs.declared.script_line.ScriptLine.TheVariants.{Open}
use Rattle.session_core.specs.Lists.{Began}
use Rattle.session_core.specs.Session.{BookAnswer}
use Rattle.session_laws.specs.Deliveries.{done_in_rounds}
use Rattle.session_laws.specs.Handing.{Start as SessionStart, IsStart, found_by, begun_by}
use Rattle.session_laws.specs.Instances.{shape_at, shape_of_terms}
use Rattle.session_laws.specs.Starts.{Asks}
use Rattle.station_world.specs.Comes.{Begins}
use Rattle.station_world.specs.Life.{Start, Life, book, done_by}
use Rattle.station_world.specs.World.{World, lives}
use Rattle.session_events.specs.Starts.{ServesThese}
use Rattle.station_links.specs.Connected.{began, opened}
use Rattle.station_links.specs.Run.{BringsPieces, rounds_by}
use Rattle.station_law.specs.Connections.{life}
use Rattle.station_law.specs.Lines.{step}
use Rattle.station_law.specs.Runs.{after}
use Rattle.station_law.specs.Standing.{is_free}
use Rattle.station_law.specs.State.{State, start as new_world}
use Rattle.script_world.specs.Script.{answers, world_behind}

-- A START of a session is one of a life of this world: it is at its door, and its terms are what the
-- START's message asks for, of the instance of its kind that is bound, at the front that the round's
-- lookup saw.
-- What its delivery did in the rounds that it serves, of what is published in that life, begins what
-- that START has done, and is all of it where it serves no more.
pub record IsStartOf (b : Began) (a : SessionStart) (w : World) : Type 0 where
  pub kind : ReturnKind
  pub place : ℕ
  pub life : Life
  pub lives : slice_get (lives w) place ≡ Some life
  pub number : ℕ
  pub start : Start
  pub there : slice_get life.starts number ≡ Some start
  pub door : start.door ≡ b.door
  pub told : BookAnswer
  pub asked : a.own.told ≡ Some told
  pub asks : Asks b.site (found_by b a) a.own told.answer.glimpse.front start.terms
  pub shape : shape_at b.site (found_by b a).standing ≡ Some (shape_of_terms kind start.terms)
  pub done : Begins
      (done_in_rounds b.site (begun_by b a) start.terms (book life).published a.serving)
      (done_by life start)
  pub exact : ServesThese b a → done_by life start
      ≡ done_in_rounds b.site (begun_by b a) start.terms (book life).published a.serving

module _ {L : Type 0} (reads : L → Option ScriptLine) where
  -- the state behind lines of a site
  abbrev pub state_behind : Site → List L → State
  state_behind site lines = after (answers reads) (new_world site) lines

  -- Of every connection that a line opens at a free door behind any lines of a valid site, over any
  -- lines behind it whose pieces are octets.
  abbrev pub StartsAreInWorld : Type 0
  StartsAreInWorld =
      (site : Site) (earlier later : List L) (line : L) (c : ℕ) → IsSite site
      → reads line ≡ Some (Open c)
      → let before = state_behind site earlier in
      let deeds = (life reads c (step before (Open c)).next later).deeds in
      let b = began site c before.clock in
      IsTrue (is_free (slice_get before.doors.connections c)) → AllByRecursion BringsPieces deeds
      → (a : SessionStart) → IsStart b (rounds_by site c (opened c before.clock) deeds) a
      → IsStartOf b a (world_behind reads site (earlier ++ line ∷ later))
