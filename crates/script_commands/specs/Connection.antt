-- The connections of a script, each from the line that opens it, and what holds for them.
use Rattle.std.specs.Prelude.{◌≡◌, ℕ, IsTrue, Option, Some, None, List, ◌∷◌, ◌++◌, slice_get, take}
use Rattle.std.specs.List.{filter_map}
use Rattle.drill_text.specs.Reading.{reading}
use Rattle.drill_text.specs.declared.script_line.ScriptLine.TheVariants.{Open}
use Rattle.station_config.specs.declared.site.Site.{Site}
use Rattle.link_model.specs.Calls.{blocks_in}
use Rattle.session_core.specs.Session.{at_first, session_calls, Round}
use Rattle.station_links.specs.declared.link_line.LinkLine.{LinkLine}
use Rattle.station_links.specs.declared.link_line.LinkLine.TheVariants.{Sent}
use Rattle.station_links.specs.Connected.{began, draw, opened}
use Rattle.station_links.specs.Run.{rounds_by, IsSession}
use Rattle.station_law.specs.Connections.{GoesOn, Life, life}
use Rattle.station_law.specs.Lines.{step, step_text}
use Rattle.station_law.specs.Runs.{after, in_order}
use Rattle.station_law.specs.Standing.{is_free}
use Rattle.station_law.specs.State.{State, start as new_world}
use Rattle.connection_laws.specs.Delivered.{IsDelivered}
use Rattle.connection_laws.specs.Lossless.{IsLossless}
use Rattle.session_core.specs.Lists.{Began}
use Rattle.session_laws.specs.Handing.{Start as SessionStart, IsStart}
use Rattle.script_world.specs.Script.{world_behind as world_of}
use Rattle.connection_events.specs.InWorld.{IsStartOf}
use Rattle.script_head.specs.Lines.{lines_of}
use Rattle.script_commands.specs.Script.{script_of, runs}

-- a connection: the site, the lines before the one that opens it, those after it, and its number
pub record Connection : Type 0 where
  pub site : Site
  pub earlier : List (List ℕ)
  pub later : List (List ℕ)
  pub c : ℕ

-- the world that its line finds, and the one after it
abbrev pub world_before : Connection → State
world_before o = after step_text (new_world o.site) o.earlier

abbrev pub world_behind : Connection → State
world_behind o = (step (world_before o) (Open o.c)).next

-- it is opened by one of the lines that a script runs, after lines in order, at a free door
pub record IsConnectionOf (script : List ℕ) (o : Connection) : Type 0 where
  pub line : List ℕ
  pub stands : script_of (lines_of script) ≡ runs o.site (o.earlier ++ line ∷ o.later)
  pub good : IsTrue (in_order step_text (new_world o.site) o.earlier)
  pub says : reading line ≡ Some (Open o.c)
  pub free : IsTrue (is_free (slice_get (world_before o).doors.connections o.c))

-- each connection of a script is so
abbrev pub EachConnection : List ℕ → (Connection → Type 0) → Type 0
EachConnection script IsSo = (o : Connection) → IsConnectionOf script o → IsSo o

-- its life over any first few of the lines after it: what comes, is ordered and turns; what the
-- transcript's lines say of it; and its events of the book
abbrev pub life_of : Connection → ℕ → Life
life_of o some = life reading o.c (world_behind o) (take some o.later)

-- A life is *Session* of exactly its pieces, closes, breaks, stalls and rounds, at the clock's
-- readings, over the answers of the world's one book.
abbrev pub IsSessionAt : Connection → Life → Type 0
IsSessionAt o v =
    let opening = (world_before o).clock in
    IsSession o.site o.c (at_first o.c draw opening) v.said v.events
    (rounds_by o.site o.c (opened o.c opening) v.deeds)

-- so is its life over any first few lines
abbrev pub IsSessionOf : Connection → Type 0
IsSessionOf o = (some : ℕ) → IsSessionAt o (life_of o some)

-- Over any first few lines the book answers nothing of it Lost, and no line `ended C aborted 127` is
-- said of it, the end that a lost reply alone leads to.
abbrev pub IsLosslessOf : Connection → Type 0
IsLosslessOf o = (some : ℕ) → IsLossless (life_of o some)

-- its rounds over any first few lines, and the world after these
abbrev pub rounds_of : Connection → ℕ → List Round
rounds_of o some =
    rounds_by o.site o.c (opened o.c (world_before o).clock) (life_of o some).deeds

abbrev pub world_at : Connection → ℕ → State
world_at o some = after step_text (world_behind o) (take some o.later)

-- the octets of the lines `sent C` among those that the transcript has of a connection C
abbrev pub sent_in : LinkLine → Option (List ℕ)
sent_in (Sent octets) = Some octets
sent_in _ = None

abbrev pub octets_sent : List LinkLine → List (List ℕ)
octets_sent said = filter_map sent_in said

-- The octets of its lines `sent C`, over any first few lines, are the messages that its session
-- offered and its link took whole, in order and each once.
abbrev pub IsSentBy : Connection → Type 0
IsSentBy o =
    (some : ℕ) → octets_sent (life_of o some).said
    ≡ blocks_in (session_calls o.site (at_first o.c draw (world_before o).clock) (rounds_of o some))

-- What each START of a return service in its rounds was handed, over any first few lines, is what
-- *Delivery* of that START hands over of what is stored then, or after any later lines, a power
-- failure among them, and of each archive that begins with it.
abbrev pub IsDeliveredTo : Connection → Type 0
IsDeliveredTo o =
    (some : ℕ)
    → IsDelivered reading (began o.site o.c (world_before o).clock) (rounds_of o some)
    (world_at o some)

-- its session, from the clock's reading at its line on
abbrev pub session_of : Connection → Began
session_of o = began o.site o.c (world_before o).clock

-- Each START of a return service in its rounds, over any first few lines, is one of the STARTs of the
-- station's world after these, for which the headline holds: at its door, with what it asks for, and
-- what was done for it begins what that START has done, and is all of that where it serves no more.
abbrev pub AreOfWorld : Connection → Type 0
AreOfWorld o =
    (some : ℕ) (line : List ℕ) → reading line ≡ Some (Open o.c)
    → (a : SessionStart) → IsStart (session_of o) (rounds_of o some) a
    → IsStartOf (session_of o) a
    (world_of reading o.site (o.earlier ++ line ∷ take some o.later))

-- That book has one legal history: at each line that runs, it goes on where the line before left
-- it, and a recovery begins a new one.
abbrev pub HasHistory : List ℕ → Type 0
HasHistory script =
    (site : Site) (earlier later : List (List ℕ)) (line : List ℕ)
    → script_of (lines_of script) ≡ runs site (earlier ++ line ∷ later)
    → GoesOn (after step_text (new_world site) earlier) (reading line)
