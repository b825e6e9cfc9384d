-- A script as a list of events of a station's world, and the headline of it. This product's own.
use Rattle.std.specs.Prelude.{◌≡◌, ℕ, Option, List, [], ◌∷◌, ◌++◌, take}
use Rattle.station_config.specs.declared.site.Site.{Site}
use Rattle.drill_text.specs.declared.script_line.ScriptLine.{ScriptLine}
use Rattle.gate_journal.specs.JournalState.{IsOldOrNew}
use Rattle.station_world.specs.Life.{Start}
use Rattle.station_world.specs.World.{World, before_all, Event, after_events}
use Rattle.station_world.specs.Comes.{Begins, AllCome}
use Rattle.station_world.specs.Headline.{Headline}
use Rattle.station_world.specs.Stays.{LivesGoOn, AtEachMoment}
use Rattle.station_world.specs.Archives.{StandsForOne}
use Rattle.line_events.specs.Shows.{Told, View, Shows}
use Rattle.line_events.specs.Forms.{first_events}
use Rattle.station_law.specs.State.{State, start}
use Rattle.script_store.specs.Said.{Handed, radiated_by}
use Rattle.script_store.specs.Answer.{Answer}
use Rattle.station_law.specs.Lines.{step, step_read}
use Rattle.station_law.specs.Runs.{after, handed_after}
use Rattle.script_world.specs.Events.{origin, events_of, events_read}
use Rattle.script_world.specs.Users.{users_behind}

-- what each START of the desk in a script has handed over, the first one first
abbrev pub told_since : List Handed → List Told
told_since [] = []
told_since (last ∷ earlier) = told_since earlier
    ++ record { door = last.connection; terms = last.terms; buffers = last.buffers } ∷ []

-- what a world shows in which a script stands in this state, the desk's STARTs have handed this over,
-- and users have these STARTs
abbrev pub view_of : State → List Handed → List Start → View
view_of state starts users = record {
  published = state.store.published;
  book = state.doors.book;
  clock = state.clock;
  antenna = state.uplink.sent;
  told = told_since starts;
  users = users;
}

module _ {L : Type 0} (reads : L → Option ScriptLine) where
  -- what a line answers
  abbrev pub answers : State → L → Answer State
  answers state line = step_read state (reads line)

  -- the STARTs of users in the life that goes on behind lines
  abbrev pub users_after : State → List Start → List L → List Start
  users_after state users [] = users
  users_after state users (line ∷ lines) =
      users_after (answers state line).next (users_behind state (reads line) users) lines

  -- the octets of each CLTU that lines tell as radiated, in order
  abbrev pub radiated_from : State → List L → List (List ℕ)
  radiated_from state [] = []
  radiated_from state (line ∷ lines) =
      radiated_by (answers state line).said ++ radiated_from (answers state line).next lines

  -- the events of lines, one behind the other
  abbrev pub events_from : State → World → List L → List Event
  events_from state w [] = []
  events_from state w (line ∷ lines) =
      let events = events_read state w (reads line) in
      events ++ events_from (answers state line).next (after_events w events) lines

  -- those of a script: the archive is made and opened, and then its lines
  abbrev pub script_events : Site → List L → List Event
  script_events site lines = first_events (origin site)
      ++ events_from (start site) (after_events before_all (first_events (origin site))) lines

  -- the world behind them
  abbrev pub world_behind : Site → List L → World
  world_behind site lines = after_events before_all (script_events site lines)

  -- Some lines of a script, and further ones: the events of all may come, those of the first lines
  -- first. The state behind these is that of the world behind their events, as is what each START
  -- of the desk has handed over, and which STARTs users have, with the rounds of each; and what they
  -- tell as radiated is what its antenna was sent. And at each moment, also within a line, and
  -- whatever comes then, the headline holds, of the STARTs of users as of the desk's, and what was
  -- done stays.
  pub record IsInWorld (site : Site) (lines more : List L) : Type 0 where
    pub come : AllCome before_all (script_events site (lines ++ more))
    pub begins : Begins (script_events site lines) (script_events site (lines ++ more))
    pub shows : Shows (view_of (after answers (start site) lines)
        (handed_after answers (start site) [] lines) (users_after (start site) [] lines))
        (world_behind site lines)
    pub radiated : radiated_from (start site) lines ≡ (world_behind site lines).antenna
    pub headline : AtEachMoment Headline before_all (script_events site (lines ++ more))
    pub stays : AtEachMoment LivesGoOn before_all (script_events site (lines ++ more))

-- so is every script, and each front of it
abbrev pub AreInWorld : {L : Type 0} → (L → Option ScriptLine) → Type 0
AreInWorld {L} reads = (site : Site) (lines more : List L) → IsInWorld reads site lines more

-- an image stands for one of the lists of the file behind the first few of some events
pub record StandsBehind (w : World) (events : List Event) (image : List ℕ) : Type 0
  where
    pub count : ℕ
    pub stands : StandsForOne (after_events w (take count events)).file image

-- An image that stands for what is published before a line, or for that and what the line gives to
-- stores, stands for one of the lists of the world's file behind some of the line's events.
abbrev pub ImagesAreOfTheFile : Type 0
ImagesAreOfTheFile =
    (state : State) (starts : List Handed) (users : List Start) (w : World)
    (line : ScriptLine) (image : List ℕ) → Shows (view_of state starts users) w
    → IsOldOrNew state.store.published (step state line).given image
    → StandsBehind w (events_of state w line) image
