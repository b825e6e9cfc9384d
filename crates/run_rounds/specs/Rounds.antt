-- A run's events with what its sessions' rounds make of STARTs, each at its answer event. This
-- product's own.
use Rattle.std.specs.Prelude.{◌≡◌, ℕ, Option, Some, List, [], ◌∷◌, ◌++◌, length}
use Rattle.std.specs.List.{filter, AllByRecursion}
use mathlib.Core.List.{IsPrefix}
use Rattle.archive_terms.specs.Archive.{Entry, IsArchive}
use Rattle.cds_time.specs.declared.cds.Cds.{Cds}
use Rattle.disk_model.specs.Images.{Pending}
use Rattle.disk_model.specs.declared.call.Call.{Call as DiskCall}
use Rattle.recorder.specs.Feeds.{Answer}
use Rattle.link_model.specs.declared.call.Call.{Call as LinkCall}
use Rattle.door_model.specs.Shown.{Shown}
use Rattle.session_laws.specs.Handing.{Start as SessionStart, IsStart, EachHandsOver}
use Rattle.session_laws.specs.Handing.{EachSendsWhereServed}
use Rattle.session_events.specs.Starts.{HasIt}
use Rattle.station_config.specs.Validity.{IsSite}
use Rattle.station_config.specs.declared.site.Site.{Site}
use Rattle.station_book.specs.State.{Opening, Event as Answered}
use Rattle.station_run.specs.Ran.{Outside, RanOver}
use Rattle.station_run.specs.declared.report.RunReport.{RunReport}
use Rattle.station_world.specs.File.{Finding}
use Rattle.station_world.specs.Life.{Life, book}
use Rattle.station_world.specs.World.{World, restarts, after_event, after_events}
use Rattle.station_world.specs.Comes.{AllCome}
use Rattle.station_world.specs.Headline.{Headline}
use Rattle.station_world.specs.Stays.{LivesGoOn, AtEachMoment}
use Rattle.line_events.specs.Progress.{is_at}
use Rattle.run_events.specs.Turns.{Turn, events_of, answered_in}
use Rattle.run_events.specs.Runs.{station_of, events_of_run, RunIsEventsOf}
use Rattle.run_events.specs.Beside.{without_starts, bare}
use Rattle.run_rounds.specs.Doors.{placed, AllMake, turns_by, events_by}
use Rattle.run_rounds.specs.Workers.{sessions_from, sessions_of_each}
use Rattle.run_rounds.specs.Sessions.{Session, IsSession, AreAsked, sessions_make, starts_of}
use Rattle.run_rounds.specs.Links.{began_of, HasCalls, EachGivesBack}

-- it holds of each of a list
abbrev pub EachOf : {X : Type 0} → List X → (X → Type 0) → Type 0
EachOf {X} all holds =
    (earlier later : List X) (x : X) → all ≡ earlier ++ x ∷ later → holds x

-- What the sessions that a door's worker served did in a run. The calls of each one's link are those
-- of its rounds. The door's events are theirs; what each of these makes of the door's STARTs stands
-- right after it; and the STARTs at the door, after all of them, are those that the sessions' rounds
-- leave. At a valid site each START of a return service of a session is one of them, with its terms,
-- and with rounds that begin with its delivery's, and are no others where the session serves it no
-- more. What the link took whole of it is, message by message, what *Delivery* of what it asks for
-- hands over of what is published, and of each archive that begins so. And no message of a service
-- was handed over, or dropped, but in a round that a started service served.
pub record AtDoor (site : Site) (door : ℕ) (sessions : List Session) (history : List Answered)
    (turns : List (World × Turn)) (life : Life) : Type 0 where
  pub right : AllByRecursion (IsSession site door) sessions
  pub calls : AllByRecursion (HasCalls site door) sessions
  pub asked : AreAsked site door (events_by door history) sessions
  pub makes : AllMake door (sessions_make site door sessions) (turns_by door turns)
  pub leaves : filter (is_at door) life.starts ≡ starts_of site door sessions []
  pub each : IsSite site → EachOf sessions (λ a. (x : SessionStart)
      → IsStart (began_of site door a) a.rounds x → HasIt (began_of site door a) x life.starts)
  pub handed : IsSite site → (archive : List Entry) → IsArchive archive
      → IsPrefix (book life).published archive → EachOf sessions
      (λ a. EachHandsOver (began_of site door a) a.rounds archive)
  pub only : EachOf sessions (λ a. EachSendsWhereServed (began_of site door a) a.rounds)

-- A run's turns with what its sessions make of STARTs beside them: the other events are the run's;
-- all may come, and lead to the same world as those but for its STARTs, with the headline at each
-- moment. The sessions are those whose links' calls the doors show.
pub record HaveRounds {G : Type 0} (shown : G → Option Shown) (gates gates_now : List G)
    (site : Site) (o : Opening) (w : World) (sessions : List (List Session))
    (history : List Answered) (finding : Finding) (alone : List Turn) : Type 0 where
  pub turns : List Turn
  pub answered : answered_in turns ≡ history
  pub others : without_starts (events_of turns) ≡ events_of alone
  pub come : AllCome w (events_of_run o finding turns)
  pub same : bare (after_events w (events_of_run o finding turns))
      ≡ bare (after_events w (events_of_run o finding alone))
  pub headline : AtEachMoment Headline w (events_of_run o finding turns)
  pub stays : AtEachMoment LivesGoOn w (events_of_run o finding turns)
  pub life : Life
  pub goes_on : (after_events w (events_of_run o finding turns)).now ≡ Some life
  pub shows : EachGivesBack shown gates gates_now sessions
  pub doors : (door : ℕ)
      → AtDoor site door (sessions_from 0 sessions door) history
      (placed (after_event w (restarts o finding)) turns) life

module _ {D F A G L C : Type 0} (pending : D → Option Pending) (disk_faults moment : D → ℕ)
    (images_since : D → ℕ → List ℕ → Type 0) (makes fails : D → DiskCall → D → Type 0)
    (fails_to_read : D → D → Type 0) (answers : F → Option (List Answer)) (source_faults : F → ℕ)
    (sent : A → Option (List (List ℕ))) (antenna_faults : A → ℕ) (shown : G → Option Shown)
    (door_faults : G → ℕ) (calls : L → Option (List LinkCall)) (link_faults : L → ℕ)
    (readings : C → Option (List Cds)) where
  -- a run with its sessions' rounds, as each list of events that it is
  module _ {site : Site} {turns links draw : ℕ} {disk disk_now : D} {old new : Outside F A G C}
      {report : RunReport} (over : RanOver pending disk_faults moment images_since makes fails
      fails_to_read answers source_faults sent antenna_faults shown door_faults calls link_faults
      readings site turns links draw disk disk_now old new report) where
    abbrev pub RunHasRounds : Type 0
    RunHasRounds = (w : World) (run : RunIsEventsOf pending disk_faults moment images_since makes
        fails fails_to_read answers source_faults sent antenna_faults shown door_faults calls
        link_faults readings over w)
        → HaveRounds shown old.doors new.doors site (station_of site (length old.doors)) w
        (sessions_of_each shown door_faults calls link_faults readings over.ran.lock site draw
        links 0 over.ran.seats over.ran.seats_now old.doors new.doors old.clocks new.clocks
        over.ran.works)
        report.pass.seen run.finding run.turns

  -- The law: of each run.
  abbrev pub RunsHaveRounds : Type 0
  RunsHaveRounds = (site : Site) (turns links draw : ℕ) (disk disk_now : D)
      (old new : Outside F A G C) (report : RunReport)
      (over : RanOver pending disk_faults moment images_since makes fails fails_to_read answers
      source_faults sent antenna_faults shown door_faults calls link_faults readings site turns
      links draw disk disk_now old new report)
      → RunHasRounds over
