-- A run's events with what its sessions make of STARTs beside them.
use Rattle.std.proofs.Common.{◌≡◌, ℕ, ◌+◌, Option, List, [], ◌∷◌, ◌++◌}
use Rattle.std.proofs.Common.{filter, length, refl, sym, ap, subst, ◌∙◌}
use Rattle.std.specs.List.{AllByRecursion}
use Rattle.cds_time.specs.declared.cds.Cds.{Cds}
use mathlib.Core.List.{IsPrefix}
use Rattle.archive_terms.specs.Archive.{Entry, IsArchive}
use Rattle.disk_model.specs.Images.{Pending}
use Rattle.disk_model.specs.declared.call.Call.{Call as DiskCall}
use Rattle.recorder.specs.Feeds.{Answer}
use Rattle.link_model.specs.declared.call.Call.{Call as LinkCall}
use Rattle.door_model.specs.Shown.{Shown}
use Rattle.turn_lock.specs.declared.view.Mark.{Mark}
use Rattle.session_laws.specs.Handing.{Start as SessionStart, IsStart, EachHandsOver}
use Rattle.session_laws.specs.Handing.{EachSendsWhereServed}
use Rattle.session_turns.specs.Serving.{began_at}
use Rattle.session_events.specs.Starts.{HasIt}
use Rattle.station_config.specs.Validity.{IsSite}
use Rattle.station_config.specs.declared.site.Site.{Site}
use Rattle.station_book.specs.State.{State, Opening, opened, Event as Answered}
use Rattle.station_book.specs.Origin.{opening_of}
use Rattle.station_book.specs.History.{IsLegal, replay}
use Rattle.station_seats.specs.Seats.{owns_of}
use Rattle.station_run.specs.Ran.{Outside, RanOver}
use Rattle.station_run.specs.declared.report.RunReport.{RunReport}
use Rattle.station_world.specs.Life.{Life, book, born}
use Rattle.station_world.specs.World.{World, Event, restarts, restarted, after_event, after_events}
use Rattle.station_world.specs.Comes.{AllCome}
use Rattle.line_events.specs.Progress.{is_at}
use Rattle.run_laws.proofs.Among.{events}
use Rattle.run_laws.proofs.Calls.{AreFree, none_by}
use Rattle.run_laws.proofs.Doors.{AreDoors, doors_are}
use Rattle.run_laws.proofs.Workers.{IsAntennas, antenna_is, recorder_is, recorder_free}
use Rattle.run_events.specs.Turns.{answered_in}
use Rattle.run_events.specs.Beside.{without_starts, StartsCome, bare}
use Rattle.run_events.specs.Runs.{station_of, events_of_run, RunIsEventsOf}
use Rattle.run_rounds.specs.Doors.{AllFit, made_of, events_by}
use Rattle.run_rounds.specs.Sessions.{Session, IsSession, sessions_make, starts_of}
use Rattle.run_rounds.proofs.Staying.{all_at, each_is_there, has_in_whole}
use Rattle.run_rounds.specs.Rounds.{EachOf, HaveRounds, RunsHaveRounds}
use Rattle.run_rounds.specs.Laws.{Laws}
use Rattle.run_rounds.proofs.Filling.{GoesOn, Plans, Filled, fill}
use Rattle.run_rounds.proofs.Sessions.{AreTheirs, sessions_fit, sessions_made}
use Rattle.run_rounds.specs.Workers.{sessions_from, sessions_of_each}
use Rattle.run_rounds.proofs.Working.{doors_have}
use Rattle.run_rounds.proofs.Showing.{doors_show}
use Rattle.run_rounds.proofs.Doors.{find}
use Rattle.run_rounds.proofs.Handing.{sees_at}

module _ {D F A G L C : Type 0} (pending : D → Option Pending) (disk_faults moment : D → ℕ)
    (images_since : D → ℕ → List ℕ → Type 0) (makes fails : D → DiskCall → D → Type 0)
    (fails_to_read : D → D → Type 0) (answers : F → Option (List Answer)) (source_faults : F → ℕ)
    (sent : A → Option (List (List ℕ))) (antenna_faults : A → ℕ) (shown : G → Option Shown)
    (door_faults : G → ℕ) (calls : L → Option (List LinkCall)) (link_faults : L → ℕ)
    (readings : C → Option (List Cds)) (laws : Laws) where
  module _ (site : Site) (turns links draw : ℕ) (disk disk_now : D) (old new : Outside F A G C)
      (report : RunReport)
      (over : RanOver pending disk_faults moment images_since makes fails fails_to_read answers
      source_faults sent antenna_faults shown door_faults calls link_faults readings site turns
      links draw disk disk_now old new report) (w : World)
      (run : RunIsEventsOf pending disk_faults moment images_since makes fails fails_to_read
      answers source_faults sent antenna_faults shown door_faults calls link_faults readings over w)
    where
      abbrev number : ℕ
      number = length old.doors

      abbrev o : Opening
      o = station_of site number

      abbrev origin : Opening
      origin = opening_of site over.entries (number + 1)

      abbrev h : List Answered
      h = report.pass.seen

      abbrev recorders : List (Mark Answered)
      recorders = over.ran.recorder_now.own

      abbrev antennas : List (Mark Answered)
      antennas = over.ran.antenna_now.own

      -- ---- the doors' sessions

      recorder_is_free : AreFree (events recorders)
      recorder_is_free = recorder_free pending over.archive report.recording (events recorders)
          (recorder_is pending disk_faults makes fails fails_to_read answers source_faults
          over.ran.lock laws.run.grows number report.recording _ _ over.ran.records
          over.ran.recorder_fresh.own)

      antenna_told : IsAntennas (events antennas)
      antenna_told = antenna_is sent antenna_faults readings over.ran.lock (number + 1)
          report.radiating _ _ over.ran.radiates

      doors_told : AreDoors site 0 (owns_of over.ran.seats_now)
      doors_told = doors_are shown door_faults calls link_faults readings over.ran.lock site draw
          links turns 0 over.ran.seats over.ran.seats_now old.doors new.doors old.clocks new.clocks
          over.ran.seats_fresh over.ran.works

      abbrev all_sessions : List (List Session)
      all_sessions = sessions_of_each shown door_faults calls link_faults readings over.ran.lock
          site draw links 0 over.ran.seats over.ran.seats_now old.doors new.doors old.clocks
          new.clocks over.ran.works

      abbrev sessions_at : ℕ → List Session
      sessions_at door = sessions_from 0 all_sessions door

      theirs : (door : ℕ) → AreTheirs site door (events_by door h) (sessions_at door)
      theirs door =
          find site h laws.run.weighs (owns_of over.ran.seats_now)
          ([] ∷ recorders ∷ antennas ∷ [] ∷ []) all_sessions 0 door over.ran.history.make_up (
            refl,
            (
              none_by door (events recorders) recorder_is_free,
              (none_by door (events antennas) antenna_told.free, (refl, tt)),
            ),
          )
          doors_told
          (doors_have shown door_faults calls link_faults readings over.ran.lock site draw turns
          links 0 over.ran.seats over.ran.seats_now old.doors new.doors old.clocks new.clocks
          over.ran.seats_fresh over.ran.works)

      abbrev plans : Plans
      plans = λ door. sessions_make site door (sessions_at door)

      -- ---- the turns

      abbrev start : World
      start = after_event w (restarts o run.finding)

      begins : GoesOn start [] (opened origin)
      begins = record {
        life = born origin;
        now = ap (λ (found : Option (List Entry)). (restarted o w found).now) run.found;
        same = refl;
        book_is = refl;
      }

      legal : IsLegal (opened origin) (answered_in run.turns)
      legal = subst (IsLegal (opened origin)) (sym run.answered)
          (subst (λ (x : Opening). IsLegal (opened x) h) over.ran.origin over.ran.history.legal)

      fits : (door : ℕ) → AllFit door (events_by door (answered_in run.turns)) (plans door)
      fits door = subst (λ (xs : List Answered). AllFit door (events_by door xs) (plans door))
          (sym run.answered)
          (sessions_fit site door laws.rounds (sessions_at door) (events_by door h)
          (theirs door).asked)

      filled : Filled number laws.own run.turns plans start [] (opened origin)
      filled = fill number laws.own run.turns plans start [] (opened origin) legal run.are.beside
          run.are.others begins tt fits

      abbrev all : List Event
      all = events_of_run o run.finding filled.filled

      plain : without_starts all ≡ events_of_run o run.finding run.turns
      plain = ap (λ (xs : List Event). restarts o run.finding ∷ xs) filled.plain

      starts_come : StartsCome w all
      starts_come = ((λ own. absurd (cc own)), filled.come)

      beside : AllCome w all
          × (bare (after_events w all) ≡ bare (after_events w (without_starts all)))
      beside = laws.beside w all (subst (AllCome w) (sym plain) run.come) starts_come

      leaves : (door : ℕ) → filter (is_at door) filled.goes.life.starts
          ≡ starts_of site door (sessions_at door) []
      leaves door =
          let has = theirs door in
          ap (filter (is_at door)) filled.goes.same
          ∙ (filled.made door
          ∙ (ap (λ (xs : List Answered). made_of door (events_by door xs) (plans door) [])
          run.answered
          ∙ sessions_made site door laws.rounds (sessions_at door) (events_by door h) has.asked
          has.right
          []))

      each : (door : ℕ) → IsSite site → (earlier later : List Session) (a : Session)
          → sessions_at door ≡ earlier ++ a ∷ later → (x : SessionStart) →
          let b = began_at site door a.draw a.entered in
          IsStart b a.rounds x → HasIt b x filled.goes.life.starts
      each door valid earlier later a is x start =
          let has = theirs door in
          let b = began_at site door a.draw a.entered in
          let own = all_at (IsSession site door) earlier later a
          (subst (AllByRecursion (IsSession site door)) is has.right) in
          has_in_whole b x (is_at door) filled.goes.life.starts
          (starts_of site door (sessions_at door) []) (leaves door)
          (subst (λ (ss : List Session). HasIt b x (starts_of site door ss [])) (sym is)
          (each_is_there site door laws.there valid earlier later a own x start []))

      abbrev now : Life
      now = filled.goes.life

      published_is : (replay (opened origin) h).published ≡ (book now).published
      published_is = ap (λ (xs : List Answered). (replay (opened origin) xs).published)
          (sym run.answered) ∙ ap (λ (b : State). b.published) (sym filled.goes.book_is)

      own_right : (door : ℕ) (earlier later : List Session) (a : Session)
          → sessions_at door ≡ earlier ++ a ∷ later → IsSession site door a
      own_right door earlier later a is = all_at (IsSession site door) earlier later a
          (subst (AllByRecursion (IsSession site door)) is (theirs door).right)

      handed : (door : ℕ) → IsSite site → (archive : List Entry) → IsArchive archive
          → IsPrefix (book now).published archive → EachOf (sessions_at door)
          (λ a. EachHandsOver (began_at site door a.draw a.entered) a.rounds archive)
      handed door valid archive whole front earlier later a is =
          laws.hands (began_at site door a.draw a.entered) a.rounds archive valid
          (own_right door earlier later a is)
          (sees_at laws.sees site door archive (sessions_at door) (opened origin) h
          (events_by door h)
          (subst (λ (x : Opening). IsLegal (opened x) h) over.ran.origin over.ran.history.legal)
          refl (theirs door).asked
          (subst (λ (xs : List Entry). IsPrefix xs archive) (sym published_is) front) earlier later
          a is)
          whole

      only : (door : ℕ) → EachOf (sessions_at door)
          (λ a. EachSendsWhereServed (began_at site door a.draw a.entered) a.rounds)
      only door earlier later a is =
          laws.only (began_at site door a.draw a.entered) a.rounds
          (own_right door earlier later a is)

      have_rounds : HaveRounds shown old.doors new.doors site o w all_sessions h run.finding run.turns
      have_rounds = record {
        turns = filled.filled;
        answered = filled.answered ∙ run.answered;
        others = filled.plain;
        come = beside.0;
        same = beside.1 ∙ ap (λ (xs : List Event). bare (after_events w xs)) plain;
        headline = laws.run.headline w all;
        stays = laws.run.stays w all;
        life = filled.goes.life;
        goes_on = filled.goes.now;
        shows = doors_show shown door_faults calls link_faults readings over.ran.lock site draw
            links 0 over.ran.seats over.ran.seats_now old.doors new.doors old.clocks new.clocks
            over.ran.works;
        doors = λ door.
            let has = theirs door in record {
              right = has.right;
              calls = has.calls;
              asked = has.asked;
              makes = filled.makes door;
              leaves = leaves door;
              each = each door;
              handed = handed door;
              only = only door;
            };
      }

  pub runs_have_rounds : RunsHaveRounds pending disk_faults moment images_since makes fails
      fails_to_read answers source_faults sent antenna_faults shown door_faults calls link_faults
      readings
  runs_have_rounds = have_rounds
