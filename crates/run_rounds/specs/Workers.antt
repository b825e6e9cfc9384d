-- The sessions that the workers of a run's doors served, by what they did. This product's own.
use mathlib.Core.Logic.{inl, inr}
use Rattle.std.specs.Prelude.{ℕ, ◌+◌, ◌==◌, if◌then◌else◌, Option, Result, Ok, Err, List}
use Rattle.std.specs.Prelude.{[], ◌∷◌, ◌++◌}
use Rattle.cds_time.specs.declared.cds.Cds.{Cds}
use Rattle.link_model.specs.declared.call.Call.{Call as LinkCall}
use Rattle.door_model.specs.Shown.{Shown}
use Rattle.turn_lock.specs.PassState.{Lock}
use Rattle.turn_lock.specs.declared.view.Mark.{Mark}
use Rattle.station_config.specs.declared.site.Site.{Site}
use Rattle.station_book.specs.State.{Opening, Event}
use Rattle.station_turns.specs.Gained.{events_of}
use Rattle.station_seats.specs.declared.report.DoorReport.{DoorReport}
use Rattle.station_seats.specs.declared.seat.DoorSeat.{DoorSeat}
use Rattle.session_core.specs.Lists.{Began, Stage, Part, none_made, StandsAt}
use Rattle.session_core.specs.SessionState.{SessionState}
use Rattle.session_core.specs.Session.{Round}
use Rattle.session_core.specs.declared.ended.Ended.{Ended}
use Rattle.session_turns.specs.Serving.{began_at, ServedTo}
use Rattle.session_turns.specs.declared.serve_fault.ServeFault.{ServeFault}
use Rattle.session_turns.specs.declared.serve_fault.ServeFault.TheVariants.{LinkFault, TurnsSpent}
use Rattle.session_turns.specs.declared.serve_fault.ServeFault.TheVariants.{Memory}
use Rattle.door_turns.specs.Visits.{WorkerState, ServesLink, at_door}
use Rattle.door_turns.specs.Working.{Visits, none, more, Ends, all_links, no_more, failed, too_few}
use Rattle.door_turns.specs.Working.{spent, memory, Works}
use Rattle.door_turns.specs.Doors.{EachWorks}
use Rattle.door_turns.specs.declared.visit.Visit.{Visit}
use Rattle.door_turns.specs.declared.visit.Visit.TheVariants as visit
use Rattle.run_rounds.specs.Sessions.{Session}

-- those of a door, where these are the doors' from the number n on
abbrev pub sessions_from : ℕ → List (List Session) → ℕ → List Session
sessions_from n [] door = []
sessions_from n (own ∷ others) door =
    if n == door then own else sessions_from (n + 1) others door

-- what a session made: its rounds, a part of a further one, and the calls of its link
pub record Made : Type 0 where
  pub rounds : List Round
  pub part : Part
  pub calls : List LinkCall

abbrev pub nothing_made : Made
nothing_made = record { rounds = []; part = none_made; calls = [] }

abbrev pub made_by : {stage : Stage} {b : Began} {w : SessionState} {answers : List Event}
    (own : List LinkCall) → StandsAt stage b w own answers → Made
made_by own stands = record { rounds = stands.rounds; part = stands.part; calls = own }

abbrev pub session_with : ℕ → ℕ → Made → Session
session_with draw entered made = record {
  draw = draw;
  entered = entered;
  rounds = made.rounds;
  part = made.part;
  calls = made.calls;
}

module _ {G L C : Type 0} (shown : G → Option Shown) (faults : G → ℕ)
    (calls : L → Option (List LinkCall)) (link_faults : L → ℕ) (readings : C → Option (List Cds))
    (lock : Lock Opening) (site : Site) (draw : ℕ) where
  -- what a session that was served made: its rounds, and the part of a further one, by the calls of
  -- its link
  abbrev pub made_served : (result : Result Ended ServeFault) (b : Began) (answers : List Event)
      (unused : List ℕ) (turns left : ℕ) (link link_now : L)
      → ServedTo calls link_faults result b answers unused turns left link link_now → Made
  made_served (Err Memory) b answers unused turns left link link_now (inl never) = nothing_made
  made_served (Err Memory) b answers unused turns left link link_now (inr wanted) =
      made_by wanted.stood.own wanted.stood.stands
  made_served (Err LinkFault) b answers unused turns left link link_now ran =
      made_by ran.stood.own ran.stood.stands
  made_served (Err TurnsSpent) b answers unused turns left link link_now ran =
      made_by ran.stood.own ran.stood.stands
  made_served (Ok end) b answers unused turns left link link_now ran =
      made_by ran.stood.own ran.stood.stands

  module _ (door : ℕ) where
    abbrev pub session_of : (said : Visit) (old new : WorkerState G C) → ServesLink shown faults
        calls link_faults readings lock site door draw said old new → Session
    session_of said old new s =
        let served = s.given.serves.served in
        session_with draw served.entered
        (made_served s.given.result (began_at site door draw served.entered)
        (events_of served.answers) served.unused served.spent s.given.serves.at.pass.left s.link
        s.given.serves.at.link served.served)

    -- of links that were served one behind the other, and of the one at the end, if there is one
    abbrev pub sessions_of_visits : (count turns : ℕ) (gained : List (Mark Event))
        (a b : WorkerState G C) → Visits shown faults calls link_faults readings lock site door draw
        count turns gained a b → List Session
    sessions_of_visits _ _ _ _ _ (none at) = []
    sessions_of_visits _ _ _ _ _ (more count turns gained a b c before s) =
        sessions_of_visits count turns gained a b before ++ session_of visit.Served b c s ∷ []

    abbrev pub sessions_of_end : (links : ℕ) (said : DoorReport) (count turns : ℕ)
        (last : List (Mark Event)) (met new : WorkerState G C) → Ends shown faults calls link_faults
        readings lock site door draw links said count turns last met new → List Session
    sessions_of_end links _ _ _ _ _ _ (all_links at) = []
    sessions_of_end links _ _ _ _ _ _ (no_more count met at few came) = []
    sessions_of_end links _ _ _ _ _ _ (failed count met at few came) = []
    sessions_of_end links _ _ _ _ _ _ (too_few count at few left) = []
    sessions_of_end links _ _ _ _ _ _ (spent count met at few s) =
        session_of visit.Spent met at s ∷ []
    sessions_of_end links _ _ _ _ _ _ (memory count met at few s) =
        session_of visit.Memory met at s ∷ []

    abbrev pub sessions_of_worker : (links : ℕ) (said : DoorReport) (old new : WorkerState G C)
        → Works shown faults calls link_faults readings lock site door draw links said old new
        → List Session
    sessions_of_worker links said old new w =
        let s = w.served in
        sessions_of_visits s.count s.spent s.gained old s.met s.visits
        ++ sessions_of_end links said s.count s.last_spent s.last s.met w.at s.ends

  -- those of each door's worker
  abbrev pub sessions_of_each : (links n : ℕ) (ss ss' : List DoorSeat) (gs gs' : List G)
      (cs cs' : List C) → EachWorks shown faults calls link_faults readings lock site draw links n
      ss ss' gs gs' cs cs' → List (List Session)
  sessions_of_each links n (s ∷ ss) (s' ∷ ss') (g ∷ gs) (g' ∷ gs') (c ∷ cs) (c' ∷ cs') each =
      sessions_of_worker n links s'.report (at_door g c s.pass) (at_door g' c' s'.pass) each.0
      ∷ sessions_of_each links (n + 1) ss ss' gs gs' cs cs' each.1
  sessions_of_each links n _ _ _ _ _ _ each = []
