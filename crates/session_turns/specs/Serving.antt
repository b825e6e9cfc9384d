-- A worker of a connection, from its session's beginning to its door's quit. This product's own.
use Rattle.std.specs.Prelude.{◌≡◌, ◌⊎◌, ℕ, ◌+◌, false, List, [], ◌∷◌, ◌++◌, length, Option}
use Rattle.std.specs.Prelude.{Result, Ok, Err}
use Rattle.cds_time.specs.declared.cds.Cds.{Cds}
use Rattle.link_model.specs.declared.call.Call.{Call as LinkCall}
use Rattle.link_model.specs.Calls.{Tells}
use Rattle.turn_lock.specs.PassState.{Lock}
use Rattle.turn_lock.specs.declared.view.Mark.{Mark}
use Rattle.station_config.specs.declared.site.Site.{Site}
use Rattle.station_book.specs.State.{Opening, Event, quit}
use Rattle.station_turns.specs.Gained.{Gains, events_of}
use Rattle.station_turns.specs.Reads.{Reads, readings_in}
use Rattle.session_core.specs.SessionState.{SessionState}
use Rattle.session_core.specs.Outcome.{has_failed, FailsBy}
use Rattle.session_core.specs.Lists.{Began, Stage, StandsAt, to_listen, to_step}
use Rattle.session_core.specs.declared.ended.Ended.{Ended}
use Rattle.session_turns.specs.Rounds.{ServerState, EndsSo}
use Rattle.session_turns.specs.declared.serve_fault.ServeFault.{ServeFault}
use Rattle.session_turns.specs.declared.serve_fault.ServeFault.TheVariants.{Memory}

-- what a worker's session is
abbrev pub began_at : Site → ℕ → ℕ → ℕ → Began
began_at site door draw entered =
    record { site = site; door = door; draw = draw; entered = entered }

module _ {L : Type 0} (calls : L → Option (List LinkCall)) (faults : L → ℕ) where
  -- From its beginning on a session made these calls of a link, which had the faults that it came
  -- to, and stands for them and for these events of the book, at this stage of a round.
  pub record Stood (stage : Stage) (b : Began) (w : SessionState) (answers : List Event)
      (link link_now : L) : Type 0 where
    pub own : List LinkCall
    pub told : Tells (calls link) (calls link_now) own
    pub stands : StandsAt stage b w own answers
    pub fails : FailsBy false (has_failed w) (faults link) (faults link_now)

  -- No session could begin: its link wasn't called, and the book answered nothing.
  pub record NeverBegan (answers : List Event) (unused : List ℕ) (spent : ℕ) (link link_now : L)
      : Type 0 where
    pub no_answers : answers ≡ []
    pub no_calls : link_now ≡ link
    pub spent_is : spent ≡ 0
    pub no_readings : unused ≡ []

  -- A round wanted memory: it spent a turn without an event, and a reading.
  pub record WantedMemory (b : Began) (answers : List Event) (unused : List ℕ) (spent : ℕ)
      (link link_now : L) : Type 0 where
    pub heard : SessionState
    pub stood : Stood to_step b heard answers link link_now
    pub spent_is : spent ≡ length answers + 1
    pub one_reading : length unused ≡ 1

  -- The session came to an end, its link failed, or its turns ran out.
  pub record RanTo (result : Result Ended ServeFault) (b : Began) (answers : List Event)
      (unused : List ℕ) (spent left : ℕ) (link link_now : L) : Type 0 where
    pub session : SessionState
    pub stood : Stood to_listen b session answers link link_now
    pub ends : EndsSo result session left
    pub spent_is : spent ≡ length answers
    pub no_readings : unused ≡ []

  -- how a worker ended, by its answer
  abbrev pub ServedTo : Result Ended ServeFault → Began → List Event → List ℕ → ℕ → ℕ → L → L
      → Type 0
  ServedTo (Err Memory) b answers unused spent left link link_now =
      NeverBegan answers unused spent link link_now
      ⊎ WantedMemory b answers unused spent link link_now
  ServedTo end b answers unused spent left link link_now =
      RanTo end b answers unused spent left link link_now

-- A session's rounds: the answer events that the pass gained and the calls of the link are *Session*
-- of each other. One turn was spent for each event, and one more where a round ended in want of
-- memory. The clock's first reading is the session's beginning, and the others are those of the
-- answer events, in order, and of a round that wanted memory.
pub record Served {L C : Type 0} (calls : L → Option (List LinkCall)) (faults : L → ℕ)
    (readings : C → Option (List Cds)) (lock : Lock Opening) (site : Site) (door draw : ℕ)
    (result : Result Ended ServeFault) (old new : ServerState L C) : Type 0 where
  pub entered : ℕ
  pub answers : List (Mark Event)
  pub spent : ℕ
  pub gains : Gains lock spent answers old.pass new.pass
  pub unused : List ℕ
  pub reads : Reads (readings old.clock) (readings new.clock)
      (entered ∷ (readings_in (events_of answers) ++ unused))
  pub served : ServedTo calls faults result (began_at site door draw entered) (events_of answers)
      unused spent new.pass.left old.link new.link

-- The worker of a connection: its session's rounds, and behind them, whatever it answers, a turn
-- that quits its door.
pub record Serves {L C : Type 0} (calls : L → Option (List LinkCall)) (faults : L → ℕ)
    (readings : C → Option (List Cds)) (lock : Lock Opening) (site : Site) (door draw : ℕ)
    (result : Result Ended ServeFault) (old new : ServerState L C) : Type 0 where
  pub at : ServerState L C
  pub served : Served calls faults readings lock site door draw result old at
  pub quits : Mark Event
  pub is_quit : quits.event.call ≡ quit door
  pub last : Gains lock 1 (quits ∷ []) at.pass new.pass
  pub others : (new.link ≡ at.link) × (new.clock ≡ at.clock)
  pub gains : Gains lock (served.spent + 1) (served.answers ++ quits ∷ []) old.pass new.pass
