-- The rounds of a session, one turn of the station's lock each. This product's own.
use Rattle.std.specs.Prelude.{◌≡◌, ◌⊎◌, ℕ, ◌+◌, List, [], ◌∷◌, ◌++◌, length, Option, Result, Ok, Err}
use Rattle.cds_time.specs.declared.cds.Cds.{Cds}
use Rattle.link_model.specs.declared.call.Call.{Call as LinkCall}
use Rattle.link_model.specs.Calls.{Tells}
use Rattle.turn_lock.specs.PassState.{PassState, Lock}
use Rattle.turn_lock.specs.declared.view.Mark.{Mark}
use Rattle.station_config.specs.declared.site.Site.{Site}
use Rattle.station_book.specs.State.{Opening, Event}
use Rattle.station_turns.specs.Gained.{Gains, events_of}
use Rattle.station_turns.specs.Reads.{Reads, readings_in}
use Rattle.session_core.specs.SessionState.{SessionState}
use Rattle.session_core.specs.Outcome.{has_failed, come_to, FailsBy}
use Rattle.session_core.specs.Lists.{Began, StandsAt, to_listen, to_step}
use Rattle.session_core.specs.declared.ended.Ended.{Ended}
use Rattle.session_core.specs.declared.spoken.Spoken.TheVariants as spoken
use Rattle.session_turns.specs.declared.serve_fault.ServeFault.{ServeFault}
use Rattle.session_turns.specs.declared.serve_fault.ServeFault.TheVariants.{LinkFault, TurnsSpent}
use Rattle.session_turns.specs.declared.serve_fault.ServeFault.TheVariants.{Memory}

-- a worker of a connection: its link, its clock, and its pass
pub record ServerState (L C : Type 0) : Type 0 where
  pub link : L
  pub clock : C
  pub pass : PassState Event Opening

abbrev pub worker : {L C : Type 0} → L → C → PassState Event Opening → ServerState L C
worker link clock pass = record { link = link; clock = clock; pass = pass }

-- how rounds ended, by what the session came to and the turns left
abbrev pub EndsSo : Result Ended ServeFault → SessionState → ℕ → Type 0
EndsSo (Ok end) w left = come_to w ≡ spoken.Ended end
EndsSo (Err LinkFault) w left = come_to w ≡ spoken.LinkFault
EndsSo (Err TurnsSpent) w left = (come_to w ≡ spoken.Going) × (left ≡ 2)
EndsSo (Err Memory) w left = ⊥

module _ {L C : Type 0} (calls : L → Option (List LinkCall)) (faults : L → ℕ)
    (readings : C → Option (List Cds)) (lock : Lock Opening) (site : Site) where
  -- Rounds of a session made these calls of the link, and one turn each, at the readings of the
  -- clock; the pass gained the turns' events as its own. For all lists for which the session stood,
  -- it stands for these with them. The link's count of faults rose exactly where the link failed.
  pub record Ran (v w : SessionState) (old new : ServerState L C) : Type 0 where
    pub own : List LinkCall
    pub told : Tells (calls old.link) (calls new.link) own
    pub gained : List (Mark Event)
    pub gains : Gains lock (length gained) gained old.pass new.pass
    pub reads : Reads (readings old.clock) (readings new.clock) (readings_in (events_of gained))
    pub stands : (b : Began) (cs : List LinkCall) (es : List Event) → b.site ≡ site
        → StandsAt to_listen b v cs es
        → StandsAt to_listen b w (cs ++ own) (es ++ events_of gained)
    pub fails : FailsBy (has_failed v) (has_failed w) (faults old.link) (faults new.link)

  -- Memory was wanted in a round, behind rounds like these. It made the calls of its listen and one
  -- more reading, and left its turn.
  pub record Broke (v : SessionState) (old new : ServerState L C) : Type 0 where
    pub own : List LinkCall
    pub told : Tells (calls old.link) (calls new.link) own
    pub gained : List (Mark Event)
    pub gains : Gains lock (length gained + 1) gained old.pass new.pass
    pub unused : ℕ
    pub reads : Reads (readings old.clock) (readings new.clock)
        (readings_in (events_of gained) ++ unused ∷ [])
    pub heard : SessionState
    pub stands : (b : Began) (cs : List LinkCall) (es : List Event) → b.site ≡ site
        → StandsAt to_listen b v cs es
        → StandsAt to_step b heard (cs ++ own) (es ++ events_of gained)
    pub fails : FailsBy (has_failed v) (has_failed heard) (faults old.link) (faults new.link)

  -- Rounds until an end.
  abbrev pub RanOut : Result Ended ServeFault → SessionState → SessionState → ServerState L C
      → ServerState L C → Type 0
  RanOut (Err Memory) v w old new = Broke v old new
  RanOut end v w old new = Ran v w old new × EndsSo end w new.pass.left
