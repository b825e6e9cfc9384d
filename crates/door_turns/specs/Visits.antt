-- A visit of a door's worker at its door: a link is given, served and given back, or none comes.
-- This product's own.
use Rattle.std.specs.Prelude.{◌≡◌, ℕ, List, Option, Result, Ok, Err}
use Rattle.octet_core.specs.Fault.{Rose}
use Rattle.cds_time.specs.declared.cds.Cds.{Cds}
use Rattle.link_model.specs.declared.call.Call.{Call as LinkCall}
use Rattle.door_model.specs.Shown.{Shown, Shows, answered, given_back, IsFresh}
use Rattle.door_model.specs.declared.answer.Answer.{Answer}
use Rattle.door_model.specs.declared.answer.Answer.TheVariants as answer
use Rattle.door_model.specs.declared.served.Served.{Served}
use Rattle.door_model.specs.declared.served.Served.TheVariants as served
use Rattle.turn_lock.specs.PassState.{PassState, Lock}
use Rattle.station_config.specs.declared.site.Site.{Site}
use Rattle.station_book.specs.State.{Opening, Event}
use Rattle.session_core.specs.declared.ended.Ended.{Ended}
use Rattle.session_core.specs.declared.ended.Ended.TheVariants as ended
use Rattle.session_turns.specs.Rounds.{worker}
use Rattle.session_turns.specs.Serving.{Serves}
use Rattle.session_turns.specs.declared.serve_fault.ServeFault.{ServeFault}
use Rattle.session_turns.specs.declared.serve_fault.ServeFault.TheVariants as fault
use Rattle.door_turns.specs.declared.visit.Visit.{Visit}
use Rattle.door_turns.specs.declared.visit.Visit.TheVariants as visit

-- a door's worker: its door, its clock, and its pass
pub record WorkerState (G C : Type 0) : Type 0 where
  pub door : G
  pub clock : C
  pub pass : PassState Event Opening

abbrev pub at_door : {G C : Type 0} → G → C → PassState Event Opening → WorkerState G C
at_door door clock pass = record { door = door; clock = clock; pass = pass }

-- how the serving of a link ended, as its door is told
abbrev pub served_of : Result Ended ServeFault → Served
served_of (Ok ended.Unbound) = served.Unbound
served_of (Ok ended.PeerClosed) = served.PeerClosed
served_of (Ok ended.Denied) = served.Denied
served_of (Ok (ended.Range interval factor)) = served.Range interval factor
served_of (Ok (ended.Broken why)) = served.Broken why
served_of (Ok (ended.Aborted diagnostic)) = served.Aborted diagnostic
served_of (Ok (ended.PeerAborted diagnostic)) = served.PeerAborted diagnostic
served_of (Err fault.LinkFault) = served.LinkFault
served_of (Err fault.TurnsSpent) = served.TurnsSpent
served_of (Err fault.Memory) = served.Memory

-- what a visit comes to, by what the serving of its link answered: a link that fails ends its own
-- session alone
abbrev pub visit_of : Result Ended ServeFault → Visit
visit_of (Ok end) = visit.Served
visit_of (Err fault.LinkFault) = visit.Served
visit_of (Err fault.TurnsSpent) = visit.Spent
visit_of (Err fault.Memory) = visit.Memory

module _ {G L C : Type 0} (shown : G → Option Shown) (faults : G → ℕ)
    (calls : L → Option (List LinkCall)) (link_faults : L → ℕ) (readings : C → Option (List Cds))
    (lock : Lock Opening) (site : Site) (door draw : ℕ) where
  -- A link that the door has given was served, and given back with how that ended.
  pub record ServesGiven (link : L) (said : Visit) (old new : WorkerState G C) : Type 0 where
    pub link_now : L
    pub result : Result Ended ServeFault
    pub said_is : said ≡ visit_of result
    pub serves : Serves calls link_faults readings lock site door draw result
        (worker link old.clock old.pass) (worker link_now new.clock new.pass)
    pub shows : Shows (shown old.door) (shown new.door)
        (given_back (record { calls = calls link_now; served = served_of result }))
    pub no_fault : faults new.door ≡ faults old.door

  -- The door gave a link of which no call was made, which was served and given back.
  pub record ServesLink (said : Visit) (old new : WorkerState G C) : Type 0 where
    pub link : L
    pub fresh : IsFresh (calls link)
    pub between : G
    pub shows : Shows (shown old.door) (shown between) (answered answer.Link)
    pub given : ServesGiven link said (at_door between old.clock old.pass) new
    pub no_fault : faults new.door ≡ faults old.door

  -- The door answered so, and no link came.
  pub record NoLink (said : Answer) (old new : WorkerState G C) : Type 0 where
    pub shows : Shows (shown old.door) (shown new.door) (answered said)
    pub clock : new.clock ≡ old.clock
    pub pass : new.pass ≡ old.pass

  -- what came of a visit, by its answer
  abbrev pub Came : Visit → WorkerState G C → WorkerState G C → Type 0
  Came visit.NoMore old new = NoLink answer.NoMore old new × (faults new.door ≡ faults old.door)
  Came visit.Failed old new =
      NoLink answer.Failed old new × Rose (faults old.door) (faults new.door)
  Came said old new = ServesLink said old new
