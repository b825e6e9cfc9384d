-- What a door's worker did, from its first visit to the turn in which it says that it is gone. This
-- product's own.
use Rattle.std.specs.Prelude.{◌≡◌, ℕ, ◌+◌, ◌<◌, true, false, Bool, List, [], ◌∷◌, ◌++◌, Option}
use Rattle.cds_time.specs.declared.cds.Cds.{Cds}
use Rattle.link_model.specs.declared.call.Call.{Call as LinkCall}
use Rattle.door_model.specs.Shown.{Shown}
use Rattle.turn_lock.specs.PassState.{Lock}
use Rattle.turn_lock.specs.declared.view.Mark.{Mark}
use Rattle.station_config.specs.declared.site.Site.{Site}
use Rattle.station_book.specs.State.{Opening, Event, gone}
use Rattle.station_turns.specs.Gained.{Gains}
use Rattle.station_seats.specs.declared.report.DoorReport.{DoorReport}
use Rattle.door_turns.specs.Visits.{WorkerState, ServesLink, Came}
use Rattle.door_turns.specs.declared.visit.Visit.{Visit}
use Rattle.door_turns.specs.declared.visit.Visit.TheVariants as visit

abbrev pub report : ℕ → Bool → Bool → Bool → DoorReport
report links spent failed memory =
    record { links = links; spent = spent; failed = failed; memory = memory }

module _ {G L C : Type 0} (shown : G → Option Shown) (faults : G → ℕ)
    (calls : L → Option (List LinkCall)) (link_faults : L → ℕ) (readings : C → Option (List Cds))
    (lock : Lock Opening) (site : Site) (door draw : ℕ) where
  -- the turns that a served link cost, and the events that it gained: its rounds' answers, and the
  -- quit of its door
  abbrev pub turns_of_link : (said : Visit) (old new : WorkerState G C) → ServesLink shown faults calls
      link_faults readings lock site door draw said old new → ℕ
  turns_of_link said old new s = s.given.serves.served.spent + 1

  abbrev pub events_of_link : (said : Visit) (old new : WorkerState G C) → ServesLink shown faults calls
      link_faults readings lock site door draw said old new → List (Mark Event)
  events_of_link said old new s =
      s.given.serves.served.answers ++ s.given.serves.quits ∷ []

  -- Visits one after the other, each of which served a link: how many links, the turns that they
  -- cost, and the events that they gained.
  pub data Visits : ℕ → ℕ → List (Mark Event) → WorkerState G C → WorkerState G C → Type 0 where
    none : (at : WorkerState G C) → Visits 0 0 [] at at
    more : (count spent : ℕ) (gained : List (Mark Event)) (a b c : WorkerState G C)
        → Visits count spent gained a b
        → (s : ServesLink shown faults calls link_faults readings lock site door draw visit.Served b
        c)
        → Visits (count + 1) (spent + turns_of_link visit.Served b c s)
        (gained ++ events_of_link visit.Served b c s) a c

  -- How a worker ended behind visits that served `count` links, with what it reports: all links
  -- were served that it may serve; the door gave no further one, or failed; fewer than three turns
  -- were left before a further link; or turns or memory ran out in a link, which is given back all
  -- the same.
  pub data Ends (links : ℕ) : DoorReport → ℕ → ℕ → List (Mark Event) → WorkerState G C
      → WorkerState G C → Type 0 where
    all_links : (at : WorkerState G C) → Ends links (report links false false false) links 0 [] at at
    no_more : (count : ℕ) (met at : WorkerState G C) → count < links
        → Came shown faults calls link_faults readings lock site door draw visit.NoMore met at
        → Ends links (report count false false false) count 0 [] met at
    failed : (count : ℕ) (met at : WorkerState G C) → count < links
        → Came shown faults calls link_faults readings lock site door draw visit.Failed met at
        → Ends links (report count false true false) count 0 [] met at
    too_few : (count : ℕ) (at : WorkerState G C) → count < links → at.pass.left < 3
        → Ends links (report count true false false) count 0 [] at at
    spent : (count : ℕ) (met at : WorkerState G C) → count < links
        → (s : ServesLink shown faults calls link_faults readings lock site door draw visit.Spent met
        at)
        → Ends links (report (count + 1) true false false) count
        (turns_of_link visit.Spent met at s) (events_of_link visit.Spent met at s) met at
    memory : (count : ℕ) (met at : WorkerState G C) → count < links
        → (s : ServesLink shown faults calls link_faults readings lock site door draw visit.Memory
        met at)
        → Ends links (report (count + 1) false false true) count
        (turns_of_link visit.Memory met at s) (events_of_link visit.Memory met at s) met at

  -- A worker up to its end: all that its pass gained are the events of its links.
  pub record Served (links : ℕ) (said : DoorReport) (old new : WorkerState G C) : Type 0 where
    pub count : ℕ
    pub spent : ℕ
    pub gained : List (Mark Event)
    pub met : WorkerState G C
    pub visits : Visits count spent gained old met
    pub last_spent : ℕ
    pub last : List (Mark Event)
    pub ends : Ends links said count last_spent last met new
    pub gains : Gains lock (spent + last_spent) (gained ++ last) old.pass new.pass

  -- A worker whole: behind all links a turn tells that it is gone.
  pub record Works (links : ℕ) (said : DoorReport) (old new : WorkerState G C) : Type 0 where
    pub at : WorkerState G C
    pub served : Served links said old at
    pub left : Mark Event
    pub is_gone : left.event.call ≡ gone door
    pub others : (new.door ≡ at.door) × (new.clock ≡ at.clock)
    pub gains : Gains lock (served.spent + served.last_spent + 1)
        ((served.gained ++ served.last) ++ left ∷ []) old.pass new.pass
