-- Workers of doors, each at its seat. This product's own.
use Rattle.std.specs.Prelude.{ℕ, ◌+◌, List, [], ◌∷◌, Option}
use Rattle.cds_time.specs.declared.cds.Cds.{Cds}
use Rattle.link_model.specs.declared.call.Call.{Call as LinkCall}
use Rattle.door_model.specs.Shown.{Shown}
use Rattle.turn_lock.specs.PassState.{Lock}
use Rattle.station_config.specs.declared.site.Site.{Site}
use Rattle.station_book.specs.State.{Opening}
use Rattle.station_seats.specs.declared.seat.DoorSeat.{DoorSeat}
use Rattle.door_turns.specs.Visits.{at_door}
use Rattle.door_turns.specs.Working.{Works}

-- The relation holds of each seat, the door and the clock at its place, each as it was and as it
-- became, with the door's number, which goes up from n on.
abbrev pub Each : {G C : Type 0} → (ℕ → DoorSeat → DoorSeat → G → G → C → C → Type 0) → ℕ
    → List DoorSeat → List DoorSeat → List G → List G → List C → List C → Type 0
Each rel n [] [] [] [] [] [] = Unit {0}
Each rel n (s ∷ ss) (s' ∷ ss') (g ∷ gs) (g' ∷ gs') (c ∷ cs) (c' ∷ cs') = rel n s s' g g' c c'
    × Each rel (n + 1) ss ss' gs gs' cs cs'
Each rel n _ _ _ _ _ _ = ⊥

module _ {G L C : Type 0} (shown : G → Option Shown) (faults : G → ℕ)
    (calls : L → Option (List LinkCall)) (link_faults : L → ℕ) (readings : C → Option (List Cds))
    (lock : Lock Opening) (site : Site) (draw links : ℕ) where
  -- the worker of this number, at its seat, which has its report
  abbrev pub WorksAt : ℕ → DoorSeat → DoorSeat → G → G → C → C → Type 0
  WorksAt number s s' g g' c c' = Works shown faults calls link_faults readings lock site number
      draw links s'.report (at_door g c s.pass) (at_door g' c' s'.pass)

  -- each door's worker, from the number `first` on
  abbrev pub EachWorks : ℕ → List DoorSeat → List DoorSeat → List G → List G → List C → List C
      → Type 0
  EachWorks first ss ss' gs gs' cs cs' = Each WorksAt first ss ss' gs gs' cs cs'
