-- The seats of workers: passes that were split from one, and are joined into it. This product's own.
use Rattle.std.specs.Prelude.{◌≡◌, ℕ, ◌+◌, ◌-◌, ◌*◌, ◌≤◌, List, [], ◌∷◌, ◌++◌, map, All}
use Rattle.std.specs.List.{sum_by}
use Rattle.turn_lock.specs.PassState.{PassState, Lock}
use Rattle.turn_lock.specs.declared.view.Mark.{Mark}
use Rattle.station_book.specs.State.{Opening, Event}
use Rattle.station_turns.specs.Turned.{IsReady}
use Rattle.station_seats.specs.declared.seat.DoorSeat.{DoorSeat}
use Rattle.station_seats.specs.declared.report.DoorReport.{DoorReport}

-- the seat's pass is of this lock, has no open turn, and has a turn left
abbrev pub IsSeated : Lock Opening → DoorSeat → Type 0
IsSeated lock seat = IsReady lock seat.pass × (1 ≤ seat.pass.left)

-- A pass of this lock with so many turns that has done and seen nothing.
pub record IsFresh (lock : Lock Opening) (turns : ℕ) (pass : PassState Event Opening) : Type 0 where
  pub ready : IsReady lock pass
  pub left : pass.left ≡ turns
  pub entered : pass.entered ≡ 0
  pub own : pass.own ≡ []
  pub joined : pass.joined ≡ []
  pub seen : pass.seen ≡ []

-- A pass of this lock that has done and seen nothing, and into which none was joined.
pub record IsMain (lock : Lock Opening) (pass : PassState Event Opening) : Type 0 where
  pub ready : IsReady lock pass
  pub entered : pass.entered ≡ 0
  pub own : pass.own ≡ []
  pub joined : pass.joined ≡ []
  pub seen : pass.seen ≡ []

abbrev pub owns_of : List DoorSeat → List (List (Mark Event))
owns_of seats = map (λ seat. seat.pass.own) seats

abbrev pub reports_of : List DoorSeat → List DoorReport
reports_of seats = map (λ seat. seat.report) seats

-- the turns of all seats, those left and those entered
abbrev pub turns_of : List DoorSeat → ℕ
turns_of seats = sum_by (λ seat. seat.pass.left + seat.pass.entered) seats

-- a pass with no open turn, into which none was joined
abbrev pub IsSingle : Lock Opening → DoorSeat → Type 0
IsSingle lock seat = IsReady lock seat.pass × (seat.pass.joined ≡ [])
