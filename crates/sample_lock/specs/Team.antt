-- What a team of clerks did. This product's own.
use Rattle.std.specs.Prelude.{◌≡◌, ℕ, ◌+◌, ◌-◌, ◌*◌, ◌≤◌, Bool, true, List, [], ◌∷◌, ◌++◌, length}
use Rattle.std.specs.Prelude.{map, All, Some}
use Rattle.turn_lock.specs.PassState.{PassState, Lock}
use Rattle.turn_lock.specs.declared.view.Mark.{Mark}
use Rattle.turn_lock.specs.declared.pass.Standing.TheVariants.{Ready}
use Rattle.sample_lock.specs.Served.{Served}
use Rattle.sample_lock.specs.DeskReport.{DeskReport}
use Rattle.sample_lock.specs.declared.account.Opening.{Opening}
use Rattle.sample_lock.specs.declared.booking.Booking.{Booking}
use Rattle.sample_lock.specs.declared.seat.Seat.{Seat}

-- the pass is of this lock, and has no open turn
abbrev pub IsReady : Lock Opening → PassState Booking Opening → Type 0
IsReady lock p = (p.lock ≡ Some lock) × (p.standing ≡ Ready)

-- and it has done nothing
abbrev pub IsFresh : Lock Opening → PassState Booking Opening → Type 0
IsFresh lock p = (p.lock ≡ Some lock) × (p.standing ≡ Ready) × (p.own ≡ []) × (p.joined ≡ [])

-- the seat's pass has all its turns still
abbrev pub IsVacant : Lock Opening → ℕ → Seat → Type 0
IsVacant lock turns s = IsFresh lock s.pass × (s.pass.left ≡ turns) × (s.pass.entered ≡ 0)

-- no pass was joined into the seat's
abbrev pub IsIdle : Lock Opening → Seat → Type 0
IsIdle lock s = (s.pass.lock ≡ Some lock) × (s.pass.standing ≡ Ready) × (s.pass.joined ≡ [])

abbrev pub owns_of : List Seat → List (List (Mark Booking))
owns_of ss = map (λ s. s.pass.own) ss

-- the turns of all seats, those left and those entered
abbrev pub turns_of : List Seat → ℕ
turns_of [] = 0
turns_of (s ∷ ss) = s.pass.left + s.pass.entered + turns_of ss

-- a clerk's own events are those of all orders that its desk gave, until it was closed, or the
-- clerk had made so many calls
pub record Did (clerk turns : ℕ) (own : List (Mark Booking))
    (before after : DeskReport) : Type 0 where
  pub spent : Bool
  pub served : Served clerk spent [] own before after
  pub within : length own ≤ turns
  pub all_turns : spent ≡ true → length own ≡ turns

-- the relation holds of each list and the desk at its place, with the clerk's number, which goes up
-- from n on
abbrev pub EachDid : {D : Type 0} → (D → DeskReport) → ℕ → ℕ → List (List (Mark Booking)) → List D
    → List D → Type 0
EachDid told turns n [] [] [] = Unit {0}
EachDid told turns n (own ∷ owns) (d ∷ ds) (d' ∷ ds') = Did n turns own (told d) (told d')
    × EachDid told turns (n + 1) owns ds ds'
EachDid told turns n _ _ _ = ⊥

-- so far the passes of the first seats were joined into the pass, and the others are still to be
pub record Gathered (lock : Lock Opening) (seats : List Seat) (start : PassState Booking Opening)
    (done rest : List Seat) (pass : PassState Booking Opening) : Type 0 where
  pub ready : IsReady lock pass
  pub own : pass.own ≡ start.own
  pub idle : All (λ s. IsIdle lock s) rest
  pub split : seats ≡ done ++ rest
  pub joined : pass.joined ≡ start.joined ++ owns_of done
  pub turns : pass.left + pass.entered ≡ start.left + start.entered + turns_of done

-- so far `place` of `count` seats got their turns from the pass
pub record Seating (lock : Lock Opening) (start : PassState Booking Opening) (count turns place : ℕ)
    (seats : List Seat) (pass : PassState Booking Opening) : Type 0 where
  pub main : IsFresh lock pass
  pub enough : (count - place) * turns ≤ pass.left
  pub vacant : All (λ s. IsVacant lock turns s) seats
  pub kept : turns_of seats + pass.left + pass.entered ≡ start.left + start.entered
