-- What a clerk did. This product's own.
use Rattle.std.specs.Prelude.{◌≡◌, ℕ, ◌+◌, Bool, true, List, [], ◌∷◌, ◌++◌, length, map}
use Rattle.std.specs.Prelude.{if◌then◌else◌, Option, Some, None}
use mathlib.Core.List.{IsPrefix}
use Rattle.turn_lock.specs.PassState.{PassState, Lock}
use Rattle.turn_lock.specs.Own.{mark}
use Rattle.turn_lock.specs.declared.view.Mark.{Mark}
use Rattle.turn_lock.specs.declared.pass.Standing.TheVariants.{Ready}
use Rattle.sample_lock.specs.Ledger.{opened, replay, booking_at, IsLegal}
use Rattle.sample_lock.specs.DeskReport.{DeskReport, Adds}
use Rattle.sample_lock.specs.declared.account.Opening.{Opening}
use Rattle.sample_lock.specs.declared.booking.Booking.{Booking}
use Rattle.sample_lock.specs.declared.order.Order.{Order}
use Rattle.sample_lock.specs.declared.order.Reply.{Reply}
use Rattle.sample_lock.specs.declared.seat.Seat.{Seat}

-- the event of a call that was made after the events of this list
abbrev pub booked : Opening → List Booking → ℕ → ℕ → Order → Booking
booked o before clerk reading order = booking_at (replay (opened o) before) clerk reading order

-- the pass made one call and got its reply, after the events of some list that begins with all that
-- it had seen
pub record MadeOne (o : Opening) (clerk reading : ℕ) (order : Order) (reply : Reply)
    (old new : PassState Booking Opening) : Type 0 where
  pub before : List Booking
  pub later : IsPrefix old.seen before
  pub seen : new.seen ≡ before ++ booked o before clerk reading order ∷ []
  pub own : new.own ≡ old.own ++ mark before (booked o before clerk reading order) ∷ []
  pub replied : reply ≡ (booked o before clerk reading order).reply

-- each of the events is a call of this clerk
abbrev pub AreOf : ℕ → List (Mark Booking) → Type 0
AreOf clerk [] = Unit {0}
AreOf clerk (m ∷ ms) = (m.event.clerk ≡ clerk) × AreOf clerk ms

-- the answers by which a desk gave the orders of these events, and the last one where it was closed
abbrev pub answers_of : List (Mark Booking) → Bool → List (Option Order)
answers_of ms spent = map (λ m. Some m.event.order) ms ++ (if spent then [] else None ∷ [])

abbrev pub readings_of : List (Mark Booking) → List ℕ
readings_of ms = map (λ m. m.event.reading) ms

abbrev pub replies_of : List (Mark Booking) → List Reply
replies_of ms = map (λ m. m.event.reply) ms

-- the clerk's own events gained those of all orders that the desk gave, with the readings that it
-- gave and the replies that it took; and the desk was closed, or the turns were spent
pub record Served (clerk : ℕ) (spent : Bool) (own own' : List (Mark Booking))
    (before after : DeskReport) : Type 0 where
  pub gained : List (Mark Booking)
  pub adds : own' ≡ own ++ gained
  pub clerks : AreOf clerk gained
  pub told : Adds before after (answers_of gained spent) (readings_of gained) (replies_of gained)

-- the clerk with this pass served a desk: the pass is as before but for what it saw, its own
-- events, and one turn for each of these
pub record HasServed (lock : Lock Opening) (clerk : ℕ) (spent : Bool)
    (old new : PassState Booking Opening) (before after : DeskReport) : Type 0 where
  pub lock_is : new.lock ≡ Some lock
  pub ready : new.standing ≡ Ready
  pub joined : new.joined ≡ old.joined
  pub turns : new.left + new.entered ≡ old.left + old.entered
  pub each_turn : new.entered + length old.own ≡ old.entered + length new.own
  pub ended : spent ≡ true → new.left ≡ 0
  pub served : Served clerk spent old.own new.own before after
  pub legal : IsLegal (opened lock.origin) old.seen → IsLegal (opened lock.origin) new.seen

-- the seat's pass is of this lock, and has no open turn
abbrev pub IsSeated : Lock Opening → Seat → Type 0
IsSeated lock s = (s.pass.lock ≡ Some lock) × (s.pass.standing ≡ Ready)

abbrev pub AtDesk : Lock Opening → ℕ → Seat → Seat → DeskReport → DeskReport → Type 0
AtDesk lock clerk s s' before after = HasServed lock clerk s'.spent s.pass s'.pass before after

-- the relation holds of each seat and the desk at its place, with the clerk's number, which goes up
-- from n on
abbrev pub Each : {D : Type 0} → (ℕ → Seat → Seat → D → D → Type 0) → ℕ → List Seat → List Seat
    → List D → List D → Type 0
Each rel n [] [] [] [] = Unit {0}
Each rel n (s ∷ ss) (s' ∷ ss') (d ∷ ds) (d' ∷ ds') = rel n s s' d d'
    × Each rel (n + 1) ss ss' ds ds'
Each rel n _ _ _ _ = ⊥

-- each seat's clerk served the desk at its place, from the number `first` on
abbrev pub EachServed : {D : Type 0} → (D → DeskReport) → Lock Opening → ℕ → List Seat → List Seat
    → List D → List D → Type 0
EachServed told lock first ss ss' ds ds' = Each
    (λ n s s' d d'. AtDesk lock n s s' (told d) (told d')) first ss ss' ds ds'
