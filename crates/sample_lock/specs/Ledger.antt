-- What one thread gets that makes the calls of a list one after the other. This product's own.
use Rattle.std.specs.Prelude.{◌≡◌, ℕ, ◌+◌, ◌-◌, nat_lt, List, [], ◌∷◌, ◌++◌, length, if◌then◌else◌}
use Rattle.std.specs.Prelude.{Option, Some, None, unwrap_or}
use Rattle.std.specs.List.{fold}
use Rattle.sample_lock.specs.State.{State}
use Rattle.sample_lock.specs.declared.account.Opening.{Opening}
use Rattle.sample_lock.specs.declared.booking.Booking.{Booking}
use Rattle.sample_lock.specs.declared.order.Order.{Order}
use Rattle.sample_lock.specs.declared.order.Posting.{Posting}
use Rattle.sample_lock.specs.declared.order.Posting.TheVariants.{Deposit, Withdrawal}
use Rattle.sample_lock.specs.declared.order.Reply.{Reply}
use Rattle.sample_lock.specs.declared.order.Reply.TheVariants.{Booked, Refused}

abbrev pub opened : Opening → State
opened o = record { opening = o; balance = o.balance; latest = 0; notes = [] }

-- the balance after a posting, or none where it can't be made
abbrev pub posted : ℕ → Posting → Option ℕ
posted b (Deposit amount) = if nat_lt (18446744073709551615 - b) amount then None
    else Some (b + amount)
posted b (Withdrawal amount) = if nat_lt b amount then None else Some (b - amount)

-- the balance after an order, or none where it is refused
abbrev pub balance_after : State → Order → Option ℕ
balance_after s o = if nat_lt (length s.notes) s.opening.room then posted s.balance o.posting
    else None

-- the moment of a call
abbrev pub moment_at : State → ℕ → ℕ
moment_at s reading = if nat_lt s.latest reading then reading else s.latest

-- the notes after an order, which had this new balance or none
abbrev pub notes_with : List (List ℕ) → Order → Option ℕ → List (List ℕ)
notes_with notes o (Some b) = notes ++ o.note ∷ []
notes_with notes o None = notes

abbrev pub reply_with : Order → Option ℕ → Reply
reply_with o (Some b) = Booked b
reply_with o None = Refused o

-- the account after a call, and its reply
abbrev pub after : State → ℕ → Order → State
after s reading o = record {
  opening = s.opening;
  balance = unwrap_or (balance_after s o) s.balance;
  latest = moment_at s reading;
  notes = notes_with s.notes o (balance_after s o);
}

abbrev pub reply_to : State → Order → Reply
reply_to s o = reply_with o (balance_after s o)

-- the event of a call that a clerk makes now
abbrev pub booking_at : State → ℕ → ℕ → Order → Booking
booking_at s clerk reading o = record {
  clerk = clerk;
  reading = reading;
  order = o;
  moment = moment_at s reading;
  reply = reply_to s o;
}

-- the account after an event
abbrev pub then_booked : State → Booking → State
then_booked s e = after s e.reading e.order

abbrev pub replay : State → List Booking → State
replay s h = fold then_booked s h

-- each event is the one that the replay of those before it gives
abbrev pub IsLegal : State → List Booking → Type 0
IsLegal s [] = Unit {0}
IsLegal s (e ∷ h) = (e ≡ booking_at s e.clerk e.reading e.order) × IsLegal (then_booked s e) h

-- the list is legal, and the account is its replay
pub record StandsAs (account : State) (h : List Booking) : Type 0 where
  pub legal : IsLegal (opened account.opening) h
  pub replayed : account ≡ replay (opened account.opening) h
