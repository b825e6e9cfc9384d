-- A call that was made of a book, named.
use Rattle.std.specs.Prelude.{◌≡◌}
use Rattle.station_book.specs.State.{State, Call, Event}
use Rattle.station_book.specs.History.{after, event_at}

-- the call made this book of the one before it, and this is its event
pub record IsMadeBy (call : Call) (before book : State) (event : Event) : Type 0 where
  pub book_is : book ≡ after before call
  pub event_is : event ≡ event_at before call
