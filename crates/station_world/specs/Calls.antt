-- The book's events and a START of the desk as events of a world. This product's own.
use Rattle.std.specs.Prelude.{◌≡◌, ℕ, zero, suc, ◌<◌, IsTrue, IsFalse, not, Bool, true, false, Some}
use Rattle.std.specs.Prelude.{List, [], ◌∷◌, ◌++◌, length, map, take, replicate}
use Rattle.std.specs.List.{fold, list_all}
use Rattle.archive_terms.specs.Selection.{picked, is_stop_closed}
use Rattle.archive_terms.specs.Delivery.{offline_buffers, is_online}
use Rattle.archive_terms.specs.Rounds.{free_round, handed_buffers}
use Rattle.station_book.specs.State.{Call, publish, Event as Answered}
use Rattle.station_book.specs.History.{IsLegal}
use Rattle.station_world.specs.Life.{Start, Life, book, done_by, Asked, asked_terms, called}
use Rattle.station_world.specs.Life.{with_start}
use Rattle.station_world.specs.World.{World, Event, calls, starts, makes_round, ends_start}
use Rattle.station_world.specs.World.{after_events}
use Rattle.station_world.specs.Comes.{AllCome}

-- the world with this life that goes on
abbrev pub with_now : World → Life → World
with_now w l = record w { now = Some l }

-- events may come in a world, and lead to another
abbrev pub Leads : World → List Event → World → Type 0
Leads w events next = AllCome w events × (after_events w events ≡ next)

-- ---- events of the book

abbrev pub is_publishing : Call → Bool
is_publishing (publish entries) = true
is_publishing _ = false

abbrev pub publishes_nothing : List Answered → Bool
publishes_nothing h = list_all (λ (e : Answered). not (is_publishing e.call)) h

abbrev pub call_events : List Answered → List Event
call_events h = map (λ (e : Answered). calls e.call) h

abbrev pub all_called : List Answered → Life → Life
all_called h l = fold (λ (m : Life) (e : Answered). called e.call m) l h

-- Events that are legal behind a life's history, none of them a publishing, are events of the
-- world: they lead to the world whose life has them behind that history, and the same STARTs.
pub record CallsAreEvents : Type 0 where
  pub leads : (w : World) (l : Life) (h : List Answered) → w.now ≡ Some l
      → IsTrue (publishes_nothing h)
      → Leads w (call_events h) (with_now w (all_called h l))
  pub history : (l : Life) (h : List Answered) → IsLegal (book l) h
      → (all_called h l).history ≡ l.history ++ h
  pub starts : (l : Life) (h : List Answered) → (all_called h l).starts ≡ l.starts

-- ---- a START of the desk

-- it is taken as the one behind so many others, makes so many rounds whose link is free, all at one
-- front and moment, and ends
abbrev pub desk_rounds : ℕ → ℕ → ℕ → ℕ → List Event
desk_rounds place front now zero = ends_start place ∷ []
desk_rounds place front now (suc n) =
    makes_round place (free_round front now) ∷ desk_rounds place front now n

abbrev pub desk_events : Asked → ℕ → ℕ → ℕ → ℕ → List Event
desk_events a place front now n = starts a ∷ desk_rounds place front now n

abbrev pub desk_start : Asked → ℕ → ℕ → ℕ → Start
desk_start a front now n = record {
  door = a.door;
  terms = asked_terms a front;
  rounds = map (free_round front) (replicate n now);
  ended = true;
}

-- Its events lead to the same world, whose life has the START behind the others. What it handed
-- over are the first so many buffers of an offline delivery of what is published.
pub record DeskIsEvents : Type 0 where
  pub leads : (w : World) (l : Life) (a : Asked) (now n : ℕ) → w.now ≡ Some l
      → 0 < a.size →
      let front = length (book l).published in
      Leads w (desk_events a (length l.starts) front now n)
      (with_now w (with_start l (desk_start a front now n)))
  pub hands_over : (l : Life) (a : Asked) (now n : ℕ) → 0 < a.size → IsFalse (is_online a.mode) →
      let published = (book l).published in
      let s = desk_start a (length published) now n in
      handed_buffers (done_by l s)
      ≡ take n (offline_buffers a.size (picked published s.terms.selection)
      (is_stop_closed s.terms.selection published))
