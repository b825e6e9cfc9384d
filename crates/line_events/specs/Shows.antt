-- What a world shows between two lines of a script: no entry waits, and no store stands open. This
-- product's own.
use Rattle.std.specs.Prelude.{◌≡◌, ℕ, ◌≤◌, ◌==◌, ℤ, Bool, not, Option, Some, None, List, [], ◌∷◌}
use Rattle.std.specs.Prelude.{◌++◌, length, map}
use Rattle.std.specs.List.{AllByRecursion, filter, flat_map}
use Rattle.archive_terms.specs.Archive.{Entry}
use Rattle.archive_terms.specs.Delivery.{Item, Terms, started}
use Rattle.archive_terms.specs.Rounds.{outcomes, handed_buffers, last_front}
use Rattle.archive_terms.specs.Continuity.{told_buffers}
use Rattle.station_book.specs.State as books
use Rattle.station_world.specs.File.{settled}
use Rattle.station_world.specs.Life.{Start, Life, book}
use Rattle.station_world.specs.World.{World}

-- ---- whose a START is

-- the desk has door 0, and a user's door another number
abbrev pub is_desk : Start → Bool
is_desk s = s.door == 0

abbrev pub is_users : Start → Bool
is_users s = not (is_desk s)

-- a life's STARTs of the desk, and of users
abbrev pub desk_starts : Life → List Start
desk_starts l = filter is_desk l.starts

abbrev pub users_starts : Life → List Start
users_starts l = filter is_users l.starts

-- ---- what STARTs of the desk handed over

-- what a START has handed over, as it is told: its door, what it asks for, and its buffers in order,
-- each frame with its continuity
pub record Told : Type 0 where
  pub door : ℕ
  pub terms : Terms
  pub buffers : List (List (Item × Option ℤ))

-- by its rounds over what is published
abbrev pub told_of : List Entry → Start → Told
told_of published s = record {
  door = s.door;
  terms = s.terms;
  buffers = told_buffers published None
      (handed_buffers (outcomes s.terms published s.rounds started));
}

-- what the desk's STARTs of a life have handed over, and those of lives, in their order
abbrev pub told_in : Life → List Told
told_in l = map (told_of (book l).published) (desk_starts l)

abbrev pub told_by : List Life → List Told
told_by all = flat_map told_in all

-- it stays so, whatever is published behind
abbrev pub IsLasting : List Entry → Start → Type 0
IsLasting published s =
    (more : List Entry) → told_of (published ++ more) s ≡ told_of published s

-- ---- what STARTs saw

-- the rounds of a START, the desk's or a user's, saw no more than is published
abbrev pub HasSeen : List Entry → Start → Type 0
HasSeen published s = last_front 0 s.rounds ≤ length published

-- ---- worlds

-- the published entries, the book, the moment that the clock reads, what the antenna was sent, what
-- each START of the desk so far has handed over, the first one first, and the STARTs of users in the
-- life that goes on, with their rounds
pub record View : Type 0 where
  pub published : List Entry
  pub book : books.State
  pub clock : ℕ
  pub antenna : List (List ℕ)
  pub told : List Told
  pub users : List Start

-- a world that rests
abbrev pub resting : List Entry → List Entry → List Life → Life → ℕ → List (List ℕ) → World
resting found kept past life clock antenna = record {
  file = record { found = found; kept = kept; waiting = []; phase = settled };
  past = past;
  now = Some life;
  clock = clock;
  antenna = antenna;
}

-- It shows this: what is acknowledged is published, in the book of the life that goes on; its clock
-- reads this, and its antenna was sent this; its STARTs of the desk, those of past lives first, have
-- handed this over, which stays so; the life has these STARTs of users; and none of its STARTs saw
-- more than is published.
pub record Shows (v : View) (w : World) : Type 0 where
  pub found : List Entry
  pub kept : List Entry
  pub past : List Life
  pub life : Life
  pub is : w ≡ resting found kept past life v.clock v.antenna
  pub acknowledges : found ++ kept ≡ v.published
  pub book_is : book life ≡ v.book
  pub one : v.book.published ≡ v.published
  pub told_is : told_by (past ++ life ∷ []) ≡ v.told
  pub lasting : AllByRecursion (IsLasting v.published) (desk_starts life)
  pub users_are : users_starts life ≡ v.users
  pub seen : AllByRecursion (HasSeen v.published) life.starts
