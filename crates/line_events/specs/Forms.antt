-- The forms of lines as events of a world, and where they lead. This product's own.
use Rattle.std.specs.Prelude.{◌≡◌, ℕ, ◌<◌, IsTrue, IsFalse, Bool, true, false, None}
use Rattle.std.specs.Prelude.{List, [], ◌∷◌, ◌++◌, length, if◌then◌else◌}
use Rattle.std.specs.Option.{option_map_or}
use Rattle.archive_terms.specs.Archive.{Entry, IsArchive, may_follow}
use Rattle.archive_terms.specs.Selection.{picked, is_stop_closed}
use Rattle.archive_terms.specs.Delivery.{Item, Terms, offline_buffers, is_online}
use Rattle.archive_terms.specs.Continuity.{told_buffers}
use Rattle.cltu_queue.specs.declared.taken.Taken.TheVariants.{Radiate}
use Rattle.station_book.specs.State.{Opening, publish, take, took, Event as Answered}
use Rattle.station_book.specs.State as books
use Rattle.station_book.specs.History.{after, reply_to, replay}
use Rattle.station_world.specs.File.{Finding, with_batch, without_batch}
use Rattle.station_world.specs.Life.{Life, Asked, asked_terms}
use Rattle.station_world.specs.World.{World, before_all, Event, offers, begins_store, ends_store}
use Rattle.station_world.specs.World.{reopens, calls, sends, reads, loses_power, restarts, after_events}
use Rattle.station_world.specs.Comes.{AllCome}
use Rattle.station_world.specs.Calls.{publishes_nothing, call_events, desk_events}
use Rattle.line_events.specs.Shows.{Told, View, Shows}
use Rattle.line_events.specs.Progress.{Progress, progress_events, progressed, MayProgress}

-- ---- an entry's line

-- it is offered, stored and published
abbrev pub store_events : Entry → List Event
store_events e = offers e ∷ begins_store ∷ ends_store true ∷ calls (publish (e ∷ [])) ∷ []

-- what is found of a store that was broken off, where the file has its batch or hasn't
abbrev pub finding_of : Bool → Finding
finding_of true = with_batch
finding_of false = without_batch

-- the power fails in its store, and the file has it or hasn't
abbrev pub struck_events : Opening → Entry → Bool → List Event
struck_events o e has = offers e ∷ begins_store ∷ loses_power ∷ restarts o (finding_of has) ∷ []

-- Its store fails, and the archive is opened again. Where the file hasn't the entry, it is offered
-- and stored once more; it is published in any case.
abbrev pub stored_again : Entry → Bool → List Event
stored_again e true = calls (publish (e ∷ [])) ∷ []
stored_again e false = store_events e

abbrev pub failed_events : Entry → Bool → List Event
failed_events e has =
    offers e ∷ begins_store ∷ ends_store false ∷ reopens (finding_of has) ∷ stored_again e has

-- ---- lines on the station

-- the archive was made, and is opened, for a station whose book is opened so
abbrev pub first_events : Opening → List Event
first_events o = restarts o without_batch ∷ []

-- the power fails between two stores, and the archive is opened again
abbrev pub power_events : Opening → List Event
power_events o = loses_power ∷ restarts o without_batch ∷ []

-- the clock reads a moment
abbrev pub clock_events : ℕ → List Event
clock_events moment = reads moment ∷ []

-- ---- what radiates

-- the octets of a take are sent, good or not, and then the book is called
abbrev pub radiate_events : ℕ → Bool → List Answered → List Event
radiate_events reading good h = calls (take reading) ∷ sends good ∷ call_events h

-- ---- a START of the desk

-- how many STARTs the life that goes on has
abbrev pub starts_in : World → ℕ
starts_in w = option_map_or (λ (l : Life). length l.starts) w.now 0

-- the terms of a START over these entries, and the buffers that an offline one hands over of them
abbrev pub desk_terms : Asked → List Entry → Terms
desk_terms a published = asked_terms a (length published)

abbrev pub desk_buffers : Asked → List Entry → List (List Item)
desk_buffers a published =
    let s = (desk_terms a published).selection in
    offline_buffers a.size (picked published s) (is_stop_closed s published)

-- it is taken, makes one round for each buffer, whose link takes it, and ends
abbrev pub start_events : Asked → World → List Entry → ℕ → List Event
start_events a w published moment =
    desk_events a (starts_in w) (length published) moment (length (desk_buffers a published))

-- what it has handed over then
abbrev pub desk_told : Asked → List Entry → Told
desk_told a published = record {
  door = a.door;
  terms = desk_terms a published;
  buffers = told_buffers published None (desk_buffers a published);
}

-- ---- what a line shows

-- an entry is published
abbrev pub with_entry : Entry → View → View
with_entry e v = record v {
  published = v.published ++ e ∷ [];
  book = after v.book (publish (e ∷ []));
}

-- the published entries with one that a recovery finds, or without it
abbrev pub found_with : Bool → Entry → View → List Entry
found_with has e v = if has then v.published ++ e ∷ [] else v.published

-- the book is new over what a recovery found, at a station whose book is opened so
abbrev pub new_book : Opening → List Entry → books.State
new_book o entries = books.opened (record o { entries = entries })

abbrev pub anew : Opening → List Entry → View → View
anew o entries v = record v { published = entries; book = new_book o entries; users = [] }

-- a START of a user is taken, makes a round, or ends
abbrev pub with_progress : ℕ → Progress → View → View
with_progress door p v =
    record v { users = progressed door (length v.published) p v.users }

-- a START has handed over what it did
abbrev pub with_told : Told → View → View
with_told t v = record v { told = v.told ++ t ∷ [] }

-- a take's octets are sent, good or not, and then the book is called
abbrev pub with_sent : ℕ → Bool → List ℕ → List Answered → View → View
with_sent reading good octets h v = record v {
  book = replay (after v.book (take reading)) h;
  antenna = if good then v.antenna ++ octets ∷ [] else v.antenna;
}

-- nothing happened yet
abbrev pub first_view : Opening → View
first_view o = record {
  published = [];
  book = new_book o [];
  clock = 0;
  antenna = [];
  told = [];
  users = [];
}

-- ---- what is claimed of them

-- the events may come, and lead to a world that shows this
abbrev pub LeadTo : World → List Event → View → Type 0
LeadTo w events v = AllCome w events × Shows v (after_events w events)

pub record LinesAreEvents : Type 0 where
  -- the world of an archive that was made and opened
  pub begins : (o : Opening) → LeadTo before_all (first_events o) (first_view o)
  -- an entry that may follow is stored, struck by a power failure, or hit by a call that fails
  pub stores : (v : View) (w : World) (e : Entry) → Shows v w
      → IsArchive v.published → may_follow v.published e ≡ true
      → LeadTo w (store_events e) (with_entry e v)
  pub struck : (o : Opening) (v : View) (w : World) (e : Entry) (has : Bool) → Shows v w
      → may_follow v.published e ≡ true
      → LeadTo w (struck_events o e has) (anew o (found_with has e v) v)
  pub fails : (v : View) (w : World) (e : Entry) (has : Bool) → Shows v w
      → IsArchive v.published → may_follow v.published e ≡ true
      → LeadTo w (failed_events e has) (with_entry e v)
  -- the power fails between two stores
  pub power : (o : Opening) (v : View) (w : World) → Shows v w
      → LeadTo w (power_events o) (anew o v.published v)
  -- the clock reads a moment
  pub clock : (v : View) (w : World) (moment : ℕ) → Shows v w
      → LeadTo w (clock_events moment) (record v { clock = moment })
  -- the book is called, and nothing is published
  pub book : (v : View) (w : World) (h : List Answered) → Shows v w
      → IsTrue (publishes_nothing h)
      → LeadTo w (call_events h) (record v { book = replay v.book h })
  -- a take gives octets to be sent, and the book is called behind the send, good or not
  pub radiates : (v : View) (w : World) (reading run id : ℕ) (octets : List ℕ)
      (good : Bool) (h : List Answered) → Shows v w
      → reply_to v.book (take reading) ≡ took (Radiate run id octets)
      → IsTrue (publishes_nothing h)
      → LeadTo w (radiate_events reading good h) (with_sent reading good octets h v)
  -- a START of a user is taken, makes a round, or ends
  pub progress : (v : View) (w : World) (door : ℕ) (p : Progress) → Shows v w
      → MayProgress door v.published p
      → LeadTo w (progress_events door w p) (with_progress door p v)
  -- a START of the desk
  pub desk : (v : View) (w : World) (a : Asked) → Shows v w → a.door ≡ 0
      → 0 < a.size → IsFalse (is_online a.mode)
      → LeadTo w (start_events a w v.published v.clock) (with_told (desk_told a v.published) v)
