-- Which world a value of the code stands for.
use Rattle.std.specs.Prelude.{◌≡◌, ℕ, Bool, true, false, Option, Some, None, IsSomeAnd}
use Rattle.std.specs.Prelude.{List, vec_items, slice_get, slice_set}
use Rattle.station_config.specs.declared.site.Site.{Site}
use Rattle.station_book.specs.State as books
use Rattle.station_book.specs.History.{replay}
use Rattle.station_links.specs.Connected.{Connected, began}
use Rattle.station_links.specs.Lives.{Lives, with_steering}
use Rattle.station_links.specs.Lives as links
use Rattle.station_links.specs.Run.{Order, order_in}
use Rattle.station_links.specs.declared.link_line.LinkLine.{LinkLine}
use Rattle.station_uplink.specs.Standing.{IsUplink}
use Rattle.station_uplink.specs.Standing as uplinks
use Rattle.station_law.specs.declared.doors.Turns.{Turns}
use Rattle.script_store.specs.declared.outcome.Outcome.{Outcome}
use Rattle.script_store.specs.declared.outcome.Outcome.TheVariants.{Crashed}
use Rattle.station_law.specs.declared.said.SaidAt.{SaidAt}
use Rattle.script_store.specs.Store.{Store, Recorded}
use Rattle.station_law.specs.Sound.{IsSound}
use Rattle.station_law.specs.Doors.{Doors, Act, Ran, Acted, acted_by, doors_after}
use Rattle.station_law.specs.State.{State}
use Rattle.script_store.specs.Answer.{Answer}

-- ---- doors

-- doors as contracts see them
pub record DoorsSeen : Type 0 where
  pub site : Site
  pub book : books.State
  pub connections : List (Option links.ConnectionState)

-- a connection stands so: it was opened at some moment
pub record IsOpen (site : Site) (c : ℕ) (v : links.ConnectionState) (l : Connected) : Type 0 where
  pub entered : ℕ
  pub lives : Lives (began site c entered) v l

-- both are there, and stand so, or neither is
abbrev pub Match : {A B : Type 0} → (A → B → Type 0) → Option A → Option B → Type 0
Match Stand None None = Unit {0}
Match Stand (Some a) (Some b) = Stand a b
Match Stand None (Some b) = ⊥
Match Stand (Some a) None = ⊥

-- what is at a door
abbrev pub IsThere : Site → ℕ → Option links.ConnectionState → Option Connected → Type 0
IsThere site c seen there = Match (IsOpen site c) seen there

pub record AreDoors (seen : DoorsSeen) (d : Doors) : Type 0 where
  pub site : seen.site ≡ d.site
  pub book : seen.book ≡ d.book
  pub at : (c : ℕ)
      → Match (IsThere d.site c) (slice_get seen.connections c) (slice_get d.connections c)

-- ---- lines of connections

-- what is asked of a connection, by the line that asks it
abbrev pub IsAsked : Turns → Act → Type 0
IsAsked turns a = (turns.c ≡ a.c) × (turns.rounds ≡ a.rounds)

-- what comes or is ordered at a connection's link is there, and nothing else of it changes
abbrev pub IsOrdered : links.ConnectionState → links.ConnectionState → Option Order → Type 0
IsOrdered old new None = new ≡ old
IsOrdered old new (Some o) = new ≡ with_steering old (order_in o old.steering)

abbrev pub IsObeyed : links.ConnectionState → links.ConnectionState → Option Act → Type 0
IsObeyed old new None = Unit {0}
IsObeyed old new (Some a) = IsOrdered old new a.order

-- rounds said exactly this, and left the book and the connection exactly so
pub record HasRan (site : Site) (c : ℕ) (ran : Ran) (before after : books.State)
    (said : List LinkLine) (left : Option links.ConnectionState) : Type 0 where
  pub says : said ≡ ran.said
  pub book_is : after ≡ replay before ran.events
  pub leaves : IsThere site c left ran.left

-- the connection at a door, where there is such a door and a connection at it
abbrev pub there : {X : Type 0} → Option (Option X) → Option X
there None = None
there (Some at) = at

-- there is such a door, and no connection at it
abbrev pub is_free : {X : Type 0} → Option (Option X) → Bool
is_free (Some None) = true
is_free _ = false

-- A line at doors said exactly this of its connection, and left the doors exactly so; or it did
-- nothing, where it is in a wrong state.
pub record HasActed (said : SaidAt) (d : Doors) (a : Acted) (new : DoorsSeen) : Type 0 where
  pub c_is : said.c ≡ a.c
  pub says : vec_items said.lines ≡ a.said
  pub doors : AreDoors new (doors_after d a)

abbrev pub IsActed : Option SaidAt → Doors → Option Acted → DoorsSeen → Type 0
IsActed said d None new = (said ≡ None) × AreDoors new d
IsActed said d (Some a) new = IsSomeAnd said (λ s. HasActed s d a new)

-- the same doors but for one, whatever is at that one now
pub record AreLeft (seen : DoorsSeen) (d : Doors) (c : ℕ) : Type 0 where
  pub site : seen.site ≡ d.site
  pub book : seen.book ≡ d.book
  pub puts : (v : Option links.ConnectionState) (l : Option Connected) → IsThere d.site c v l
      → (k : ℕ) → Match (IsThere d.site k) (slice_get (slice_set seen.connections c v) k)
      (slice_get (slice_set d.connections c l) k)

-- rounds of the connection that was at a door
abbrev pub HasGone : Option SaidAt → Doors → ℕ → Ran → DoorsSeen → Type 0
HasGone said d c ran new = IsSomeAnd said (λ s. HasActed s d (acted_by d c ran) new)

-- ---- worlds

-- The book's entries are those that are stored, an archive, and the file stands for them alone.
pub record Agree (store : Store) (doors : DoorsSeen) : Type 0 where
  pub sound : IsSound store
  pub stands : Doors
  pub are : AreDoors doors stands
  pub same : doors.book.published ≡ store.published

-- so it is in a world that runs further lines
abbrev pub AgreeUnless : Bool → Store → DoorsSeen → Type 0
AgreeUnless true store doors = Unit {0}
AgreeUnless false store doors = Agree store doors

-- behind what became of an entry, an uplink is seen so
abbrev pub uplink_seen : Outcome → uplinks.Seen → uplinks.Seen
uplink_seen (Crashed count) seen = record seen { in_air = None }
uplink_seen _ seen = seen

-- a world as contracts see it
pub record Seen : Type 0 where
  pub recorder : Recorded
  pub clock : ℕ
  pub doors : DoorsSeen
  pub uplink : uplinks.Seen

pub record Stands (seen : Seen) (state : State) : Type 0 where
  pub store : seen.recorder.state ≡ state.store
  pub clock : seen.clock ≡ state.clock
  pub doors : AreDoors seen.doors state.doors
  pub uplink : IsUplink seen.uplink state.uplink

-- a line was done, all but its text
pub record HasDone (answer : Answer State) (after : Seen) : Type 0 where
  pub stands : Stands after answer.next
  pub ready : after.recorder.is_spent ≡ false
