-- What a session owes comes: over rounds whose link takes each offer whole.
use Rattle.std.specs.Prelude.{◌≡◌, ℕ, ◌+◌, ◌≤◌, Bool, true, false, ◌&&◌, Option, Some, None, List}
use Rattle.std.specs.Prelude.{◌++◌, length, take, IsTrue, IsFalse}
use Rattle.std.specs.List.{filter, list_all}
use Rattle.octet_core.specs.declared.offer.Offer.{Offer}
use Rattle.octet_core.specs.declared.offer.Offer.TheVariants.{Whole}
use Rattle.archive_terms.specs.Archive.{Entry}
use Rattle.archive_terms.specs.Selection.{is_stop_closed}
use Rattle.archive_terms.specs.Delivery.{Terms, started, is_timely}
use Rattle.archive_terms.specs.Rounds.{Round as DeliveryRound, outcomes, handed_items, settled_items}
use Rattle.archive_terms.specs.Rounds.{without_backlog, to_hand_over, last_front, after_rounds, picked_at}
use Rattle.archive_terms.specs.Progress.{is_to_tell, are_enough_at}
use Rattle.return_core.specs.Course.{Course}
use Rattle.return_core.specs.Standing.{StandsFor}
use Rattle.return_core.specs.Visits.{Visit, rounds_of}
use Rattle.return_core.specs.Coming.{AreTaken, moments_of, all_find, HandsStill, HandsReady}
use Rattle.buffer_message.specs.declared.limits.TheConstants.{MOST_ITEMS}
use Rattle.station_config.specs.declared.site.Site.{Site}
use Rattle.session_core.specs.Session.{State, Round, AreRounds, after_rounds as after_session}
use Rattle.session_laws.specs.Deliveries.{Delivers, ServesOn, SeeEntries, visits_of}

-- no offer was made, or it was taken whole
abbrev pub is_whole : Option Offer → Bool
is_whole None = true
is_whole (Some Whole) = true
is_whole (Some _) = false

-- a round whose link takes each offer whole: the block that waited, the round's own block, which has
-- a heartbeat, a report or the return of an invocation, and the service's message after it
abbrev pub takes_each : Round → Bool
takes_each r = is_whole r.waited && (is_whole r.spoke && is_whole r.sent)

abbrev pub all_take_each : List Round → Bool
all_take_each rounds = list_all takes_each rounds

-- In rounds in which a session serves and its link takes each offer whole, each is a visit, and each
-- visit's buffer is taken whole where one is due.
pub record EachIsTaken (site : Site) (s : State) (c : Course) (rounds : List Round) : Type 0 where
  pub taken : AreTaken c (visits_of site s rounds)
  pub each : length (visits_of site s rounds) ≡ length rounds

abbrev pub RoundsAreTaken : Type 0
RoundsAreTaken =
    (entries : List Entry) (site : Site) (rounds : List Round) (s : State) (c : Course) (t : Terms)
    (earlier : List DeliveryRound) → StandsFor c t entries earlier
    → t.size ≤ MOST_ITEMS → Delivers s.standing c → ServesOn site s rounds
    → AreRounds site s rounds
    → SeeEntries entries (last_front t.selection.first earlier) site s rounds
    → IsTrue (all_take_each rounds) → EachIsTaken site s c rounds

-- What is owed to a START that stood for rounds comes in further ones. While the archive grows, each
-- hands over the next of the buffers that were ready at a front. Over one that stands still they hand
-- over exactly these and then the last one, once it is late; and when they are enough, all that the
-- START is to hand over was handed over, or, of a timely one, handed over or discarded. Where the stop
-- is closed, two more rounds than there are picked entries are enough.
pub record Owed (t : Terms) (entries : List Entry) (earlier : List DeliveryRound)
    (visits : List Visit) (front count : ℕ) : Type 0 where
  pub ready : IsFalse (is_timely t.mode && is_to_tell (after_rounds t entries earlier started))
      → HandsReady t entries earlier visits front count
  pub still : IsTrue (all_find front visits) → HandsStill t entries earlier visits front
  pub complete : IsTrue (all_find front visits) → IsFalse (is_timely t.mode)
      → IsTrue (are_enough_at t entries front (after_rounds t entries earlier started)
      (moments_of visits))
      → handed_items (outcomes t entries (earlier ++ rounds_of visits) started)
      ≡ to_hand_over t (take front entries)
  pub soon : IsTrue (all_find front visits) → IsFalse (is_timely t.mode)
      → IsTrue (is_stop_closed t.selection (take front entries))
      → length (picked_at t entries front) + 2 ≤ count
      → handed_items (outcomes t entries (earlier ++ rounds_of visits) started)
      ≡ to_hand_over t (take front entries)
  pub timely : IsTrue (all_find front visits)
      → IsTrue (are_enough_at t entries front (after_rounds t entries earlier started)
      (moments_of visits))
      → without_backlog (settled_items (outcomes t entries (earlier ++ rounds_of visits) started))
      ≡ to_hand_over t (take front entries)

abbrev pub OwedComes : Type 0
OwedComes =
    (entries : List Entry) (site : Site) (rounds : List Round) (s : State) (c : Course) (t : Terms)
    (earlier : List DeliveryRound) (front : ℕ)
    → StandsFor c t entries earlier → t.size ≤ MOST_ITEMS → Delivers s.standing c
    → ServesOn site s rounds → AreRounds site s rounds
    → last_front t.selection.first earlier ≤ front → SeeEntries entries front site s rounds
    → IsTrue (all_take_each rounds)
    → Owed t entries earlier (visits_of site s rounds) front (length rounds)

-- what is owed to one in rounds after others, with the entries of an archive
abbrev pub OwedAfter : Site → State → List Entry → Terms → List Round → List Round → ℕ → Type 0
OwedAfter site s archive terms earlier later front =
    Owed terms archive (rounds_of (visits_of site s earlier))
    (visits_of site (after_session site s earlier) later) front (length later)

-- Over any of the rounds that a START serves, in which its link takes each offer whole, what is owed
-- to it comes, counted from a front that these rounds see.
abbrev pub OwedOver : Site → State → List Round → List Entry → Terms → Type 0
OwedOver site s serving archive terms =
    (earlier later more : List Round) (front : ℕ) → serving ≡ earlier ++ (later ++ more)
    → IsTrue (all_take_each later)
    → last_front terms.selection.first (rounds_of (visits_of site s earlier)) ≤ front
    → SeeEntries archive front site (after_session site s earlier) later
    → OwedAfter site s archive terms earlier later front

-- ---- a link that stalls

-- Over any rounds in which a complete or offline START is served, each one whose link takes each
-- offer hands over the next of the buffers that were ready at a front: any other one costs its own
-- round and no more.
abbrev pub ReadyComes : Type 0
ReadyComes =
    (entries : List Entry) (site : Site) (rounds : List Round) (s : State) (c : Course) (t : Terms)
    (earlier : List DeliveryRound) (front : ℕ)
    → StandsFor c t entries earlier → t.size ≤ MOST_ITEMS → Delivers s.standing c
    → ServesOn site s rounds → AreRounds site s rounds
    → last_front t.selection.first earlier ≤ front → SeeEntries entries front site s rounds
    → IsFalse (is_timely t.mode)
    → HandsReady t entries earlier (visits_of site s rounds) front
    (length (filter takes_each rounds))

abbrev pub ReadyOver : Site → State → List Round → List Entry → Terms → Type 0
ReadyOver site s serving archive terms =
    (earlier later more : List Round) (front : ℕ) → serving ≡ earlier ++ (later ++ more)
    → IsFalse (is_timely terms.mode)
    → last_front terms.selection.first (rounds_of (visits_of site s earlier)) ≤ front
    → SeeEntries archive front site (after_session site s earlier) later
    → HandsReady terms archive (rounds_of (visits_of site s earlier))
    (visits_of site (after_session site s earlier) later) front
    (length (filter takes_each later))
