-- The headline: of every list of events, what each START hands its link, what radiates, and what a
-- recovery keeps. This product's own.
use Rattle.std.specs.Prelude.{◌≡◌, ℕ, IsTrue, IsFalse, None, Some, List, [], ◌∷◌, ◌++◌, take}
use Rattle.std.specs.List.{flat_map, AllByRecursion}
use Rattle.archive_terms.specs.Archive.{Entry, IsArchive}
use Rattle.archive_terms.specs.Delivery.{is_timely}
use Rattle.archive_terms.specs.Rounds.{handed_buffers}
use Rattle.archive_terms.specs.Continuity.{told_buffers}
use Rattle.return_core.specs.Promise.{IsComplete, IsTimely}
use Rattle.cltu_queue.specs.Run.{AreInTurn}
use Rattle.station_book.specs.State.{opened, Event as Answered}
use Rattle.station_book.specs.History.{replay}
use Rattle.station_book.specs.Doors.{HasOneForward}
use Rattle.station_book.specs.Notices.{door_of_run, are_before_stop, IsToldInTurn}
use Rattle.station_book.specs.Radiation.{radiations, run_begun, are_of_one_run, IsLawful}
use Rattle.station_world.specs.File.{File, acknowledged, batch_of, IsListOf}
use Rattle.station_world.specs.Life.{Start, Life, book, done_by, taken_to_radiate, octets_sent}
use Rattle.station_world.specs.World.{World, before_all, lives, Event, after_events}
use Rattle.station_world.specs.Comes.{Begins, AllCome}

-- ---- what a START has handed its link

-- what the promise says of a START of a life and an archive
abbrev pub CompleteDelivery : List Entry → Life → Start → Type 0
CompleteDelivery archive l s =
    IsFalse (is_timely s.terms.mode) → IsComplete s.terms archive (done_by l s)

abbrev pub TimelyDelivery : List Entry → Life → Start → Type 0
TimelyDelivery archive l s =
    IsTrue (is_timely s.terms.mode) → IsTimely s.terms archive (done_by l s)

-- each frame was handed over with the continuity that it has in the archive
abbrev pub SameContinuity : List Entry → Life → Start → Type 0
SameContinuity archive l s =
    told_buffers archive None (handed_buffers (done_by l s))
    ≡ told_buffers (book l).published None (handed_buffers (done_by l s))

-- it is so of each START of each of these lives, and of each list that the file may stand for
abbrev pub OfEachStart : (List Entry → Life → Start → Type 0) → File → List Life → Type 0
OfEachStart holds f all =
    (entries : List Entry) → IsListOf f entries
    → AllByRecursion (λ (l : Life). AllByRecursion (holds entries l) l.starts) all

-- ---- what radiates

-- In a life's history each run radiates lawfully, from the START that began it up to any of its
-- events: its CLTUs radiate in order, each within its window. Nothing radiates twice, over all runs.
-- And what was taken to be sent, whatever became of it, is what was radiated.
pub record RadiatesLawfully (l : Life) : Type 0 where
  pub runs : (h k later : List Answered) (e : Answered) (first : ℕ)
      → l.history ≡ h ++ e ∷ k ++ later → run_begun e ≡ Some first → IsTrue (are_of_one_run k)
      → IsLawful (replay (opened l.opening) (h ++ e ∷ [])).queue.run first k
  pub once : AreInTurn (radiations l.history)
  pub tried : taken_to_radiate l ≡ radiations l.history

-- In a life's history the notices of each run are told in turn, up to any event before its stop. No
-- other door than that whose START began the run is told any. The station has one forward service
-- at most.
abbrev pub TellsInTurn : Life → Type 0
TellsInTurn l =
    HasOneForward l.opening.services → (h k later : List Answered) (e : Answered) (door : ℕ)
    → l.history ≡ h ++ e ∷ k ++ later → door_of_run e ≡ Some door
    → IsTrue (are_before_stop door k)
    → IsToldInTurn (replay (opened l.opening) (h ++ e ∷ [])) door k

-- ---- what a recovery keeps

-- A list that the file may stand for, which a recovery finds, is an archive and begins with every
-- acknowledged entry. It is what the recovery before it found, followed by the first of the entries
-- that were given to stores since then, without those that a reopen found lost.
pub record IsKept (f : File) (entries : List Entry) : Type 0 where
  pub archive : IsArchive entries
  pub begins : Begins (acknowledged f) entries
  pub count : ℕ
  pub is : entries ≡ f.found ++ take count (f.kept ++ batch_of f.phase)

-- ---- the whole

-- The headline of a world and a later one.
pub record Headline (w later : World) : Type 0 where
  -- What each START of a complete or offline instance had handed its link is a prefix of what it
  -- admits, end of data only after all, in each list that the later file may stand for.
  pub complete_delivery : OfEachStart CompleteDelivery later.file (lives w)
  -- what each START of a timely instance had done omits exactly the buffers that it notified, in
  -- each of those lists
  pub timely_delivery : OfEachStart TimelyDelivery later.file (lives w)
  -- and each frame has the same continuity in each of them
  pub continuity : OfEachStart SameContinuity later.file (lives w)
  -- in each run CLTUs radiate at most once, in order, within their windows
  pub radiation : AllByRecursion RadiatesLawfully (lives w)
  -- the notices of each run are told in order, each once, at its door alone
  pub notices : AllByRecursion TellsInTurn (lives w)
  -- the antenna was sent the octets of the takes whose send was good, in order, each once
  pub antenna : w.antenna ≡ flat_map octets_sent (lives w)
  -- a recovery keeps a prefix that holds every acknowledged entry
  pub recovery : (entries : List Entry) → IsListOf w.file entries → IsKept w.file entries
  -- and what was acknowledged is so in each later world
  pub composition : Begins (acknowledged w.file) (acknowledged later.file)

-- It holds behind every list of events and behind every longer one.
abbrev pub HeadlineLaw : Type 0
HeadlineLaw =
    (events more : List Event) → AllCome before_all (events ++ more)
    → Headline (after_events before_all events) (after_events before_all (events ++ more))
