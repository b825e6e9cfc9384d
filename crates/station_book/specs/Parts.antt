-- What holds of a book's parts.
use Rattle.std.specs.Prelude.{◌≡◌, ℕ, ◌<◌, ◌≤◌, length, take}
use Rattle.cds_time.specs.declared.cds.TheConstants.{MOMENT_END}
use Rattle.archive_terms.specs.Archive.{IsArchive}
use Rattle.archive_index.specs.IndexState.{IndexState, Indexes}
use Rattle.record_form.specs.Entry.{entries_of}
use Rattle.station_book.specs.declared.book.Book.TheInside.{Inside}
use Rattle.station_book.specs.State.{State}

-- a book as contracts see it
abbrev pub state_of : Inside → State
state_of a = record {
  opening = record {
    services = a.services.items;
    room = a.room;
    longest = a.longest;
    entries = take a.opening (entries_of a.entries);
    workers = a.workers;
  };
  published = entries_of a.entries;
  queue = a.queue;
  doors = a.doors.items;
  gone = a.gone;
  moment = a.moment;
}

-- the index is that of the published entries, which are an archive; each instance has a place among
-- the doors; the workers have one each of the 32 that may be gone
pub record PartsFit (s : State) (index : IndexState) (opening : ℕ) : Type 0 where
  pub indexed : Indexes index s.published
  pub archive : IsArchive s.published
  pub opening_is : opening ≤ length s.published
  pub instances : length s.doors ≡ length s.opening.services
  pub workers : s.opening.workers ≤ 31
  pub all_workers : length s.gone ≡ 32
  pub moment : s.moment < MOMENT_END
