-- A book as it is opened.
use Rattle.std.proofs.Common.{◌≡◌, ℕ, ◌≤◌, false, List, length, take, Option, None, refl}
use Rattle.std.proofs.lemmas.List.{take_all}
use Rattle.std.specs.Prelude.{replicate}
use Rattle.archive_terms.specs.Archive.{Entry}
use Rattle.cltu_queue.specs.Machine.{Machine, new_machine}
use Rattle.station_book.specs.State.{State, opened}
use Rattle.station_book.specs.declared.service_kind.ServiceKind.{ServiceKind}

pub opened_is : (services : List ServiceKind) (room longest workers opening : ℕ)
    (entries : List Entry) (queue : Machine) (doors : List (Option ℕ))
    → queue ≡ new_machine room longest → doors ≡ replicate (length services) None
    → length entries ≤ opening
    → ◌≡◌ {A = State} (record {
      opening = record {
        services = services;
        room = room;
        longest = longest;
        entries = take opening entries;
        workers = workers;
      };
      published = entries;
      queue = queue;
      doors = doors;
      gone = replicate 32 false;
      moment = 0;
    }) (opened (record {
      services = services;
      room = room;
      longest = longest;
      entries = take opening entries;
      workers = workers;
    }))
opened_is services room longest workers opening entries queue doors queued held all =
    rw (queued, held, take_all opening entries all) refl
