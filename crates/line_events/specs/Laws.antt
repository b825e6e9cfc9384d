-- The laws of the archive, of deliveries and of the world's events that the lines rest on.
use Rattle.std.specs.Prelude.{◌≡◌, ℕ, ◌<◌, Bool, IsFalse, ◌&&◌, None, List, [], ◌∷◌, ◌++◌, length}
use Rattle.std.specs.Prelude.{map, take}
use Rattle.archive_terms.specs.Archive.{Entry, is_archive, may_follow}
use Rattle.archive_terms.specs.Selection.{Selection, picked, is_stop_closed}
use Rattle.archive_terms.specs.Delivery.{Terms, is_online, started, offline_buffers}
use Rattle.archive_terms.specs.Rounds.{free_round, picked_at, outcomes, handed_buffers}
use Rattle.archive_terms.specs.Continuity.{told_buffers}
use Rattle.station_world.specs.Calls.{CallsAreEvents, DeskIsEvents}

pub record Laws : Type 0 where
  pub grows : (a : List Entry) (e : Entry)
      → is_archive (a ++ e ∷ []) ≡ (is_archive a && may_follow a e)
  pub rounds : (t : Terms) (entries : List Entry) (front : ℕ) (moments : List ℕ) → 0 < t.size
      → IsFalse (is_online t.mode)
      → handed_buffers (outcomes t entries (map (free_round front) moments) started)
      ≡ take (length moments) (offline_buffers t.size (picked_at t entries front)
      (is_stop_closed t.selection (take front entries)))
  pub told : (size : ℕ) (a b : List Entry) (s : Selection) (closed : Bool) →
      let buffers = offline_buffers size (picked a s) closed in
      told_buffers (a ++ b) None buffers ≡ told_buffers a None buffers
  pub book_calls : CallsAreEvents
  pub desk : DeskIsEvents
