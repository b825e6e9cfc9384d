-- The laws of the archive, of deliveries and of histories that the headline rests on.
use Rattle.std.specs.Prelude.{◌≡◌, ℕ, ◌<◌, IsTrue, IsFalse, List, [], ◌∷◌, ◌++◌, length, take}
use Rattle.std.specs.Prelude.{None, Some, ◌&&◌, map}
use Rattle.std.specs.List.{list_any}
use Rattle.archive_terms.specs.Archive.{Entry, is_archive, IsArchive, may_follow}
use Rattle.archive_terms.specs.Selection.{picked, is_stop_closed}
use Rattle.archive_terms.specs.Delivery.{Terms, is_timely, entries_of, is_end_of_data, end_of_data}
use Rattle.archive_terms.specs.Delivery.{archived_items, started, is_online, offline_buffers}
use Rattle.archive_terms.specs.Rounds.{Round, outcomes, handed_items, handed_buffers, settled_items}
use Rattle.archive_terms.specs.Rounds.{without_backlog, to_hand_over, TimelyShape, FrontsRise}
use Rattle.archive_terms.specs.Rounds.{last_front, free_round, picked_at}
use Rattle.archive_terms.specs.Continuity.{told_buffers}
use Rattle.cltu_queue.specs.Run.{AreInTurn}
use Rattle.station_book.specs.State.{State, Opening, opened, Event}
use Rattle.station_book.specs.History.{replay, IsLegal}
use Rattle.station_book.specs.Doors.{HasOneForward}
use Rattle.station_book.specs.Notices.{door_of_run, are_before_stop, IsToldInTurn}
use Rattle.station_book.specs.Publishing.{published_in}
use Rattle.station_book.specs.Radiation.{radiations, run_begun, are_of_one_run, IsLawful}

pub record Laws : Type 0 where
  pub grows : (a : List Entry) (e : Entry)
      → is_archive (a ++ e ∷ []) ≡ (is_archive a && may_follow a e)
  pub complete_items : (t : Terms) (entries later : List Entry) (rounds : List Round) → 0 < t.size
      → IsFalse (is_timely t.mode) → IsArchive entries → FrontsRise 0 rounds
      → let archive = take (last_front 0 rounds) entries ++ later in
      let done = handed_items (outcomes t entries rounds started) in
      IsArchive archive → take (length done) (to_hand_over t archive) ≡ done
  pub complete_entries : (t : Terms) (entries later : List Entry) (rounds : List Round)
      → 0 < t.size
      → IsFalse (is_timely t.mode) → IsArchive entries → FrontsRise 0 rounds
      → let archive = take (last_front 0 rounds) entries ++ later in
      let done = entries_of (handed_items (outcomes t entries rounds started)) in
      IsArchive archive → take (length done) (picked archive t.selection) ≡ done
  pub complete_ends : (t : Terms) (entries later : List Entry) (rounds : List Round) → 0 < t.size
      → IsFalse (is_timely t.mode) → IsArchive entries → FrontsRise 0 rounds
      → let archive = take (last_front 0 rounds) entries ++ later in
      let done = handed_items (outcomes t entries rounds started) in
      IsArchive archive → IsTrue (list_any is_end_of_data done)
      → IsTrue (is_stop_closed t.selection archive)
      × (done ≡ archived_items (picked archive t.selection) ++ end_of_data ∷ [])
  pub timely_shape : (t : Terms) (entries later : List Entry) (rounds : List Round) → 0 < t.size
      → IsTrue (is_timely t.mode) → IsArchive entries → FrontsRise 0 rounds
      → let archive = take (last_front 0 rounds) entries ++ later in
      IsArchive archive → TimelyShape (to_hand_over t archive) (outcomes t entries rounds started)
  pub timely_ends : (t : Terms) (entries later : List Entry) (rounds : List Round) → 0 < t.size
      → IsTrue (is_timely t.mode) → IsArchive entries → FrontsRise 0 rounds
      → let archive = take (last_front 0 rounds) entries ++ later in
      let done = outcomes t entries rounds started in
      IsArchive archive → IsTrue (list_any is_end_of_data (handed_items done))
      → IsTrue (is_stop_closed t.selection archive)
      × (without_backlog (settled_items done)
      ≡ archived_items (picked archive t.selection) ++ end_of_data ∷ [])
  pub told : (t : Terms) (entries later : List Entry) (rounds : List Round)
      → 0 < t.size → IsArchive entries → FrontsRise 0 rounds →
      let done = handed_buffers (outcomes t entries rounds started) in
      told_buffers (take (last_front 0 rounds) entries ++ later) None done
      ≡ told_buffers entries None done
  pub published : (s : State) (h : List Event) → IsLegal s h
      → (replay s h).published ≡ s.published ++ published_in h
  pub runs : (s : State) (h k : List Event) (e : Event) (first : ℕ) → IsLegal s (h ++ e ∷ k)
      → run_begun e ≡ Some first → IsTrue (are_of_one_run k)
      → IsLawful (replay s (h ++ e ∷ [])).queue.run first k
  pub notices : (o : Opening) (h k : List Event) (e : Event) (door : ℕ) → HasOneForward o.services
      → IsLegal (opened o) (h ++ e ∷ k) → door_of_run e ≡ Some door
      → IsTrue (are_before_stop door k)
      → IsToldInTurn (replay (opened o) (h ++ e ∷ [])) door k
  pub once : (o : Opening) (h : List Event) → IsLegal (opened o) h → AreInTurn (radiations h)
  pub offline_rounds : (t : Terms) (entries : List Entry) (front : ℕ) (moments : List ℕ)
      → 0 < t.size → IsFalse (is_online t.mode)
      → handed_buffers (outcomes t entries (map (free_round front) moments) started)
      ≡ take (length moments) (offline_buffers t.size (picked_at t entries front)
      (is_stop_closed t.selection (take front entries)))
