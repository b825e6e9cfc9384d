-- What a START's delivery is, of an archive: a prefix of what the START is to hand over, and end of
-- data only after all of it. This product's own.
use Rattle.std.specs.Prelude.{◌≡◌, IsTrue, List, [], ◌∷◌, ◌++◌, length, take}
use Rattle.std.specs.List.{list_any}
use Rattle.archive_terms.specs.Archive.{Entry}
use Rattle.archive_terms.specs.Selection.{picked, is_stop_closed}
use Rattle.archive_terms.specs.Delivery.{Terms, entries_of, is_end_of_data, end_of_data}
use Rattle.archive_terms.specs.Delivery.{archived_items}
use Rattle.archive_terms.specs.Rounds.{Outcome, handed_items, settled_items}
use Rattle.archive_terms.specs.Rounds.{without_backlog, to_hand_over, TimelyShape}

-- What a START of a complete or offline instance has handed over is a prefix of what it is to hand
-- over of an archive: the entries are the first ones that it picks, in order, each once. End of data
-- is last, after all that it picks, and only with the stop closed.
pub record IsComplete (t : Terms) (archive : List Entry) (done : List Outcome) : Type 0 where
  pub items : take (length (handed_items done)) (to_hand_over t archive) ≡ handed_items done
  pub entries : take (length (entries_of (handed_items done))) (picked archive t.selection)
      ≡ entries_of (handed_items done)
  pub only_after_all : IsTrue (list_any is_end_of_data (handed_items done))
      → IsTrue (is_stop_closed t.selection archive)
      × (handed_items done ≡ archived_items (picked archive t.selection) ++ end_of_data ∷ [])

-- A START of a timely instance omits exactly the buffers that it notifies. After end of data the
-- stop is closed, and all that it picks was handed over or discarded.
pub record IsTimely (t : Terms) (archive : List Entry) (done : List Outcome) : Type 0 where
  pub shape : TimelyShape (to_hand_over t archive) done
  pub only_after_all : IsTrue (list_any is_end_of_data (handed_items done))
      → IsTrue (is_stop_closed t.selection archive)
      × (without_backlog (settled_items done)
      ≡ archived_items (picked archive t.selection) ++ end_of_data ∷ [])
