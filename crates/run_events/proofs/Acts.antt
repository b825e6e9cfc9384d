-- What stands beside a turn is on the archive, or a send.
use Rattle.std.proofs.Common.{true, false, IsTrue, List, [], ◌∷◌, ◌++◌, map, refl, ◌∙◌}
use Rattle.std.specs.List.{list_all}
use Rattle.std.proofs.lemmas.List.Folds.{list_all-append}
use Rattle.archive_terms.specs.Archive.{Entry}
use Rattle.antenna_turns.specs.Steps.{Step, looked, radiated, broke_off}
use Rattle.station_world.specs.File.{with_batch, without_batch, refused}
use Rattle.station_world.specs.World.{Event, offers, begins_store, ends_store, reopens}
use Rattle.station_world.proofs.Lists.{and_both}
use Rattle.run_events.specs.Stores.{stored_once, store_failed, Way, at_once, landed, once_more}
use Rattle.run_events.specs.Stores.{store_events, Tail, nothing, taken, left_broken, not_opened}
use Rattle.run_events.specs.Stores.{lost_then_taken, lost_then_failed, unpublished, tail_events}
use Rattle.run_events.specs.Turns.{is_beside, sends_in}

abbrev AllBeside : List Event → Type 0
AllBeside events = IsTrue (list_all is_beside events)

both : (xs ys : List Event) → AllBeside xs → AllBeside ys → AllBeside (xs ++ ys)
both xs ys first second =
    list_all-append is_beside xs ys
    ∙ and_both (list_all is_beside xs) (list_all is_beside ys) first second

offered : (entries : List Entry) → AllBeside (map offers entries)
offered [] = refl
offered (e ∷ entries) = offered entries

once : (entries : List Entry) → AllBeside (stored_once entries)
once entries =
    both (map offers entries) (begins_store ∷ ends_store true ∷ []) (offered entries) refl

failed : (entries : List Entry) → AllBeside (store_failed entries)
failed entries =
    both (map offers entries) (begins_store ∷ ends_store false ∷ []) (offered entries) refl

pub stores_beside : (way : Way) (entries : List Entry) → AllBeside (store_events way entries)
stores_beside at_once entries = once entries
stores_beside landed entries =
    both (store_failed entries) (reopens with_batch ∷ []) (failed entries) refl
stores_beside once_more entries =
    both (store_failed entries) (reopens without_batch ∷ stored_once entries) (failed entries)
    (once entries)

pub tail_beside : (tail : Tail) → AllBeside (tail_events tail)
tail_beside nothing = refl
tail_beside (taken entries) = offered entries
tail_beside (left_broken entries) = failed entries
tail_beside (not_opened entries) =
    both (store_failed entries) (reopens refused ∷ []) (failed entries) refl
tail_beside (lost_then_taken lost again) =
    both (store_failed lost) (reopens without_batch ∷ map offers again) (failed lost)
    (offered again)
tail_beside (lost_then_failed lost again) =
    both (store_failed lost) (reopens without_batch ∷ store_failed again) (failed lost)
    (failed again)
tail_beside (unpublished way entries) = stores_beside way entries

pub sends_beside : (step : Step) → AllBeside (sends_in step)
sends_beside (looked m) = refl
sends_beside (radiated m octets n) = refl
sends_beside (broke_off m octets n) = refl
