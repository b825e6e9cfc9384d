-- The laws of archives, of the lock and of worlds that the law of runs as events rests on.
use Rattle.std.specs.Prelude.{◌≡◌, ◌&&◌, ℕ, None, List, [], ◌∷◌, ◌++◌}
use Rattle.std.specs.List.{sum_by}
use Rattle.archive_terms.specs.Archive.{Entry, IsArchive, is_archive, may_follow, is_storable}
use Rattle.archive_terms.specs.Archive.{is_in_order, last_time, frame_time, seal_time}
use Rattle.turn_lock.specs.Own.{weight_of, MakeUp}
use Rattle.turn_lock.specs.declared.view.Mark.{Mark}
use Rattle.station_book.specs.State.{Event}
use Rattle.station_world.specs.World.{World, Event as Happening}
use Rattle.station_world.specs.Headline.{Headline}
use Rattle.station_world.specs.Stays.{LivesGoOn, AtEachMoment}
use Rattle.station_world.specs.Calls.{CallsAreEvents}

pub record Laws : Type 0 where
  pub grows : (a : List Entry) (e : Entry)
      → is_archive (a ++ e ∷ []) ≡ (is_archive a && may_follow a e)
  pub follows : (a : List Entry) (e : Entry) → IsArchive a →
      let last_frame = last_time frame_time None a in
      let last_seal = last_time seal_time None a in
      may_follow a e ≡ (is_storable e && is_in_order last_frame last_seal e)
  pub weighs : (f : Event → ℕ) (h : List Event) (lists : List (List (Mark Event)))
      → MakeUp h lists → weight_of f lists ≡ sum_by f h
  pub book_calls : CallsAreEvents
  pub headline : (w : World) (events : List Happening) → AtEachMoment Headline w events
  pub stays : (w : World) (events : List Happening) → AtEachMoment LivesGoOn w events
