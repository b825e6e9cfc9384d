-- What is published, and what a publishing is answered.
use Rattle.std.specs.Prelude.{ℕ, ◌≤◌, Result, Ok, Err, Option, Some, None, IfSome, unwrap_or, List}
use Rattle.std.specs.Prelude.{[], ◌∷◌}
use Rattle.std.specs.List.{flat_map}
use Rattle.archive_terms.specs.Archive.{Entry}
use Rattle.station_book.specs.declared.publish_fault.PublishFault.{PublishFault}
use Rattle.station_book.specs.declared.publish_fault.PublishFault.TheVariants.{Foreign, Memory}
use Rattle.station_book.specs.State.{Call, publish, Reply, nothing, accepted, foreign, answered}
use Rattle.station_book.specs.State.{Event}

-- a fact, unless memory was wanted
abbrev pub UnlessMemory : Result (Unit {0}) (PublishFault × List Entry) → Type 0 → Type 0
UnlessMemory (Ok _) fact = fact
UnlessMemory (Err (Foreign, _)) fact = fact
UnlessMemory (Err (Memory, _)) fact = Unit {0}

-- the reply of the event
abbrev pub published_as : Result (Unit {0}) (PublishFault × List Entry) → Reply
published_as (Ok _) = accepted
published_as (Err (Foreign, _)) = foreign
published_as (Err (Memory, _)) = nothing

-- the entries that an event published
abbrev pub published_by : Call → Reply → List Entry
published_by (publish entries) accepted = entries
published_by _ _ = []

-- those that the events of a history published, in order
abbrev pub published_in : List Event → List Entry
published_in h = flat_map (λ e. published_by e.call e.reply) h

-- the front of the look that an answer gives: how many entries were published
abbrev pub front_of : Reply → Option ℕ
front_of (answered a) = Some a.glimpse.front
front_of _ = None

-- no front is below an earlier one, or below this number
abbrev pub FrontsRise : ℕ → List Event → Type 0
FrontsRise least [] = Unit {0}
FrontsRise least (e ∷ h) =
    IfSome (front_of e.reply) (λ front. least ≤ front)
    × FrontsRise (unwrap_or (front_of e.reply) least) h
