-- The calls of a link with their answers, and the parts of them that a reader wants: what was
-- heard, which octets arrived, and which blocks were handed over. This product's own rule.
use Rattle.std.specs.Prelude.{ℕ, ◌<◌, ◌≤◌, Option, Some, None, List, [], take}
use Rattle.std.specs.List.{filter_map, flat_map}
pub use Rattle.octet_core.specs.Told.{Tells}
use Rattle.octet_core.specs.declared.offer.Offer.TheVariants.{Whole, Stalled, Failed as Refused}
use Rattle.link_model.specs.declared.call.Heard.{Heard}
use Rattle.link_model.specs.declared.call.Heard.TheVariants.{Arrived, Nothing, Closed, Failed}
use Rattle.link_model.specs.declared.call.Call.{Call}
use Rattle.link_model.specs.declared.call.Call.TheVariants.{Polled, Offered}
use Rattle.link_model.specs.declared.poll.Poll.{Poll}
use Rattle.link_model.specs.declared.poll.Poll.TheVariants.{Arrived as ArrivedPoll}
use Rattle.link_model.specs.declared.poll.Poll.TheVariants.{Nothing as NothingPoll}
use Rattle.link_model.specs.declared.poll.Poll.TheVariants.{Closed as ClosedPoll}
use Rattle.link_model.specs.declared.poll.Poll.TheVariants.{Failed as FailedPoll}

-- what a poll heard, by its answer and the space that it filled
abbrev pub heard_of : Poll → List ℕ → Heard
heard_of (ArrivedPoll n) filled = Arrived (take n filled)
heard_of NothingPoll filled = Nothing
heard_of ClosedPoll filled = Closed
heard_of FailedPoll filled = Failed

-- at least one octet arrives, and no more than there is space for
abbrev pub IsWithin : Poll → ℕ → Type 0
IsWithin (ArrivedPoll n) space = (0 < n) × (n ≤ space)
IsWithin NothingPoll space = Unit {0}
IsWithin ClosedPoll space = Unit {0}
IsWithin FailedPoll space = Unit {0}

-- ---- the parts

-- the polls among the calls, by what they heard
abbrev pub poll_in : Call → Option Heard
poll_in (Polled space heard) = Some heard
poll_in (Offered octets answer) = None

abbrev pub polls_in : List Call → List Heard
polls_in calls = filter_map poll_in calls

-- the octets that arrived at a poll
abbrev pub arrived_at : Heard → List ℕ
arrived_at (Arrived octets) = octets
arrived_at Nothing = []
arrived_at Closed = []
arrived_at Failed = []

-- the octets that arrived, one poll after another
abbrev pub octets_heard : List Call → List ℕ
octets_heard calls = flat_map arrived_at (polls_in calls)

-- the block of an offer that was taken whole
abbrev pub block_in : Call → Option (List ℕ)
block_in (Polled space heard) = None
block_in (Offered octets Whole) = Some octets
block_in (Offered octets Stalled) = None
block_in (Offered octets Refused) = None

-- the blocks that the link was handed, each taken whole
abbrev pub blocks_in : List Call → List (List ℕ)
blocks_in calls = filter_map block_in calls

-- the octets that the link was handed
abbrev pub octets_handed : List Call → List ℕ
octets_handed calls = flat_map (λ block. block) (blocks_in calls)
