-- What is offered to a link, and what it leaves. This product's own.
use Rattle.std.specs.Prelude.{ℕ, Bool, true, false, ◌||◌, List, [], ◌∷◌, ◌++◌}
use Rattle.link_model.specs.declared.call.Call.{Call}
use Rattle.link_model.specs.declared.call.Call.TheVariants.{Offered}
use Rattle.link_model.specs.Counts.{offer_failed}
use Rattle.octet_core.specs.declared.offer.Offer.{Offer}
use Rattle.octet_core.specs.declared.offer.Offer.TheVariants as offer
use Rattle.user_talk.specs.declared.outbox.Answers.{Answers}

-- the block that is offered until the link takes it, and what waits behind it
pub record OutboxState : Type 0 where
  pub block : List ℕ
  pub behind : List ℕ

abbrev pub no_block : OutboxState
no_block = record { block = []; behind = [] }

-- all that isn't taken yet
abbrev pub left_in : OutboxState → List ℕ
left_in o = o.block ++ o.behind

abbrev pub waits_by : List ℕ → Bool
waits_by [] = false
waits_by (octet ∷ block) = true

abbrev pub waits : OutboxState → Bool
waits o = waits_by o.block

-- where no block waits, what is behind is the next one
abbrev pub settled : List ℕ → List ℕ → OutboxState
settled [] behind = record { block = behind; behind = [] }
settled (octet ∷ block) behind = record { block = octet ∷ block; behind = behind }

abbrev pub put_in : OutboxState → List ℕ → OutboxState
put_in o octets = settled o.block (o.behind ++ octets)

-- the call that offers a block, where there is one
abbrev pub offered_once : List ℕ → Offer → List Call
offered_once [] answer = []
offered_once (octet ∷ block) answer = Offered (octet ∷ block) answer ∷ []

-- a block that was taken makes room for what is behind; else it is offered again unchanged
abbrev pub left_once : OutboxState → Offer → OutboxState
left_once o offer.Whole = settled [] o.behind
left_once o offer.Stalled = o
left_once o offer.Failed = o

-- the calls of a turn: once the block is taken, what waited behind it is offered
abbrev pub offered_by : OutboxState → Offer → Offer → List Call
offered_by o offer.Whole second =
    offered_once o.block offer.Whole ++ offered_once (left_once o offer.Whole).block second
offered_by o offer.Stalled second = offered_once o.block offer.Stalled
offered_by o offer.Failed second = offered_once o.block offer.Failed

abbrev pub offered : OutboxState → Answers → List Call
offered o answers = offered_by o answers.first answers.second

abbrev pub left_behind : OutboxState → Offer → Offer → OutboxState
left_behind o offer.Whole second = left_once (left_once o offer.Whole) second
left_behind o offer.Stalled second = o
left_behind o offer.Failed second = o

abbrev pub left_by : OutboxState → Answers → OutboxState
left_by o answers = left_behind o answers.first answers.second

-- one of the offers failed
abbrev pub any_failed : Answers → Bool
any_failed answers = offer_failed answers.first || offer_failed answers.second
