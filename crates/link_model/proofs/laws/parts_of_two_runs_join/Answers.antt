use Rattle.std.proofs.Common.{◌∙◌, ap}
use Rattle.std.specs.List.{flat_map}
use Rattle.std.proofs.lemmas.List.Elements.{filter_map-append}
use Rattle.std.proofs.lemmas.Grind.{flat_map-append}
use Rattle.link_model.specs.Calls.{poll_in, polls_in, arrived_at, block_in, blocks_in}
use Rattle.link_model.proofs.laws.parts_of_two_runs_join.Goals as goal

pub returns-clause-polls : goal.returns-clause-polls
returns-clause-polls c = λ a b. filter_map-append poll_in a b

pub returns-clause-heard : goal.returns-clause-heard
returns-clause-heard c = λ a b.
    ap (flat_map arrived_at) (filter_map-append poll_in a b)
    ∙ flat_map-append arrived_at (polls_in a) (polls_in b)

pub returns-clause-blocks : goal.returns-clause-blocks
returns-clause-blocks c = λ a b. filter_map-append block_in a b

pub returns-clause-handed : goal.returns-clause-handed
returns-clause-handed c = λ a b.
    ap (flat_map (λ block. block)) (filter_map-append block_in a b)
    ∙ flat_map-append (λ block. block) (blocks_in a) (blocks_in b)
