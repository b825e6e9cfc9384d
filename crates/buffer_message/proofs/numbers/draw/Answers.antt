use Rattle.std.proofs.Common.{◌∙◌, ap}
use Rattle.frame_select.specs.Item.{items_of}
use Rattle.buffer_message.specs.Content.{contents}
use Rattle.buffer_message.proofs.Steps.{drawn_more, all_drawn, first_drawn}
use Rattle.buffer_message.proofs.numbers.draw.Goals as goal

pub loop-preserved : goal.loop-preserved
loop-preserved c = drawn_more _ _ _ _ _ c.loop-test.true c.loop.invariant
    (c.next_number.ensures.kept ∙ c.next_number.ensures.exact)

pub returns-clause-drawn : goal.returns-clause-drawn
returns-clause-drawn c =
    all_drawn _ _ _ _ c.loop-test.false c.loop.invariant
    ∙ first_drawn c.args.items.now _ _ c.in-len1-up.len_at_least c.next_number-first.ensures.exact

pub returns-clause-first : goal.returns-clause-first
returns-clause-first c = λ service by.
    ap (λ n. contents service by n (items_of c.args.items.now)) c.next_number-first.ensures.exact
