use Rattle.std.proofs.Common.{◌+◌, drop, arith}
use Rattle.frame_select.specs.Item.{item_of, items_of}
use Rattle.buffer_message.proofs.Steps.{here, none_left, in_range_here, measures_more, measures_fit}
use Rattle.buffer_message.proofs.message.measure.Goals as goal

pub loop-item-init : goal.loop-item-init
loop-item-init c = record {
  in_range = c.requires.in_range;
  number_small = c.requires.number;
  content_so = omega arith;
  fit = λ all. all;
  small = omega arith;
}

pub item_length-content-requires : goal.item_length-content-requires
item_length-content-requires c =
    let next = here _ _ _ c.loop-item-test.true c.item-item.is in
    in_range_here (item_of c.item-item.result)
    (items_of (drop (c.loop-item.item-index + 1) c.args.items.now))
    (rw next at c.loop-item.invariant.in_range)

pub overflow_add-content : goal.overflow_add-content
overflow_add-content c =
    let next = here _ _ _ c.loop-item-test.true c.item-item.is in
    omega (
      arith,
      measures_fit _ _ _ _ _ _ _ _ _ (rw next at c.loop-item.invariant) _
          c.item_length-content.ensures.small (omega (arith, c.requires.few)) c.requires.short,
    )

pub loop-item-preserved : goal.loop-item-preserved
loop-item-preserved c =
    let next = here _ _ _ c.loop-item-test.true c.item-item.is in
    measures_more _ _ _ _ _ _ _ _ _ (rw next at c.loop-item.invariant) _ _
    c.next_number-number.ensures.exact c.next_number-number.ensures.small
    c.item_length-content.ensures.exact c.item_length-content.ensures.time
    c.item_length-content.ensures.small

pub returns : goal.returns
returns c =
    let none = none_left c.args.items.now c.loop-item.item-index c.loop-item-test.false in
    let all = rw none at c.loop-item.invariant in
    record {
      exact = omega (arith, all.content_so);
      fit = all.fit tt;
      small = omega (arith, all.small);
    }
