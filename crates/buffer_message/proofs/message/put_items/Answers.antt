use Rattle.std.proofs.Common.{◌+◌, drop, refl, append-nil, sym, ◌∙◌, arith}
use Rattle.frame_select.specs.Item.{item_of, items_of}
use Rattle.buffer_message.proofs.Steps.{here, none_left, in_range_here, room_here, puts_more}
use Rattle.buffer_message.proofs.message.put_items.Goals as goal

pub loop-item-init : goal.loop-item-init
loop-item-init c = record {
  in_range = c.requires.in_range;
  number_small = c.requires.number;
  octets = refl;
  room = refl;
}

pub put_item-requires-clause-in_range : goal.put_item-requires-clause-in_range
put_item-requires-clause-in_range c =
    let next = here _ _ _ c.loop-item-test.true c.item-item.is in
    in_range_here (item_of c.item-item.result)
    (items_of (drop (c.loop-item.item-index + 1) c.args.items.now))
    (rw next at c.loop-item.invariant.in_range)

pub put_item-requires-clause-room : goal.put_item-requires-clause-room
put_item-requires-clause-room c =
    let next = here _ _ _ c.loop-item-test.true c.item-item.is in
    room_here _ _ _ _ _ _ _ _ _ (rw next at c.loop-item.invariant) c.requires.room

pub loop-item-preserved : goal.loop-item-preserved
loop-item-preserved c =
    let next = here _ _ _ c.loop-item-test.true c.item-item.is in
    puts_more _ _ _ _ _ _ _ _ _ (rw next at c.loop-item.invariant) _ _
    c.next_number-number.ensures.exact c.next_number-number.ensures.small c.put_item.ensures

pub returns : goal.returns
returns c =
    let none = none_left c.args.items.now c.loop-item.item-index c.loop-item-test.false in
    let all = rw none at c.loop-item.invariant in
    (sym (append-nil _) ∙ all.octets, omega (arith, all.room))
