use Rattle.std.proofs.Common.{drop, option_map}
use Rattle.frame_select.specs.Item.{items_of}
use Rattle.buffer_message.specs.Signing.{signing_of}
use Rattle.buffer_message.proofs.Steps.{Puts}
use Rattle.buffer_message.proofs.message.put_items.Given as goal

-- what is written, and what is left to say, are the whole
abbrev pub invariant-loop-item : goal.invariant-loop-item
invariant-loop-item l =
    Puts l.service (option_map signing_of l.signer) l.first (items_of l.items)
    l.number (items_of (drop l.item-index l.items)) l.initial.writer l.writer
