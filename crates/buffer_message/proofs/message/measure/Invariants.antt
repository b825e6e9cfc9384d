use Rattle.std.proofs.Common.{drop, option_map}
use Rattle.frame_select.specs.Item.{items_of}
use Rattle.buffer_message.specs.Signing.{signing_of}
use Rattle.buffer_message.proofs.Steps.{Measures}
use Rattle.buffer_message.proofs.message.measure.Given as goal

-- so many items are measured
abbrev pub invariant-loop-item : goal.invariant-loop-item
invariant-loop-item l =
    Measures l.service (option_map signing_of l.signer) l.first (items_of l.items)
    l.item-index l.number (items_of (drop l.item-index l.items)) l.content
