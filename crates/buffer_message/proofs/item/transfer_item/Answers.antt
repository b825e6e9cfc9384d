use Rattle.std.proofs.Common.{◌+◌, ◌≤◌, length, sym, subst}
use Rattle.ber_core.specs.Spelling.{canonical}
use Rattle.archive_terms.specs.Delivery.{frame_octets}
use Rattle.return_pdu.specs.TransferItem.{ItemFits, item_tree}
use Rattle.frame_select.specs.Item.{item_of}
use Rattle.buffer_message.proofs.Contents.{item_fits, few}
use Rattle.buffer_message.proofs.item.transfer_item.Goals as goal

pub returns-clause-fits : goal.returns-clause-fits
returns-clause-fits c = subst ItemFits (sym c.said.ensures.content)
    (item_fits _ c.requires.signed _ _ c.said.ensures.time c.requires.in_range)

pub returns-clause-small : goal.returns-clause-small
returns-clause-small c =
    subst (λ i. length (canonical (item_tree i)) ≤ frame_octets (item_of c.args.item.now).0 + 400)
    (sym c.said.ensures.content)
    (few _ c.requires.signed _ _ c.said.ensures.time c.requires.in_range)
