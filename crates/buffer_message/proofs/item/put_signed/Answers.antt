use Rattle.std.proofs.Common.{Some, sym, ◌∙◌, ap, subst}
use Rattle.ber_core.specs.Spelling.{canonical}
use Rattle.ber_core.specs.Written.{HasRoom, Appends}
use Rattle.return_pdu.specs.TransferItem.{item_tree}
use Rattle.frame_select.specs.Item.{item_of}
use Rattle.buffer_message.specs.Content.{content_of}
use Rattle.buffer_message.proofs.item.put_signed.Goals as goal

pub put_with-requires-clause-room : goal.put_with-requires-clause-room
put_with-requires-clause-room c = subst
    (λ signed. HasRoom c.args.writer.now (canonical (item_tree
    (content_of c.args.service signed (item_of c.args.item.now)))))
    (sym (c.credentials-credentials.ensures.octets ∙ ap Some c.of-signature.ensures))
    c.requires.room

pub returns : goal.returns
returns c = subst
    (λ signed. Appends c.args.writer.now c.put_with.new.writer (canonical (item_tree
    (content_of c.args.service signed (item_of c.args.item.now)))))
    (c.credentials-credentials.ensures.octets ∙ ap Some c.of-signature.ensures)
    c.put_with.ensures
