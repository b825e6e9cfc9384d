use Rattle.std.proofs.Common.{◌∙◌, arith}
use Rattle.std.proofs.lemmas.List.{length-map}
use Rattle.ber_core.specs.Written.{Written}
use Rattle.frame_select.specs.Item.{item_of, items_of}
use Rattle.station_desk.proofs.Unsigned.{handed_fit, message_same, ok_same}
use Rattle.station_desk.proofs.message.message.Goals as goal

pub unsigned-requires : goal.unsigned-requires
unsigned-requires c = handed_fit (items_of c.args.items.now)
    (omega (arith, c.requires.few, length-map c.args.items.now item_of)) c.requires.handed

pub returns : goal.returns
returns c = ok_same (λ (w : Written). w.octets) _ _ _ c.written.ensures
    (c.unsigned.ensures.octets ∙ message_same c.frames_are_plain.ensures c.end_is_plain.ensures
    (items_of c.args.items.now) c.requires.handed c.unsigned.ensures.read)
