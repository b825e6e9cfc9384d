use Rattle.std.proofs.Common.{refl}
use Rattle.ber_shape.specs.Exact.{decoded}
use Rattle.return_pdu.specs.declared.return_kind.ReturnKind.TheVariants.{Raf}
use Rattle.return_pdu.specs.TransferItem.{buffer}
use Rattle.return_pdu.proofs.transfer_buffer.TransferBuffer.decode_raf.Goals as goal

pub returns-clause-spelled : goal.returns-clause-spelled
returns-clause-spelled c =
    decoded (buffer Raf) (λ b. b) c.args.octets.now c.read_raf-decoded.result refl c.slice.ensures
    c.read_raf-decoded.ensures
