use Rattle.std.proofs.Common.{FitsSigned, refl}
use Rattle.std.specs.Int.{w32}
use Rattle.std.proofs.lemmas.Int.{to_z-of_z}
use Rattle.sle_numbers.specs.FrameQuality.{number_of}
use Rattle.return_pdu.specs.Items.{frame_of}
use Rattle.return_pdu.proofs.Plain.{plain_with, tree_with}
use Rattle.return_pdu.proofs.transfer_item.TransferItem.plain_frame.Goals as goal

pub returns-clause-content : goal.returns-clause-content
returns-clause-content c =
    let fits : FitsSigned w32 c.args.continuity = c.ranges.continuity in
    rw to_z-of_z (plain_with (frame_of c.args.ert c.args.antenna.now c.args.continuity
    (number_of c.args.quality) c.args.octets.now) c.args.quality refl)

pub returns-clause-tree : goal.returns-clause-tree
returns-clause-tree c =
    let fits : FitsSigned w32 c.args.continuity = c.ranges.continuity in
    rw to_z-of_z (tree_with (frame_of c.args.ert c.args.antenna.now c.args.continuity
    (number_of c.args.quality) c.args.octets.now) c.args.quality refl)
