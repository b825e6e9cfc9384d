use Rattle.std.proofs.Common.{◌∙◌}
use Rattle.sle_common.specs.Antenna.{antenna_of}
use Rattle.user_lines.proofs.Frames.{frame_text, on_ok}
use Rattle.user_lines.proofs.text.put_item.Goals as goal

pub returns-in_ok-put_stamp-in-Frame : goal.returns-in_ok-put_stamp-in-Frame
returns-in_ok-put_stamp-in-Frame c =
    rw c.in-Frame.is
    (on_ok c.put_content.result
    (λ is. is
    ∙ rw (c.in_ok-put_stamp-in-Frame.ensures, c.in_ok-extend_from_slice-in-Frame.ensures.items)
    (frame_text c.in-Frame.ert c.in-Frame.quality c.in-Frame.continuity
    (antenna_of c.in-Frame.antenna) c.in-Frame.octets.now c.args.into.now.items))
    c.put_content.ensures)
