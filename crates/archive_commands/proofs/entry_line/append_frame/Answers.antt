use Rattle.archive_commands.proofs.Frames.{line_is}
use Rattle.archive_commands.proofs.entry_line.append_frame.Goals as goal

pub returns : goal.returns
returns c =
    let is = line_is c.args.into.now.items c.args.ert c.args.quality c.args.antenna.now c.args.gap
    c.args.octets.now in
    cc (
      is,
      c.in_ok-extend_from_slice.ensures.items,
      c.in_ok-put.ensures.ok,
      c.in_ok-put-2.ensures.ok,
      c.in_ok-put-3.ensures.ok,
      c.in_ok-push.ensures.items,
      c.in_ok-append.ensures.ok,
      c.in_ok-push-2.ensures.items,
    )
