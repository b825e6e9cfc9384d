use Rattle.station_links.proofs.Listing.{lines_more}
use Rattle.station_links.proofs.link_line.lines_of.Goals as goal

pub loop-call-preserved : goal.loop-call-preserved
loop-call-preserved c =
    lines_more c.args.calls.now c.loop-call.call-index c.call-item.result c.loop-call.lines.items
    c.put_call.new.lines.items c.loop-call-test.true c.call-item.is c.loop-call.invariant
    c.in_ok-put_call.ensures
