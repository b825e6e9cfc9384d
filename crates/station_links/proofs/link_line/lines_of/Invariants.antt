use Rattle.std.proofs.Common.{◌≡◌, take}
use Rattle.station_links.specs.LinkLines.{lines_in}
use Rattle.station_links.proofs.link_line.lines_of.Given as goal

abbrev pub invariant-loop-call : goal.invariant-loop-call
invariant-loop-call l = l.lines.items ≡ lines_in (take l.call-index l.calls)
