use Rattle.std.proofs.Common.{◌+◌, ◌-◌, ◌<◌, ◌≤◌, length, take}
use Rattle.std.specs.Io.KnownBytes.{Appends}
use Rattle.octet_core.proofs.writer_sink.write_whole.Given as goal

abbrev pub invariant-loop-count : goal.invariant-loop-count
invariant-loop-count g l = Appends (g.W.Write.contents l.fn.writer) (g.W.Write.contents l.writer)
    (take l.count l.octets) × (l.count ≤ length l.octets) × (l.interruptions < 100)

abbrev pub decreases-loop-count : goal.decreases-loop-count
decreases-loop-count g l = (length l.octets - l.count) + (100 - l.interruptions)
