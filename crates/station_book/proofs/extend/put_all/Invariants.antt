use Rattle.std.proofs.Common.{take}
use Rattle.station_book.proofs.Extending.{Extending}
use Rattle.station_book.proofs.extend.put_all.Given as goal

abbrev pub invariant-loop-count : goal.invariant-loop-count
invariant-loop-count l = Extending l.initial.archive (take l.count l.entries) l.index l.archive
