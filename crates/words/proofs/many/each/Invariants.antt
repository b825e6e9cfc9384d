use Rattle.std.proofs.Common.{◌≡◌, map, length}
use Rattle.words.specs.Many.{each_read}
use Rattle.words.specs.Reading.{parts_behind}
use Rattle.words.proofs.Each.{onto}
use Rattle.words.proofs.many.each.Given as goal

abbrev pub invariant-loop-rest : goal.invariant-loop-rest
invariant-loop-rest g l =
    each_read g.W.Word.kind.read (parts_behind l.separator l.words)
    ≡ onto (map g.W.Word.seen l.all.items)
    (each_read g.W.Word.kind.read (parts_behind l.separator l.rest))

abbrev pub decreases-loop-rest : goal.decreases-loop-rest
decreases-loop-rest g l = length (parts_behind l.separator l.rest)
