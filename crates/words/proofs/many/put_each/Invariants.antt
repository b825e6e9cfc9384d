use Rattle.std.proofs.Common.{◌≡◌, ◌++◌, map, length}
use Rattle.octet_core.specs.Written.{IsFront}
use Rattle.words.specs.Many.{each_fits}
use Rattle.words.specs.Parts.{behind}
use Rattle.words.proofs.many.put_each.Given as goal

-- what is written with what is left makes the whole
abbrev pub invariant-loop-value : goal.invariant-loop-value
invariant-loop-value g l =
    let seen = g.W.Word.seen in
    let left = behind l.separator (map g.W.Word.kind.write (map seen l.rest)) in
    let all = behind l.separator (map g.W.Word.kind.write (map seen l.values)) in
    record {
      fits : each_fits g.W.Word.kind.Fits (map seen l.rest);
      kept : IsFront l.initial.into.items l.into.items;
      written : l.into.items ++ left ≡ l.initial.into.items ++ all;
    }

abbrev pub decreases-loop-value : goal.decreases-loop-value
decreases-loop-value g l = length l.rest
