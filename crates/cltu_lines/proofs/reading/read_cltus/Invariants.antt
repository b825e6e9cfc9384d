use Rattle.std.proofs.Common.{◌≡◌, true, length}
use Rattle.std.specs.List.{list_all}
use Rattle.user_task.specs.Fitting.{fits_line}
use Rattle.cltu_lines.specs.CltuText.{before, told_from}
use Rattle.words.specs.Reading.{parts_behind}
use Rattle.cltu_lines.proofs.reading.read_cltus.Given as goal

abbrev pub invariant-loop-rest : goal.invariant-loop-rest
invariant-loop-rest l = record {
  told : before l.cltus.items (told_from l.number (parts_behind 10 l.rest))
      ≡ told_from 1 (parts_behind 10 l.initial.rest);
  fits : list_all fits_line l.cltus.items ≡ true;
}

abbrev pub decreases-loop-rest : goal.decreases-loop-rest
decreases-loop-rest l = length (parts_behind 10 l.rest)
