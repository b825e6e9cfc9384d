use Rattle.std.proofs.Common.{◌≡◌, ◌≤◌, length}
use Rattle.station_config.specs.Drafts.{empty, told_from}
use Rattle.words.specs.Reading.{parts_behind}
use Rattle.station_config.proofs.site.read.Given as goal

abbrev pub invariant-loop-rest : goal.invariant-loop-rest
invariant-loop-rest l = record {
  few : length l.draft.peers ≤ 32;
  told : told_from l.number l.draft (parts_behind 10 l.rest)
      ≡ told_from 1 empty (parts_behind 10 l.initial.rest);
}

abbrev pub decreases-loop-rest : goal.decreases-loop-rest
decreases-loop-rest l = length (parts_behind 10 l.rest)
