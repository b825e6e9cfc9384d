use Rattle.std.proofs.Common.{◌≡◌, ◌≤◌, take}
use Rattle.std.specs.List.{count_by}
use Rattle.frame_select.specs.Item.{items_of}
use Rattle.rehearsal.specs.Counts.{tells_end}
use Rattle.rehearsal.proofs.tally.count_ends.Given as goal

abbrev pub invariant-loop-item : goal.invariant-loop-item
invariant-loop-item l = record {
  exact : l.count ≡ count_by tells_end (items_of (take l.item-index l.items));
  few : l.count ≤ l.item-index;
}
