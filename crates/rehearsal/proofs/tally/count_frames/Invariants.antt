use Rattle.std.proofs.Common.{◌≡◌, ◌≤◌, take}
use Rattle.std.specs.List.{count_by}
use Rattle.frame_select.specs.Item.{items_of}
use Rattle.rehearsal.specs.Counts.{tells_frame}
use Rattle.rehearsal.proofs.tally.count_frames.Given as goal

abbrev pub invariant-loop-item : goal.invariant-loop-item
invariant-loop-item l = record {
  exact : l.count ≡ count_by tells_frame (items_of (take l.item-index l.items));
  few : l.count ≤ l.item-index;
}
