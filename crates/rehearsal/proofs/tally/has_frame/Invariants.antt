use Rattle.std.proofs.Common.{◌≡◌, take}
use Rattle.std.specs.List.{list_any}
use Rattle.frame_select.specs.Item.{items_of}
use Rattle.rehearsal.specs.Counts.{tells_frame}
use Rattle.rehearsal.proofs.tally.has_frame.Given as goal

abbrev pub invariant-loop-item : goal.invariant-loop-item
invariant-loop-item l = l.has ≡ list_any tells_frame (items_of (take l.item-index l.items))
