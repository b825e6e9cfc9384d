use Rattle.std.proofs.Common.{◌≡◌, ◌++◌, ◌||◌, length}
use Rattle.std.specs.List.{flat_map, list_any}
use Rattle.user_lines.specs.Lines.{item_line, item_ends}
use Rattle.user_lines.proofs.text.put_items.Given as goal

abbrev pub invariant-loop-item : goal.invariant-loop-item
invariant-loop-item l = record {
  lines : l.fn.into.items ++ flat_map item_line l.fn.items
      ≡ l.into.items ++ flat_map item_line l.left;
  ends : list_any item_ends l.fn.items ≡ l.ends || list_any item_ends l.left;
}

abbrev pub decreases-loop-item : goal.decreases-loop-item
decreases-loop-item l = length l.left
