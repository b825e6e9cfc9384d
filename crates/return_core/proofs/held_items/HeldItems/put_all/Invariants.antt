use Rattle.std.proofs.Common.{◌≡◌, ◌≤◌, ◌++◌, length}
use Rattle.std.specs.Vec.Iter.{into_iter_items, into_iter_len}
use Rattle.frame_select.specs.Item as select
use Rattle.return_core.specs.Holding.{with_put, fitting}
use Rattle.return_core.proofs.held_items.HeldItems.put_all.Given as goal

abbrev pub invariant-loop-item : goal.invariant-loop-item
invariant-loop-item l = record {
  whole : select.items_of (l.yielded ++ into_iter_items l.item-iterator) ≡ l.fn.items;
  left : into_iter_len l.item-iterator ≡ length (into_iter_items l.item-iterator);
  put : l.self ≡ with_put l.initial.self (select.items_of l.yielded) l.now;
  fits : length l.yielded ≤ fitting l.initial.self l.fn.items;
}
