use Rattle.std.proofs.Common.{◌≤◌, ◌++◌, List, length, take}
use Rattle.archive_terms.specs.Archive as archive
use Rattle.record_form.specs.Entry.{entries_of}
use Rattle.archive_index.specs.IndexState.{Sorts, lists_of}
use Rattle.archive_index.proofs.index.Index.go_back.Given as goal

-- so many of the added entries are left
abbrev pub invariant-loop-left : goal.invariant-loop-left
invariant-loop-left l = record {
  within : l.left ≤ length l.added;
  sorts : (entries : List archive.Entry)
      → Sorts (lists_of l.initial.self) (entries ++ entries_of l.added)
      → Sorts (lists_of l.self) (entries ++ entries_of (take l.left l.added));
}

abbrev pub decreases-loop-left : goal.decreases-loop-left
decreases-loop-left l = l.left
