use Rattle.std.proofs.Common.{◌≡◌, ◌+◌, ◌*◌, ◌≤◌, length}
use Rattle.archive_terms.specs.Glimpse.{picked_from}
use Rattle.record_form.specs.Entry.{entries_of}
use Rattle.frame_select.specs.Selection.{selection_of}
use Rattle.archive_index.specs.Look.{wanted_of}
use Rattle.archive_index.specs.Walking.{IsWalk}
use Rattle.archive_index.proofs.Giving.{gives, behind_items}
use Rattle.archive_index.proofs.index.Index.give.Given as goal

-- all that is wanted is what was given and what remains, from where the walk has come
abbrev pub invariant-loop-found : goal.invariant-loop-found
invariant-loop-found g l = record {
  all : let s = selection_of l.selection in gives (entries_of l.entries) (wanted_of s l.fn.first)
      ≡ behind_items l.items (gives (entries_of l.entries) (wanted_of s l.cursor));
  walk : IsWalk (entries_of l.entries) (selection_of l.selection) l.cursor.place l.cursor.since
      l.walk;
  counted : l.steps ≤ l.initial.steps + 5 * length l.items;
}

-- the picked entries that remain
abbrev pub decreases-loop-found : goal.decreases-loop-found
decreases-loop-found g l =
    length (picked_from (entries_of l.entries) (selection_of l.selection) l.cursor.place)
