use Rattle.std.proofs.Common.{◌≡◌, ◌++◌, length, reverse}
use Rattle.std.specs.List.{flat_map}
use Rattle.picture_page.specs.Content.{finish}
use Rattle.picture_page.proofs.page.put_finishes.Given as goal

abbrev pub invariant-loop-tag : goal.invariant-loop-tag
invariant-loop-tag l = l.into.items ++ flat_map finish (reverse l.begun.items)
    ≡ l.initial.into.items ++ flat_map finish (reverse l.initial.begun.items)

abbrev pub decreases-loop-tag : goal.decreases-loop-tag
decreases-loop-tag l = length l.begun.items
