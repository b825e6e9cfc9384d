-- Members that are written one after another: the room that is left, and what stands there then.
use Rattle.std.proofs.Common.{◌≡◌, ℕ, ◌≤◌, ◌++◌, length, length-append, append_assoc, append-nil, refl, sym}
use Rattle.std.proofs.Common.{◌∙◌, ap, arith}
use Rattle.ber_core.specs.Tree.{Tree, Trees, tree_and, no_trees}
use Rattle.ber_core.specs.Spelling.{canonical, canonical_all}
use Rattle.ber_core.specs.Parts.{spelled-tree_and, spelled-no_trees, length-tree_and, length-no_trees}
use Rattle.ber_core.specs.Written.{Written, HasRoom, Appends}

pub room_first : (room : ℕ) (t : Tree) (ts : Trees) → length (canonical_all (tree_and t ts)) ≤ room
    → length (canonical t) ≤ room
room_first room t ts fits = omega (arith, length-tree_and t ts, fits)

pub room_behind : (before after : Written) (t : Tree) (ts : Trees)
    → HasRoom before (canonical_all (tree_and t ts)) → Appends before after (canonical t)
    → HasRoom after (canonical_all ts)
room_behind before after t ts room wrote =
    omega (arith, length-tree_and t ts, room, wrote.1)

pub none_written : (w : Written) → Appends w w (canonical_all no_trees)
none_written w = (
  sym (ap (λ octets. w.octets ++ octets) spelled-no_trees ∙ append-nil w.octets),
  omega (arith, length-no_trees),
)

pub one_written : (before between after : Written) (t : Tree) (ts : Trees)
    → Appends before between (canonical t) → Appends between after (canonical_all ts)
    → Appends before after (canonical_all (tree_and t ts))
one_written before between after t ts first others = (
  others.0 ∙ ap (λ octets. octets ++ canonical_all ts) first.0
      ∙ append_assoc before.octets (canonical t) (canonical_all ts)
      ∙ ap (λ octets. before.octets ++ octets) (sym (spelled-tree_and t ts)),
  omega (arith, length-tree_and t ts, first.1, others.1),
)
