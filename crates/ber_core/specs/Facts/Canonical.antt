-- The canonical spelling is a spelling.
use Rattle.std.proofs.Common.{ℕ, ◌+◌, ◌^◌, ◌<◌, List, length, refl, arith}
use Rattle.ber_core.specs.Length.{shortest_length}
use Rattle.ber_core.specs.Tree.{Tree, Trees, primitive, constructed, no_trees, tree_and}
use Rattle.ber_core.specs.Spelling.{IsElement, Spells, SpellsAll, element, canonical, canonical_all}
use Rattle.ber_core.specs.Parts.{length-element, length-tree_and}
use Rattle.ber_core.specs.Facts.Lengths.{shortest_length-IsLength}

IsElement-element : (tag content : List ℕ) → length (element tag content) < 2 ^ 64
    → IsElement tag content (element tag content)
unfolding element
IsElement-element tag content h = (
  shortest_length (length content),
  shortest_length-IsLength (length content) (omega (arith, length-element tag content)),
  refl,
)

length-content : (tag content : List ℕ) → length (element tag content) < 2 ^ 64
    → length content < 2 ^ 64
length-content tag content h = omega (arith, length-element tag content)

mutual
  unfolding canonical

  pub canonical-Spells : (t : Tree) → length (canonical t) < 2 ^ 64 → Spells t (canonical t)
  canonical-Spells (primitive tag content) h = IsElement-element tag content h
  canonical-Spells (constructed tag members) h = (
    canonical_all members,
    canonical-SpellsAll members
        (length-content tag (canonical_all members) h),
    IsElement-element tag (canonical_all members) h,
  )

  pub canonical-SpellsAll : (ts : Trees) → length (canonical_all ts) < 2 ^ 64
      → SpellsAll ts (canonical_all ts)
  canonical-SpellsAll no_trees h = refl
  canonical-SpellsAll (tree_and t ts) h =
      let fits : length (canonical t) + length (canonical_all ts) < 2 ^ 64 =
      omega (arith, length-tree_and t ts) in (
        canonical t,
        canonical_all ts,
        canonical-Spells t (omega arith),
        canonical-SpellsAll ts (omega arith),
        refl,
      )
