-- Reading a whole tree by the calls of a reader, in the tree's order.
use Rattle.std.specs.Prelude.{◌≡◌, ◌↔◌, ℕ, suc, ◌+◌, ◌≤◌, max, List, ◌++◌, length, nat_eq}
use Rattle.std.specs.Prelude.{if◌then◌else◌, Result, Ok, Err}
use Rattle.std.specs.Cmp.Lexicographic.{pointwise}
use Rattle.ber_core.specs.declared.fault.BerFault.{BerFault}
use Rattle.ber_core.specs.declared.fault.BerFault.TheVariants.{BadContent}
use Rattle.ber_core.specs.Length.{IsOctets}
use Rattle.ber_core.specs.Tree.{Tree, Trees, primitive, constructed, no_trees, tree_and}
use Rattle.ber_core.specs.Spelling.{Spells, SpellsAll}
use Rattle.ber_core.specs.View.{View, left}
use Rattle.ber_core.specs.Reading.{◌>>=◌, primitive_at, enter, leave}

-- how many elements stand inside one another, the tree itself included
unfoldable mutual
  pub depth : Tree → ℕ
  depth (primitive tag content) = 1
  depth (constructed tag members) = suc (depth_all members)

  pub depth_all : Trees → ℕ
  depth_all no_trees = 0
  depth_all (tree_and t ts) = max (depth t) (depth_all ts)

-- exactly this content
abbrev pub exactly : List ℕ → ℕ → List ℕ → Result (Unit {0}) BerFault
exactly expected place content = if pointwise nat_eq expected content then Ok tt
    else Err (BadContent place)

-- a primitive element is read with its content, a constructed one entered, its members read, and
-- left
unfoldable mutual
  pub read_tree : Tree → View → Result View BerFault
  read_tree (primitive tag content) view = primitive_at (exactly content) view tag >>= λ read.
      Ok read.1
  read_tree (constructed tag members) view =
      enter view tag >>= λ entered. read_trees members entered.1 >>= λ behind.
      leave behind >>= λ left. Ok left.1

  pub read_trees : Trees → View → Result View BerFault
  read_trees no_trees view = Ok view
  read_trees (tree_and t ts) view = read_tree t view >>= λ behind. read_trees ts behind

-- octets with this length stand next, before the end of the element around them, and new is behind
-- them
abbrev pub Passes : View → View → List ℕ → List ℕ → Type 0
Passes view new spelled rest = (left view ≡ spelled ++ rest)
    × (new ≡ record view { place = view.place + length spelled })

-- A tree is read exactly where it is spelled, before the end of the element around it and within
-- the limit on nesting.
abbrev pub ReadWhereSpelled : Type 0
ReadWhereSpelled =
    (t : Tree) (view new : View) → IsOctets view.octets
    → (read_tree t view ≡ Ok new) ↔ ((spelled rest : List ℕ) × Spells t spelled
    × Passes view new spelled rest × (depth t + length view.ends ≤ 16))

-- Trees that are read one after another stand next, spelled one after another.
abbrev pub AllReadAreSpelled : Type 0
AllReadAreSpelled =
    (ts : Trees) (view new : View) → IsOctets view.octets → length view.ends ≤ 16
    → read_trees ts view ≡ Ok new
    → (spelled rest : List ℕ) × SpellsAll ts spelled × Passes view new spelled rest
    × (depth_all ts + length view.ends ≤ 16)

-- Trees that stand next, spelled one after another, are read, within the limit on nesting.
abbrev pub AllSpelledAreRead : Type 0
AllSpelledAreRead =
    (ts : Trees) (view new : View) (spelled rest : List ℕ) → SpellsAll ts spelled
    → Passes view new spelled rest → depth_all ts + length view.ends ≤ 16
    → read_trees ts view ≡ Ok new
