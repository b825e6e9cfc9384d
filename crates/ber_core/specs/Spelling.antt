-- The octets of a tree (X.690 8.1.1): of any spelling in the definite form, and of the one that
-- this product writes.
use Rattle.std.specs.Prelude.{◌≡◌, ℕ, ◌^◌, ◌<◌, List, [], ◌++◌, length}
use Rattle.ber_core.specs.Length.{IsLength, shortest_length}
use Rattle.ber_core.specs.Tree.{Tree, Trees, primitive, constructed, no_trees, tree_and}
use Rattle.ber_core.specs.Tree.{IsWellFormed}

-- identifier octets, length octets and content octets
abbrev pub IsElement : List ℕ → List ℕ → List ℕ → Type 0
IsElement tag content octets = (size : List ℕ) × IsLength size (length content)
    × (octets ≡ tag ++ (size ++ content))

-- The octets are a spelling of the tree: each element with any definite length of its content.
abbrev mutual
  pub Spells : Tree → List ℕ → Type 0
  Spells (primitive tag content) octets = IsElement tag content octets
  Spells (constructed tag members) octets = (content : List ℕ) × SpellsAll members content
      × IsElement tag content octets

  pub SpellsAll : Trees → List ℕ → Type 0
  SpellsAll no_trees octets = octets ≡ []
  SpellsAll (tree_and t ts) octets = (first rest : List ℕ) × Spells t first × SpellsAll ts rest
      × (octets ≡ first ++ rest)

-- an element with the shortest length
unfoldable pub element : List ℕ → List ℕ → List ℕ
element tag content = tag ++ (shortest_length (length content) ++ content)

-- the spelling in which each length is the shortest
unfoldable mutual
  pub canonical : Tree → List ℕ
  canonical (primitive tag content) = element tag content
  canonical (constructed tag members) = element tag (canonical_all members)

  pub canonical_all : Trees → List ℕ
  canonical_all no_trees = []
  canonical_all (tree_and t ts) = canonical t ++ canonical_all ts

-- The canonical spelling is a spelling, as long as 8 octets write its lengths.
abbrev pub CanonicalSpells : Type 0
CanonicalSpells = (t : Tree) → length (canonical t) < 2 ^ 64 → Spells t (canonical t)

-- No spelling of a well-formed tree is a proper prefix of another's.
abbrev pub NoneBeginsAnother : Type 0
NoneBeginsAnother =
    (t u : Tree) (spelled other more : List ℕ) → IsWellFormed t → IsWellFormed u → Spells t spelled
    → Spells u other → other ≡ spelled ++ more → more ≡ []

-- Well-formed trees with a common spelling are equal.
abbrev pub OneTree : Type 0
OneTree = (t u : Tree) (spelled : List ℕ) → IsWellFormed t → IsWellFormed u → Spells t spelled
    → Spells u spelled → t ≡ u
