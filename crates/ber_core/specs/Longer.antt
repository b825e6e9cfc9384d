-- What octets that come behind the input change of a reading. This product's own rule: Cut is
-- judged at the outermost element alone.
use Rattle.std.specs.Prelude.{◌≡◌, ◌↔◌, ℕ, ◌<◌, List, [], ◌++◌, length, Result, Ok, Err}
use Rattle.ber_core.specs.declared.fault.BerFault.{BerFault}
use Rattle.ber_core.specs.declared.fault.BerFault.TheVariants.{Cut, WrongTag, BadLength, BadContent}
use Rattle.ber_core.specs.declared.fault.BerFault.TheVariants.{Wide}
use Rattle.ber_core.specs.Length.{IsOctets}
use Rattle.ber_core.specs.Tree.{Tree, primitive, constructed}
use Rattle.ber_core.specs.Spelling.{IsElement}
use Rattle.ber_core.specs.View.{View, view_before, left, IsInside}
use Rattle.ber_core.specs.Reading.{next_content}
use Rattle.ber_core.specs.Whole.{read_tree}

-- a reader with these octets behind its input
abbrev pub longer : List ℕ → View → View
longer more view = record view { octets = view.octets ++ more }

-- what was read, with the longer input
abbrev pub longer_read : List ℕ → Result View BerFault → Result View BerFault
longer_read more (Ok view) = Ok (longer more view)
longer_read more (Err fault) = Err fault

-- the first fault, if there is one, isn't Cut
abbrev pub IsUncut : {A : Type 0} → Result A BerFault → Type 0
IsUncut (Ok x) = Unit {0}
IsUncut (Err (Cut place)) = ⊥
IsUncut (Err (WrongTag place found)) = Unit {0}
IsUncut (Err (BadLength place)) = Unit {0}
IsUncut (Err (BadContent place)) = Unit {0}
IsUncut (Err (Wide place)) = Unit {0}

-- the reader stands within its input, as each one does
abbrev pub IsWithin : View → Type 0
IsWithin view = IsInside view.place view.ends (length view.octets)

-- The octets begin an element with this tag, which ends behind them: octets are missing of its
-- identifier, its length or its content.
pub record EndsBehind (tag octets : List ℕ) : Type 0 where
  pub content : List ℕ
  pub missing : List ℕ
  pub some : 0 < length missing
  pub is_element : IsElement tag content (octets ++ missing)

abbrev pub tag_of : Tree → List ℕ
tag_of (primitive tag content) = tag
tag_of (constructed tag members) = tag

-- ---- the laws

-- What a reader finds, or its fault, stays, but for Cut.
abbrev pub FoundStays : Type 0
FoundStays =
    (view : View) (tag more : List ℕ) → IsWithin view → IsUncut (next_content view tag)
    → next_content (longer more view) tag ≡ next_content view tag

-- The same of a tree.
abbrev pub TreeStays : Type 0
TreeStays =
    (t : Tree) (octets more : List ℕ) → IsOctets octets → IsUncut (read_tree t (view_before octets))
    → read_tree t (view_before (octets ++ more))
    ≡ longer_read more (read_tree t (view_before octets))

-- An element is cut exactly where no element is around it, and it ends behind the input.
abbrev pub CutWhereEndsBehind : Type 0
CutWhereEndsBehind =
    (view : View) (tag : List ℕ) (place : ℕ) → IsOctets view.octets → IsWithin view
    → (next_content view tag ≡ Err (Cut place))
    ↔ ((view.ends ≡ []) × (place ≡ view.place) × EndsBehind tag (left view))

-- A tree is cut exactly where its outermost element ends behind the input.
abbrev pub TreeCutWhereEndsBehind : Type 0
TreeCutWhereEndsBehind =
    (t : Tree) (octets : List ℕ) (place : ℕ) → IsOctets octets
    → (read_tree t (view_before octets) ≡ Err (Cut place))
    ↔ ((place ≡ 0) × EndsBehind (tag_of t) octets)
