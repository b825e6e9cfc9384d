-- What a spelling spells: a tree of elements, each with its tag as identifier octets (X.690 8.1.1
-- and 8.1.2).
use Rattle.std.specs.Prelude.{◌≡◌, ℕ, ◌/◌, ◌%◌, Bool, true, false, ◌==◌, ◌&&◌, not, List, [], ◌∷◌}
use Rattle.std.specs.Prelude.{option_map, Option, Some, None, nat_lt, nat_le, if◌then◌else◌}
use Rattle.ber_core.specs.Length.{IsOctets}

-- A primitive element has a tag and content octets, a constructed one a tag and the elements in it.
mutual
  pub data Tree : Type 0 where
    primitive : List ℕ → List ℕ → Tree
    constructed : List ℕ → Trees → Tree

  pub data Trees : Type 0 where
    no_trees : Trees
    tree_and : Tree → Trees → Trees

abbrev pub trees : List Tree → Trees
trees [] = no_trees
trees (t ∷ ts) = tree_and t (trees ts)

-- a tag number from 31 on, in the fewest octets (8.1.2.2 and 8.1.2.4.2), begins so
abbrev pub begins_number : List ℕ → Bool
begins_number [] = false
begins_number (octet ∷ octets) = nat_le 31 octet && not (octet == 128)

-- the octets up to the first one whose bit 8 is clear, which is the last of a number (8.1.2.4.2)
abbrev pub through_last : List ℕ → Option (List ℕ)
through_last [] = None
through_last (octet ∷ octets) =
    if nat_lt octet 128 then Some (octet ∷ [])
    else option_map (λ rest. octet ∷ rest) (through_last octets)

-- The identifier at the front of octets, if one stands there whole: a single octet, or one whose
-- low five bits are set and a number from 31 on (8.1.2.3 and 8.1.2.4).
unfoldable pub first_identifier : List ℕ → Option (List ℕ)
first_identifier [] = None
first_identifier (first ∷ octets) =
    if not (first % 32 == 31) then Some (first ∷ [])
    else if begins_number octets then option_map (λ number. first ∷ number) (through_last octets)
    else None

-- bit 6 of the first identifier octet (8.1.2.5)
abbrev pub is_constructed : List ℕ → Bool
is_constructed [] = false
is_constructed (first ∷ octets) = first / 32 % 2 == 1

pub record IsTag (tag : List ℕ) (constructed_bit : Bool) : Type 0 where
  pub octets_all : IsOctets tag
  pub whole : first_identifier tag ≡ Some tag
  pub bit : is_constructed tag ≡ constructed_bit

abbrev mutual
  pub IsWellFormed : Tree → Type 0
  IsWellFormed (primitive tag content) = IsTag tag false × IsOctets content
  IsWellFormed (constructed tag members) = IsTag tag true × AreWellFormed members

  pub AreWellFormed : Trees → Type 0
  AreWellFormed no_trees = Unit {0}
  AreWellFormed (tree_and t ts) = IsWellFormed t × AreWellFormed ts
