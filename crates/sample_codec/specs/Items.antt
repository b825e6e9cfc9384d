-- The items of a sample, this product's own.
use Rattle.std.proofs.Common.{ℕ, List, [], ◌∷◌, refl}
use Rattle.ber_shape.specs.Content.{octet_string}
use Rattle.ber_shape.specs.Element.{Element, simple}
use Rattle.ber_shape.specs.Members.{Members, structured}
use Rattle.ber_shape.specs.List.{list_of}

abbrev pub item : Element (List ℕ)
item = simple (0x04 ∷ []) (octet_string 1 16) refl

-- at most 8 items
abbrev pub items : Members (List (List ℕ))
items = list_of item 8

-- a SEQUENCE of them
abbrev pub item_sequence : Element (List (List ℕ))
item_sequence = structured (0x30 ∷ []) items refl
