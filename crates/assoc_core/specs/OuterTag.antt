-- What a PDU's outer tag tells in unbound (X.690 8.1.2; the tags are CCSDS 911.1-B's, annex A).
use Rattle.std.specs.Prelude.{ℕ, nat_eq, if◌then◌else◌, Option, Some, None, List, [], ◌∷◌}
use Rattle.std.specs.Cmp.Lexicographic.{pointwise}
use Rattle.ber_core.specs.Tree.{first_identifier}
use Rattle.assoc_core.specs.declared.outer_tag.OuterTag.{OuterTag}
use Rattle.assoc_core.specs.declared.outer_tag.OuterTag.TheVariants.{Bind, PeerAbort, Other}
use Rattle.assoc_core.specs.declared.outer_tag.OuterTag.TheVariants.{Missing}

-- BIND is [100], constructed, and PEER-ABORT [104], primitive
abbrev pub tag_told : Option (List ℕ) → OuterTag
tag_told None = Missing
tag_told (Some identifier) =
    if pointwise nat_eq identifier (0xbf ∷ 0x64 ∷ []) then Bind
    else if pointwise nat_eq identifier (0x9f ∷ 0x68 ∷ []) then PeerAbort
    else Other

-- by the identifier octets at the front
abbrev pub outer_tag : List ℕ → OuterTag
outer_tag octets = tag_told (first_identifier octets)
