-- The attributes of a service instance identifier (CCSDS 911.1-B, annex A).
use Rattle.std.specs.Prelude.{ℕ, List, [], ◌∷◌, ◌++◌, codes}
use Rattle.sle_common.specs.declared.attribute.Attribute.{Attribute}
use Rattle.sle_common.specs.declared.attribute.Attribute.TheVariants.{Sagr, Spack, RslFg, FslFg}
use Rattle.sle_common.specs.declared.attribute.Attribute.TheVariants.{Raf, Rcf, Rocf, Cltu}

-- its name in a text
abbrev pub name_of : Attribute → List ℕ
name_of Sagr = codes "sagr"
name_of Spack = codes "spack"
name_of RslFg = codes "rsl-fg"
name_of FslFg = codes "fsl-fg"
name_of Raf = codes "raf"
name_of Rcf = codes "rcf"
name_of Rocf = codes "rocf"
name_of Cltu = codes "cltu"

-- the name and the `=` behind it
abbrev pub label_of : Attribute → List ℕ
label_of attribute = name_of attribute ++ 61 ∷ []

-- the last arc of its object identifier
abbrev pub arc_of : Attribute → ℕ
arc_of Sagr = 52
arc_of Spack = 53
arc_of RslFg = 38
arc_of FslFg = 14
arc_of Raf = 22
arc_of Rcf = 46
arc_of Rocf = 49
arc_of Cltu = 7

-- all of them
abbrev pub attributes : List Attribute
attributes = Sagr ∷ Spack ∷ RslFg ∷ FslFg ∷ Raf ∷ Rcf ∷ Rocf ∷ Cltu ∷ []
