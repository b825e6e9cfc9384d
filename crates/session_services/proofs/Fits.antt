-- Returns are few octets, and credentials have some.
use Rattle.std.proofs.Common.{◌≡◌, ℕ, pos, ◌+◌, ◌≤◌, true, nat_le, List, [], ◌∷◌, length, arith}
use Rattle.ber_core.specs.Integer.{integer_octets}
use Rattle.ber_core.specs.Length.{shortest_length}
use Rattle.ber_core.specs.Tree.{primitive, constructed, tree_and, no_trees}
use Rattle.ber_core.specs.Spelling.{canonical, canonical_all}
use Rattle.ber_core.specs.Parts.{length-primitive, length-constructed, length-tree_and}
use Rattle.ber_shape.specs.Members.{Members, structured_few}
use Rattle.isp1_auth.specs.declared.secret.Secret.{Secret}
use Rattle.isp1_auth.specs.Digest.{digest}
use Rattle.isp1_auth.specs.Signed.{signed}

-- ---- few octets

pub few_octets : {X : Type 0} (tag : List ℕ) (m : Members X) (x : X) → m.Fits x
    → nat_le (length tag + 9 + m.most) 1024 ≡ true
    → length (canonical (constructed tag (m.trees x))) ≤ 1024
few_octets tag m x fits short = grind (arith, structured_few tag m x fits)

-- ---- credentials have at least 8 octets: each of their four elements has a tag and a length

some_length : (n : ℕ) → 1 ≤ length (shortest_length n)
unfolding shortest_length
some_length n = grind arith

some_primitive : (tag content : List ℕ) → 1 ≤ length tag
    → 2 ≤ length (canonical (primitive tag content))
some_primitive tag content one =
    omega (arith, one, length-primitive tag content, some_length (length content))

pub some_signed : (secret : Secret) (time : List ℕ) (number : ℕ)
    → 8 ≤ length (signed secret time number)
some_signed secret time number =
    let t = primitive (0x04 ∷ []) time in
    let n = primitive (0x02 ∷ []) (integer_octets (pos number)) in
    let p = primitive (0x04 ∷ []) (digest secret time number) in
    let trees = tree_and t (tree_and n (tree_and p no_trees)) in
    omega (
      arith,
      length-constructed (0x30 ∷ []) trees,
      some_length (length (canonical_all trees)),
      length-tree_and t (tree_and n (tree_and p no_trees)),
      length-tree_and n (tree_and p no_trees),
      length-tree_and p no_trees,
      some_primitive (0x04 ∷ []) time (omega arith),
      some_primitive (0x02 ∷ []) (integer_octets (pos number)) (omega arith),
      some_primitive (0x04 ∷ []) (digest secret time number) (omega arith),
    )
