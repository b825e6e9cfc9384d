-- How many octets credentials have.
use Rattle.std.proofs.Common.{◌≡◌, ℕ, pos, ◌+◌, ◌<◌, ◌≤◌, true, nat_lt, List, [], ◌∷◌, length, refl}
use Rattle.std.proofs.Common.{arith}
use Rattle.sha1.specs.Sha1.{sha1, digest_bytes}
use Rattle.sha2.specs.Sha256.{sha256, digest_bytes as digest_bytes_256}
use Rattle.ber_core.specs.Length.{shortest_length}
use Rattle.ber_core.specs.Integer.{integer_octets}
use Rattle.ber_core.specs.Tree.{primitive, no_trees, tree_and}
use Rattle.ber_core.specs.Spelling.{canonical, canonical_all}
use Rattle.ber_core.specs.Parts.{length-primitive, length-constructed, length-tree_and}
use Rattle.ber_core.specs.Parts.{length-no_trees, few-integer_octets}
use Rattle.isp1_auth.specs.declared.hash.Hash.{Hash}
use Rattle.isp1_auth.specs.declared.hash.Hash.TheVariants.{Sha1, Sha256}
use Rattle.isp1_auth.specs.declared.secret.Secret.{Secret}
use Rattle.isp1_auth.specs.Digest.{hashed, hash_input, digest}
use Rattle.isp1_auth.specs.Signed.{signed}

below : (n : ℕ) → n < 128 → nat_lt n 128 ≡ true
below n small = grind arith

one_length : (n : ℕ) → n < 128 → length (shortest_length n) ≡ 1
unfolding shortest_length
one_length n small = rw (below n small) refl

length-sha1 : (octets : List ℕ) → length (sha1 octets) ≡ 20
unfolding sha1 digest_bytes
length-sha1 octets = refl

length-sha256 : (octets : List ℕ) → length (sha256 octets) ≡ 32
unfolding sha256 digest_bytes_256
length-sha256 octets = refl

-- the octets of a digest
abbrev pub digest_length : Hash → ℕ
digest_length Sha1 = 20
digest_length Sha256 = 32

length-hashed : (hash : Hash) (octets : List ℕ) → length (hashed hash octets) ≡ digest_length hash
length-hashed Sha1 octets = length-sha1 octets
length-hashed Sha256 octets = length-sha256 octets

pub few-digest_length : (hash : Hash) → digest_length hash ≤ 32
few-digest_length Sha1 = omega arith
few-digest_length Sha256 = omega arith

short : (tag content : List ℕ) → length tag ≡ 1 → length content < 128
    → length (canonical (primitive tag content)) ≡ 2 + length content
short tag content one small = omega (
  arith,
  length-primitive tag content,
  one_length (length content) small,
)

pub length_signed : (secret : Secret) (time : List ℕ) (number : ℕ) → length time ≡ 8
    → length (signed secret time number)
    ≡ 16 + length (integer_octets (pos number)) + digest_length secret.hash
length_signed secret time number eight =
    let t = primitive (0x04 ∷ []) time in
    let n = primitive (0x02 ∷ []) (integer_octets (pos number)) in
    let p = primitive (0x04 ∷ []) (digest secret time number) in
    let trees = tree_and t (tree_and n (tree_and p no_trees)) in
    let few = few-integer_octets (pos number) in
    let size : length (digest secret time number) ≡ digest_length secret.hash =
    length-hashed secret.hash (hash_input secret time number) in
    let most = few-digest_length secret.hash in
    let content : length (canonical_all trees)
    ≡ 14 + length (integer_octets (pos number)) + digest_length secret.hash =
    omega (
      arith,
      length-tree_and t (tree_and n (tree_and p no_trees)),
      length-tree_and n (tree_and p no_trees),
      length-tree_and p no_trees,
      length-no_trees,
      short (0x04 ∷ []) time refl (omega (arith, eight)),
      short (0x02 ∷ []) (integer_octets (pos number)) refl (omega (arith, few)),
      short (0x04 ∷ []) (digest secret time number) refl (omega (arith, size, most)),
      eight,
      size,
    ) in
    omega (
      arith,
      length-constructed (0x30 ∷ []) trees,
      one_length (length (canonical_all trees)) (omega (arith, content, few, most)),
      content,
    )

-- at least 8 octets: each of their four elements has a tag and a length
some_length : (n : ℕ) → 1 ≤ length (shortest_length n)
unfolding shortest_length
some_length n = grind arith

some_primitive : (tag content : List ℕ) → 1 ≤ length tag
    → 2 ≤ length (canonical (primitive tag content))
some_primitive tag content one =
    omega (arith, one, length-primitive tag content, some_length (length content))

pub some_signed : (secret : Secret) (time : List ℕ) (number : ℕ)
    → 8 ≤ length (signed secret time number)
some_signed secret time number =
    let t = primitive (0x04 ∷ []) time in
    let n = primitive (0x02 ∷ []) (integer_octets (pos number)) in
    let p = primitive (0x04 ∷ []) (digest secret time number) in
    let trees = tree_and t (tree_and n (tree_and p no_trees)) in
    omega (
      arith,
      length-constructed (0x30 ∷ []) trees,
      some_length (length (canonical_all trees)),
      length-tree_and t (tree_and n (tree_and p no_trees)),
      length-tree_and n (tree_and p no_trees),
      length-tree_and p no_trees,
      some_primitive (0x04 ∷ []) time (omega arith),
      some_primitive (0x02 ∷ []) (integer_octets (pos number)) (omega arith),
      some_primitive (0x04 ∷ []) (digest secret time number) (omega arith),
    )
