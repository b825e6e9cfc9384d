-- How many octets the elements of credentials and of the hash input have.
use Rattle.std.proofs.Common.{◌≡◌, ℕ, pos, ◌+◌, ◌<◌, ◌≤◌, true, nat_lt, List, [], ◌∷◌, length, refl}
use Rattle.std.proofs.Common.{arith}
use Rattle.ber_core.specs.Length.{shortest_length}
use Rattle.ber_core.specs.Integer.{integer_octets}
use Rattle.ber_core.specs.Tree.{primitive, no_trees, tree_and}
use Rattle.ber_core.specs.Spelling.{canonical, canonical_all}
use Rattle.ber_core.specs.Parts.{length-primitive, length-constructed, length-tree_and}
use Rattle.ber_core.specs.Parts.{length-no_trees, few-shortest_length, few-integer_octets}
use Rattle.isp1_auth.specs.declared.secret.Secret.{Secret}
use Rattle.isp1_auth.specs.Signed.{signed}
use Rattle.isp1_auth.specs.Digest.{hash_input, digest}
use Rattle.isp1_auth.proofs.Made.{few-hashed}

below : (n : ℕ) → n < 128 → nat_lt n 128 ≡ true
below n small = grind arith

one_length : (n : ℕ) → n < 128 → length (shortest_length n) ≡ 1
unfolding shortest_length
one_length n small = rw (below n small) refl

pub few_number : (number : ℕ) → length (canonical
    (primitive (0x02 ∷ []) (integer_octets (pos number)))) ≤ 18
few_number number =
    let few = few-integer_octets (pos number) in
    omega (
      arith,
      length-primitive (0x02 ∷ []) (integer_octets (pos number)),
      one_length (length (integer_octets (pos number))) (omega (arith, few)),
      few,
    )

pub few_octets : (octets : List ℕ) → length octets < 128
    → length (canonical (primitive (0x04 ∷ []) octets)) ≡ 2 + length octets
few_octets octets small = omega (
  arith,
  length-primitive (0x04 ∷ []) octets,
  one_length (length octets) small,
)

-- credentials go into 64 octets
pub few_signed : (secret : Secret) (time : List ℕ) (number : ℕ) → length time ≡ 8
    → length (signed secret time number) ≤ 64
few_signed secret time number eight =
    let t = primitive (0x04 ∷ []) time in
    let n = primitive (0x02 ∷ []) (integer_octets (pos number)) in
    let p = primitive (0x04 ∷ []) (digest secret time number) in
    let trees = tree_and t (tree_and n (tree_and p no_trees)) in
    let few = few-hashed secret.hash (hash_input secret time number) in
    let time_so = few_octets time (omega (arith, eight)) in
    let digest_so = few_octets (digest secret time number) (omega (arith, few)) in
    let content : length (canonical_all trees) ≤ 62 =
    omega (
      arith,
      length-tree_and t (tree_and n (tree_and p no_trees)),
      length-tree_and n (tree_and p no_trees),
      length-tree_and p no_trees,
      length-no_trees,
      time_so,
      few_number number,
      digest_so,
      eight,
      few,
    ) in
    omega (
      arith,
      length-constructed (0x30 ∷ []) trees,
      one_length (length (canonical_all trees)) (omega (arith, content)),
      content,
    )

pub few_digest : (secret : Secret) (time : List ℕ) (number : ℕ)
    → length (digest secret time number) ≤ 32
few_digest secret time number = few-hashed secret.hash (hash_input secret time number)

pub few_time : (time : List ℕ) → length time ≡ 8
    → length (canonical (primitive (0x04 ∷ []) time)) ≡ 10
few_time time eight = omega (arith, few_octets time (omega (arith, eight)), eight)

pub few_length : (n : ℕ) → length (shortest_length n) ≤ 9
few_length n = few-shortest_length n

pub few_protected : (secret : Secret) (time : List ℕ) (number : ℕ)
    → length (canonical (primitive (0x04 ∷ []) (digest secret time number))) ≤ 34
few_protected secret time number =
    let few = few_digest secret time number in
    omega (arith, few_octets (digest secret time number) (omega (arith, few)), few)
