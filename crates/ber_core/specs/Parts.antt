-- How a canonical spelling is put together, and how long it is: theorems for those who write one or
-- measure it.
use Rattle.std.proofs.Common.{◌≡◌, ℕ, zero, suc, ℤ, ◌+◌, ◌≤◌, true, false, nat_lt, if◌then◌else◌}
use Rattle.std.proofs.Common.{List, [], ◌∷◌, ◌++◌, length, length-append, append_assoc, append-nil}
use Rattle.std.proofs.Common.{refl, sym, ◌∙◌, ap, arith}
use Rattle.std.specs.List.{flat_map}
use Rattle.std.specs.Int.{w64, w128, to_be_bytes, cast_unsigned}
use Rattle.ber_core.specs.Length.{long_form, without_zeros, shortest_length}
use Rattle.ber_core.specs.Integer.{is_redundant, without_redundant, integer_octets}
use Rattle.ber_core.specs.Tree.{Tree, Trees, primitive, constructed, no_trees, tree_and, trees}
use Rattle.ber_core.specs.Spelling.{element, canonical, canonical_all}
use Rattle.ber_core.specs.Written.{Written, Appends}

-- ---- put together

pub spelled-primitive : (tag content : List ℕ)
    → canonical (primitive tag content) ≡ tag ++ (shortest_length (length content) ++ content)
unfolding canonical element
spelled-primitive tag content = refl

pub spelled-constructed : (tag : List ℕ) (members : Trees)
    → canonical (constructed tag members) ≡ tag
    ++ (shortest_length (length (canonical_all members)) ++ canonical_all members)
unfolding canonical element
spelled-constructed tag members = refl

pub spelled-tree_and : (t : Tree) (ts : Trees)
    → canonical_all (tree_and t ts) ≡ canonical t ++ canonical_all ts
unfolding canonical
spelled-tree_and t ts = refl

pub spelled-no_trees : canonical_all no_trees ≡ []
unfolding canonical
spelled-no_trees = refl

pub spelled-trees : (ts : List Tree) → canonical_all (trees ts) ≡ flat_map canonical ts
unfolding canonical
spelled-trees [] = refl
spelled-trees (t ∷ ts) = ap (λ rest. canonical t ++ rest) (spelled-trees ts)

pub spelled-alone : (t : Tree) → canonical_all (trees (t ∷ [])) ≡ canonical t
unfolding canonical
spelled-alone t = append-nil (canonical t)

-- what two calls appended, one after the other
pub appends_two : (before middle after : Written) (front rest : List ℕ)
    → Appends before middle front → Appends middle after rest
    → Appends before after (front ++ rest)
appends_two before middle after front rest one two = (
  two.0 ∙ ap (λ octets. octets ++ rest) one.0 ∙ append_assoc before.octets front rest,
  omega (arith, one.1, two.1, length-append front rest),
)

-- a head and the content behind it, appended one after the other, are one element
pub append_within : (before head after : Written) (tag content : List ℕ) (n : ℕ) (members : Trees)
    → canonical_all members ≡ content → n ≡ length (canonical_all members)
    → Appends before head (tag ++ shortest_length n) → Appends head after content
    → Appends before after (canonical (constructed tag members))
append_within before head after tag content n members is count headed appended =
    let whole : canonical (constructed tag members) ≡ (tag ++ shortest_length n) ++ content =
    spelled-constructed tag members
    ∙ ap (λ n. tag ++ (shortest_length n ++ canonical_all members)) (sym count)
    ∙ ap (λ content. tag ++ (shortest_length n ++ content)) is
    ∙ sym (append_assoc tag (shortest_length n) content) in
    rw whole (appends_two before head after (tag ++ shortest_length n) content headed appended)

-- ---- how long

pub length-parts : (tag size content : List ℕ)
    → length (tag ++ (size ++ content)) ≡ length tag + length size + length content
length-parts tag size content = omega (
  arith,
  length-append tag (size ++ content),
  length-append size content,
)

pub length-element : (tag content : List ℕ) → length (element tag content)
    ≡ length tag + length (shortest_length (length content)) + length content
unfolding element
length-element tag content = length-parts tag (shortest_length (length content)) content

pub length-primitive : (tag content : List ℕ)
    → length (canonical (primitive tag content))
    ≡ length tag + length (shortest_length (length content)) + length content
length-primitive tag content = ap length (spelled-primitive tag content)
    ∙ length-parts tag (shortest_length (length content)) content

pub length-constructed : (tag : List ℕ) (members : Trees)
    → length (canonical (constructed tag members))
    ≡ length tag + length (shortest_length (length (canonical_all members))) + length
    (canonical_all members)
length-constructed tag members = ap length (spelled-constructed tag members)
    ∙ length-parts tag (shortest_length (length (canonical_all members))) (canonical_all members)

pub length-tree_and : (t : Tree) (ts : Trees)
    → length (canonical_all (tree_and t ts)) ≡ length (canonical t) + length (canonical_all ts)
length-tree_and t ts = ap length (spelled-tree_and t ts)
    ∙ length-append (canonical t) (canonical_all ts)

pub length-no_trees : length (canonical_all no_trees) ≡ 0
length-no_trees = ap length spelled-no_trees

pub length-alone : (t : Tree) → length (canonical t) ≡ length (canonical_all (tree_and t no_trees))
length-alone t = ap length (sym (spelled-alone t))

pub length-head : (tag : List ℕ) (n : ℕ)
    → length (tag ++ shortest_length n) ≡ length tag + length (shortest_length n)
length-head tag n = length-append tag (shortest_length n)

pub ruleset lengths = (
  length-primitive,
  length-constructed,
  length-tree_and,
  length-no_trees,
  length-head,
)

-- ---- at most so long

pub length-without_zeros : (octets : List ℕ) → length (without_zeros octets) ≤ length octets
length-without_zeros [] = omega arith
length-without_zeros (zero ∷ octets) = omega (arith, length-without_zeros octets)
length-without_zeros (suc n ∷ octets) = omega arith

pub few-shortest_length : (n : ℕ) → length (shortest_length n) ≤ 9
unfolding shortest_length
few-shortest_length n =
    elim (nat_lt n 128) as (λ b. length (if b then n ∷ []
    else long_form (without_zeros (to_be_bytes w64 n))) ≤ 9)
    [ true ↦ omega arith | false ↦ omega (arith, length-without_zeros (to_be_bytes w64 n)) ]

length-without_redundant : (octets : List ℕ) → length (without_redundant octets) ≤ length octets
unfolding without_redundant
length-without_redundant [] = omega arith
length-without_redundant (first ∷ octets) =
    elim (is_redundant (first ∷ octets)) as (λ b.
    length (if b then without_redundant octets else first ∷ octets) ≤ length (first ∷ octets))
    [ true ↦ omega (arith, length-without_redundant octets) | false ↦ omega arith ]

pub few-integer_octets : (z : ℤ) → length (integer_octets z) ≤ 16
unfolding integer_octets
few-integer_octets z = length-without_redundant (to_be_bytes w128 (cast_unsigned w128 z))
