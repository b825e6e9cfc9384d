-- No spelling begins another.
use Rattle.std.proofs.Common.{◌≡◌, ℕ, ◌+◌, inl, inr, true, false, List, [], ◌∷◌, ◌++◌, length, take}
use Rattle.std.proofs.Common.{drop, Some, refl, sym, ◌∙◌, ap, arith}
use Rattle.std.proofs.lemmas.List.{append_assoc, take_at, drop_at}
use Rattle.ber_core.specs.Length.{IsLength}
use Rattle.ber_core.specs.Tree.{Tree, Trees, primitive, constructed, no_trees, tree_and}
use Rattle.ber_core.specs.Tree.{first_identifier, is_constructed, IsWellFormed, AreWellFormed}
use Rattle.ber_core.specs.Spelling.{IsElement, Spells, SpellsAll}
use Rattle.ber_core.specs.Facts.Identifiers.{same_tag}

-- fronts of one length of the same octets are one, and so is what follows
pub same_front : (a b x y : List ℕ) → length a ≡ length b → a ++ x ≡ b ++ y → (a ≡ b) × (x ≡ y)
same_front a b x y e joined = (
  sym (take_at a x (length b) e) ∙ ap (take (length b)) joined ∙ take_at b y (length b) refl,
  sym (drop_at a x (length b) e) ∙ ap (drop (length b)) joined ∙ drop_at b y (length b) refl,
)

pub same_length : (a b : List ℕ) (m n : ℕ) (x y : List ℕ) → IsLength a m → IsLength b n
    → a ++ x ≡ b ++ y → (a ≡ b) × (m ≡ n)
same_length a b m n x y (inl (small, short)) (inl (other_small, other_short)) e =
    let joined : m ∷ x ≡ n ∷ y = rw (short, other_short) at e in
    (cc, cc)
same_length a b m n x y (inl (small, short)) (inr (digits, long, value, spelled)) e =
    let joined : m ∷ x ≡ (128 + length digits) ∷ (digits ++ y) = rw (short, spelled) at e in
    let head : m ≡ 128 + length digits = cc in
    absurd (omega arith)
same_length a b m n x y (inr (digits, long, value, spelled)) (inl (small, short)) e =
    let joined : (128 + length digits) ∷ (digits ++ x) ≡ n ∷ y = rw (spelled, short) at e in
    let head : 128 + length digits ≡ n = cc in
    absurd (omega arith)
same_length a b m n x y (inr (digits, long, value, spelled))
    (inr (others, other_long, other_value, other_spelled)) e =
    let joined : (128 + length digits) ∷ (digits ++ x) ≡ (128 + length others) ∷ (others ++ y) =
    rw (spelled, other_spelled) at e in
    let heads : 128 + length digits ≡ 128 + length others = cc in
    let tails : digits ++ x ≡ others ++ y = cc in
    let same : digits ≡ others = (same_front digits others x y (omega arith) tails).0 in
    (cc, cc)

-- elements at the front of the same octets are one
pub same_element : (tag content spelled other other_content other_spelled x y : List ℕ)
    → first_identifier tag ≡ Some tag → first_identifier other ≡ Some other
    → IsElement tag content spelled → IsElement other other_content other_spelled
    → spelled ++ x ≡ other_spelled ++ y
    → (tag ≡ other) × (content ≡ other_content) × (spelled ≡ other_spelled)
same_element tag content spelled other other_content other_spelled x y whole other_whole (
  size,
  is_length,
  is,
) (other_size, other_is_length, other_is) e =
    let joined : tag ++ (size ++ (content ++ x)) ≡ other ++ (other_size ++ (other_content ++ y)) =
    simp append_assoc at (rw (is, other_is) at e) in
    let tags : tag ≡ other = same_tag tag other (size ++ (content ++ x))
    (other_size ++ (other_content ++ y)) whole other_whole joined in
    let behind_tags : size ++ (content ++ x) ≡ other_size ++ (other_content ++ y) =
    (same_front tag other _ _ (ap length tags) joined).1 in
    let sizes = same_length size other_size (length content) (length other_content) (content ++ x)
    (other_content ++ y) is_length other_is_length behind_tags in
    let behind_sizes : content ++ x ≡ other_content ++ y =
    (same_front size other_size _ _ (ap length sizes.0) behind_tags).1 in
    let contents : content ≡ other_content =
    (same_front content other_content x y sizes.1 behind_sizes).0 in
    let same_sizes : size ≡ other_size = sizes.0 in
    (tags, contents, cc)

no_octet_before : (a b : List ℕ) → a ++ b ≡ [] → a ≡ []
no_octet_before [] b e = refl
no_octet_before (octet ∷ a) b e = cc

tag_some : (tag : List ℕ) → first_identifier tag ≡ Some tag → tag ≡ [] → ⊥
unfolding first_identifier
tag_some [] whole e = cc
tag_some (first ∷ octets) whole e = cc

-- a spelling has an octet
pub some_octet : (t : Tree) (spelled : List ℕ) → IsWellFormed t → Spells t spelled → spelled ≡ []
    → ⊥
some_octet (primitive tag content) spelled well (size, is_length, is) e =
    tag_some tag well.0.whole (no_octet_before tag _ (sym is ∙ e))
some_octet (constructed tag members) spelled well (content, all, (size, is_length, is)) e =
    tag_some tag well.0.whole (no_octet_before tag _ (sym is ∙ e))

bits_differ : (tag other : List ℕ) → is_constructed tag ≡ false → is_constructed other ≡ true
    → tag ≡ other → ⊥
bits_differ tag other primitive_bit constructed_bit e =
    let same : is_constructed tag ≡ is_constructed other = ap is_constructed e in cc

-- trees with a spelling at the front of the same octets are one, and the spellings too
mutual
  pub same_tree : (t u : Tree) (spelled other x y : List ℕ) → IsWellFormed t → IsWellFormed u
      → Spells t spelled → Spells u other → spelled ++ x ≡ other ++ y
      → (t ≡ u) × (spelled ≡ other)
  same_tree (primitive tag content) (primitive other_tag other_content) spelled other x y well
      other_well spells other_spells e =
      let same = same_element tag content spelled other_tag other_content other x y well.0.whole
      other_well.0.whole spells other_spells e in
      let tags : tag ≡ other_tag = same.0 in
      let contents : content ≡ other_content = same.1 in
      (cc, same.2)
  same_tree (primitive tag content) (constructed other_tag members) spelled other x y well
      other_well spells (other_content, other_all, other_spells) e =
      let tags : tag ≡ other_tag = (same_element tag content spelled other_tag other_content other x
      y well.0.whole other_well.0.whole spells other_spells e).0 in
      absurd (bits_differ tag other_tag well.0.bit other_well.0.bit tags)
  same_tree (constructed tag members) (primitive other_tag other_content) spelled other x y well
      other_well (content, all, spells) other_spells e =
      let tags : tag ≡ other_tag = (same_element tag content spelled other_tag other_content other x
      y well.0.whole other_well.0.whole spells other_spells e).0 in
      absurd (bits_differ other_tag tag other_well.0.bit well.0.bit (sym tags))
  same_tree (constructed tag members) (constructed other_tag other_members) spelled other x y well
      other_well (content, all, spells) (other_content, other_all, other_spells) e =
      let same = same_element tag content spelled other_tag other_content other x y well.0.whole
      other_well.0.whole spells other_spells e in
      let tags : tag ≡ other_tag = same.0 in
      let inside : members ≡ other_members = same_trees members other_members content other_content
      well.1 other_well.1 all other_all same.1 in
      (cc, same.2)

  pub same_trees : (ts us : Trees) (spelled other : List ℕ) → AreWellFormed ts → AreWellFormed us
      → SpellsAll ts spelled → SpellsAll us other → spelled ≡ other → ts ≡ us
  same_trees no_trees no_trees spelled other well other_well all other_all e = refl
  same_trees no_trees (tree_and u us) spelled other well other_well all (
    first,
    rest,
    spells,
    others,
    is,
  ) e = absurd (some_octet u first other_well.0 spells
      (no_octet_before first rest (sym is ∙ sym e ∙ all)))
  same_trees (tree_and t ts) no_trees spelled other well other_well (
    first,
    rest,
    spells,
    others,
    is,
  ) all e = absurd (some_octet t first well.0 spells
      (no_octet_before first rest (sym is ∙ e ∙ all)))
  same_trees (tree_and t ts) (tree_and u us) spelled other well other_well (
    first,
    rest,
    spells,
    all,
    is,
  ) (other_first, other_rest, other_spells, other_all, other_is) e =
      let joined : first ++ rest ≡ other_first ++ other_rest = sym is ∙ e ∙ other_is in
      let firsts = same_tree t u first other_first rest other_rest well.0 other_well.0 spells
      other_spells joined in
      let heads : t ≡ u = firsts.0 in
      let rests : rest ≡ other_rest =
      (same_front first other_first rest other_rest (ap length firsts.1) joined).1 in
      let tails : ts ≡ us = same_trees ts us rest other_rest well.1 other_well.1 all other_all rests
      in
      cc
