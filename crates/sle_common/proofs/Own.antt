-- The parts of an identifier of one's own, one after another.
use Rattle.std.proofs.Common.{◌≡◌, ℕ, zero, suc, ◌+◌, ◌<◌, ◌≤◌, true, List, [], ◌∷◌, ◌++◌, length}
use Rattle.std.proofs.Common.{drop, get_or, sym, ◌∙◌, ap, subst, add-one, arith}
use Rattle.std.specs.List.{AllByRecursion}
use Rattle.std.proofs.lemmas.List.{length-drop, nil_from_length}
use Rattle.std.proofs.Math.Seq.{drop-cons}
use Rattle.ber_core.specs.Spelling.{canonical, canonical_all}
use Rattle.ber_core.specs.Parts.{spelled-tree_and, spelled-no_trees}
use Rattle.ber_shape.specs.List.{each_tree}
use Rattle.sle_common.specs.declared.instance_id.InstancePart.{InstancePart}
use Rattle.sle_common.specs.Identifier.{is_value, IsIdentifier}
use Rattle.sle_common.specs.IdentifierOctets.{part}

-- the canonical spelling of the parts from the k-th one on
abbrev pub left_of : List InstancePart → ℕ → List ℕ
left_of list k = canonical_all (each_tree part.tree (drop k list))

pub one_less : (list : List InstancePart) (k : ℕ) (p : InstancePart) → k < length list
    → get_or list k p ≡ p → left_of list k ≡ canonical (part.tree p) ++ left_of list (k + 1)
one_less list k p below is =
    ap (λ list. canonical_all (each_tree part.tree list)) (drop-cons list k p below
    ∙ ap (λ q. q ∷ drop (suc k) list) is)
    ∙ spelled-tree_and (part.tree p) (each_tree part.tree (drop (suc k) list))
    ∙ ap (λ n. canonical (part.tree p) ++ left_of list n) (sym (add-one k))

pub none_left : (list : List InstancePart) (k : ℕ) → length list ≤ k → left_of list k ≡ []
none_left list k past = ap (λ list. canonical_all (each_tree part.tree list))
    (nil_from_length (drop k list) (omega (arith, length-drop k list))) ∙ spelled-no_trees

value_at : (list : List InstancePart) (k : ℕ) (p : InstancePart)
    → AllByRecursion (λ part. is_value part.value ≡ true) list → k < length list
    → is_value (get_or list k p).value ≡ true
value_at [] k p values below = absurd (omega (arith, below))
value_at (first ∷ list) zero p values below = values.0
value_at (first ∷ list) (suc k) p values below = value_at list k p values.1 (omega (arith, below))

pub part_fits : (list : List InstancePart) (k : ℕ) (p : InstancePart) → IsIdentifier list
    → k < length list → get_or list k p ≡ p → part.Fits p
part_fits list k p are below is =
    (tt, subst (λ q. is_value q.value ≡ true) is (value_at list k p are.values below))
