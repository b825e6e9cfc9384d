use Rattle.std.proofs.Common.{◌≡◌, ◌↔◌, Bool, true, false, Ok, length, refl, sym, ◌∙◌, ap, subst}
use Rattle.std.proofs.Common.{arith}
use Rattle.std.specs.Prelude.{IsTrue}
use Rattle.sle_common.specs.InstanceRef.{part_of}
use Rattle.sle_common.proofs.Naming.{Follows, follows, all_follow, more_follow, none_follows}
use Rattle.sle_common.proofs.Naming.{other_follows}
use Rattle.sle_common.proofs.instance_ref.spell.Goals as goal

false_true : {A : Type 0} → false ≡ true → A
false_true e = absurd (none e)
  where
    none : false ≡ true → ⊥
    none e = cc

not_both : (b : Bool) → b ≡ true → b ≡ false → ⊥
not_both b is other = cc

decided : (b : Bool) (P : Type 0) → IsTrue b ↔ P → ((P → ⊥) → ⊥) → IsTrue b
decided true P both some = refl
decided false P both some = absurd (some (λ p. not_both false (both.1 p) refl))

pub returns-in_default : goal.returns-in_default
returns-in_default c = (
  λ e. false_true e,
  λ e. absurd (none_follows c.args.octets.now c.args.parts.now c.loop-part.part-index
      c.loop-part.reader c.in_default.field-0 c.loop-part.invariant c.loop-part-test.true
      c.requires.few c.in_default.ensures.exact e),
)

pub returns-then-not-is_same : goal.returns-then-not-is_same
returns-then-not-is_same c = (
  λ e. false_true e,
  λ e. absurd (other_follows c.args.octets.now c.args.parts.now c.loop-part.part-index
      c.loop-part.reader c.read.new.reader (part_of c.in-Ok.found) c.part-item.result
      c.loop-part.invariant c.loop-part-test.true
      c.requires.few (sym c.part-item.is) c.in-Ok.ensures.exact
      (λ same. not_both c.is_same.result (c.is_same.ensures.1 same) c.if-not-is_same.true) e),
)

pub loop-part-preserved : goal.loop-part-preserved
loop-part-preserved c =
    let same : part_of c.in-Ok.found ≡ c.part-item.result =
    c.is_same.ensures.0 c.if-not-is_same.false in
    follows c.args.octets.now c.args.parts.now c.loop-part.part-index c.loop-part.reader
    c.read.new.reader c.part-item.result c.loop-part.invariant c.slice.ensures
    c.loop-part-test.true c.requires.few
    (sym c.part-item.is) (c.in-Ok.ensures.exact
    ∙ ap (λ p. Ok (p, c.read.new.reader)) same) c.read.ensures.octets

pub returns : goal.returns
returns c =
    let all : c.loop-part.part-index ≡ length c.args.parts.now = omega arith in
    let here = subst (λ n. Follows c.args.octets.now c.args.parts.now n c.loop-part.reader) all
    c.loop-part.invariant in (
      λ e. all_follow c.args.octets.now c.args.parts.now c.loop-part.reader here
          (c.at_end.ensures.0 e),
      λ e. decided c.at_end.result _ c.at_end.ensures
          (λ other. more_follow c.args.octets.now c.args.parts.now c.loop-part.reader here
          c.requires.some other e),
    )
