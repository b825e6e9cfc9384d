use Rattle.std.proofs.Common.{◌≡◌, ◌<◌, get_or, length, max, nat_eq, ◌∙◌, ap, subst, refl, arith}
use Rattle.std.specs.List.{common_prefix_len}
use Rattle.std.proofs.lemmas.List.Sums.{common_prefix_len-le}
use Rattle.sle_common.specs.declared.attribute.Attribute.TheVariants.{Sagr}
use Rattle.sle_common.specs.Attribute.{attributes, label_of}
use Rattle.sle_common.specs.TextParts.{shared}
use Rattle.sle_common.proofs.Labels.{HasTried, one_tried, all_tried}
use Rattle.sle_common.proofs.Stages.{label_refused}
use Rattle.sle_common.proofs.instance_text.first_label.Goals as goal

pub loop-attribute-preserved : goal.loop-attribute-preserved
loop-attribute-preserved c =
    let a = get_or attributes c.loop-attribute.attribute-index Sagr in
    let label : c.label-label.result.now ≡ label_of a = c.label-label.ensures in
    let is : c.shared_length-shared.result ≡ shared a c.args.text.now =
    c.shared_length-shared.ensures
    ∙ ap (λ label. common_prefix_len nat_eq label c.args.text.now) label in
    let most = (common_prefix_len-le nat_eq (label_of a) c.args.text.now).0 in
    let none : shared a c.args.text.now < length (label_of a) =
    omega (arith, most, is, c.if-shared-label.false, ap length label) in
    let greatest : c.max-longest.result ≡ max c.loop-attribute.longest (shared a c.args.text.now) =
    grind (arith, is, c.max-longest.ensures) in
    one_tried c.args.text.now c.loop-attribute.attribute-index c.loop-attribute.longest
    c.max-longest.result a c.loop-attribute.invariant refl none greatest

pub returns-clause-bad : goal.returns-clause-bad
returns-clause-bad c =
    let all : c.loop-attribute.attribute-index ≡ 8 = omega arith in
    let tried = subst (λ n. HasTried c.args.text.now n c.loop-attribute.longest) all
    c.loop-attribute.invariant in
    label_refused c.args.text.now c.loop-attribute.longest
    (all_tried c.args.text.now c.loop-attribute.longest tried)
