use Rattle.std.proofs.Common.{refl, sym, ◌∙◌, arith}
use Rattle.sle_common.proofs.Stages.{value_refused, part_read}
use Rattle.sle_common.proofs.instance_text.first_part.Goals as goal

pub returns-then-size-eq0-clause-bad : goal.returns-then-size-eq0-clause-bad
returns-then-size-eq0-clause-bad c =
    value_refused c.args.text.now c.in_ok-attribute.behind.now c.in_ok-attribute.attribute _
    c.in_ok-attribute.ensures.ok (sym c.value_length-size.ensures.exact
    ∙ c.if-size-eq0.true) refl

pub returns-clause-ok : goal.returns-clause-ok
returns-clause-ok c =
    rw (c.split_at.ensures.front, c.split_at.ensures.back)
    (part_read c.args.text.now c.in_ok-attribute.behind.now c.in_ok-attribute.attribute
    c.value_length-size.result c.in_ok-attribute.ensures.ok c.value_length-size.ensures.exact
    (omega arith))
