use Rattle.sle_common.proofs.Labels.{HasTried}
use Rattle.sle_common.proofs.instance_text.first_label.Given as goal

abbrev pub invariant-loop-attribute : goal.invariant-loop-attribute
invariant-loop-attribute l = HasTried l.text l.attribute-index l.longest
