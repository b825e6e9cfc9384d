use Rattle.sle_common.proofs.Naming.{Follows}
use Rattle.sle_common.proofs.instance_ref.spell.Given as goal

abbrev pub invariant-loop-part : goal.invariant-loop-part
invariant-loop-part l = Follows l.octets l.parts l.part-index l.reader
