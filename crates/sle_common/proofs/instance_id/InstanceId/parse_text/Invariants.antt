use Rattle.std.proofs.Common.{length}
use Rattle.sle_common.proofs.Stages.{IsStage}
use Rattle.sle_common.proofs.instance_id.InstanceId.parse_text.Given as goal

abbrev pub invariant-loop-found : goal.invariant-loop-found
invariant-loop-found l = IsStage l.text-2 l.rest l.parts.items

abbrev pub decreases-loop-found : goal.decreases-loop-found
decreases-loop-found l = length l.rest
