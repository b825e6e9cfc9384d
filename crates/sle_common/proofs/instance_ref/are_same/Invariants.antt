use Rattle.std.proofs.Common.{◌≡◌, take}
use Rattle.sle_common.proofs.instance_ref.are_same.Given as goal

abbrev pub invariant-loop-place : goal.invariant-loop-place
invariant-loop-place l = take l.place l.parts ≡ take l.place l.others
