use Rattle.std.proofs.Common.{◌≡◌, ◌+◌, ◌*◌, ◌≤◌, length}
use Rattle.sle_common.specs.IdentifierOctets.{part}
use Rattle.sle_common.proofs.Own.{left_of}
use Rattle.sle_common.proofs.instance_ref.size_own.Given as goal

abbrev pub invariant-loop-part : goal.invariant-loop-part
invariant-loop-part l = (l.size + length (left_of l.parts l.part-index)
    ≡ length (left_of l.parts 0)) × (l.size ≤ l.part-index * part.most)
