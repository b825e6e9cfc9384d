use Rattle.std.proofs.Common.{◌≡◌, ◌+◌, ◌++◌, ◌≤◌, length}
use Rattle.sle_common.proofs.Own.{left_of}
use Rattle.sle_common.proofs.instance_ref.write_own.Given as goal

abbrev pub invariant-loop-part : goal.invariant-loop-part
invariant-loop-part l =
    (l.writer.octets ++ left_of l.parts l.part-index ≡ l.initial.writer.octets ++ left_of l.parts 0)
    × (l.writer.room + length (left_of l.parts 0)
    ≡ l.initial.writer.room + length (left_of l.parts l.part-index))
    × (length (left_of l.parts 0) ≤ l.initial.writer.room)
