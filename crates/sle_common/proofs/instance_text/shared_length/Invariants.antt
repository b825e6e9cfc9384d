use Rattle.std.proofs.Common.{◌≡◌, ◌+◌, ◌-◌, length, drop, nat_eq}
use Rattle.std.specs.List.{common_prefix_len}
use Rattle.sle_common.proofs.instance_text.shared_length.Given as goal

abbrev pub invariant-loop-shared : goal.invariant-loop-shared
invariant-loop-shared l = l.shared + common_prefix_len nat_eq (drop l.shared l.label)
    (drop l.shared l.text) ≡ common_prefix_len nat_eq l.label l.text

abbrev pub decreases-loop-shared : goal.decreases-loop-shared
decreases-loop-shared l = length l.label - l.shared
