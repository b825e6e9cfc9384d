use Rattle.std.proofs.Common.{arith, drop, nat_eq}
use Rattle.std.proofs.lemmas.List.{length-drop}
use Rattle.std.proofs.lemmas.List.Sums.{common_prefix_len-le}
use Rattle.sle_common.proofs.instance_text.shared_length.Goals as goal

pub returns-else-shared-text : goal.returns-else-shared-text
returns-else-shared-text c =
    let label = drop c.loop-shared.shared c.args.label.now in
    let text = drop c.loop-shared.shared c.args.text.now in
    omega (
      arith,
      c.loop-shared.invariant,
      (common_prefix_len-le nat_eq label text).1,
      length-drop c.loop-shared.shared c.args.text.now,
    )
