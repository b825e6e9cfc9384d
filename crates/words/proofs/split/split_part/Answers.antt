use Rattle.std.proofs.Common.{◌==◌, arith}
use Rattle.std.proofs.lemmas.Grind.{common_steps}
use Rattle.std.proofs.lemmas.List.Splits.{slice_split_first}
use Rattle.words.proofs.Parts.{parts_none}
use Rattle.words.proofs.split.split_part.Goals as goal

pub returns-then-end-text : goal.returns-then-end-text
returns-then-end-text c = grind (
  arith,
  common_steps,
  slice_split_first (λ x. x == c.args.separator) c.args.text.now 0,
)

pub returns-else-end-text : goal.returns-else-end-text
returns-else-end-text c = grind (arith, common_steps, parts_none c.args.separator c.args.text.now)
