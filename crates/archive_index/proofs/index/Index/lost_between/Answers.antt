use Rattle.std.proofs.Common.{arith}
use Rattle.archive_index.proofs.Short.{short_frames}
use Rattle.archive_index.proofs.Sums.{gap_of_sums}
use Rattle.archive_index.proofs.index.Index.lost_between.Goals as goal

pub returns-clause-exact : goal.returns-clause-exact
returns-clause-exact g c = λ entries indexes archive. rw (
  c.lost_since.ensures,
  c.lost_through-through.ensures.exact entries indexes archive,
  c.lost_through-before.ensures.exact entries indexes archive,
) (gap_of_sums c.lost_sums.ensures.running entries c.args.after c.args.upto)

pub returns-clause-steps : goal.returns-clause-steps
returns-clause-steps g c = λ entries b indexes few.
    let frames = short_frames _ entries indexes in
    let one = c.lost_through-through.ensures.steps b (omega (arith, frames)) in
    let two = c.lost_through-before.ensures.steps b (omega (arith, frames)) in
    omega (arith, one, two)
