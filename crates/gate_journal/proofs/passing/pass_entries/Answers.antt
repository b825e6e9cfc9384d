use Rattle.std.proofs.Common.{◌≡◌, ◌-◌, ◌+◌, suc, sym, arith}
use Rattle.std.proofs.lemmas.Result.{err_from_is_err_and}
use Rattle.gate_journal.specs.Reading.{entries_at}
use Rattle.gate_journal.proofs.passing.pass_entries.Goals as goal

pub returns-in_err-times-clause-exact : goal.returns-in_err-times-clause-exact
unfolding entries_at
returns-in_err-times-clause-exact c before knows =
    let error = err_from_is_err_and c.from_residual.result c.from_residual.ensures.1 in
    let so_far = c.loop.invariant.0 before knows in
    let one_more : c.args.count - c.loop.counter ≡ suc (c.args.count - (c.loop.counter + 1)) =
    omega (arith, c.loop-test.true) in
    rw (error.1, error.2)
    (sym (rw (one_more, c.in_err-times.ensures.exact so_far.0 so_far.2) at so_far.1))

pub loop-preserved : goal.loop-preserved
unfolding entries_at
loop-preserved c = (
  λ before knows.
      let so_far = c.loop.invariant.0 before knows in
      let next = c.in_ok-times.ensures.exact so_far.0 so_far.2 in
      let one_more : c.args.count - c.loop.counter ≡ suc (c.args.count - (c.loop.counter + 1)) =
      omega (arith, c.loop-test.true) in
      (next.0, rw (one_more, next.1) at so_far.1, next.2),
  c.in_ok-times.ensures.within,
  omega (arith, c.in_ok-times.ensures.behind, c.loop.invariant.2),
)

pub returns-clause-exact : goal.returns-clause-exact
unfolding entries_at
returns-clause-exact c before knows =
    let so_far = c.loop.invariant.0 before knows in
    let none_left : c.args.count - c.loop.counter ≡ 0 = omega (arith, c.loop-test.false) in
    (so_far.0, sym (rw none_left at so_far.1), so_far.2)
