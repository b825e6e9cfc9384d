use Rattle.std.proofs.Common.{Some, None, arith}
use Rattle.std.proofs.lemmas.Result.{err_from_is_err_and}
use Rattle.isp1_tml.proofs.Walk.{walk_step, walk_end}
use Rattle.isp1_tml.proofs.feeder.messages_end.Goals as goal

pub returns-in_err-size-clause-fault : goal.returns-in_err-size-clause-fault
returns-in_err-size-clause-fault c =
    let p = err_from_is_err_and c.from_residual.result c.from_residual.ensures.1 in
    let stream = walk_end (Some c.in_err-size.field-0.0) (λ i. omega (arith, c.type_inv.octets i))
    c.loop-size.invariant c.further.ensures c.in_err-size.ensures.exact in
    rw (p.1, p.2) (_, (_, stream))

pub loop-size-preserved : goal.loop-size-preserved
loop-size-preserved c = walk_step c.loop-size.invariant c.further.ensures
    (rw c.in-Some.is at c.in_ok-size.ensures.exact)

pub returns-clause-stream : goal.returns-clause-stream
returns-clause-stream c = walk_end None (λ i. omega (arith, c.type_inv.octets i))
    c.loop-size.invariant c.further.ensures (rw c.in_default.is at c.in_ok-size.ensures.exact)
