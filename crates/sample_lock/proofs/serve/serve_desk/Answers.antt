use Rattle.std.proofs.Common.{[], ◌∷◌, Some, rules}
use Rattle.sample_lock.specs.DeskReport.{Adds}
use Rattle.sample_lock.proofs.Serving.{serving_more}
use Rattle.sample_lock.proofs.serve.serve_desk.Goals as goal

pub orders-preserved : goal.orders-preserved
orders-preserved g c =
    let asked : Adds (g.D.Desk.told c.orders.desk) (g.D.Desk.told c.next.new.self)
    (Some c.in-Some.order ∷ []) (c.in-Some.reading ∷ []) [] = search rules in
    serving_more c.args.lock.now c.args.clerk c.in-Some.reading c.in-Some.order c.visit-reply.result
    c.args.pass.now c.orders.pass c.visit-reply.new.pass _ _ _ _ c.orders.invariant asked
    c.take.ensures c.visit-reply.ensures.made c.visit-reply.ensures.ready
    c.visit-reply.ensures.turns c.visit-reply.ensures.legal
