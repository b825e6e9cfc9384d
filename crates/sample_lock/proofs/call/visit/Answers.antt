use Rattle.std.proofs.Common.{◌≡◌, [], ◌∷◌, ◌++◌, rules, subst, sym}
use Rattle.sample_lock.specs.Ledger.{opened, IsLegal, StandsAs}
use Rattle.sample_lock.proofs.Legal.{stands_last, legal_of}
use Rattle.sample_lock.proofs.call.visit.Goals as goal

pub commit_by-requires-clause-value : goal.commit_by-requires-clause-value
commit_by-requires-clause-value g c = stands_last c.enter-turn.result.value c.make-reply.new.account
    c.enter-turn.result.list c.args.clerk c.args.reading c.args.order c.make-reply.result.1
    (search rules) (search rules) (search rules)

pub returns-clause-legal : goal.returns-clause-legal
returns-clause-legal g c =
    let e = c.make-reply.result.1 in
    let list = c.enter-turn.result.list ++ e ∷ [] in
    let stands : StandsAs c.make-reply.new.account list =
    stands_last c.enter-turn.result.value c.make-reply.new.account c.enter-turn.result.list
    c.args.clerk c.args.reading c.args.order e (search rules) (search rules) (search rules) in
    let opening : c.make-reply.new.account.opening ≡ c.args.lock.now.origin = search rules in
    let legal = legal_of c.make-reply.new.account c.args.lock.now.origin list opening stands in
    let seen : c.commit_by.new.pass.seen ≡ list = search rules in
    subst (λ h. IsLegal (opened c.args.lock.now.origin) h) (sym seen) legal
