use Rattle.std.proofs.Common.{◌≡◌, ◌+◌, cond, rules, arith, refl}
use Rattle.std.proofs.lemmas.Bool.Decides.{nat_tests}
use Rattle.return_core.specs.Course.{is_offering}
use Rattle.station_desk.proofs.Rounds.{few_told}
use Rattle.station_desk.proofs.Advancing.{advanced}
use Rattle.station_desk.proofs.buffers.Buffers.advance.Goals as goal

pub overflow_add-self : goal.overflow_add-self
overflow_add-self g c = grind (arith, nat_tests, few_told)

pub invariant_of-self-2 : goal.invariant_of-self-2
invariant_of-self-2 g c =
    let one : c.from.result ≡ cond (is_offering c.look.new.delivery) 1 0 = search rules in
    (advanced c.offline_rounds.ensures c.rounds_without_an_offer.ensures.not_due _ _ _ _
    c.look.new.delivery c.in_ok-found.ensures.steps _ c.self.invariant
    (c.take.ensures.taken _ _ _ c.self.invariant.on_its_way) _
    (is_offering c.self.inside.delivery) _ refl (omega (arith, one))).0

pub returns-clause-ok : goal.returns-clause-ok
returns-clause-ok g c =
    let one : c.from.result ≡ cond (is_offering c.look.new.delivery) 1 0 = search rules in (
      rw (← c.self.view_is)
          (advanced c.offline_rounds.ensures c.rounds_without_an_offer.ensures.not_due _ _ _ _
          c.look.new.delivery c.in_ok-found.ensures.steps _ c.self.invariant
          (c.take.ensures.taken _ _ _ c.self.invariant.on_its_way)
          (c.self.inside.count + c.from.result) (is_offering c.self.inside.delivery) _ refl
          (omega (arith, one))).1,
      c.in_ok-found.ensures.offers,
    )
