use Rattle.std.proofs.Common.{rules, refl, ap, arith}
use Rattle.turn_lock.specs.Own.{times, total}
use Rattle.turn_lock.proofs.Keeping.{joins, some_is}
use Rattle.turn_lock.proofs.turns.borrow_last.Goals as goal

pub join_seat-requires : goal.join_seat-requires
join_seat-requires g c =
    let o = some_is c.args.seat.now.me.0.origin c.requires.ready.2 in (
      search rules,
      search rules,
      search rules,
      search rules,
      joins _ _ _ _ _ _ _ _ _ o.0 o.1 c.requires.ready.0 c.requires.keeper.0 c.requires.ready.1
          c.requires.keeper.1 refl refl c.requires.ready.0 c.requires.ready.1 refl refl refl refl
          (λ l p q. p) (λ l p q b. b) (λ l p q. p)
          (λ k. omega (arith, ap (times k) c.requires.keeper.3))
          (omega (arith, ap total c.requires.keeper.3)),
    )
