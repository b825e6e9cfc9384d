use Rattle.std.proofs.Common.{rules, refl, arith, eq-eqb, ne_eqb}
use Rattle.turn_lock.proofs.Keeping.{closes, some_is}
use Rattle.turn_lock.proofs.turns.take_last.Goals as goal

pub compare_exchange-requires : goal.compare_exchange-requires
compare_exchange-requires g c =
    let o = some_is c.args.seat.now.me.0.origin c.requires.ready.2 in (
      search rules,
      search rules,
      closes _ _ _ _ _ _ _ o.0 _ _ o.1 c.requires.ready.0
          c.requires.ready.1 c.requires.turns.0 c.requires.turns.1 refl,
    )

pub returns-clause-takes : goal.returns-clause-takes
returns-clause-takes g c e = rw (eq-eqb c.compare_exchange.result c.args.turns_entered e) at
    c.compare_exchange.ensures.2

pub returns-clause-stays : goal.returns-clause-stays
returns-clause-stays g c other =
    let h = rw (ne_eqb c.compare_exchange.result c.args.turns_entered other) at
    c.compare_exchange.ensures.2 in
    (h.0, omega (arith, h.1, c.requires.turns.1), h.2)
