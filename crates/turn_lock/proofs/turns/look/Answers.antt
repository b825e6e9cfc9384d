use Rattle.std.proofs.Common.{rules, eq-eqb, ne_eqb}
use Rattle.turn_lock.proofs.Keeping.{looks}
use Rattle.turn_lock.proofs.turns.look.Goals as goal

pub load-requires : goal.load-requires
load-requires g c = (
  search rules,
  search rules,
  looks _ _ _ _ _ _ _ c.args.ticket c.requires.waits.0 c.requires.waits.1,
)

pub returns-clause-takes : goal.returns-clause-takes
returns-clause-takes g c e = rw (eq-eqb c.load.result c.args.ticket e) at
    (c.load.ensures.2 c.args.ticket c.requires.waits.0)

pub returns-clause-stays : goal.returns-clause-stays
returns-clause-stays g c other = rw (ne_eqb c.load.result c.args.ticket other) at
    (c.load.ensures.2 c.args.ticket c.requires.waits.0)
