use Rattle.std.proofs.Common.{rules, sym, subst}
use Rattle.turn_lock.specs.Own.{AllStand}
use Rattle.turn_lock.specs.Rule.{own_lists}
use Rattle.turn_lock.proofs.Keeping.{adds, some_is}
use Rattle.turn_lock.proofs.turns.add.Goals as goal

pub fetch_add-requires : goal.fetch_add-requires
fetch_add-requires g c =
    let h = some_is c.args.seat.now.me.0.kept c.requires.holds.0 in
    let e = some_is g.N.Naming.event c.requires.event in (
      search rules,
      search rules,
      adds _ _ _ _ _ _ _ h.0 _ e.0 e.1 c.requires.table.1 h.1
          c.requires.holds.1,
    )

pub returns-clause-own : goal.returns-clause-own
returns-clause-own g c =
    let h = some_is c.args.seat.now.me.0.kept c.requires.holds.0 in
    let t = c.fetch_add.ensures.2 h.0 h.1 in
    subst (λ m. AllStand m.0.seen (own_lists m.0)) (sym t.0) t.2
