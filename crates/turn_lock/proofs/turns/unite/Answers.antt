use Rattle.std.proofs.Common.{rules, arith, refl, sym, ◌≡◌, Some, ap, ◌∙◌, subst}
use mathlib.Core.List.{IsPrefix}
use Rattle.turn_lock.proofs.Keeping.{joins, learns, some_is}
use Rattle.turn_lock.specs.Rule.{own_lists}
use Rattle.turn_lock.proofs.Prefixes.{longer_prefix, shorter_prefix, both_prefix}
use Rattle.turn_lock.proofs.Owned.{all_beside, times_beside, total_beside}
use Rattle.turn_lock.proofs.turns.unite.Goals as goal

pub join_seat-requires : goal.join_seat-requires
join_seat-requires g c =
    let o = some_is c.args.seat.now.me.0.origin c.requires.ready.2 in
    let mine = own_lists c.args.seat.now.me.0 in
    let given = own_lists c.args.other.me.0 in (
      search rules,
      search rules,
      search rules,
      search rules,
      joins _ _ _ _ _ _ _ _ _ o.0 o.1 c.requires.ready.0 c.requires.other.0 c.requires.ready.1
          c.requires.other.1 refl refl c.requires.ready.0 c.requires.ready.1 refl refl refl refl
          (λ l p q. longer_prefix _ _ l p q) (λ l p q b. shorter_prefix _ _ l p q)
          (λ l p q. all_beside l mine given p q) (λ k. times_beside k mine given)
          (omega (arith, total_beside mine given)),
    )

pub load-requires : goal.load-requires
load-requires g c =
    let o = some_is c.args.seat.now.me.0.origin c.requires.ready.2 in
    let same : c.join_seat.new.seat.me.0.origin ≡ Some o.0 =
    ap (λ m. m.0.origin) c.join_seat.ensures.2 ∙ o.1 in
    (search rules, search rules, learns _ _ _ _ _ _ _ o.0 same)

pub returns-clause-begins : goal.returns-clause-begins
returns-clause-begins g c =
    let now = c.load.ensures.2.0 ∙ c.join_seat.ensures.2 in
    let begins = subst (λ m. IsPrefix m.0.beginning m.0.seen) c.join_seat.ensures.2
    c.load.ensures.2.2 in
    subst (λ m. IsPrefix c.args.seat.now.me.0.seen m.0.seen
    × IsPrefix c.args.other.me.0.seen m.0.seen) (sym now) (both_prefix _ _ begins)
