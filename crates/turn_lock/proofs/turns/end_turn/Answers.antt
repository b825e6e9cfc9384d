use Rattle.std.proofs.Common.{rules, ◌≡◌, [], ◌∷◌, Some, sym, ap, ◌∙◌, subst}
use Rattle.atomic_table.specs.Table.{rest}
use Rattle.turn_lock.specs.Rule.{with_added}
use Rattle.turn_lock.specs.Steps.{list_of}
use Rattle.turn_lock.proofs.Keeping.{ends, some_is}
use Rattle.turn_lock.proofs.turns.end_turn.Goals as goal

pub fetch_add-requires : goal.fetch_add-requires
fetch_add-requires g c =
    let x = c.args.value in
    let now = c.exchange-out.ensures.3 in
    let h = some_is c.args.seat.now.me.0.kept c.requires.holds.1 in
    let carries : c.exchange-out.new.seat.me.1 ≡ (0, Some x) ∷ [] =
    ap (λ m. m.1) now ∙ ap (λ cs. (0, Some x) ∷ rest cs) c.requires.holds.0 in
    let value : c.exchange-out.new.seat.me.0.kept ≡ Some h.0 = ap (λ m. m.0.kept) now ∙ h.1 in
    let origin : c.exchange-out.new.seat.me.0.origin ≡ Some (g.T.StandsFor.origin x) =
    ap (λ m. m.0.origin) now ∙ c.requires.value.0 in
    let before = subst (λ k. g.T.StandsFor.stands x
    (with_added (list_of k) c.args.seat.now.me.0.added)) h.1 c.requires.value.1 in
    let stands = subst (λ m. g.T.StandsFor.stands x (with_added h.0 m.0.added))
    (sym now) before in (
      search rules,
      search rules,
      ends _ _ _ _ _ _ _ x h.0 c.requires.table.1 carries value origin
          stands,
    )
