use Rattle.std.proofs.Common.{◌≡◌, length, sym, ap, ◌∙◌, arith, append_assoc}
use Rattle.std.proofs.lemmas.List.{map-append}
use Rattle.std.specs.Vec.Iter.{into_iter_items}
use Rattle.frame_select.specs.Item as select
use Rattle.return_core.proofs.Filling.{is_filled, goes_in, with_put-more}
use Rattle.return_core.proofs.held_items.HeldItems.put_all.Goals as goal

pub returns-then-not-takes_more : goal.returns-then-not-takes_more
returns-then-not-takes_more c =
    let law = c.buffer_takes_what_fits.ensures in
    let at = c.loop-item in
    let filled = is_filled c.args.self.now c.args.items at.yielded
    (into_iter_items at.item-iterator) c.args.now at.self
    (record { within = law.within; passes = law.open; greatest = law.greatest })
    at.invariant.whole at.invariant.put at.invariant.fits
    (λ _. sym c.takes_more.ensures ∙ c.if-not-takes_more.true) in
    record { after = filled.0; all = grind (arith, filled.1, c.in-Some.ensures.steps.0) }

pub loop-item-preserved : goal.loop-item-preserved
loop-item-preserved c =
    let at = c.loop-item in
    let law = c.buffer_takes_what_fits.ensures in
    let steps = c.in-Some.ensures.steps in
    let whole = rw steps.0 at at.invariant.whole in
    record {
      whole = rw append_assoc whole;
      left = (let was = at.invariant.left in let short = ap length steps.0 in omega arith);
      put = rw (
        map-append,
        ← with_put-more c.args.self.now (select.items_of at.yielded)
            (select.item_of c.in-Some.item) c.args.now,
      ) (rw at.invariant.put at c.put.ensures);
      fits = goes_in c.args.self.now c.args.items at.yielded _ _ c.args.now at.self
          (record { within = law.within; passes = law.open; greatest = law.greatest })
          whole at.invariant.put (sym c.takes_more.ensures ∙ c.if-not-takes_more.false);
    }

pub returns : goal.returns
returns c =
    let law = c.buffer_takes_what_fits.ensures in
    let at = c.loop-item in
    let none : length (into_iter_items at.item-iterator) ≡ 0 = sym at.invariant.left
    ∙ c.in-None.ensures.steps.0 in
    let filled = is_filled c.args.self.now c.args.items at.yielded
    (into_iter_items at.item-iterator) c.args.now at.self
    (record { within = law.within; passes = law.open; greatest = law.greatest })
    at.invariant.whole at.invariant.put at.invariant.fits (λ some. absurd (omega arith)) in
    record { after = filled.0; all = rw none at filled.1 }
