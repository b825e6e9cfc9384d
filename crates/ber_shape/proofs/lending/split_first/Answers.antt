use Rattle.std.proofs.Common.{◌≡◌, ◌↔◌, IsTrue, sym, ◌∙◌, ap, subst}
use Rattle.ber_shape.specs.Exact.{deeper}
use Rattle.ber_shape.specs.Lent.{or_none}
use Rattle.ber_core.specs.View.{View, end_of}
use Rattle.ber_shape.proofs.Lists.{none_first, no_fault, first, split_so}
use Rattle.ber_shape.proofs.lending.split_first.Goals as goal

pub returns-then-at_end : goal.returns-then-at_end
returns-then-at_end g c = ap or_none (none_first g.E.Element.shape c.args.most c.args.octets.now
    (subst (λ (v : View). v.place ≡ end_of v) c.new-reader.ensures
    (c.at_end.ensures.0 c.if-at_end.true)))

pub returns-in_default : goal.returns-in_default
returns-in_default g c =
    absurd (no_fault g.E.Element.shape c.args.most c.args.octets.now c.in_default.field-0
    c.at_end.result c.requires
    (subst (λ (v : View). IsTrue c.at_end.result ↔ (v.place ≡ end_of v)) c.new-reader.ensures
    c.at_end.ensures) c.if-at_end.false
    (ap g.E.Element.shape.read (sym c.new-reader.ensures) ∙ c.in_default.ensures.exact))

pub returns : goal.returns
returns g c =
    let found = first g.E.Element.shape c.args.most c.args.octets.now _ c.read.new.reader
    c.at_end.result (deeper g.E.Element.shape.levels g.E.Element.is_shallow) c.slice.ensures
    c.requires
    (subst (λ (v : View). IsTrue c.at_end.result ↔ (v.place ≡ end_of v)) c.new-reader.ensures
    c.at_end.ensures) c.if-at_end.false
    (ap g.E.Element.shape.read (sym c.new-reader.ensures) ∙ c.in-Ok.ensures.exact) in
    split_so g.E.Element.shape c.args.most c.args.octets.now _ _ found.others found.is
    (rw c.place.ensures.exact found.rest)
