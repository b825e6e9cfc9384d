use Rattle.std.proofs.Common.{refl, ◌∙◌, arith}
use Rattle.ber_shape.specs.Exact.{deeper}
use Rattle.ber_shape.proofs.Lists.{lending_some, lent_again}
use Rattle.ber_shape.proofs.lending.lend_some.Goals as goal

pub since-requires : goal.since-requires
since-requires g c =
    let lent = lending_some g.E.Element.shape c.args.more c.args.reader.now c.read.new.reader
    c.pass_over.new.reader _ (deeper g.E.Element.shape.levels g.E.Element.is_shallow)
    c.octets.ensures.slice c.place-start.ensures.shallow
    c.in_ok-read.ensures.exact c.in_ok-pass_over.ensures.exact in
    omega (arith, lent.onward, c.place-start.ensures.exact)

pub returns-clause-exact : goal.returns-clause-exact
returns-clause-exact g c =
    let f = g.E.Element.shape in
    let lent = lending_some f c.args.more c.args.reader.now c.read.new.reader c.pass_over.new.reader
    _ (deeper g.E.Element.shape.levels g.E.Element.is_shallow) c.octets.ensures.slice
    c.place-start.ensures.shallow c.in_ok-read.ensures.exact
    c.in_ok-pass_over.ensures.exact in (
      lent.values,
      lent.is,
      lent_again f _ c.args.reader.now c.pass_over.new.reader c.pass_over.new.reader.octets
          c.since.result.now c.place-start.result c.pass_over.new.reader.place lent.values
          (c.pass_over.ensures.octets ∙ c.read.ensures.octets) c.place-start.ensures.exact refl
          c.since.ensures lent.again,
    )
