use Rattle.std.proofs.Common.{arith}
use Rattle.ber_shape.specs.List.{list_of}
use Rattle.ber_shape.specs.Lent.{values}
use Rattle.ber_shape.proofs.Lists.{each_fits, size_few, size_more, size_none, fits_more}
use Rattle.ber_shape.proofs.lending.list_size.Goals as goal

pub loop-item-init : goal.loop-item-init
loop-item-init g c =
    let f = g.E.Element.shape in
    let fits = each_fits f c.args.most c.args.octets.now c.slice.ensures c.requires.some in
    record {
      some = c.requires.some;
      each = fits.each;
      so_far = omega arith;
      small = size_few f c.args.most (values (list_of f c.args.most) c.args.octets.now) fits;
    }

pub loop-item-preserved : goal.loop-item-preserved
loop-item-preserved g c =
    let f = g.E.Element.shape in
    let rest = values (list_of f c.args.most) c.loop-item.rest.now in
    let others = values (list_of f c.args.most) c.in-Some.others.now in
    record {
      some = c.in-Some.ensures.1;
      each = (fits_more f rest others _ c.in-Some.ensures.0 c.loop-item.invariant.each).1;
      so_far = omega (
        arith,
        c.loop-item.invariant.so_far,
        size_more f rest others _ c.in-Some.ensures.0,
        c.size-size.ensures.exact,
      );
      small = c.loop-item.invariant.small;
    }

pub returns-clause-exact : goal.returns-clause-exact
returns-clause-exact g c =
    let f = g.E.Element.shape in
    omega (
      arith,
      c.loop-item.invariant.so_far,
      size_none f (values (list_of f c.args.most) c.loop-item.rest.now) c.in_default.ensures,
    )

pub overflow_add-size : goal.overflow_add-size
overflow_add-size g c =
    let f = g.E.Element.shape in
    let rest = values (list_of f c.args.most) c.loop-item.rest.now in
    let others = values (list_of f c.args.most) c.in-Some.others.now in
    omega (
      arith,
      c.loop-item.invariant.so_far,
      size_more f rest others _ c.in-Some.ensures.0,
      c.size-size.ensures.exact,
      c.loop-item.invariant.small,
      c.requires.small,
    )
