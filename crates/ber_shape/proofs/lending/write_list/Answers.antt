use Rattle.std.proofs.Common.{refl, arith}
use Rattle.ber_shape.specs.List.{list_of}
use Rattle.ber_shape.specs.Lent.{values}
use Rattle.ber_shape.proofs.Lists.{each_fits, size_more, size_none, fits_more, one_more, no_more}
use Rattle.ber_shape.proofs.lending.write_list.Goals as goal

pub loop-item-init : goal.loop-item-init
loop-item-init g c =
    let f = g.E.Element.shape in
    let fits = each_fits f c.args.most c.args.octets.now c.slice.ensures c.requires.some in
    record {
      some = c.requires.some;
      each = fits.each;
      octets = refl;
      room = refl;
      fits = c.requires.room;
    }

pub write-requires : goal.write-requires
write-requires g c κs =
    let f = g.E.Element.shape in
    let rest = values (list_of f c.args.most) c.loop-item.rest.now in
    let others = values (list_of f c.args.most) c.in-Some.others.now in (
      (refl, tt),
      (
        (fits_more f rest others _ c.in-Some.ensures.0 c.loop-item.invariant.each).0,
        (
          c.requires.each,
          omega (arith, c.loop-item.invariant.fits, size_more f rest others _ c.in-Some.ensures.0),
        ),
      ),
    )

pub loop-item-preserved : goal.loop-item-preserved
loop-item-preserved g c =
    let f = g.E.Element.shape in
    let rest = values (list_of f c.args.most) c.loop-item.rest.now in
    let others = values (list_of f c.args.most) c.in-Some.others.now in
    let sizes = size_more f rest others _ c.in-Some.ensures.0 in
    record {
      some = c.in-Some.ensures.1;
      each = (fits_more f rest others _ c.in-Some.ensures.0 c.loop-item.invariant.each).1;
      octets = one_more f c.loop-item.writer.octets c.write.new.writer.octets _ rest others _
          c.in-Some.ensures.0 c.write.ensures.0 c.loop-item.invariant.octets;
      room = omega (arith, sizes, c.loop-item.invariant.room, c.write.ensures.1);
      fits = omega (arith, sizes, c.loop-item.invariant.fits, c.write.ensures.1);
    }

pub returns : goal.returns
returns g c =
    let f = g.E.Element.shape in
    let rest = values (list_of f c.args.most) c.loop-item.rest.now in (
      no_more f c.loop-item.writer.octets _ rest c.in_default.ensures c.loop-item.invariant.octets,
      omega (arith, c.loop-item.invariant.room, size_none f rest c.in_default.ensures),
    )
