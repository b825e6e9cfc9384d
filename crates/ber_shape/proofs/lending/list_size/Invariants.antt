use Rattle.std.proofs.Common.{◌≡◌, ◌+◌, ◌≤◌, IsOk, length}
use Rattle.std.specs.List.{AllByRecursion}
use Rattle.ber_shape.specs.List.{list_of, many_at, times}
use Rattle.ber_shape.specs.Exact.{whole}
use Rattle.ber_shape.specs.Lent.{values}
use Rattle.ber_shape.proofs.Lists.{size}
use Rattle.ber_shape.proofs.lending.list_size.Given as goal

abbrev pub invariant-loop-item : goal.invariant-loop-item
invariant-loop-item g l =
    let f = g.E.Element.shape in
    record {
      some : IsOk (whole (many_at f.read l.most) l.rest);
      each : AllByRecursion f.Fits (values (list_of f l.most) l.rest);
      so_far : l.size + size f (values (list_of f l.most) l.rest)
          ≡ size f (values (list_of f l.most) l.octets);
      small : size f (values (list_of f l.most) l.octets) ≤ times l.most f.most;
    }

abbrev pub decreases-loop-item : goal.decreases-loop-item
decreases-loop-item g l = length (values (list_of g.E.Element.shape l.most) l.rest)
