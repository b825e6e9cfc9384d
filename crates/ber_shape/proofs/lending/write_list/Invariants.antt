use Rattle.std.proofs.Common.{◌≡◌, ◌+◌, ◌≤◌, ◌++◌, IsOk, length}
use Rattle.std.specs.List.{AllByRecursion}
use Rattle.ber_core.specs.Spelling.{canonical_all}
use Rattle.ber_shape.specs.List.{list_of, many_at, each_tree}
use Rattle.ber_shape.specs.Exact.{whole}
use Rattle.ber_shape.specs.Lent.{values}
use Rattle.ber_shape.proofs.Lists.{size}
use Rattle.ber_shape.proofs.lending.write_list.Given as goal

abbrev pub invariant-loop-item : goal.invariant-loop-item
invariant-loop-item g l =
    let f = g.E.Element.shape in
    record {
      some : IsOk (whole (many_at f.read l.most) l.rest);
      each : AllByRecursion f.Fits (values (list_of f l.most) l.rest);
      octets : l.writer.octets ++ canonical_all
          (each_tree f.tree (values (list_of f l.most) l.rest))
          ≡ l.fn.writer.octets ++ canonical_all
          (each_tree f.tree (values (list_of f l.most) l.octets));
      room : l.writer.room + size f (values (list_of f l.most) l.octets)
          ≡ l.fn.writer.room + size f (values (list_of f l.most) l.rest);
      fits : size f (values (list_of f l.most) l.rest) ≤ l.writer.room;
    }

abbrev pub decreases-loop-item : goal.decreases-loop-item
decreases-loop-item g l = length (values (list_of g.E.Element.shape l.most) l.rest)
