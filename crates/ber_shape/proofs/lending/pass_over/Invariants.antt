use Rattle.std.proofs.Common.{◌≡◌, ◌-◌}
use Rattle.ber_shape.specs.Lent.{passed}
use Rattle.ber_shape.specs.List.{many_at}
use Rattle.ber_shape.proofs.lending.pass_over.Given as goal

abbrev pub invariant-loop : goal.invariant-loop
invariant-loop g l = record {
  going : passed (many_at g.E.Element.shape.read (l.most - l.counter) l.reader)
      ≡ passed (many_at g.E.Element.shape.read l.most l.fn.reader);
  octets : l.reader.octets ≡ l.fn.reader.octets;
}
