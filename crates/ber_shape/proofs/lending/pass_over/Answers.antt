use Rattle.std.proofs.Common.{sym, ◌∙◌, ◌-◌}
use Rattle.std.proofs.lemmas.Result.{err_from_is_err_and}
use Rattle.ber_shape.specs.Lent.{passed}
use Rattle.ber_shape.specs.List.{many_at}
use Rattle.ber_shape.proofs.Lists.{ended_passed, goes_on, stops, ends}
use Rattle.ber_shape.proofs.lending.pass_over.Goals as goal

pub returns-then-at_end-clause-exact : goal.returns-then-at_end-clause-exact
returns-then-at_end-clause-exact g c = sym c.loop.invariant.going
    ∙ ended_passed g.E.Element.shape (c.args.most - c.loop.counter) c.loop.reader
    (c.at_end.ensures.0 c.if-at_end.true)

pub returns-in_err-read-clause-exact : goal.returns-in_err-read-clause-exact
returns-in_err-read-clause-exact g c =
    let p = err_from_is_err_and c.from_residual.result c.from_residual.ensures.1 in
    rw (p.1, p.2) (stops g.E.Element.shape c.args.most c.loop.counter c.at_end.result c.loop.reader
    c.in_err-read.field-0.0 (passed (many_at g.E.Element.shape.read c.args.most
    c.args.reader.now)) c.loop-test.true c.at_end.ensures c.if-at_end.false
    c.in_err-read.ensures.exact c.loop.invariant.going)

pub loop-preserved : goal.loop-preserved
loop-preserved g c = record {
  going = goes_on g.E.Element.shape c.args.most c.loop.counter c.at_end.result c.loop.reader
      c.read.new.reader _ (passed (many_at g.E.Element.shape.read c.args.most c.args.reader.now))
      c.loop-test.true c.at_end.ensures c.if-at_end.false
      c.in_ok-read.ensures.exact c.loop.invariant.going;
  octets = c.read.ensures.octets ∙ c.loop.invariant.octets;
}

pub returns-clause-exact : goal.returns-clause-exact
returns-clause-exact g c = ends g.E.Element.shape c.args.most c.loop.counter c.loop.reader
    (passed (many_at g.E.Element.shape.read c.args.most c.args.reader.now)) c.loop-test.false
    c.loop.invariant.going
