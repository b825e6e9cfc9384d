use Rattle.std.proofs.Common.{ap, refl, Some, ◌+◌}
use Rattle.isp1_tml.specs.Feeding.{Feeding, feeding_of}
use Rattle.isp1_tml.proofs.Standing.{stands_fed, stands_refused}
use Rattle.isp1_tml.proofs.Feedings.{Puts, put_whole, put_seen, put_refused}
use Rattle.isp1_tml.proofs.feeder.Feeder.feed.Goals as goal
use Rattle.isp1_tml.proofs.feeder.Feeder.feed.Goals.{After-further}

-- the piece was put behind what was held
puts : (c : After-further) → Puts c.self.inside.held.waiting c.args.piece.now c.octets.result.now
    c.put.new.self.waiting c.self.inside.place c.further.result c.self.inside.whole
    c.len-before.result c.min-taken.result
puts c = record {
  split = c.self.invariant;
  before = c.len-before.ensures.exact;
  count = c.min-taken.ensures;
  put = c.put.ensures;
  read = c.octets.ensures;
  place = c.further.ensures;
}

pub invariant_of-self : goal.invariant_of-self
invariant_of-self c = put_whole (puts (goal.at.invariant_of-self c).After-further)
    c.in-Ok.ensures.within c.in-Ok.ensures.stream

pub returns-in-Ok-clause-stream : goal.returns-in-Ok-clause-stream
returns-in-Ok-clause-stream c =
    let put = puts (goal.at.returns-in-Ok-clause-stream c).After-further in
    put_seen put c.self.view_is
    (put_whole put c.in-Ok.ensures.within c.in-Ok.ensures.stream).stream

pub returns-in-Err-clause-refused : goal.returns-in-Err-clause-refused
returns-in-Err-clause-refused c fresh =
    put_refused (puts (goal.at.returns-in-Err-clause-refused c).After-further) c.self.view_is
    c.in-Err.ensures.fault

pub returns-in-Ok-clause-so_far : goal.returns-in-Ok-clause-so_far
returns-in-Ok-clause-so_far c before given fresh stood =
    stands_fed c.args.self.now (feeding_of c.put.new.self.waiting
    (c.self.inside.whole + c.in-Ok.end) c.self.inside.place c.self.inside.fault)
    c.args.piece.now before given fresh stood (ap (λ (f : Feeding). f.place) c.self.view_is)
    c.in_default.is (returns-in-Ok-clause-stream c)

pub returns-in-Err-clause-so_far : goal.returns-in-Err-clause-so_far
returns-in-Err-clause-so_far c before given fresh stood =
    stands_refused c.args.self.now (feeding_of c.truncate.new.self.waiting c.self.inside.whole
    c.self.inside.place (Some c.in-Err.fault)) c.args.piece.now before given fresh stood
    (ap (λ (f : Feeding). f.place) c.self.view_is) c.in-Err.fault refl
    (returns-in-Err-clause-refused c fresh)
