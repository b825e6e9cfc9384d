use Rattle.std.proofs.Common.{◌≡◌, ℕ, ◌+◌, ◌<◌, ◌≤◌, sym, ◌∙◌, arith}
use Rattle.session_turns.specs.Rounds.{worker}
use Rattle.session_turns.proofs.Running.{ran_none, ran_now, broke_now, going_on}
use Rattle.session_turns.proofs.rounds.rounds.Goals as goal

pub rounds-init : goal.rounds-init
rounds-init g c = record {
  ran = ran_none g.L.Link.calls g.L.Link.faults g.C.Clock.readings c.args.station.now
      c.args.site.now c.args.session.now
      (worker c.args.link.now c.args.clock.now c.args.pass.now)
      (c.gains_compose.ensures.none c.args.station.now c.args.pass.now c.requires.ready)
      (c.readings_compose.ensures.none (g.C.Clock.readings c.args.clock.now));
  goes = c.requires.going;
  ready = c.requires.ready;
  left = c.requires.left;
}

pub returns-in-Ok-Ended-clause-ran : goal.returns-in-Ok-Ended-clause-ran
returns-in-Ok-Ended-clause-ran g c = (
  ran_now g.L.Link.calls g.L.Link.faults g.C.Clock.readings c.args.station.now
      c.args.site.now (c.gains_compose.ensures.both c.args.station.now)
      c.readings_compose.ensures.both c.args.session.now c.rounds.session c.round.new.session
      (worker c.args.link.now c.args.clock.now c.args.pass.now)
      (worker c.rounds.link c.rounds.clock c.rounds.pass)
      (worker c.round.new.link c.round.new.clock c.round.new.pass) c.rounds.invariant.ran
      c.in-Ok-Ended.ensures.ran,
  sym c.in-Ok-Ended.ensures.outcome ∙ c.in-Ok-Ended.field-0-is,
)

pub returns-in-Ok-LinkFault-clause-ran : goal.returns-in-Ok-LinkFault-clause-ran
returns-in-Ok-LinkFault-clause-ran g c = (
  ran_now g.L.Link.calls g.L.Link.faults g.C.Clock.readings c.args.station.now
      c.args.site.now (c.gains_compose.ensures.both c.args.station.now)
      c.readings_compose.ensures.both c.args.session.now c.rounds.session c.round.new.session
      (worker c.args.link.now c.args.clock.now c.args.pass.now)
      (worker c.rounds.link c.rounds.clock c.rounds.pass)
      (worker c.round.new.link c.round.new.clock c.round.new.pass) c.rounds.invariant.ran
      c.in-Ok-LinkFault.ensures.ran,
  sym c.in-Ok-LinkFault.ensures.outcome ∙ c.in-Ok-LinkFault.field-0-is,
)

pub returns-in-Err-clause-ran : goal.returns-in-Err-clause-ran
returns-in-Err-clause-ran g c =
    broke_now g.L.Link.calls g.L.Link.faults g.C.Clock.readings c.args.station.now
    c.args.site.now (c.gains_compose.ensures.both c.args.station.now)
    c.readings_compose.ensures.both c.args.session.now c.rounds.session
    (worker c.args.link.now c.args.clock.now c.args.pass.now)
    (worker c.rounds.link c.rounds.clock c.rounds.pass)
    (worker c.round.new.link c.round.new.clock c.round.new.pass) c.rounds.invariant.ran
    c.in-Err.ensures.broke

-- behind one of more than two turns two are left
two : (n m k : ℕ) → 2 < n → n ≡ m → k + 1 ≡ m → 2 ≤ k
two n m k some is turn = omega (arith, some, is, turn)

pub rounds-preserved : goal.rounds-preserved
rounds-preserved g c =
    going_on g.L.Link.calls g.L.Link.faults g.C.Clock.readings c.args.station.now
    c.args.site.now (c.gains_compose.ensures.both c.args.station.now)
    c.readings_compose.ensures.both c.args.session.now c.rounds.session c.round.new.session
    (worker c.args.link.now c.args.clock.now c.args.pass.now)
    (worker c.rounds.link c.rounds.clock c.rounds.pass)
    (worker c.round.new.link c.round.new.clock c.round.new.pass) c.rounds.invariant
    c.in-Ok-Going.ensures.ran (sym c.in-Ok-Going.ensures.outcome ∙ c.in-Ok-Going.field-0-is)
    (two c.left.result c.rounds.pass.left c.round.new.pass.left c.rounds-test.true
    c.left.ensures c.round.ensures.turns)
