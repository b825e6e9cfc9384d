use Rattle.session_turns.specs.Rounds.{worker}
use Rattle.session_turns.proofs.Running.{GoingOn}
use Rattle.session_turns.proofs.rounds.rounds.Given as goal

abbrev pub invariant-rounds : goal.invariant-rounds
invariant-rounds g l =
    GoingOn g.L.Link.calls g.L.Link.faults g.C.Clock.readings l.station l.site l.initial.session
    l.session (worker l.initial.link l.initial.clock l.initial.pass)
    (worker l.link l.clock l.pass)

abbrev pub decreases-rounds : goal.decreases-rounds
decreases-rounds g l = l.pass.left
