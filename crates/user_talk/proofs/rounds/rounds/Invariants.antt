use Rattle.std.proofs.Common.{◌≡◌, length}
use Rattle.user_talk.specs.Running.{world, GoesOn}
use Rattle.user_talk.specs.declared.rounds.TheConstants.{PIECE_OCTETS}
use Rattle.user_talk.proofs.rounds.rounds.Given as goal

abbrev pub invariant-loop : goal.invariant-loop
invariant-loop g l = record {
  piece : length l.piece ≡ PIECE_OCTETS;
  goes : GoesOn g.L.Link.calls g.L.Link.faults g.C.Clock.readings
      g.E.EndRequest.answers g.O.Sink.written g.O.Sink.faults
      l.counter l.initial.talk l.talk
      (world l.initial.link l.initial.clock l.initial.end l.initial.output) (world l.link l.clock
      l.end l.output);
}
