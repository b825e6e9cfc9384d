use Rattle.std.proofs.Common.{◌≡◌, false, refl, rules}
use Rattle.station_law.specs.State.{State}
use Rattle.station_law.specs.Lines.{uplinked, turn_at}
use Rattle.station_law.specs.Standing.{Seen}
use Rattle.script_store.specs.Outcomes.{said_of_turn, done_of_turn}
use Rattle.station_law.specs.Does.{IsTaken}
use Rattle.station_law.proofs.OneArchive.{agrees, agree_unless, turned_agrees}
use Rattle.station_law.proofs.Telling.{turned_taken, told_or_not}
use Rattle.station_law.proofs.world.World.uplink_line.Goals as goal

pub invariant_of-self : goal.invariant_of-self
invariant_of-self g c =
    let ready : c.self.inside.recorder.is_spent ≡ false = search rules in (
      c.self.invariant.0,
      agree_unless c.self.inside.recorder.is_spent c.self.inside.recorder.state c.turn-how.new.self
          (λ runs. turned_agrees c.self.inside.recorder.state c.self.inside.doors c.turn-how.new.self
          (agrees _ _ _ ready c.self.invariant.1) c.turn-how.ensures.rest c.turn-how.ensures.published),
    )

pub returns-clause-does : goal.returns-clause-does
returns-clause-does g c =
    let seen : Seen = record {
      recorder = c.self.inside.recorder;
      clock = c.self.inside.clock;
      doors = c.self.inside.doors;
      uplink = c.self.inside.uplink;
    } in
    let new : Seen = record seen { doors = c.turn-how.new.self; uplink = c.turn-how.new.uplink } in
    let ready : c.self.inside.recorder.is_spent ≡ false = search rules in
    let taken : IsTaken (λ (state : State). uplinked state (turn_at state c.args.turn)) seen new
    (said_of_turn c.turn-how.result) (done_of_turn c.turn-how.result) =
    turned_taken seen new refl refl ready c.turn-how.ensures.rest c.args.turn c.turn-how.result
    c.turn-how.ensures.turned in
    rw (← c.self.view_is) (told_or_not taken _ _ _ _ _ c.put_turn.ensures.written
    c.put_turn.ensures.done)
