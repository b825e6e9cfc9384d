use Rattle.std.proofs.Common.{◌≡◌, ◌<◌, false, refl, Option, Some, None, rules}
use Rattle.cds_time.specs.declared.cds.TheConstants.{MOMENT_END}
use Rattle.station_law.specs.declared.said.SaidAt.{SaidAt}
use Rattle.station_law.specs.Doors.{act}
use Rattle.station_law.specs.State.{State}
use Rattle.station_law.specs.Lines.{connected}
use Rattle.station_law.specs.Standing.{Seen, AgreeUnless}
use Rattle.station_law.specs.Does.{IsTaken}
use Rattle.station_law.proofs.OneArchive.{agrees, agree_unless, acted_agrees}
use Rattle.station_law.proofs.Telling.{said_by, done_by, acted_taken, told, told_nothing, untold}
use Rattle.station_law.proofs.world.World.doors_line.Given.{Over}
use Rattle.station_law.proofs.world.World.doors_line.Goals as goal
use Rattle.station_law.proofs.world.World.doors_line.Goals.{In-Ok}

still_agrees : (g : Over) (c : In-Ok g) → (c.self.inside.clock < MOMENT_END) × AgreeUnless
    c.self.inside.recorder.is_spent c.self.inside.recorder.state c.act.new.self
still_agrees g c =
    let ready : c.self.inside.recorder.is_spent ≡ false = search rules in (
      c.self.invariant.0,
      agree_unless c.self.inside.recorder.is_spent c.self.inside.recorder.state c.act.new.self
          (λ runs. acted_agrees c.one_archive_stays.ensures.doors c.self.inside.recorder.state
          c.self.inside.clock c.args.line.now c.in-Ok.said c.self.inside.doors c.act.new.self
          (agrees _ _ _ ready c.self.invariant.1) c.in-Ok.ensures.acted),
    )

taken : (g : Over) (c : In-Ok g) (said : Option SaidAt) → c.in-Ok.said ≡ said
    → IsTaken (λ (state : State). connected state (act state.doors state.clock c.args.line.now))
    c.args.self.now (record {
      recorder = c.self.inside.recorder;
      clock = c.self.inside.clock;
      doors = c.act.new.self;
      uplink = c.self.inside.uplink;
    }) (said_by said) (done_by said)
taken g c said is =
    let seen : Seen = record {
      recorder = c.self.inside.recorder;
      clock = c.self.inside.clock;
      doors = c.self.inside.doors;
      uplink = c.self.inside.uplink;
    } in
    let new : Seen = record seen { doors = c.act.new.self } in
    let ready : c.self.inside.recorder.is_spent ≡ false = search rules in
    rw (← c.self.view_is) (acted_taken seen new refl refl ready refl c.args.line.now c.in-Ok.said said is
    c.in-Ok.ensures.acted)

pub returns-in_default-said-clause-does : goal.returns-in_default-said-clause-does
returns-in_default-said-clause-does g c =
    told_nothing (taken g (goal.at.returns-in_default-said-clause-does g c).In-Ok
    None c.in_default-said.is) _ _

pub returns-in_err-put-clause-does : goal.returns-in_err-put-clause-does
returns-in_err-put-clause-does g c =
    untold (taken g (goal.at.returns-in_err-put-clause-does g c).In-Ok
    (Some c.in-Some.said) c.in-Some.is) _ _ _ _
    c.in_err-put.field-0.0 c.from_residual.result c.from_residual.ensures.1 c.in_err-put.ensures

pub returns-clause-does : goal.returns-clause-does
returns-clause-does g c = told (taken g (goal.at.returns-clause-does g c).In-Ok
    (Some c.in-Some.said) c.in-Some.is) _ _ _ _ _ c.in_ok-put.ensures

pub invariant_of-self-in_default-said : goal.invariant_of-self-in_default-said
invariant_of-self-in_default-said g c =
    still_agrees g (goal.at.invariant_of-self-in_default-said g c).In-Ok

pub invariant_of-self-in_err-put : goal.invariant_of-self-in_err-put
invariant_of-self-in_err-put g c = still_agrees g (goal.at.invariant_of-self-in_err-put g c).In-Ok

pub invariant_of-self-2 : goal.invariant_of-self-2
invariant_of-self-2 g c = still_agrees g (goal.at.invariant_of-self-2 g c).In-Ok
