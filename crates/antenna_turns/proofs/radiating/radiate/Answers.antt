use Rattle.std.proofs.Common.{true, false}
use Rattle.antenna_turns.specs.Radiating.{worker}
use Rattle.antenna_turns.specs.declared.stepping.AntennaStep.TheVariants.{Idle, Waits, Expired}
use Rattle.antenna_turns.specs.declared.stepping.AntennaStep.TheVariants.{Sent, Failed}
use Rattle.antenna_turns.proofs.Working.{going_none, going_on, idle_as, less_by}
use Rattle.antenna_turns.proofs.Working.{radiates_all}
use Rattle.antenna_turns.proofs.radiating.radiate.Goals as goal

pub steps-init : goal.steps-init
steps-init g c =
    going_none g.A.Antenna.sent g.A.Antenna.faults g.C.Clock.readings c.args.station.now
    (worker c.args.antenna.now c.args.clock.now c.args.pass.now)
    (c.gains_compose.ensures.none c.args.station.now c.args.pass.now c.requires.ready)
    (c.readings_compose.ensures.none (g.C.Clock.readings c.args.clock.now))

pub returns-in-Idle-true-clause-radiates : goal.returns-in-Idle-true-clause-radiates
returns-in-Idle-true-clause-radiates g c =
    radiates_all g.A.Antenna.sent g.A.Antenna.faults g.C.Clock.readings c.args.station.now
    (c.gains_compose.ensures.both c.args.station.now) c.readings_compose.ensures.both
    c.steps.counts (worker c.args.antenna.now c.args.clock.now c.args.pass.now)
    (worker c.steps.antenna c.steps.clock c.steps.pass)
    (worker c.antenna_step.new.antenna c.antenna_step.new.clock c.antenna_step.new.pass)
    c.steps.invariant (idle_as g.A.Antenna.sent g.A.Antenna.faults g.C.Clock.readings c.args.station.now
    c.in-Idle-true.all_gone true (worker c.steps.antenna c.steps.clock c.steps.pass)
    (worker c.antenna_step.new.antenna c.antenna_step.new.clock c.antenna_step.new.pass)
    c.in-Idle-true.all_gone-test c.in-Idle-true.ensures.works)

pub steps-smaller-in-Idle-false : goal.steps-smaller-in-Idle-false
steps-smaller-in-Idle-false g c =
    less_by g.A.Antenna.sent g.A.Antenna.faults g.C.Clock.readings c.args.station.now
    (c.gains_compose.ensures.both c.args.station.now) c.readings_compose.ensures.both (Idle false)
    (worker c.steps.antenna c.steps.clock c.steps.pass)
    (worker c.antenna_step.new.antenna c.antenna_step.new.clock c.antenna_step.new.pass)
    (idle_as g.A.Antenna.sent g.A.Antenna.faults g.C.Clock.readings c.args.station.now
    c.in-Idle-false.all_gone false (worker c.steps.antenna c.steps.clock c.steps.pass)
    (worker c.antenna_step.new.antenna c.antenna_step.new.clock c.antenna_step.new.pass)
    c.in-Idle-false.all_gone-test c.in-Idle-false.ensures.works)

pub steps-preserved-in-Idle-false : goal.steps-preserved-in-Idle-false
steps-preserved-in-Idle-false g c =
    going_on g.A.Antenna.sent g.A.Antenna.faults g.C.Clock.readings c.args.station.now
    (c.gains_compose.ensures.both c.args.station.now) c.readings_compose.ensures.both
    c.steps.counts (Idle false) (worker c.args.antenna.now c.args.clock.now c.args.pass.now)
    (worker c.steps.antenna c.steps.clock c.steps.pass)
    (worker c.antenna_step.new.antenna c.antenna_step.new.clock c.antenna_step.new.pass)
    c.steps.invariant (idle_as g.A.Antenna.sent g.A.Antenna.faults g.C.Clock.readings c.args.station.now
    c.in-Idle-false.all_gone false (worker c.steps.antenna c.steps.clock c.steps.pass)
    (worker c.antenna_step.new.antenna c.antenna_step.new.clock c.antenna_step.new.pass)
    c.in-Idle-false.all_gone-test c.in-Idle-false.ensures.works)

pub steps-smaller-in-Waits : goal.steps-smaller-in-Waits
steps-smaller-in-Waits g c =
    less_by g.A.Antenna.sent g.A.Antenna.faults g.C.Clock.readings c.args.station.now
    (c.gains_compose.ensures.both c.args.station.now) c.readings_compose.ensures.both (Waits c.in-Waits.until)
    (worker c.steps.antenna c.steps.clock c.steps.pass)
    (worker c.antenna_step.new.antenna c.antenna_step.new.clock c.antenna_step.new.pass)
    c.in-Waits.ensures.works

pub steps-preserved-in-Waits : goal.steps-preserved-in-Waits
steps-preserved-in-Waits g c =
    going_on g.A.Antenna.sent g.A.Antenna.faults g.C.Clock.readings c.args.station.now
    (c.gains_compose.ensures.both c.args.station.now) c.readings_compose.ensures.both
    c.steps.counts (Waits c.in-Waits.until) (worker c.args.antenna.now c.args.clock.now c.args.pass.now)
    (worker c.steps.antenna c.steps.clock c.steps.pass)
    (worker c.antenna_step.new.antenna c.antenna_step.new.clock c.antenna_step.new.pass)
    c.steps.invariant c.in-Waits.ensures.works

pub steps-smaller-in-Expired : goal.steps-smaller-in-Expired
steps-smaller-in-Expired g c =
    less_by g.A.Antenna.sent g.A.Antenna.faults g.C.Clock.readings c.args.station.now
    (c.gains_compose.ensures.both c.args.station.now) c.readings_compose.ensures.both (Expired c.in-Expired.id)
    (worker c.steps.antenna c.steps.clock c.steps.pass)
    (worker c.antenna_step.new.antenna c.antenna_step.new.clock c.antenna_step.new.pass)
    c.in-Expired.ensures.works

pub steps-preserved-in-Expired : goal.steps-preserved-in-Expired
steps-preserved-in-Expired g c =
    going_on g.A.Antenna.sent g.A.Antenna.faults g.C.Clock.readings c.args.station.now
    (c.gains_compose.ensures.both c.args.station.now) c.readings_compose.ensures.both
    c.steps.counts (Expired c.in-Expired.id) (worker c.args.antenna.now c.args.clock.now c.args.pass.now)
    (worker c.steps.antenna c.steps.clock c.steps.pass)
    (worker c.antenna_step.new.antenna c.antenna_step.new.clock c.antenna_step.new.pass)
    c.steps.invariant c.in-Expired.ensures.works

pub steps-smaller-in-Sent : goal.steps-smaller-in-Sent
steps-smaller-in-Sent g c =
    less_by g.A.Antenna.sent g.A.Antenna.faults g.C.Clock.readings c.args.station.now
    (c.gains_compose.ensures.both c.args.station.now) c.readings_compose.ensures.both (Sent c.in-Sent.id)
    (worker c.steps.antenna c.steps.clock c.steps.pass)
    (worker c.antenna_step.new.antenna c.antenna_step.new.clock c.antenna_step.new.pass)
    c.in-Sent.ensures.works

pub steps-preserved-in-Sent : goal.steps-preserved-in-Sent
steps-preserved-in-Sent g c =
    going_on g.A.Antenna.sent g.A.Antenna.faults g.C.Clock.readings c.args.station.now
    (c.gains_compose.ensures.both c.args.station.now) c.readings_compose.ensures.both
    c.steps.counts (Sent c.in-Sent.id) (worker c.args.antenna.now c.args.clock.now c.args.pass.now)
    (worker c.steps.antenna c.steps.clock c.steps.pass)
    (worker c.antenna_step.new.antenna c.antenna_step.new.clock c.antenna_step.new.pass)
    c.steps.invariant c.in-Sent.ensures.works

pub steps-smaller : goal.steps-smaller
steps-smaller g c =
    less_by g.A.Antenna.sent g.A.Antenna.faults g.C.Clock.readings c.args.station.now
    (c.gains_compose.ensures.both c.args.station.now) c.readings_compose.ensures.both (Failed c.in-Failed.id)
    (worker c.steps.antenna c.steps.clock c.steps.pass)
    (worker c.antenna_step.new.antenna c.antenna_step.new.clock c.antenna_step.new.pass)
    c.in-Failed.ensures.works

pub steps-preserved : goal.steps-preserved
steps-preserved g c =
    going_on g.A.Antenna.sent g.A.Antenna.faults g.C.Clock.readings c.args.station.now
    (c.gains_compose.ensures.both c.args.station.now) c.readings_compose.ensures.both
    c.steps.counts (Failed c.in-Failed.id) (worker c.args.antenna.now c.args.clock.now c.args.pass.now)
    (worker c.steps.antenna c.steps.clock c.steps.pass)
    (worker c.antenna_step.new.antenna c.antenna_step.new.clock c.antenna_step.new.pass)
    c.steps.invariant c.in-Failed.ensures.works
