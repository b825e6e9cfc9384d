use Rattle.std.proofs.Common.{◌≡◌, ℕ, ◌+◌, ◌<◌, ◌≤◌, [], ◌∷◌, refl, subst, arith}
use Rattle.octet_core.specs.Told.{Tells}
use Rattle.station_book.specs.State.{take, done, interrupted}
use Rattle.antenna_turns.specs.Radiating.{worker}
use Rattle.antenna_turns.proofs.Working.{rests_once, radiated_once, broke_once}
use Rattle.antenna_turns.proofs.stepping.antenna_step.Goals as goal

some : (n : ℕ) → 2 ≤ n → 0 < n
some n two = omega (arith, two)

-- behind one of two turns another is left
other : (n m : ℕ) → 2 ≤ n → m + 1 ≡ n → 0 < m
other n m two is = omega (arith, two, is)

pub returns-in-Err-clause-works : goal.returns-in-Err-clause-works
returns-in-Err-clause-works g c =
    let lock = c.args.station.now in
    let taking = c.take-taking.ensures in
    rests_once g.A.Antenna.sent g.A.Antenna.faults g.C.Clock.readings lock
    c.read-reading.result c.take-taking.result.taken c.take-taking.result.all_gone
    c.in-Err.step (worker c.args.antenna.now c.args.clock.now c.args.pass.now)
    (worker c.args.antenna.now c.read-reading.new.clock c.take-taking.new.pass) refl taking
    c.in-Err.ensures.rests (c.gains_compose.ensures.one lock (take c.read-reading.result)
    c.args.pass.now c.take-taking.new.pass c.requires.ready
    (some c.args.pass.now.left c.requires.left) taking.makes) c.read-reading.ensures.told

pub returns-in-Ok-sent-clause-works : goal.returns-in-Ok-sent-clause-works
returns-in-Ok-sent-clause-works g c =
    let lock = c.args.station.now in
    let taking = c.take-taking.ensures in
    let one = c.gains_compose.ensures.one in
    let first = one lock (take c.read-reading.result) c.args.pass.now c.take-taking.new.pass
    c.requires.ready (some c.args.pass.now.left c.requires.left) taking.makes in
    let second = one lock
    (done c.in-Ok.radiation.run c.in-Ok.radiation.id c.read-ended.result)
    c.take-taking.new.pass c.done.new.pass first.ready
    (other c.args.pass.now.left c.take-taking.new.pass.left c.requires.left first.left)
    c.done.ensures in
    radiated_once g.A.Antenna.sent g.A.Antenna.faults g.C.Clock.readings lock
    c.read-reading.result c.read-ended.result c.in-Ok.radiation.run c.in-Ok.radiation.id
    c.in-Ok.radiation.octets c.take-taking.result.taken c.take-taking.result.all_gone
    (worker c.args.antenna.now c.args.clock.now c.args.pass.now)
    (worker c.send-sent.new.self c.read-ended.new.clock c.done.new.pass)
    c.take-taking.new.pass taking c.in-Ok.ensures.radiates c.done.ensures
    (c.gains_compose.ensures.both lock 1 1 _ _ c.args.pass.now c.take-taking.new.pass
    c.done.new.pass first second)
    (c.readings_compose.ensures.both _ _ _ _ _ c.read-reading.ensures.told
    c.read-ended.ensures.told)
    (subst (λ o. Tells (g.A.Antenna.sent c.args.antenna.now)
    (g.A.Antenna.sent c.send-sent.new.self) (o ∷ [])) c.as_slice.ensures
    c.in-Ok-sent.ensures.told) c.in-Ok-sent.ensures.faults.kept

pub returns-clause-works : goal.returns-clause-works
returns-clause-works g c =
    let lock = c.args.station.now in
    let taking = c.take-taking.ensures in
    let one = c.gains_compose.ensures.one in
    let first = one lock (take c.read-reading.result) c.args.pass.now c.take-taking.new.pass
    c.requires.ready (some c.args.pass.now.left c.requires.left) taking.makes in
    let second = one lock
    (interrupted c.in-Ok.radiation.run c.in-Ok.radiation.id c.read-ended.result)
    c.take-taking.new.pass c.interrupted.new.pass first.ready
    (other c.args.pass.now.left c.take-taking.new.pass.left c.requires.left first.left)
    c.interrupted.ensures in
    broke_once g.A.Antenna.sent g.A.Antenna.faults g.C.Clock.readings lock
    c.read-reading.result c.read-ended.result c.in-Ok.radiation.run c.in-Ok.radiation.id
    c.in-Ok.radiation.octets c.take-taking.result.taken c.take-taking.result.all_gone
    (worker c.args.antenna.now c.args.clock.now c.args.pass.now)
    (worker c.send-sent.new.self c.read-ended.new.clock c.interrupted.new.pass)
    c.take-taking.new.pass taking c.in-Ok.ensures.radiates c.interrupted.ensures
    (c.gains_compose.ensures.both lock 1 1 _ _ c.args.pass.now c.take-taking.new.pass
    c.interrupted.new.pass first second)
    (c.readings_compose.ensures.both _ _ _ _ _ c.read-reading.ensures.told
    c.read-ended.ensures.told) c.in-Err-sent.ensures.told
    c.in-Err-sent.ensures.faults.never_falls c.in-Err-sent.ensures.faults.raised
