use Rattle.std.proofs.Common.{◌≡◌, ℕ, ◌<◌, ◌≤◌, sym, subst, arith}
use Rattle.recorder_turns.specs.Steps.{worker}
use Rattle.recorder_turns.proofs.Going.{Going, going_none, going_on, records_all}
use Rattle.recorder_turns.proofs.Going.{records_broken, records_spent}
use Rattle.recorder_turns.proofs.working.recording.Goals as goal

more : (n m : ℕ) → 1 < n → n ≡ m → 1 < m
more n m some is = omega (arith, some, is)

few : (n m : ℕ) → n ≤ 1 → n ≡ m → m ≤ 1
few n m none is = omega (arith, none, is)

pub steps-init : goal.steps-init
steps-init g c =
    let lock = c.args.station.now in
    let w = worker c.args.archive.now c.args.frames.now c.args.pass.now in
    let gains = c.gains_compose.ensures in
    subst
    (λ t. Going g.D.Disk.pending g.D.Disk.makes g.D.Disk.fails g.F.FrameSource.answers lock t w w)
    (sym c.none-tally.ensures)
    (going_none g.D.Disk.pending g.D.Disk.makes g.D.Disk.fails g.F.FrameSource.answers lock
    (gains.one lock) (gains.both lock) (gains.none lock) g.D.Disk.faults g.D.Disk.fails_to_read
    g.F.FrameSource.faults w c.requires.ready c.requires.left c.requires.rests
    c.requires.opened)

pub returns-then-made-clause-records : goal.returns-then-made-clause-records
returns-then-made-clause-records g c =
    let lock = c.args.station.now in
    let gains = c.gains_compose.ensures in
    records_all g.D.Disk.pending g.D.Disk.makes g.D.Disk.fails g.F.FrameSource.answers lock
    (gains.one lock) (gains.both lock) (gains.none lock) g.D.Disk.faults g.D.Disk.fails_to_read
    g.F.FrameSource.faults c.steps.tally c.add.new.self c.in-Ok.made
    (worker c.args.archive.now c.args.frames.now c.args.pass.now)
    (worker c.steps.archive c.steps.frames c.steps.pass)
    (worker c.step.new.archive c.step.new.frames c.step.new.pass) c.steps.invariant
    (more c.left.result c.steps.pass.left c.steps-test.true c.left.ensures) c.in-Ok.ensures.ok
    c.add.ensures c.if-made.true

pub steps-preserved : goal.steps-preserved
steps-preserved g c =
    let lock = c.args.station.now in
    let gains = c.gains_compose.ensures in
    going_on g.D.Disk.pending g.D.Disk.makes g.D.Disk.fails g.F.FrameSource.answers lock
    (gains.one lock) (gains.both lock) c.steps.tally c.add.new.self c.in-Ok.made
    (worker c.args.archive.now c.args.frames.now c.args.pass.now)
    (worker c.steps.archive c.steps.frames c.steps.pass)
    (worker c.step.new.archive c.step.new.frames c.step.new.pass) c.steps.invariant
    (more c.left.result c.steps.pass.left c.steps-test.true c.left.ensures) c.in-Ok.ensures.ok
    c.add.ensures c.in-Ok.ensures.rests c.in-Ok.ensures.opened

pub returns-in-Err-clause-records : goal.returns-in-Err-clause-records
returns-in-Err-clause-records g c =
    let lock = c.args.station.now in
    let gains = c.gains_compose.ensures in
    records_broken g.D.Disk.pending g.D.Disk.makes g.D.Disk.fails g.F.FrameSource.answers lock
    (gains.one lock) (gains.both lock) (gains.none lock) g.D.Disk.faults g.D.Disk.fails_to_read
    g.F.FrameSource.faults c.in-Err.fault c.steps.tally
    (worker c.args.archive.now c.args.frames.now c.args.pass.now)
    (worker c.steps.archive c.steps.frames c.steps.pass)
    (worker c.step.new.archive c.step.new.frames c.step.new.pass) c.steps.invariant
    c.in-Err.ensures.err

pub returns-clause-records : goal.returns-clause-records
returns-clause-records g c =
    let lock = c.args.station.now in
    let gains = c.gains_compose.ensures in
    records_spent g.D.Disk.pending g.D.Disk.makes g.D.Disk.fails g.F.FrameSource.answers lock
    (gains.one lock) (gains.both lock) (gains.none lock) g.D.Disk.faults g.D.Disk.fails_to_read
    g.F.FrameSource.faults c.steps.tally
    (worker c.args.archive.now c.args.frames.now c.args.pass.now)
    (worker c.steps.archive c.steps.frames c.steps.pass) c.steps.invariant
    (few c.left.result c.steps.pass.left c.steps-test.false c.left.ensures)
