use Rattle.std.proofs.Common.{inl, List, [], refl, subst}
use Rattle.archive_terms.specs.Archive.{Entry}
use Rattle.recorder.specs.Polling.{Gave}
use Rattle.recorder.specs.Steps.{IsLeft}
use Rattle.recorder.specs.declared.record_fault.RecordFault.{RecordFault}
use Rattle.recorder_turns.specs.Steps.{worker}
use Rattle.recorder_turns.proofs.Broken.{broke_published}
use Rattle.recorder_turns.proofs.step.step.Goals as goal

pub returns-in-Ok-clause-err : goal.returns-in-Ok-clause-err
returns-in-Ok-clause-err g c =
    let answer = c.in-Ok.ensures.answer in
    broke_published g.D.Disk.pending g.D.Disk.faults g.D.Disk.makes g.D.Disk.fails
    g.D.Disk.fails_to_read g.F.FrameSource.answers g.F.FrameSource.faults c.args.station.now
    c.publish_stored.result c.in-Ok.recorded
    (worker c.args.archive.now c.args.frames.now c.args.pass.now)
    (worker c.record_step.new.archive c.record_step.new.frames c.publish_stored.new.pass)
    (record {
      polled = answer.0;
      is_polled = answer.1;
      counted = answer.2;
      stored = answer.3;
      acknowledged = c.in-Ok.ensures.acknowledged;
      taken = answer.4;
    })
    (λ call. c.gains_compose.ensures.one c.args.station.now call c.args.pass.now
    c.publish_stored.new.pass c.requires.ready c.requires.left)
    (c.gains_compose.ensures.left c.args.station.now c.args.pass.now
    c.publish_stored.new.pass c.requires.ready c.requires.left)
    c.publish_stored.ensures.foreign c.publish_stored.ensures.memory
    c.publish_stored.ensures.faults

pub returns-in-Err-Memory-clause-err : goal.returns-in-Err-Memory-clause-err
returns-in-Err-Memory-clause-err g c = record {
  spent = 0;
  gained = [];
  gains = c.gains_compose.ensures.none c.args.station.now c.args.pass.now c.requires.ready;
  why = inl (record {
    no_turn = (refl, refl);
    keeps = c.in-Err-Memory.ensures.still;
    left = subst (λ (fault : RecordFault). (polled : List Entry)
        × Gave polled (g.F.FrameSource.answers c.args.frames.now)
        (g.F.FrameSource.answers c.record_step.new.frames)
        × IsLeft g.D.Disk.pending g.D.Disk.faults g.D.Disk.makes g.D.Disk.fails
        g.D.Disk.fails_to_read fault c.args.archive.now polled c.record_step.new.archive)
        c.in-Err-Memory.field-0-is c.in-Err-Memory.ensures.left;
  });
}
