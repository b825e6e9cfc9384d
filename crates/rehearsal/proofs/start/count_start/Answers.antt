use Rattle.std.proofs.Common.{◌≡◌, ◌∙◌, true, rules}
use Rattle.sle_numbers.specs.RequestedFrameQuality.{number_of}
use Rattle.station_desk.specs.Start.{told_desk}
use Rattle.rehearsal.proofs.Started.{counted_more}
use Rattle.rehearsal.proofs.start.count_start.Goals as goal

pub loop-buffers-preserved : goal.loop-buffers-preserved
loop-buffers-preserved c =
    let told =
    told_desk c.args.archive.now c.args.start.now c.args.stop.now (number_of c.args.quality) in
    let has : c.advance.new.self.has_current ≡ true = search rules in
    counted_more told c.loop-buffers.buffers c.advance.new.self c.loop-buffers.tally
    c.add.new.self c.items.result.now c.octets.result.now c.loop-buffers.invariant
    c.in_ok-advance.ensures.ok.0 has c.items.ensures.said c.items.ensures.few
    (c.octets.ensures ∙ c.in_ok-message.ensures) c.add.ensures.frames c.add.ensures.buffers
    c.add.ensures.ends c.add.ensures.octets
