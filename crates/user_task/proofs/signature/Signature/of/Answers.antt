use Rattle.std.proofs.Common.{arith}
use Rattle.cds_time.specs.Moment.{octets_of, in_micros}
use Rattle.user_task.specs.Message.{secret_of}
use Rattle.user_task.proofs.Fits.{some_signed}
use Rattle.user_task.proofs.signature.Signature.of.Goals as goal

pub invariant_of-result : goal.invariant_of-result
invariant_of-result c =
    let many = some_signed (secret_of c.args.name.now c.args.hash c.args.pass.now)
    (octets_of (in_micros c.args.now)) c.args.number in
    (omega (arith, c.make-len.ensures.length, many), c.make-len.ensures.within)
