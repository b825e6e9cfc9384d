use Rattle.ber_core.specs.Facts.Identifiers.{through_last-more, through_last-found}
use Rattle.ber_core.specs.Facts.Identifiers.{through_last-none}
use Rattle.std.proofs.Common.{sym}
use Rattle.ber_core.proofs.reader.number_length.Goals as goal

pub loop-place-preserved : goal.loop-place-preserved
loop-place-preserved c = through_last-more c.args.octets.now c.loop-place.place
    c.loop-place-test.true c.if-octet-lt128.false c.loop-place.invariant

pub returns-then-octet-lt128-clause-octets : goal.returns-then-octet-lt128-clause-octets
returns-then-octet-lt128-clause-octets c = sym
    (through_last-found c.args.octets.now c.loop-place.place c.loop-place-test.true
    c.if-octet-lt128.true c.loop-place.invariant)

pub returns-clause-octets : goal.returns-clause-octets
returns-clause-octets c = sym (through_last-none c.args.octets.now c.loop-place.place
    c.loop-place-test.false c.loop-place.invariant)
