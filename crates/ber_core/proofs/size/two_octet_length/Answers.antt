use Rattle.std.proofs.Common.{sym}
use Rattle.ber_core.specs.Facts.Lengths.{two_octets}
use Rattle.ber_core.proofs.size.two_octet_length.Goals as goal

pub returns : goal.returns
returns c = sym (two_octets c.args.content c.requires.several c.requires.few)
