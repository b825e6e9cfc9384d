use Rattle.hex_text.proofs.Steps.{Reads}
use Rattle.hex_text.proofs.reading.read_pairs.Given as goal

abbrev pub invariant-octets : goal.invariant-octets
invariant-octets l = Reads l.digits l.octets l.i l.greatest
