use Rattle.ber_core.specs.Facts.Canonical.{canonical-Spells}
use Rattle.ber_core.proofs.laws.canonical_spells.Goals as goal

pub returns : goal.returns
returns c = canonical-Spells
