use Rattle.std.proofs.Common.{[], refl}
use Rattle.ber_core.specs.Facts.Prefixes.{same_tree}
use Rattle.ber_core.proofs.laws.one_tree.Goals as goal

pub returns : goal.returns
returns c = λ t u spelled well other_well spells other_spells.
    (same_tree t u spelled spelled [] [] well other_well spells other_spells refl).0
