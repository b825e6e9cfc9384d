use Rattle.sle_common.proofs.Texts.{same_text}
use Rattle.sle_common.proofs.laws.one_identifier.Goals as goal

pub returns : goal.returns
returns c = same_text
