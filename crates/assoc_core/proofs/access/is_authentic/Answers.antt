use Rattle.std.proofs.Common.{is_ok, ◌∙◌, ap}
use Rattle.assoc_core.proofs.Secrets.{same_answer}
use Rattle.assoc_core.proofs.access.is_authentic.Goals as goal

pub returns : goal.returns
returns c =
    c.is_ok.ensures.value
    ∙ ap is_ok (c.check.ensures.exact ∙ same_answer _ _ _ _ c.secret_of.ensures)
