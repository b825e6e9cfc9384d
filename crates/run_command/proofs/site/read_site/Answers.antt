use Rattle.std.proofs.Common.{⊎_elim}
use Rattle.run_command.proofs.Sites.{site_refused}
use Rattle.run_command.proofs.site.read_site.Goals as goal

pub returns-in-Ok-clause-refused : goal.returns-in-Ok-clause-refused
returns-in-Ok-clause-refused g c =
    site_refused c.site_of.result _ c.in-Ok.text.items _ _ c.in-Ok.ensures.octets
    (⊎_elim (λ is. absurd cc) (λ same. same) c.in-Ok.ensures.kept)
    (rw c.as_slice.ensures.value at c.site_of.ensures.refused)
