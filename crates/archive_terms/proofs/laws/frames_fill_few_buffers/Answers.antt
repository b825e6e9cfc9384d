use Rattle.archive_terms.proofs.FewBuffers.{cut_fills}
use Rattle.archive_terms.proofs.laws.frames_fill_few_buffers.Goals as goal

pub returns-clause-enough : goal.returns-clause-enough
returns-clause-enough c = λ size items some small short.
    (cut_fills size items some small short).enough

pub returns-clause-no_more : goal.returns-clause-no_more
returns-clause-no_more c = λ size items some small short.
    (cut_fills size items some small short).no_more
