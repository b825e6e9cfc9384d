use Rattle.status_port.proofs.Chains.{page_kept, calls_answered}
use Rattle.status_port.proofs.answering.answer.Goals as goal

pub returns-clause-page : goal.returns-clause-page
returns-clause-page c = page_kept _ _ _ _ c.advance.ensures.calls

pub returns-clause-calls : goal.returns-clause-calls
returns-clause-calls c = calls_answered _ _ _ _ c.advance.ensures.calls
