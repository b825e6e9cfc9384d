use Rattle.return_core.proofs.Stands.{rise_from_none}
use Rattle.return_core.proofs.laws.timely_rounds.Goals as goal

pub returns-clause-shape : goal.returns-clause-shape
returns-clause-shape c = λ _ t entries later rounds s timely archive.
    c.timely_delivery.ensures.shape t entries later rounds s.some timely s.archive
    (rise_from_none t.selection.first rounds s.rise) archive

pub returns-clause-end_of_data : goal.returns-clause-end_of_data
returns-clause-end_of_data c = λ _ t entries later rounds s timely archive ended.
    c.timely_delivery.ensures.end_of_data t entries later rounds s.some timely s.archive
    (rise_from_none t.selection.first rounds s.rise) archive ended
