use Rattle.return_core.proofs.Stands.{rise_from_none}
use Rattle.return_core.proofs.laws.complete_rounds.Goals as goal

pub returns-clause-items : goal.returns-clause-items
returns-clause-items c = λ _ t entries later rounds s kept archive.
    c.complete_delivery.ensures.items t entries later rounds s.some kept s.archive
    (rise_from_none t.selection.first rounds s.rise) archive

pub returns-clause-entries : goal.returns-clause-entries
returns-clause-entries c = λ _ t entries later rounds s kept archive.
    c.complete_delivery.ensures.entries t entries later rounds s.some kept s.archive
    (rise_from_none t.selection.first rounds s.rise) archive

pub returns-clause-end_of_data : goal.returns-clause-end_of_data
returns-clause-end_of_data c = λ _ t entries later rounds s kept archive ended.
    c.complete_delivery.ensures.end_of_data t entries later rounds s.some kept s.archive
    (rise_from_none t.selection.first rounds s.rise) archive ended
