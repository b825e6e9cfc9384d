use Rattle.std.proofs.Common.{◌-◌, List, ℕ, ◌∷◌, length, drop, ◌∙◌, ap, sym, arith}
use Rattle.std.proofs.lemmas.List.{length-drop, take_all}
use Rattle.record_form.specs.Lent.{lent_entry}
use Rattle.gate_journal.specs.Batches.{entries_in}
use Rattle.gate_journal.proofs.Batching.{first_in}
use Rattle.gate_journal.proofs.batch.Batch.next.Goals as goal

pub returns-in-Ok : goal.returns-in-Ok
returns-in-Ok c =
    let octets = c.self.inside.octets.now in
    let end = c.in-Ok.end in
    sym c.self.view_is
    ∙ first_in c.self.inside.count octets (lent_entry c.in-Ok.entry) end c.if-self-eq0.false
    c.in-Ok.ensures.exact
    ∙ ap (λ (l : List ℕ). lent_entry c.in-Ok.entry ∷ entries_in (c.self.inside.count - 1) l)
    (sym (take_all (length octets - end) (drop end octets)
    (omega (arith, length-drop end octets))))
