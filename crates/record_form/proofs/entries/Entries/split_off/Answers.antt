use Rattle.std.proofs.Common.{List, take, drop, ap, sym, ◌∙◌}
use Rattle.std.proofs.lemmas.List.{take-map, drop-map}
use Rattle.archive_terms.specs.Archive as terms
use Rattle.record_form.specs.Entry.{entry_of, entries_of}
use Rattle.record_form.proofs.entries.Entries.split_off.Goals as goal

pub returns-clause-front : goal.returns-clause-front
returns-clause-front c =
    ap entries_of c.in_ok-held.ensures.items
    ∙ sym (take-map entry_of c.args.at c.self.inside.held.items)
    ∙ ap (λ (entries : List terms.Entry). take c.args.at entries) c.self.view_is

pub returns-clause-rest : goal.returns-clause-rest
returns-clause-rest c =
    ap entries_of c.in_ok-held.ensures.tail
    ∙ sym (drop-map entry_of c.args.at c.self.inside.held.items)
    ∙ ap (λ (entries : List terms.Entry). drop c.args.at entries) c.self.view_is
