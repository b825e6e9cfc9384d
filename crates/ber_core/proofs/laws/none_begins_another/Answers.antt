use Rattle.std.proofs.Common.{◌≡◌, [], ◌++◌, sym, ◌∙◌, ap}
use Rattle.std.proofs.lemmas.List.{append-nil, append_cancel_left}
use Rattle.ber_core.specs.Facts.Prefixes.{same_tree}
use Rattle.ber_core.proofs.laws.none_begins_another.Goals as goal

pub returns : goal.returns
returns c = λ t u spelled other more well other_well spells other_spells begins.
    let joined : spelled ++ more ≡ other ++ [] = sym begins ∙ sym (append-nil other) in
    let same : spelled ≡ other = (same_tree t u spelled other more [] well other_well spells
    other_spells joined).1 in
    append_cancel_left spelled more [] (joined ∙ ap (λ front. front ++ []) (sym same))
