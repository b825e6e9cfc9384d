use Rattle.std.proofs.Common.{[], ◌∷◌, ◌∙◌}
use Rattle.std.specs.Fmt.{signed_decimal}
use Rattle.user_lines.proofs.Frames.{behind_on, on_ok}
use Rattle.user_lines.proofs.put.put_numbers.Goals as goal

pub returns : goal.returns
returns c =
    let n = c.args.numbers.now in
    on_ok c.put_three-2.result
    (λ is. is
    ∙ rw c.in_ok-put_three.ensures
    (behind_on c.args.into.now.items
    (signed_decimal n.0 ∷ signed_decimal n.1 ∷ signed_decimal n.2 ∷ [])
    (signed_decimal n.3 ∷ signed_decimal n.4 ∷ signed_decimal n.5 ∷ [])))
    c.put_three-2.ensures
