use Rattle.std.proofs.Common.{◌≡◌, ◌∙◌, ◌∷◌, Some, sym, refl, rules}
use Rattle.words.specs.Last.{last_read}
use Rattle.words.proofs.Parts.{surplus}
use Rattle.words.proofs.last.LastWords.read.Goals as goal

pub returns-then-is_some : goal.returns-then-is_some
returns-then-is_some g c =
    let read = g.W.Word.kind.read in
    let first : c.args.words ≡ Some c.in_ok-ok_or.field-0 = search rules in
    let none = surplus (λ more. last_read read (c.split_part.result.0.now ∷ more)) (λ _ _. refl)
    c.args.separator in
    rw (first, c.split_part.ensures) (record {
      exact =
          sym (none _ (sym c.is_some.ensures ∙ c.if-is_some.true));
    })
