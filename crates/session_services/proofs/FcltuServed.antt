-- The return of an answer of the forward service is the message that its definition names.
use Rattle.std.proofs.Common.{◌≡◌, ℕ, Option, Some, None, List, refl, sym, ap, ◌∙◌}
use Rattle.std.specs.Option.{option_map_or}
use Rattle.isp1_tml.specs.Message.{spelling, pdu}
use Rattle.fcltu_service.specs.declared.answer.CltuAnswer.{CltuAnswer}
use Rattle.fcltu_service.specs.declared.answer.CltuAnswer.TheVariants as answer
use Rattle.fcltu_service.specs.Returns.{Return, return_octets, returned}
use Rattle.session_services.specs.Telling.{Message}
use Rattle.session_services.specs.FcltuServed.{fcltu_returned}

abbrev pub block_of : Option Return → List ℕ → List ℕ
block_of (Some r) old = spelling (pdu (return_octets r))
block_of None old = old

by_answer : (a : CltuAnswer) (credentials : Option (List ℕ)) (invoke : ℕ) (old : List ℕ)
    → option_map_or (λ (message : Message). spelling (message credentials))
    (fcltu_returned a invoke) old
    ≡ block_of (returned a credentials invoke) old
by_answer answer.Nothing credentials invoke old = refl
by_answer (answer.Start result) credentials invoke old = refl
by_answer answer.Stop credentials invoke old = refl
by_answer (answer.Transfer room result) credentials invoke old = refl
by_answer (answer.Throw number result) credentials invoke old = refl
by_answer (answer.Report result) credentials invoke old = refl
by_answer (answer.Get result) credentials invoke old = refl

pub with_return : (a : CltuAnswer) (credentials : Option (List ℕ)) (invoke : ℕ) (old : List ℕ)
    (r : Return) → Some r ≡ returned a credentials invoke
    → spelling (pdu (return_octets r))
    ≡ option_map_or (λ (message : Message). spelling (message credentials))
    (fcltu_returned a invoke) old
with_return a credentials invoke old r is =
    ap (λ (o : Option Return). block_of o old) is ∙ sym (by_answer a credentials invoke old)

pub without_return : (a : CltuAnswer) (credentials : Option (List ℕ)) (invoke : ℕ) (old : List ℕ)
    → None ≡ returned a credentials invoke
    → old
    ≡ option_map_or (λ (message : Message). spelling (message credentials))
    (fcltu_returned a invoke) old
without_return a credentials invoke old is =
    ap (λ (o : Option Return). block_of o old) is ∙ sym (by_answer a credentials invoke old)
