-- What seated workers did, and the lists that were joined.
use Rattle.std.proofs.Common.{◌≡◌, List, [], ◌∷◌, ◌++◌, ap, sym, subst, ◌∙◌}
use Rattle.turn_lock.specs.PassState.{Lock}
use Rattle.turn_lock.specs.declared.view.Mark.{Mark}
use Rattle.station_book.specs.State.{Opening, Event}
use Rattle.sample_book.specs.Worked.{calls_of, outcomes_of}
use Rattle.sample_book.specs.Both.{IsSeated, DidJobs, Did}
use Rattle.sample_book.specs.declared.work.Plan.{Plan}
use Rattle.sample_book.specs.declared.work.Worker.{Worker}

pub did_of : (lock : Lock Opening) (w w' : Worker) (plan : Plan) → IsSeated lock w → w.plan ≡ plan
    → DidJobs lock w w' → Did plan w'.outcomes.items w'.pass.own
did_of lock w w' plan seated is did =
    let all = did.worked in
    let own : all.gained ≡ w'.pass.own = ap (λ xs. xs ++ all.gained) (sym seated.own)
    ∙ sym all.own in
    subst (λ p. Did p w'.outcomes.items w'.pass.own) is (record {
      done = did.done;
      rest = did.rest;
      split = did.split;
      calls = ap calls_of (sym own) ∙ all.calls;
      told = ap outcomes_of (sym own) ∙ all.told;
    })

pub joined_two : (start : List (List (Mark Event))) (a b : List (Mark Event))
    (ja jb : List (List (Mark Event)))
    → start ≡ [] → ja ≡ [] → jb ≡ [] → (start ++ a ∷ ja) ++ b ∷ jb ≡ a ∷ b ∷ []
joined_two start a b ja jb e f g =
    ap (λ s. (s ++ a ∷ ja) ++ b ∷ jb) e ∙ ap (λ x. (a ∷ x) ++ b ∷ jb) f ∙ ap (λ x. a ∷ b ∷ x) g
