-- One job more, and the end.
use Rattle.std.proofs.Common.{◌≡◌, ℕ, ◌+◌, ◌≤◌, List, [], ◌∷◌, ◌++◌, length}
use Rattle.std.proofs.Common.{Some, refl, ap, sym, ◌∙◌, append_assoc}
use Rattle.std.proofs.Common.{append-nil, arith}
use Rattle.std.proofs.lemmas.List.{map-append}
use Rattle.turn_lock.specs.PassState.{PassState, Lock}
use Rattle.turn_lock.specs.Own.{mark}
use Rattle.turn_lock.specs.declared.view.Mark.{Mark}
use Rattle.turn_lock.specs.declared.pass.Standing.TheVariants.{Ready}
use Rattle.station_book.specs.State.{Opening, opened, Event}
use Rattle.station_book.specs.History.{IsLegal}
use Rattle.sample_book.specs.Jobs.{call_of, outcome_of}
use Rattle.sample_book.specs.Worked.{called, MadeOne, Worked}
use Rattle.sample_book.specs.declared.job.Job.{Job}
use Rattle.sample_book.specs.declared.job.Outcome.{Outcome}

module _ (lock : Lock Opening) (door reading : ℕ) where
  pub worked_nothing : (pass : PassState Event Opening) → pass.lock ≡ Some lock → pass.standing
      ≡ Ready → Worked lock door reading [] [] pass pass
  worked_nothing pass l r = record {
    lock_is = l;
    ready = r;
    joined = refl;
    gained = [];
    own = sym (append-nil pass.own);
    calls = refl;
    told = refl;
    legal = λ x. x;
  }

  pub worked_more : (done : List Job) (outcomes : List Outcome) (job : Job) (outcome : Outcome)
      (p q r : PassState Event Opening)
      → Worked lock door reading done outcomes p q
      → MadeOne lock.origin (call_of door reading job) outcome q r
      → (r.lock ≡ q.lock) × (r.standing ≡ Ready) × (r.joined ≡ q.joined)
      → IsLegal (opened lock.origin) r.seen
      → Worked lock door reading (done ++ job ∷ []) (outcomes ++ outcome ∷ []) p r
  worked_more done outcomes job outcome p q r so made still legal =
      let m : Mark Event = mark made.before (called lock.origin made.before
      (call_of door reading job)) in
      record {
        lock_is = still.0 ∙ so.lock_is;
        ready = still.1;
        joined = still.2 ∙ so.joined;
        gained = so.gained ++ m ∷ [];
        own = made.own ∙ ap (λ xs. xs ++ m ∷ []) so.own ∙ append_assoc p.own so.gained (m ∷ []);
        calls = map-append (λ (x : Mark Event). x.event.call) so.gained (m ∷ [])
            ∙ ap (λ xs. xs ++ call_of door reading job ∷ []) so.calls
            ∙ sym (map-append (call_of door reading) done (job ∷ []));
        told = map-append (λ (x : Mark Event). outcome_of x.event.reply) so.gained (m ∷ [])
            ∙ ap (λ xs. xs ++ outcome_of m.event.reply ∷ []) so.told
            ∙ ap (λ o. outcomes ++ o ∷ []) (sym made.told);
        legal = λ _. legal;
      }

  -- a turn was left
  pub worked_still : (done : List Job) (outcomes : List Outcome) (p q r : PassState Event Opening)
      → Worked lock door reading done outcomes p q → r.own ≡ q.own
      → (r.lock ≡ q.lock) × (r.standing ≡ Ready) × (r.joined ≡ q.joined)
      → IsLegal (opened lock.origin) r.seen
      → Worked lock door reading done outcomes p r
  worked_still done outcomes p q r so own still legal =
      record {
        lock_is = still.0 ∙ so.lock_is;
        ready = still.1;
        joined = still.2 ∙ so.joined;
        gained = so.gained;
        own = own ∙ so.own;
        calls = so.calls;
        told = so.told;
        legal = λ _. legal;
      }

  -- so far these jobs were done, and the others are still to be
  pub record Working (jobs done rest : List Job) (outcomes : List Outcome)
      (start pass : PassState Event Opening) : Type 0 where
    pub split : jobs ≡ done ++ rest
    pub worked : Worked lock door reading done outcomes start pass
    pub turns : pass.left + pass.entered ≡ start.left + start.entered
    pub enough : length rest ≤ pass.left

  pub working_more : (jobs done rest more : List Job) (outcomes : List Outcome) (job : Job)
      (outcome : Outcome) (start q r : PassState Event Opening)
      → Working jobs done rest outcomes start q → rest ≡ job ∷ more
      → MadeOne lock.origin (call_of door reading job) outcome q r
      → (r.lock ≡ q.lock) × (r.standing ≡ Ready) × (r.joined ≡ q.joined)
      → (r.left + 1 ≡ q.left) × (r.entered ≡ q.entered + 1) → IsLegal (opened lock.origin) r.seen
      → Working jobs (done ++ job ∷ []) more (outcomes ++ outcome ∷ []) start r
  working_more jobs done rest more outcomes job outcome start q r so is made still turn legal =
      let one = ap length is in
      record {
        split = so.split ∙ ap (λ xs. done ++ xs) is ∙ sym (append_assoc done (job ∷ []) more);
        worked = worked_more done outcomes job outcome start q r so.worked made still legal;
        turns = omega (arith, so.turns, turn.0, turn.1);
        enough = omega (arith, so.enough, one, turn.0);
      }
