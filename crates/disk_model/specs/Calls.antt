-- Counted calls of a disk, one after another.
use Rattle.std.specs.Prelude.{◌≡◌, ◌⊎◌, List, [], ◌∷◌, ◌++◌, Result, Ok, Err, MatchResult, OnOk}
use Rattle.std.specs.Prelude.{OnErr, refl}
use Rattle.std.proofs.Common.{inl, inr, subst, ap, ◌∙◌}
use Rattle.disk_model.specs.RawFile.{Asked}
use Rattle.disk_model.specs.declared.call.Call.{Call}

-- the calls were made in this order, and each succeeded
module _ {D : Type 0} (makes : D → Call → D → Type 0) where
  abbrev pub AllMade : D → List Call → D → Type 0
  AllMade old [] new = new ≡ old
  AllMade old (call ∷ calls) new = (mid : D) × makes old call mid × AllMade mid calls new

module _ {D : Type 0} (makes fails : D → Call → D → Type 0) where
  -- the calls were made in this order until one failed, and none after it
  abbrev pub FailedAtOne : D → List Call → D → Type 0
  FailedAtOne old [] new = ⊥
  FailedAtOne old (call ∷ calls) new = fails old call new
      ⊎ ((mid : D) × makes old call mid × FailedAtOne mid calls new)

  -- all of the calls were made where the result is Ok, and else those up to one that failed
  abbrev pub RunsCalls : {T E : Type 0} → D → List Call → D → Result T E → Type 0
  RunsCalls old calls new result = MatchResult result (λ _. AllMade makes old calls new)
      (λ _. FailedAtOne old calls new)

module _ {D : Type 0} (makes fails : D → Call → D → Type 0) (fails_to_read : D → D → Type 0) where
  -- What no call of a disk changes, also where it fails. A read that succeeds changes nothing.
  pub record CallsKeep {T : Type 0} (of : D → T) : Type 0 where
    pub made : (old new : D) (call : Call) → makes old call new → of new ≡ of old
    pub failed : (old new : D) (call : Call) → fails old call new → of new ≡ of old
    pub unread : (old new : D) → fails_to_read old new → of new ≡ of old

  -- Nothing but calls of the disk led from the old one to the new one: what no call changes is as
  -- it was. Of a disk over a file that is what was asked of the system to have it.
  abbrev pub OnlyCalls : D → D → Type 0
  OnlyCalls old new = (of : D → Asked) → CallsKeep of → of new ≡ of old

-- For callers of a disk: several calls are put together.
module _ {D : Type 0} (makes : D → Call → D → Type 0) where
  pub all_made_and : (calls more : List Call) (old mid new : D) → AllMade makes old calls mid
      → AllMade makes mid more new → AllMade makes old (calls ++ more) new
  all_made_and [] more old mid new none rest = subst (λ (d : D). AllMade makes d more new) none rest
  all_made_and (call ∷ calls) more old mid new first rest =
      (first.0, first.1, all_made_and calls more first.0 mid new first.2 rest)

module _ {D : Type 0} (makes fails : D → Call → D → Type 0) where
  -- a run that failed is one of more calls too
  pub failed_before : (calls more : List Call) (old new : D) → FailedAtOne makes fails old calls new
      → FailedAtOne makes fails old (calls ++ more) new
  failed_before [] more old new failed = absurd failed
  failed_before (call ∷ calls) more old new (inl failed) = inl failed
  failed_before (call ∷ calls) more old new (inr later) =
      inr (later.0, later.1, failed_before calls more later.0 new later.2)

  failed_and : (calls more : List Call) (old mid new : D) → AllMade makes old calls mid
      → FailedAtOne makes fails mid more new → FailedAtOne makes fails old (calls ++ more) new
  failed_and [] more old mid new none rest = subst (λ (d : D). FailedAtOne makes fails d more new)
      none rest
  failed_and (call ∷ calls) more old mid new first rest =
      inr (first.0, first.1, failed_and calls more first.0 mid new first.2 rest)

  -- calls that succeeded, and a run after them
  pub runs_and : {T E : Type 0} → (result : Result T E) (calls more : List Call) (old mid new : D)
      → AllMade makes old calls mid
      → RunsCalls makes fails mid more new result
      → RunsCalls makes fails old (calls ++ more) new result
  runs_and (Ok value) calls more old mid new first rest =
      all_made_and makes calls more old mid new first rest
  runs_and (Err error) calls more old mid new first rest =
      failed_and calls more old mid new first rest

  -- one call
  pub runs_one : {T E : Type 0} → (result : Result T E) (call : Call) (old new : D)
      → OnOk result (makes old call new) → OnErr result (fails old call new)
      → RunsCalls makes fails old (call ∷ []) new result
  runs_one (Ok value) call old new made failed = (new, made, refl)
  runs_one (Err error) call old new made failed = inl failed

-- Nothing but calls of a disk: none at all, one, several, and one run behind another.
module _ {D : Type 0} (makes fails : D → Call → D → Type 0) (fails_to_read : D → D → Type 0) where
  pub no_calls : (old new : D) → new ≡ old → OnlyCalls makes fails fails_to_read old new
  no_calls old new same of keeps = ap of same

  pub only_both : (old mid new : D) → OnlyCalls makes fails fails_to_read old mid
      → OnlyCalls makes fails fails_to_read mid new → OnlyCalls makes fails fails_to_read old new
  only_both old mid new one two of keeps = two of keeps ∙ one of keeps

  pub only_read : (old new : D) → fails_to_read old new → OnlyCalls makes fails fails_to_read old new
  only_read old new failed of keeps = keeps.unread old new failed

  pub only_made : (calls : List Call) (old new : D) → AllMade makes old calls new
      → OnlyCalls makes fails fails_to_read old new
  only_made [] old new none of keeps = ap of none
  only_made (call ∷ calls) old new made of keeps =
      only_made calls made.0 new made.2 of keeps ∙ keeps.made old made.0 call made.1

  pub only_failed : (calls : List Call) (old new : D) → FailedAtOne makes fails old calls new
      → OnlyCalls makes fails fails_to_read old new
  only_failed [] old new failed of keeps = absurd failed
  only_failed (call ∷ calls) old new (inl failed) of keeps = keeps.failed old new call failed
  only_failed (call ∷ calls) old new (inr later) of keeps =
      only_failed calls later.0 new later.2 of keeps ∙ keeps.made old later.0 call later.1

-- what follows from the success of a call, where it succeeded
pub follows_if_ok : {T E : Type 0} → {P Q : Type 0} (result : Result T E) → OnOk result P → (P → Q)
    → OnOk result Q
follows_if_ok (Ok value) good follows = follows good
follows_if_ok (Err error) good follows = good
