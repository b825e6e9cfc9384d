-- What holds of each image at every moment, over several calls: theorems on HoldsThroughout for
-- callers of a disk, which stand here since a clause can range over no facts.
use Rattle.std.proofs.Common.{inl, inr, ⊎_elim, ℕ, List, Option, arith}
use Rattle.disk_model.specs.Images.{Pending}
use Rattle.disk_model.specs.Moments.{Elapses, HoldsThroughout, IsImageOf}

module _ {D : Type 0} (moment : D → ℕ) (images_since : D → ℕ → List ℕ → Type 0) where
  -- before the first call
  pub started : (old : D) (P : List ℕ → Type 0)
      → ((image : List ℕ) → images_since old (moment old) image → P image)
      → HoldsThroughout moment images_since old old P
  started old P here = record {
    later = omega arith;
    each = here;
    before = λ since image earlier was. inl was;
  }

  -- one call more
  pub goes_on : (old mid new : D) (P : List ℕ → Type 0) (pending : Option Pending)
      → HoldsThroughout moment images_since old mid P
      → Elapses (moment mid) (moment new) (images_since mid) (images_since new) pending
      → ((image : List ℕ) → IsImageOf pending image → P image)
      → HoldsThroughout moment images_since old new P
  goes_on old mid new P pending so_far time here = record {
    later = omega (arith, so_far.later, time.later);
    each = λ image was. ⊎_elim (so_far.each image) (here image)
        (time.nothing_else (moment old) image so_far.later was);
    before = λ since image earlier was. ⊎_elim (so_far.before since image earlier)
        (λ now. inr (here image now)) (time.nothing_else since image
        (omega (arith, earlier, so_far.later)) was);
  }

  -- a weaker fact
  pub weaker : (old new : D) (P Q : List ℕ → Type 0) → ((image : List ℕ) → P image → Q image)
      → HoldsThroughout moment images_since old new P
      → HoldsThroughout moment images_since old new Q
  weaker old new P Q follows holds = record {
    later = holds.later;
    each = λ image was. follows image (holds.each image was);
    before = λ since image earlier was. ⊎_elim (λ past. inl past) (λ now. inr (follows image now))
        (holds.before since image earlier was);
  }

  -- one run of calls after another
  pub and_then : (old mid new : D) (P : List ℕ → Type 0)
      → HoldsThroughout moment images_since old mid P
      → HoldsThroughout moment images_since mid new P
      → HoldsThroughout moment images_since old new P
  and_then old mid new P first second = record {
    later = omega (arith, first.later, second.later);
    each = λ image was. ⊎_elim (first.each image) (λ now. now)
        (second.before (moment old) image first.later was);
    before = λ since image earlier was. ⊎_elim (first.before since image earlier) (λ now. inr now)
        (second.before since image (omega (arith, earlier, first.later)) was);
  }
