-- What the disk's images stand for at every moment of a step, and of the reopen in it.
use Rattle.std.proofs.Common.{◌≡◌, inl, inr, ℕ, List, [], ◌++◌, Option, length, take, refl, sym, ap}
use Rattle.std.proofs.Common.{subst, ◌∙◌, arith}
use Rattle.std.proofs.lemmas.List.{take_all, append-nil}
use Rattle.std.proofs.Math.Seq.{take-nil}
use Rattle.archive_terms.specs.Archive.{Entry}
use Rattle.disk_model.specs.Images.{Pending}
use Rattle.disk_model.specs.Moments.{IsImageOf, HoldsThroughout}
use Rattle.disk_model.specs.Throughout.{started, weaker, and_then}
use Rattle.gate_journal.specs.File.{StandsFor}
use Rattle.gate_journal.specs.JournalState.{IsOldOrNew}
use Rattle.frame_archive.specs.State.{ArchiveState}
use Rattle.frame_archive.specs.Acknowledges.{Acknowledges}
use Rattle.frame_archive.specs.Run.{Keeps}
use Rattle.recorder.specs.Steps.{HoldsAllOrNone}

-- where nothing waited, no batch may be there
only_old : (entries batch waiting : List Entry) (failed : ℕ) → waiting ≡ [] → (image : List ℕ)
    → IsOldOrNew entries (take failed waiting) image → IsOldOrNew entries batch image
only_old entries batch waiting failed none image (inl old) = inl old
only_old entries batch waiting failed none image (inr new) =
    inl (subst (λ (es : List Entry). StandsFor es image)
    (ap (λ (es : List Entry). entries ++ take failed es) none
    ∙ ap (λ (es : List Entry). entries ++ es) (take-nil failed) ∙ append-nil entries) new)

module _ {D : Type 0} (pending : D → Option Pending) (moment : D → ℕ)
    (images_since : D → ℕ → List ℕ → Type 0) where
  -- no call of the disk was made yet, and nothing waited
  pub untouched : ((disk : D) (image : List ℕ) → images_since disk (moment disk) image
      → IsImageOf (pending disk) image) → (old new : ArchiveState D) (batch : List Entry)
      → old.waiting ≡ [] → new.disk ≡ old.disk
      → HoldsAllOrNone pending moment images_since old batch new
  untouched only_now old new batch none same entries was =
      subst (λ (d : D). HoldsThroughout moment images_since old.disk d (IsOldOrNew entries batch))
      (sym same) (started moment images_since old.disk (IsOldOrNew entries batch)
      (λ image there. only_old entries batch old.waiting old.failed none image
      (was.images image (only_now old.disk image there))))

  -- a reopen makes no other images, behind a store of all that waits that failed
  pub while_opened : (old new : ArchiveState D) (opened : D) → old.failed ≡ length old.waiting
      → new.disk ≡ opened
      → HoldsThroughout moment images_since old.disk opened (IsImageOf (pending old.disk))
      → HoldsAllOrNone pending moment images_since old old.waiting new
  while_opened old new opened failed same during entries was =
      weaker moment images_since old.disk new.disk (IsImageOf (pending old.disk))
      (IsOldOrNew entries old.waiting)
      (λ image is. subst (λ (batch : List Entry). IsOldOrNew entries batch image)
      (take_all old.failed old.waiting (omega (arith, failed))) (was.images image is))
      (subst (λ (d : D). HoldsThroughout moment images_since old.disk d
      (IsImageOf (pending old.disk))) (sym same) during)

  -- one run of calls after another, of which the second begins on the disk that the first left
  pub both : (old mid next new : ArchiveState D) (batch : List Entry) → next.disk ≡ mid.disk
      → next.waiting ≡ batch → Keeps pending old next
      → HoldsAllOrNone pending moment images_since old batch mid
      → ((entries : List Entry) → Acknowledges pending old entries
      → HoldsAllOrNone pending moment images_since next next.waiting new)
      → HoldsAllOrNone pending moment images_since old batch new
  both old mid next new batch same waits keeps first second entries was =
      and_then moment images_since old.disk mid.disk new.disk (IsOldOrNew entries batch)
      (first entries was)
      (subst (λ (d : D). HoldsThroughout moment images_since d new.disk
      (IsOldOrNew entries batch)) same
      (subst (λ (es : List Entry). HoldsThroughout moment images_since next.disk new.disk
      (IsOldOrNew entries es)) waits (second entries was entries (keeps entries was))))

  -- a store behind offers
  pub first_stored : ((disk : D) (image : List ℕ) → images_since disk (moment disk) image
      → IsImageOf (pending disk) image) → (old mid new : ArchiveState D) → old.waiting ≡ []
      → mid.disk ≡ old.disk → Keeps pending old mid
      → HoldsAllOrNone pending moment images_since mid mid.waiting new
      → HoldsAllOrNone pending moment images_since old mid.waiting new
  first_stored only_now old mid new none same keeps during =
      both old old mid new mid.waiting same refl keeps
      (untouched only_now old old mid.waiting none refl) (λ entries was. during)
