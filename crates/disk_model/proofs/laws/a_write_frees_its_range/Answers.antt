use Rattle.std.proofs.Common.{◌≡◌, ◌⊎◌, inl, inr, ℕ, ◌+◌, ◌≤◌, ◌<◌, min, List, length, take}
use Rattle.std.proofs.Common.{slice_index, false, arith, ◌∙◌, sym}
use Rattle.std.proofs.lemmas.List.{get_or-take, length-take}
use Rattle.disk_model.specs.Images.{Pending, IsImage, IsCoherent, with_range, is_written}
use Rattle.disk_model.proofs.Patched.{patched, length-patched, patched-inside, patched-outside}
use Rattle.disk_model.proofs.Patched.{inside_or, before_or_behind, not_inside}
use Rattle.disk_model.proofs.laws.a_write_frees_its_range.Goals as goal

-- the image up to the greatest length before, with the synced octets in the range below the least
-- length
abbrev old : Pending → ℕ → ℕ → List ℕ → List ℕ
old pending place count image =
    patched pending.synced (min place pending.least) (min (place + count) pending.least)
    (take pending.greatest image)

apart : (k place end least : ℕ) → (k < place) ⊎ (end ≤ k)
    → (k < min place least) ⊎ (min end least ≤ k)
apart k place end least outside = grind arith

module _ (pending : Pending) (place count : ℕ) (content image : List ℕ)
    (coherent : IsCoherent pending) (is : IsImage (with_range place count content pending)
    image) where
  least_there : pending.least ≤ length (take pending.greatest image)
  least_there = omega (
    arith,
    length-take pending.greatest image,
    is.no_shorter,
    coherent.content.no_shorter,
    coherent.content.no_longer,
  )

  old-length : length (old pending place count image) ≡ min pending.greatest (length image)
  old-length = omega (
    arith,
    least_there,
    coherent.synced,
    length-take pending.greatest image,
    length-patched pending.synced (take pending.greatest image) (min place pending.least)
        (min (place + count) pending.least) (omega arith) (omega (arith, coherent.synced))
        (omega (arith, least_there)),
  )

  -- outside of the range the old octets are the image's
  old-outside : (k : ℕ) → k < pending.greatest → (k < place) ⊎ (place + count ≤ k)
      → slice_index (old pending place count image) k ≡ slice_index image k
  old-outside k below outside =
      patched-outside _ _ _ _ (omega arith) (omega (arith, coherent.synced))
      (omega (arith, least_there)) k (apart k place (place + count) pending.least outside)
      ∙ get_or-take _ _ _ _ below

  -- and below the least length they are the synced ones where no range was written before
  old-kept : (k : ℕ) → k < pending.least → is_written pending.written k ≡ false
      → ((place ≤ k) × (k < place + count)) ⊎ ((k < place) ⊎ (place + count ≤ k))
      → slice_index (old pending place count image) k ≡ slice_index pending.synced k
  old-kept k below free (inl inside) =
      patched-inside _ _ _ _ (omega arith) (omega (arith, coherent.synced))
      (omega (arith, least_there)) k (omega arith) (omega arith)
  old-kept k below free (inr outside) =
      old-outside k (omega (arith, coherent.content.no_shorter, coherent.content.no_longer)) outside
      ∙ is.kept k below (rw (not_inside k place count outside) free)

pub returns-clause-new : goal.returns-clause-new
returns-clause-new c pending place count content image coherent is =
    let same_length = old-length pending place count content image coherent is in (
      old pending place count image,
      record {
        no_shorter = omega (
          arith,
          same_length,
          coherent.content.no_shorter,
          coherent.content.no_longer,
          is.no_shorter,
        );
        no_longer = omega (arith, same_length);
        kept = λ k below free. old-kept pending place count content image coherent is k below free
            (inside_or k place (place + count));
      },
      record {
        no_shorter = omega (arith, same_length);
        no_longer = omega (arith, same_length, is.no_longer);
        kept = λ k below outside. sym (old-outside pending place count content image coherent is k
            (omega (arith, same_length)) (before_or_behind k place count outside));
      },
    )
