use Rattle.std.proofs.Common.{◌≡◌, ◌⊎◌, inl, inr, ℕ, ◌≤◌, ◌<◌, min, max, List, length, slice_index}
use Rattle.std.proofs.Common.{false, arith, ◌∙◌, sym}
use Rattle.disk_model.specs.Images.{Pending, IsImage, IsCoherent, with_cut, is_written}
use Rattle.disk_model.proofs.Patched.{patched, length-patched, patched-inside, patched-outside}
use Rattle.disk_model.proofs.Patched.{inside_or}
use Rattle.disk_model.proofs.laws.a_cut_frees_what_lies_past_it.Goals as goal

-- the image with the synced octets from the cut to the least length
abbrev old : Pending → ℕ → List ℕ → List ℕ
old pending size image = patched pending.synced (min pending.least size) pending.least image

outside_or : (k least size : ℕ) → k < size → (k < min least size) ⊎ (least ≤ k)
outside_or k least size below = grind arith

module _ (pending : Pending) (size : ℕ) (content image : List ℕ) (coherent : IsCoherent pending)
    (is : IsImage (with_cut size content pending) image) where
  old-length : length (old pending size image) ≡ max (length image) pending.least
  old-length = length-patched pending.synced image (min pending.least size) pending.least
      (omega arith) coherent.synced is.no_shorter

  old-outside : (k : ℕ) → (k < min pending.least size) ⊎ (pending.least ≤ k)
      → slice_index (old pending size image) k ≡ slice_index image k
  old-outside = patched-outside _ _ _ _ (omega arith) coherent.synced is.no_shorter

  old-kept : (k : ℕ) → k < pending.least → is_written pending.written k ≡ false
      → ((min pending.least size ≤ k) × (k < pending.least))
      ⊎ ((k < min pending.least size) ⊎ (pending.least ≤ k))
      → slice_index (old pending size image) k ≡ slice_index pending.synced k
  old-kept k below free (inl inside) = patched-inside _ _ _ _ (omega arith) coherent.synced
      is.no_shorter k inside.0 inside.1
  old-kept k below free (inr (inl before)) = old-outside k (inl before) ∙ is.kept k before free
  old-kept k below free (inr (inr behind)) = absurd (omega arith)

pub returns-clause-new : goal.returns-clause-new
returns-clause-new c pending size content image coherent is =
    let same_length = old-length pending size content image coherent is in (
      old pending size image,
      record {
        no_shorter = omega (arith, same_length);
        no_longer = omega (
          arith,
          same_length,
          is.no_longer,
          coherent.content.no_shorter,
          coherent.content.no_longer,
        );
        kept = λ k below free. old-kept pending size content image coherent is k below free
            (inside_or k (min pending.least size) pending.least);
      },
      record {
        no_longer = omega (arith, same_length);
        kept = λ k below there. sym (old-outside pending size content image coherent is k
            (outside_or k pending.least size below));
      },
      is.no_shorter,
    )
