-- What an image has of the file, and what a write behind a front leaves.
use Rattle.std.proofs.Common.{◌≡◌, inl, inr, ℕ, ◌<◌, ◌≤◌, List, [], ◌++◌, length, take, drop}
use Rattle.std.proofs.Common.{set, slice_index, refl, sym, ◌∙◌, arith}
use Rattle.std.proofs.lemmas.Bool.Decides.{nat_tests}
use Rattle.std.proofs.lemmas.Bool.{cases_eq}
use Rattle.std.proofs.lemmas.List.{ext_get_or, get_or-take, get_or-set_same, get_or-set_other}
use Rattle.std.proofs.lemmas.List.{length-take-le, length-set}
use Rattle.std.proofs.Math.Seq.{take-append_seam, drop-append-add}
use Rattle.disk_model.specs.Images.{IsImage, all_synced, with_range, overwritten}

-- octets written behind a front
pub written_behind : (front rest octets : List ℕ) (place : ℕ) → length front ≡ place
    → overwritten (front ++ rest) place octets ≡ front ++ octets ++ drop (length octets) rest
written_behind front rest octets place there =
    rw (← there, take-append_seam front rest, drop-append-add front rest (length octets)) refl

-- where all is synced each image is what is kept
pub only_synced : (file image : List ℕ) → IsImage (all_synced file) image → image ≡ file
only_synced file image is =
    ext_get_or 0 image file (omega (arith, is.no_shorter, is.no_longer))
    (λ k below. is.kept k (omega (arith, is.no_longer, below)) refl)

-- before a range that is pending an image is as the file
pub as_before : (file image : List ℕ) (place count : ℕ) → place ≤ length file
    → IsImage (with_range place count [] (all_synced file)) image
    → take place image ≡ take place file
as_before file image place count there is =
    let long : place ≤ length image = omega (arith, there, is.no_shorter) in
    let size = length-take-le place image long in
    ext_get_or 0 _ _ (size ∙ sym (length-take-le place file there))
    (λ k below. grind (arith, nat_tests, size, get_or-take, is.kept k))

-- and where one octet inside is pending it is the file but for that one
pub but_for_one : (file image : List ℕ) (place : ℕ) → place < length file
    → IsImage (with_range place 1 [] (all_synced file)) image
    → image ≡ set file place (slice_index image place)
but_for_one file image place there is =
    let size : length image ≡ length file = omega (arith, there, is.no_shorter, is.no_longer) in
    ext_get_or 0 _ _ (size ∙ sym (length-set file place (slice_index image place)))
    (λ k below. elim (cases_eq k place) [
      | inl same ↦ rw same (sym (get_or-set_same file place (slice_index image place) 0 there))
      | inr other ↦ grind (arith, nat_tests, size, is.kept k, get_or-set_other)
    ])
