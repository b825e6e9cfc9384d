-- A list with another's octets from one place to another.
use Rattle.std.proofs.Common.{◌≡◌, ◌⊎◌, ℕ, ◌+◌, ◌-◌, ◌≤◌, ◌<◌, max, List, length, take, drop}
use Rattle.std.proofs.Common.{slice_index, false, arith}
use Rattle.std.proofs.lemmas.List.{places}
use Rattle.std.proofs.lemmas.Grind.{common_steps}
use Rattle.std.proofs.lemmas.Bool.Decides.{nat_tests}
use Rattle.disk_model.specs.Images.{overwritten, is_inside}

-- the other list's octets from place a to before place b, and the image's elsewhere
unfoldable pub patched : List ℕ → ℕ → ℕ → List ℕ → List ℕ
patched synced a b image = overwritten image a (take (b - a) (drop a synced))

module _ (synced image : List ℕ) (a b : ℕ) (ordered : a ≤ b) (there : b ≤ length synced)
    (begins : a ≤ length image) where
  pub length-patched : length (patched synced a b image) ≡ max (length image) b
  unfolding patched
  length-patched = grind (arith, common_steps)

  pub patched-inside : (k : ℕ) → a ≤ k → k < b
      → slice_index (patched synced a b image) k ≡ slice_index synced k
  unfolding patched
  patched-inside k from upto = grind (arith, places)

  pub patched-outside : (k : ℕ) → (k < a) ⊎ (b ≤ k)
      → slice_index (patched synced a b image) k ≡ slice_index image k
  unfolding patched
  patched-outside k outside = grind (arith, places)

-- a place lies in a range, or before or behind it
pub inside_or : (k from upto : ℕ) → ((from ≤ k) × (k < upto)) ⊎ ((k < from) ⊎ (upto ≤ k))
inside_or k from upto = grind arith

pub before_or_behind : (k place count : ℕ) → is_inside k (place, count) ≡ false
    → (k < place) ⊎ (place + count ≤ k)
before_or_behind k place count outside = grind (arith, nat_tests)

pub not_inside : (k place count : ℕ) → (k < place) ⊎ (place + count ≤ k)
    → is_inside k (place, count) ≡ false
not_inside k place count outside = grind (arith, nat_tests)
