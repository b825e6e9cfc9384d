-- The octets of a frame's body are a stretch of octets that go up by one in a circle.
use Rattle.std.proofs.Common.{◌≡◌, ℕ, zero, suc, ◌+◌, ◌%◌, ◌≤◌, ◌<◌, List, [], ◌∷◌, ◌++◌, length}
use Rattle.std.proofs.Common.{map, take}
use Rattle.std.proofs.Common.{◌-◌, drop, refl, sym, ap, ◌∙◌, arith}
use Rattle.std.specs.List.{range_with_len}
use Rattle.std.proofs.lemmas.List.FromFn.{take-map-range_with_len, map-range_with_len_more}
use Rattle.std.proofs.lemmas.List.FromFn.{length-map-range_with_len}
use Rattle.rehearsal.specs.Frames.{body_octets, body_octets-is, octet_at, body_at}
use Rattle.rehearsal.specs.Frames.{ramp_size, ramp_size-is, in_circle, ramp_octets}

-- octets that were put one behind the other
pub ramp_more : (octets : List ℕ) (n : ℕ) → octets ≡ map in_circle (range_with_len 0 n)
    → octets ++ n % 256 ∷ [] ≡ map in_circle (range_with_len 0 (n + 1))
ramp_more octets n is =
    ap (λ xs. xs ++ n % 256 ∷ []) is
    ∙ sym (map-range_with_len_more in_circle 0 n n (omega arith))

pub ramp_whole : (octets : List ℕ) (n : ℕ) → n ≡ 1369
    → octets ≡ map in_circle (range_with_len 0 n) → octets ≡ ramp_octets
unfolding ramp_octets ramp_size
ramp_whole octets n size is = is ∙ ap (λ k. map in_circle (range_with_len 0 k)) size

pub length-ramp_octets : length ramp_octets ≡ 1369
unfolding ramp_octets
length-ramp_octets = length-map-range_with_len in_circle 0 ramp_size ∙ ramp_size-is

dropped : (f : ℕ → ℕ) (s a m n b : ℕ) → m ≡ n + s → b ≡ a + s
    → drop s (map f (range_with_len a m)) ≡ map f (range_with_len b n)
dropped f zero a m n b size place =
    let same_size : m ≡ n = omega arith in
    let same_place : b ≡ a = omega arith in
    rw (same_size, same_place) refl
dropped f (suc s) a zero n b size place = absurd (omega arith)
dropped f (suc s) a (suc m) n b size place =
    dropped f s (a + 1) m n b (omega arith) (omega arith)

-- the same octets, counted from places that are the same in the circle
shifted : (i n a b : ℕ) → a % 256 ≡ (i + b) % 256
    → map in_circle (range_with_len a n) ≡ map (octet_at i) (range_with_len b n)
shifted i zero a b same = refl
shifted i (suc n) a b same =
    let next : (a + 1) % 256 ≡ (i + (b + 1)) % 256 = omega arith in
    ap (λ x. x ∷ map in_circle (range_with_len (a + 1) n)) same
    ∙ ap (λ xs. octet_at i b ∷ xs) (shifted i n (a + 1) (b + 1) next)

pub stretch : (i s : ℕ) → s ≡ (i + 2) % 256
    → take body_octets (drop s ramp_octets) ≡ body_at i
unfolding ramp_octets
stretch i s is =
    let below : s < 256 = omega arith in
    let left : ℕ = ramp_size - s in
    let enough : body_octets ≤ left = omega (arith, ramp_size-is, body_octets-is) in
    let split : ramp_size ≡ left + s = omega (arith, ramp_size-is) in
    let same : s % 256 ≡ (i + 2) % 256 = omega arith in
    ap (take body_octets) (dropped in_circle s 0 ramp_size left s split (omega arith))
    ∙ take-map-range_with_len in_circle s left body_octets enough
    ∙ shifted i body_octets s 2 same
