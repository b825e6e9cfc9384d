-- Numbers, their entries and their lines, one stretch of them behind another.
use Rattle.std.proofs.Common.{◌≡◌, ◌∙◌, ℕ, zero, suc, ◌+◌, ◌-◌, ◌≤◌, [], ◌∷◌, ◌++◌, map}
use Rattle.std.proofs.Common.{refl, sym, ap, arith}
use Rattle.std.proofs.lemmas.List.{map-append}
use Rattle.std.proofs.lemmas.Grind.{flat_map-append}
use Rattle.std.specs.List.{flat_map, range_with_len}
use Rattle.kill_store.specs.Numbered.{numbered, numbered_between, between, count_line, counts}

behind : (a m n b : ℕ) → a + m ≡ b
    → range_with_len a m ++ range_with_len b n ≡ range_with_len a (m + n)
behind a zero n b e =
    let same : b ≡ a = omega (arith, e) in
    let all : zero + n ≡ n = omega arith in
    rw (same, all) refl
behind a (suc m) n b e =
    let all : suc m + n ≡ suc (m + n) = omega arith in
    rw all (ap (λ rest. a ∷ rest) (behind (a + 1) m n b (omega (arith, e))))

between-append : (a b c : ℕ) → a ≤ b → b ≤ c → between a b ++ between b c ≡ between a c
between-append a b c p q =
    let all : (b - a) + (c - b) ≡ c - a = omega arith in
    behind a (b - a) (c - b) b (omega arith) ∙ ap (range_with_len a) all

pub between-none : (a : ℕ) → between a a ≡ []
between-none a = let none : a - a ≡ 0 = omega arith in ap (range_with_len a) none

pub between-one : (a : ℕ) → between a (a + 1) ≡ a ∷ []
between-one a = let one : (a + 1) - a ≡ 1 = omega arith in ap (range_with_len a) one

pub entries-append : (a b c : ℕ) → a ≤ b → b ≤ c
    → numbered_between a b ++ numbered_between b c ≡ numbered_between a c
entries-append a b c p q =
    sym (map-append numbered (between a b) (between b c))
    ∙ ap (map numbered) (between-append a b c p q)

pub counts-append : (a b c : ℕ) → a ≤ b → b ≤ c → counts a b ++ counts b c ≡ counts a c
counts-append a b c p q =
    sym (flat_map-append (λ number. count_line (number + 1)) (between a b) (between b c))
    ∙ ap (flat_map (λ number. count_line (number + 1))) (between-append a b c p q)

pub entries-none : (number : ℕ) → numbered_between number number ≡ []
entries-none number = ap (map numbered) (between-none number)

pub entries-one : (number : ℕ) → numbered_between number (number + 1) ≡ numbered number ∷ []
entries-one number = ap (map numbered) (between-one number)
