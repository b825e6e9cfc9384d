use Rattle.std.proofs.Common.{ℕ, ◌≡◌, ◌+◌, ◌*◌, ◌<◌, ◌/◌, ◌%◌, List, [], length, get_or, drop, suc, zero, add-zero}
use Rattle.std.proofs.Common.{ap, ◌∙◌, arith}
use Rattle.std.proofs.lemmas.Bool.{ltb-true}
use Rattle.std.proofs.lemmas.List.{get_or-drop, get_or-take}
use Rattle.std.specs.Simd.{first_chunks}
use Rattle.hex.proofs.Pairs.{decode_done}
use Rattle.hex_text.proofs.Steps.{reads_on}
use Rattle.hex_text.proofs.Values.{value_of}
use Rattle.hex_text.proofs.reading.read_pairs.Goals as goal

-- a digit of a pair
of_pair : (k i j : ℕ) (s : List ℕ) → i < k → j < 2
    → get_or (get_or (first_chunks 2 k s) i []) j 0 ≡ get_or s (2 * i + j) 0
of_pair zero i j s below first = absurd (omega arith)
of_pair (suc k) zero j s below first =
    let on : j ≡ 2 * zero + j = omega arith in
    get_or-take 2 s j 0 first ∙ ap (λ (n : ℕ). get_or s n 0) on
of_pair (suc k) (suc i) j s below first =
    let on : 2 + (2 * i + j) ≡ 2 * suc i + j = omega arith in
    of_pair k i j (drop 2 s) (omega arith) first ∙ get_or-drop 2 s (2 * i + j) 0
    ∙ ap (λ (n : ℕ). get_or s n 0) on

pub octets-preserved : goal.octets-preserved
octets-preserved c =
    let s : List ℕ = c.args.digits.now in
    let i : ℕ = c.octets.i in
    let half : ℕ = length s / 2 in
    let below : i < half = omega arith in
    let pair : (j : ℕ) → j < 2
    → get_or (get_or c.as_chunks.result.0.now i []) j 0 ≡ get_or s (2 * i + j) 0 =
    λ j first. rw c.as_chunks.ensures.front (of_pair half i j s below first) in
    let high = c.value-high.ensures ∙ ap value_of (rw add-zero at (pair 0 (omega arith))) in
    let low = c.value-low.ensures ∙ ap value_of (pair 1 (omega arith)) in
    let on = reads_on s c.octets.octets i c.octets.greatest c.value-high.result c.value-low.result
    (omega arith) (omega arith) high low c.octets.invariant in
    rw (c.max-greatest.ensures, c.max.ensures) on

pub returns-clause-all : goal.returns-clause-all
returns-clause-all c test =
    let s : List ℕ = c.args.digits.now in
    let small = ltb-true c.octets.greatest 16 test in
    let even : length s % 2 ≡ 0 = omega arith in
    let done = decode_done s c.octets.octets c.octets.i (omega arith) (omega arith)
    (c.octets.invariant.digits small) in
    rw even done
