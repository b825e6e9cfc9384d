-- The steps of a look at 1,000 entries.
use Rattle.std.proofs.Common.{◌≡◌, ℕ, ◌+◌, ◌*◌, ◌^◌, ◌<◌, ◌≤◌, length, arith}
use Rattle.std.specs.Prelude.{Result, Ok, Err, IfOk}
use Rattle.frame_select.specs.declared.glimpse.Glimpse.{Glimpse}

pub ninety_four : {X E : Type 0} (seen : X → Glimpse) (r : Result X E) (count before after : ℕ)
    → IfOk r (λ x. (b : ℕ) → count < 2 ^ b
    → after ≤ before + (6 * length (seen x).items + 8 * b + 8))
    → IfOk r (λ x. count ≡ 1000 → length (seen x).items ≤ 1 → after ≤ before + 94)
ninety_four seen (Ok x) count before after steps =
    λ is few. let most = steps 10 (omega (arith, is)) in omega (arith, most, few)
ninety_four seen (Err e) count before after steps = tt
