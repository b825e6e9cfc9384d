use Rattle.std.proofs.Common.{ℕ, ◌≡◌, ◌<◌, ◌+◌, ◌%◌, List, [], ◌∷◌, length, map, slice_index}
use Rattle.std.proofs.Common.{nat_lt, cond, refl, arith}
use Rattle.std.specs.Prelude.{replicate}
use Rattle.std.specs.Simd.Lanes.{Each1, zip2, sel_l, top}
use Rattle.hex.specs.Hex.{lower_digits}
use Rattle.hex_text.proofs.writing.sixteen.Goals as goal

-- one lane: a comparison leaves 255 or 0, of which `select` reads the top bit
lane : (v : ℕ) → v < 16
    → (v + cond (top 7 (cond (nat_lt 9 v) 255 0)) 87 48) % 256 ≡ slice_index lower_digits v
lane v small = grind (arith)

-- every lane
lanes : (vs : List ℕ) → Each1 (λ v. v < 16) vs
    → zip2 (λ a b. (a + b) % 256) vs
    (sel_l (map (top 7) (zip2 (λ a b. cond (nat_lt a b) 255 0) (replicate (length vs) 9) vs))
    (replicate (length vs) 87) (replicate (length vs) 48))
    ≡ map (λ v. slice_index lower_digits v) vs
lanes [] small = refl
lanes (v ∷ vs) small = rw (lane v small.0, lanes vs small.1) refl

pub returns : goal.returns
returns c = rw c.fits-values.0 at (lanes c.args.values c.requires)
