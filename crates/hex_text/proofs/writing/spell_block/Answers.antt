use Rattle.std.proofs.Common.{ℕ, ◌≡◌, ◌%◌, ◌<◌, sym, arith, bit_and}
use Rattle.std.proofs.lemmas.Nat.{and_mask}
use Rattle.std.proofs.lemmas.Simd.{Each1-all, Each1-zip2, Each2-splat, pick_l_whole}
use Rattle.hex.specs.Hex.{encode_with}
use Rattle.hex_text.proofs.writing.spell_block.Goals as goal

low_half : (x : ℕ) → bit_and x 15 ≡ x % 16
low_half x = and_mask x 4

low_small : (x : ℕ) → bit_and x 15 < 16
low_small x = rw low_half (omega arith)

pub sixteen-low-requires : goal.sixteen-low-requires
sixteen-low-requires c =
    Each1-zip2 _ (λ v. v < 16) _ _ (Each2-splat _ _ 16 15 (Each1-all _ low_small _))

-- with both slices written out element by element, the code and `encode_with` compute to one list
pub returns : goal.returns
unfolding encode_with
returns c =
    let octets = sym (pick_l_whole 0 c.args.octets.now 16 c.requires.octets) in
    let digits = sym (pick_l_whole 0 c.args.digits.now 32 c.requires.digits) in
    rw (c.sixteen-high.ensures, c.sixteen-low.ensures, octets, digits) (simp low_half)
