use Rattle.std.proofs.Common.{ℕ, ◌≡◌, ◌≤◌, ◌+◌, ◌*◌, ◌/◌, ◌++◌, List, [], ◌∷◌, length, take, drop}
use Rattle.std.proofs.Common.{slice_index, refl, ap, ◌∙◌, append_assoc, arith}
use Rattle.std.proofs.lemmas.Nat.{and_mask}
use Rattle.std.proofs.lemmas.Slice.{take-put_mid}
use Rattle.std.proofs.lemmas.Simd.{chunk-drop, length-chunk}
use Rattle.std.specs.Simd.Lanes.{chunk}
use Rattle.hex.proofs.HexLemmas.{length-encode_with}
use Rattle.hex.proofs.Pairs.{encode_step, encode_done}
use Rattle.hex.specs.Hex.{encode_with, lower_digits}
use borrow.Rule.Slice.PartMut.{put_mid}
use Rattle.hex_text.proofs.writing.spell.Goals as goal

encode_with-append : (t xs ys : List ℕ)
    → encode_with t (xs ++ ys) ≡ encode_with t xs ++ encode_with t ys
unfolding encode_with
encode_with-append t [] ys = refl
encode_with-append t (x ∷ xs) ys = rw (encode_with-append t xs ys) refl

-- the digits of n octets more are written, those from i up to j
encode_block : (t input output block : List ℕ) (i n j m k : ℕ)
    → i + n ≤ length input → length output ≡ 2 * length input → m ≡ 2 * i → j ≡ i + n
    → block ≡ encode_with t (chunk i n input)
    → take (2 * i) output ++ encode_with t (drop i input) ≡ encode_with t input
    → take (2 * j) (put_mid m k output block) ++ encode_with t (drop j input)
    ≡ encode_with t input
encode_block t input output block i n j m k fits long em ej is inv =
    let size : length block ≡ 2 * n = rw (is, length-encode_with, length-chunk) refl in
    let front = take-put_mid m k output block (2 * j) (omega arith) (omega arith) in
    rw (front, append_assoc, em, ej, is, ← encode_with-append, ← chunk-drop) inv

pub loop-b-preserved : goal.loop-b-preserved
loop-b-preserved c =
    let b : ℕ = c.loop-b.b in
    encode_block lower_digits c.args.octets.now c.loop-b.digits c.spell_block.new.digits (16 * b)
    _ (16 * (b + 1)) (32 * b) _ (omega arith) (omega arith) (omega arith) (omega arith)
    c.spell_block.ensures c.loop-b.invariant

pub loop-i-init : goal.loop-i-init
loop-i-init c =
    let all : c.loop-b.b ≡ length c.args.octets.now / 16 = omega arith in
    rw all at c.loop-b.invariant

pub loop-i-preserved : goal.loop-i-preserved
loop-i-preserved c =
    let octet : ℕ = slice_index c.args.octets.now c.loop-i.i in
    encode_step lower_digits c.args.octets.now c.loop-i.digits c.loop-i.i _ _ (omega arith)
    (omega arith) c.digit.ensures
    (c.digit-in-loop-i.ensures ∙ ap (λ (k : ℕ). slice_index lower_digits k) (and_mask octet 4))
    c.loop-i.invariant

pub returns : goal.returns
returns c = encode_done lower_digits _ _ c.loop-i.i (omega arith) (omega arith) c.loop-i.invariant
