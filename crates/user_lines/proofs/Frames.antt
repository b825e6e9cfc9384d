-- A frame's line, from its two parts.
use Rattle.std.proofs.Common.{◌≡◌, ℕ, List, [], ◌∷◌, ◌++◌, refl, sym, ap, ◌∙◌, append_assoc}
use Rattle.std.proofs.Common.{ℤ, ◌-◌, length, take_all, Option, Result, Ok, Err, arith}
use Rattle.std.specs.Prelude.{codes, OnOk}
use Rattle.cds_time.specs.declared.cds.Cds.{Cds}
use Rattle.sle_common.specs.Antenna.{Antenna}
use Rattle.sle_numbers.specs.declared.frame_quality.FrameQuality.{FrameQuality}
use Rattle.ber_core.specs.View.{left, view_before}
use Rattle.user_lines.specs.Lines.{behind, line, time_word, quality_words, content_words}

behind_both : (xs ys : List (List ℕ)) → behind (xs ++ ys) ≡ behind xs ++ behind ys
behind_both [] ys = refl
behind_both (x ∷ xs) ys =
    ap (λ rest. 32 ∷ (x ++ rest)) (behind_both xs ys)
    ∙ ap (λ rest. 32 ∷ rest) (sym (append_assoc x (behind xs) (behind ys)))

pub behind_on : (text : List ℕ) (xs ys : List (List ℕ))
    → (text ++ behind xs) ++ behind ys ≡ text ++ behind (xs ++ ys)
behind_on text xs ys =
    append_assoc text (behind xs) (behind ys) ∙ ap (λ rest. text ++ rest) (sym (behind_both xs ys))

five : (a b c d e : List ℕ) → ((a ++ b) ++ c) ++ (d ++ e) ≡ a ++ (b ++ ((c ++ d) ++ e))
five a b c d e =
    append_assoc (a ++ b) c (d ++ e)
    ∙ append_assoc a b (c ++ (d ++ e))
    ∙ ap (λ x. a ++ (b ++ x)) (sym (append_assoc c d e))

pub frame_text : (ert : Cds) (quality : Option FrameQuality) (continuity : ℤ) (antenna : Antenna)
    (octets text : List ℕ)
    → ((text ++ codes "frame") ++ behind (time_word ert ∷ quality_words quality))
    ++ (behind (content_words continuity antenna octets) ++ 10 ∷ [])
    ≡ text
    ++ line (codes "frame")
    (time_word ert ∷ (quality_words quality ++ content_words continuity antenna octets))
frame_text ert quality continuity antenna octets text =
    five text (codes "frame") (behind (time_word ert ∷ quality_words quality))
    (behind (content_words continuity antenna octets)) (10 ∷ [])
    ∙ ap (λ x. text ++ (codes "frame" ++ (x ++ 10 ∷ [])))
    (sym (behind_both (time_word ert ∷ quality_words quality)
    (content_words continuity antenna octets)))

-- all octets are left to a reader before the first
pub left_before : (octets : List ℕ) → left (view_before octets) ≡ octets
left_before octets = take_all (length octets - 0) octets (omega arith)

pub on_ok : {T E P Q : Type 0} (r : Result T E) → (P → Q) → OnOk r P → OnOk r Q
on_ok (Ok _) f p = f p
on_ok (Err _) f p = p
