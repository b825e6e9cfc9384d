-- The line of a frame, its octets told apart from what stands before them.
use Rattle.std.proofs.Common.{◌≡◌, ℕ, List, [], ◌∷◌, ◌++◌, append_assoc}
use Rattle.std.proofs.Common.{append-nil, refl, sym, ap, ◌∙◌}
use Rattle.std.specs.Prelude.{codes}
use Rattle.cds_time.specs.declared.cds.Cds.{Cds}
use Rattle.hex.specs.Hex.{encode_lower}
use Rattle.sle_numbers.specs.declared.frame_quality.FrameQuality.{FrameQuality}
use Rattle.record_form.specs.declared.entry.Entry.TheVariants.{Frame}
use Rattle.words.specs.HexOctets.{all_octets}
use Rattle.words.specs.Last.{last}
use Rattle.words.specs.Number.{number}
use Rattle.words.specs.Parts.{behind}
use Rattle.words.specs.Row.{Row}
use Rattle.words.specs.Then.{◌▸◌}
use Rattle.words.specs.Times.{time}
use Rattle.drill_text.specs.Kinds.{quality}
use Rattle.drill_text.specs.Reading.{entry_text}

-- the words of a frame's line before its antenna
abbrev pub first_words : Row (Cds × FrameQuality)
first_words = time ▸ last quality

-- words behind others
behind_join : (separator : ℕ) (ws vs : List (List ℕ))
    → behind separator ws ++ behind separator vs ≡ behind separator (ws ++ vs)
behind_join separator [] vs = refl
behind_join separator (w ∷ ws) vs =
    ap (λ rest. separator ∷ rest)
    (append_assoc w (behind separator ws) (behind separator vs)
    ∙ ap (λ rest. w ++ rest) (behind_join separator ws vs))

-- a line whose words are put behind one another
line_with : (before word : List ℕ) (ws vs us : List (List ℕ)) (last : List ℕ)
    → ((((((before ++ word) ++ behind 32 ws) ++ behind 32 vs) ++ behind 32 us) ++ 32 ∷ []) ++ last)
    ++ 10 ∷ []
    ≡ before ++ ((word ++ behind 32 (ws ++ (vs ++ (us ++ last ∷ [])))) ++ 10 ∷ [])
line_with before word ws vs us last =
    let first = before ++ word in
    let lasts : (32 ∷ []) ++ last ≡ behind 32 (last ∷ []) =
    ap (λ text. 32 ∷ text) (sym (append-nil last)) in
    ap (λ text. text ++ 10 ∷ [])
    (append_assoc (((first ++ behind 32 ws) ++ behind 32 vs) ++ behind 32 us) (32 ∷ []) last
    ∙ ap (λ text. (((first ++ behind 32 ws) ++ behind 32 vs) ++ behind 32 us) ++ text) lasts
    ∙ append_assoc ((first ++ behind 32 ws) ++ behind 32 vs) (behind 32 us) (behind 32 (last ∷ []))
    ∙ ap (λ text. ((first ++ behind 32 ws) ++ behind 32 vs) ++ text)
    (behind_join 32 us (last ∷ []))
    ∙ append_assoc (first ++ behind 32 ws) (behind 32 vs) (behind 32 (us ++ last ∷ []))
    ∙ ap (λ text. (first ++ behind 32 ws) ++ text) (behind_join 32 vs (us ++ last ∷ []))
    ∙ append_assoc first (behind 32 ws) (behind 32 (vs ++ (us ++ last ∷ [])))
    ∙ ap (λ text. first ++ text) (behind_join 32 ws (vs ++ (us ++ last ∷ [])))
    ∙ append_assoc before word (behind 32 (ws ++ (vs ++ (us ++ last ∷ [])))))
    ∙ append_assoc before (word ++ behind 32 (ws ++ (vs ++ (us ++ last ∷ [])))) (10 ∷ [])

-- a frame's line: its first word, the words behind it, and its octets behind a blank
pub line_is : (before : List ℕ) (ert : Cds) (quality : FrameQuality) (antenna : List ℕ) (lost : ℕ)
    (octets : List ℕ)
    → ((((((before ++ codes "frame") ++ behind 32 (first_words.write (ert, quality)))
    ++ behind 32 ((last all_octets).write antenna))
    ++ behind 32 ((last (number 0 16777215)).write lost)) ++ 32 ∷ []) ++ encode_lower octets)
    ++ 10 ∷ []
    ≡ before ++ entry_text (Frame ert quality antenna lost octets)
line_is before ert quality antenna lost octets =
    line_with before (codes "frame") (first_words.write (ert, quality))
    ((last all_octets).write antenna) ((last (number 0 16777215)).write lost)
    (encode_lower octets)
