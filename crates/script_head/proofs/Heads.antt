-- A script with a head, and one without.
use Rattle.std.proofs.Common.{◌≡◌, ◌⊎◌, inl, inr, ℕ, suc, ◌+◌, ◌-◌, ◌<◌, true, false, List, []}
use Rattle.std.proofs.Common.{◌∷◌, ◌++◌, length, length-drop, take, drop, max, Some, None, refl}
use Rattle.std.proofs.Common.{sym, ap, ◌∙◌}
use Rattle.std.proofs.Common.{⊎_elim, arith, Bool, if◌then◌else◌}
use Rattle.std.proofs.lemmas.Slice.Eq.{bytes_eq-Decides}
use Rattle.std.proofs.lemmas.List.{take_all}
use Rattle.std.specs.Prelude.{codes}
use Rattle.station_config.specs.Drafts.{empty, told_from}
use Rattle.script_head.specs.Lines.{lines_of}
use Rattle.script_head.specs.Head.{is_site, before_end, behind_end, settings, running, is_end}
use Rattle.script_head.specs.Head.{empty_lines}
use Rattle.script_head.proofs.FirstLines.{line_in, behind_in, lines_first, text_split}

-- ---- without a head

no_settings_by : (lines : List (List ℕ)) (first : List ℕ) (others : List (List ℕ))
    → lines ≡ first ∷ others → is_site first ≡ false → settings lines ≡ []
no_settings_by lines first others is other = rw (is, other) refl

all_run_by : (lines : List (List ℕ)) (first : List ℕ) (others : List (List ℕ))
    → lines ≡ first ∷ others → is_site first ≡ false → running lines ≡ Some lines
all_run_by lines first others is other = rw (is, other) refl

pub no_settings : (text : List ℕ) → is_site (line_in text) ≡ false → settings (lines_of text) ≡ []
no_settings [] other = refl
no_settings (octet ∷ text) other =
    no_settings_by (lines_of (octet ∷ text)) (line_in (octet ∷ text))
    (lines_of (behind_in (octet ∷ text))) (lines_first (octet ∷ text) (omega arith)) other

pub all_run : (text : List ℕ) → is_site (line_in text) ≡ false
    → running (lines_of text) ≡ Some (lines_of text)
all_run [] other = refl
all_run (octet ∷ text) other =
    all_run_by (lines_of (octet ∷ text)) (line_in (octet ∷ text))
    (lines_of (behind_in (octet ∷ text))) (lines_first (octet ∷ text) (omega arith)) other

-- ---- with a head

-- a slice to the end is all that stands there
pub slice_all : (text : List ℕ) (place : ℕ)
    → take (length text - place) (drop place text) ≡ drop place text
slice_all text place = take_all (length text - place) (drop place text)
    (omega (arith, length-drop place text))

abbrev site : List ℕ
site = codes "site"

pub site_line : (text : List ℕ) → is_site (line_in text) ≡ true → line_in text ≡ site
site_line text is = (bytes_eq-Decides (line_in text) site).0 is

-- what stands behind the word `site`: nothing, or a line's end and the other lines
Behind : List ℕ → Type 0
Behind text = ((drop 4 text ≡ []) × (lines_of text ≡ site ∷ []))
    ⊎ ((drop 4 text ≡ 10 ∷ behind_in text) × (lines_of text ≡ site ∷ lines_of (behind_in text)))

behind_site : (text : List ℕ) → line_in text ≡ site → Behind text
unfolding Behind
behind_site text is = ⊎_elim
    (λ alone. inl (
      ap (drop 4) (alone.0 ∙ is),
      lines_first text (some (alone.0 ∙ is)) ∙ ap (λ line. line ∷ lines_of (behind_in text)) is
          ∙ ap (λ behind. site ∷ lines_of behind) alone.1,
    ))
    (λ more. inr (
      ap (drop 4) (more ∙ ap (λ line. line ++ 10 ∷ behind_in text) is),
      lines_first text (long (more ∙ ap (λ line. line ++ 10 ∷ behind_in text) is))
          ∙ ap (λ line. line ∷ lines_of (behind_in text)) is,
    ))
    (text_split text)
  where
    some : text ≡ site → 0 < length text
    some same = let four : length text ≡ 4 = ap length same in omega (arith, four)

    long : text ≡ site ++ 10 ∷ behind_in text → 0 < length text
    long same = let more : length text ≡ length (site ++ 10 ∷ behind_in text) = ap length same in
        omega (arith, more)

all_by : (line : List ℕ) (lines : List (List ℕ)) (ends : Bool)
    → (behind_end lines ≡ None → before_end lines ≡ lines)
    → (if ends then Some lines else behind_end lines) ≡ None
    → (if ends then [] else line ∷ before_end lines) ≡ line ∷ lines
all_by line lines true all none = absurd cc
all_by line lines false all none = ap (λ others. line ∷ others) (all none)

all_before : (lines : List (List ℕ)) → behind_end lines ≡ None → before_end lines ≡ lines
all_before [] none = refl
all_before (line ∷ lines) none = all_by line lines (is_end line) (all_before lines) none

told_by : (text : List ℕ) → Behind text
    → told_from 1 empty (before_end (lines_of (drop 4 text)))
    ≡ told_from 2 empty (settings (lines_of text))
unfolding Behind
told_by text (inl (none, lines)) = rw (none, lines) refl
told_by text (inr (more, lines)) = rw (more, lines) refl

pub settings_told : (text : List ℕ) → line_in text ≡ site
    → told_from 1 empty (before_end (lines_of (drop 4 text)))
    ≡ told_from 2 empty (settings (lines_of text))
settings_told text is = told_by text (behind_site text is)

ended_by : (text rest : List ℕ) (count : ℕ) → Behind text
    → count ≡ length (before_end (lines_of (drop 4 text)))
    → Some (lines_of rest) ≡ behind_end (lines_of (drop 4 text))
    → running (lines_of text) ≡ Some (empty_lines (count + 1) ++ lines_of rest)
unfolding Behind
ended_by text rest count (inl (none, lines)) counts behind = let no : Some (lines_of rest) ≡ None =
    rw none at behind in absurd cc
ended_by text rest count (inr (more, lines)) counts behind =
    let n : count ≡ suc (length (before_end (lines_of (behind_in text)))) = rw more at counts in
    let later : Some (lines_of rest) ≡ behind_end (lines_of (behind_in text)) =
    rw more at behind in
    let lines_n : count + 1 ≡ length (before_end (lines_of (behind_in text))) + 2 =
    omega (arith, n) in
    rw (lines, lines_n, ← later) refl

pub ended : (text rest : List ℕ) (count : ℕ) → line_in text ≡ site
    → count ≡ length (before_end (lines_of (drop 4 text)))
    → Some (lines_of rest) ≡ behind_end (lines_of (drop 4 text))
    → running (lines_of text) ≡ Some (empty_lines (count + 1) ++ lines_of rest)
ended text rest count is counts behind = ended_by text rest count (behind_site text is) counts
    behind

unended_by : (text : List ℕ) (count : ℕ) → Behind text
    → count ≡ length (before_end (lines_of (drop 4 text)))
    → None ≡ behind_end (lines_of (drop 4 text))
    → (running (lines_of text) ≡ None) × (length (lines_of text) ≡ max count 1)
unfolding Behind
unended_by text count (inl (none, lines)) counts behind =
    let n : count ≡ 0 = rw none at counts in
    rw (lines, n) (refl, refl)
unended_by text count (inr (more, lines)) counts behind =
    let n : count ≡ suc (length (before_end (lines_of (behind_in text)))) = rw more at counts in
    let later : None ≡ behind_end (lines_of (behind_in text)) = rw more at behind in
    let all : before_end (lines_of (behind_in text)) ≡ lines_of (behind_in text) =
    all_before (lines_of (behind_in text)) (sym later) in
    let m : length (before_end (lines_of (behind_in text))) ≡ length (lines_of (behind_in text)) =
    ap length all in
    rw (lines, ← later) (refl, omega (arith, n, m))

pub unended : (text : List ℕ) (count : ℕ) → line_in text ≡ site
    → count ≡ length (before_end (lines_of (drop 4 text)))
    → None ≡ behind_end (lines_of (drop 4 text))
    → (running (lines_of text) ≡ None) × (length (lines_of text) ≡ max count 1)
unended text count is counts behind = unended_by text count (behind_site text is) counts behind
