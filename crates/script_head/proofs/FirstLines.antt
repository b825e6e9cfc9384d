-- The lines of a text, one after another.
use Rattle.std.proofs.Common.{◌≡◌, ◌⊎◌, inl, inr, ℕ, ◌+◌, ◌<◌, ◌≤◌, ◌==◌, Bool, true, false, cond}
use Rattle.std.proofs.Common.{not, List, [], ◌∷◌, ◌++◌, length, take, drop, get_or, suc, refl, sym}
use Rattle.std.proofs.Common.{ap, ◌∙◌, if◌then◌else◌, arith}
use Rattle.std.proofs.lemmas.Bool.Decides.{nat_tests}
use Rattle.std.proofs.lemmas.List.{drop_all, take_all}
use Rattle.std.proofs.lemmas.List.Sums.{split_at_first, passes_at_first}
use Rattle.std.specs.List.{position_or_len, before_first, after_first, onto_first, slice_split}
use Rattle.script_head.specs.Lines.{onto_line, lines_of}

-- whether an octet ends a line
abbrev pub ends_line : ℕ → Bool
ends_line octet = octet == 10

abbrev pub line_in : List ℕ → List ℕ
line_in text = before_first ends_line text

abbrev pub behind_in : List ℕ → List ℕ
behind_in text = after_first ends_line text

-- by whether the first octet ends a line
first_by : (octet : ℕ) (text : List ℕ) (ends : Bool)
    → onto_line octet (lines_of text) ≡ (octet ∷ line_in text) ∷ lines_of (behind_in text)
    → (if ends then [] ∷ lines_of text else onto_line octet (lines_of text))
    ≡ take (cond (not ends) (1 + position_or_len ends_line text) 0) (octet ∷ text)
    ∷ lines_of (drop (cond (not ends) (1 + position_or_len ends_line text) 0 + 1) (octet ∷ text))
first_by octet text true later = refl
first_by octet text false later =
    let place : 1 + position_or_len ends_line text ≡ suc (position_or_len ends_line text) =
    omega arith in
    let behind : 1 + position_or_len ends_line text + 1 ≡ suc (position_or_len ends_line text + 1) =
    omega arith in
    rw (behind, place) later

-- an octet that ends no line begins the first one
onto_first_line : (octet : ℕ) (text : List ℕ) → (0 < length text
    → lines_of text ≡ line_in text ∷ lines_of (behind_in text))
    → onto_line octet (lines_of text) ≡ (octet ∷ line_in text) ∷ lines_of (behind_in text)
onto_first_line octet [] later = refl
onto_first_line octet (next ∷ text) later = ap (onto_line octet) (later (omega arith))

-- the first line of a text, and those behind it
pub lines_first : (text : List ℕ) → 0 < length text
    → lines_of text ≡ line_in text ∷ lines_of (behind_in text)
lines_first [] h = absurd (omega arith)
lines_first (octet ∷ text) h = first_by octet text (octet == 10)
    (onto_first_line octet text (lines_first text))

-- a text is its first line, or that line with its end and what stands behind it
ten : (octet : ℕ) → (octet == 10) ≡ true → octet ≡ 10
ten octet is = grind (arith, nat_tests)

pub text_split : (text : List ℕ) → ((text ≡ line_in text) × (behind_in text ≡ []))
    ⊎ (text ≡ line_in text ++ 10 ∷ behind_in text)
text_split text = by_place (nat_cases (position_or_len ends_line text) (length text))
  where
    nat_cases : (m n : ℕ) → (m < n) ⊎ (n ≤ m)
    nat_cases m n = grind arith

    by_place : (position_or_len ends_line text < length text)
        ⊎ (length text ≤ position_or_len ends_line text)
        → ((text ≡ line_in text) × (behind_in text ≡ []))
        ⊎ (text ≡ line_in text ++ 10 ∷ behind_in text)
    by_place (inl within) = inr (split_at_first ends_line text 0 within
        ∙ ap (λ octet. line_in text ++ octet ∷ behind_in text)
        (ten (get_or text (position_or_len ends_line text) 0)
        (passes_at_first ends_line text 0 within)))
    by_place (inr past) = inl (
      sym (take_all (position_or_len ends_line text) text past),
      drop_all (position_or_len ends_line text + 1) text (omega arith),
    )

-- a line with its end is the first one, whatever stands behind it
line_by : (octet : ℕ) (text rest : List ℕ) (ends : Bool) → (octet == 10) ≡ ends
    → lines_of (line_in text ++ 10 ∷ rest) ≡ line_in text ∷ lines_of rest
    → lines_of (take (cond (not ends) (1 + position_or_len ends_line text) 0) (octet ∷ text)
    ++ 10 ∷ rest)
    ≡ take (cond (not ends) (1 + position_or_len ends_line text) 0) (octet ∷ text)
    ∷ lines_of rest
line_by octet text rest true is later = refl
line_by octet text rest false is later =
    let place : 1 + position_or_len ends_line text ≡ suc (position_or_len ends_line text) =
    omega arith in
    rw (place, is, later) refl

pub line_ended : (text rest : List ℕ)
    → lines_of (line_in text ++ 10 ∷ rest) ≡ line_in text ∷ lines_of rest
line_ended [] rest = refl
line_ended (octet ∷ text) rest = line_by octet text rest (octet == 10) refl (line_ended text rest)

-- The parts of a text are its lines; where it ends with a line's end, an empty part is behind them.
abbrev pub parts_of : List ℕ → List (List ℕ)
parts_of text = slice_split ends_line text

abbrev AreLines : List (List ℕ) → List (List ℕ) → Type 0
AreLines parts lines = (parts ≡ lines ++ [] ∷ []) ⊎ (parts ≡ lines)

onto_ended : (octet : ℕ) (parts lines : List (List ℕ)) → parts ≡ lines ++ [] ∷ []
    → AreLines (onto_first octet parts) (onto_line octet lines)
onto_ended octet parts [] is = inr (ap (onto_first octet) is)
onto_ended octet parts (line ∷ lines) is = inl (ap (onto_first octet) is)

onto_same : (octet : ℕ) (lines : List (List ℕ)) → onto_first octet lines ≡ onto_line octet lines
onto_same octet [] = refl
onto_same octet (line ∷ lines) = refl

parts_by : (octet : ℕ) (text : List ℕ) (ends : Bool) → AreLines (parts_of text) (lines_of text)
    → AreLines (cond ends ([] ∷ parts_of text) (onto_first octet (parts_of text)))
    (if ends then [] ∷ lines_of text else onto_line octet (lines_of text))
parts_by octet text true (inl is) = inl (ap (λ ps. [] ∷ ps) is)
parts_by octet text true (inr is) = inr (ap (λ ps. [] ∷ ps) is)
parts_by octet text false (inl is) = onto_ended octet (parts_of text) (lines_of text) is
parts_by octet text false (inr is) = inr (ap (onto_first octet) is
    ∙ onto_same octet (lines_of text))

pub parts_are_lines : (text : List ℕ) → AreLines (parts_of text) (lines_of text)
parts_are_lines [] = inl refl
parts_are_lines (octet ∷ text) = parts_by octet text (octet == 10) (parts_are_lines text)
