-- A text as words behind separators.
use Rattle.std.proofs.Common.{◌≡◌, ℕ, ◌≤◌, Bool, true, false, ◌==◌, if◌then◌else◌, List, [], ◌∷◌}
use Rattle.std.proofs.Common.{◌++◌, length, refl, sym, ◌∙◌, ap, arith, append-nil, ne_eqb, eq-eqb}
use Rattle.std.proofs.lemmas.List.Elements.{All-cons, All-nil}
use Rattle.std.proofs.lemmas.List.Splits.{slice_split_none, slice_split_at}
use Rattle.std.proofs.lemmas.List.Splits.{join_with_byte-slice_split}
use Rattle.std.specs.List.{All, slice_split, join_with_byte, onto_first}
use Rattle.words.specs.Alphabet.{Of, EachOf, of_append}
use Rattle.words.specs.Steps.{contradicted}

-- each word with its separator before it
abbrev pub behind : ℕ → List (List ℕ) → List ℕ
behind separator [] = []
behind separator (w ∷ ws) = separator ∷ (w ++ behind separator ws)

abbrev pub parts : ℕ → List ℕ → List (List ℕ)
parts separator text = slice_split (λ found. found == separator) text

pub joined : (separator : ℕ) (w : List ℕ) (ws : List (List ℕ))
    → join_with_byte separator (w ∷ ws) ≡ w ++ behind separator ws
joined separator w [] = sym (append-nil w)
joined separator w (v ∷ ws) = ap (λ rest. w ++ separator ∷ rest) (joined separator v ws)

-- a text is its parts
pub from_parts : (separator : ℕ) (text w : List ℕ) (ws : List (List ℕ))
    → parts separator text ≡ w ∷ ws → text ≡ w ++ behind separator ws
from_parts separator text w ws e = sym (join_with_byte-slice_split separator text)
    ∙ ap (join_with_byte separator) e ∙ joined separator w ws

without : (separator : ℕ) (alphabet : ℕ → Bool) → alphabet separator ≡ false → (w : List ℕ)
    → Of alphabet w → All (λ x. (x == separator) ≡ false) w
without separator alphabet apart [] m = All-nil (λ x. (x == separator) ≡ false)
without separator alphabet apart (c ∷ w) m =
    All-cons (λ x. (x == separator) ≡ false) c w
    (ne_eqb c separator (λ same. contradicted (alphabet c) m.0 (ap alphabet same ∙ apart)))
    (without separator alphabet apart w m.1)

-- words without separators are the parts
pub to_parts : (separator : ℕ) (alphabet : ℕ → Bool) → alphabet separator ≡ false
    → (w : List ℕ) (ws : List (List ℕ)) → Of alphabet w → EachOf alphabet ws
    → parts separator (w ++ behind separator ws) ≡ w ∷ ws
to_parts separator alphabet apart w [] m ms = ap (parts separator) (append-nil w)
    ∙ slice_split_none (λ x. x == separator) w (without separator alphabet apart w m)
to_parts separator alphabet apart w (v ∷ ws) m ms =
    slice_split_at (λ x. x == separator) w separator (v ++ behind separator ws)
    (without separator alphabet apart w m) (eq-eqb separator separator refl)
    ∙ ap (λ ps. w ∷ ps) (to_parts separator alphabet apart v ws ms.0 ms.1)

pub of_behind : (separator : ℕ) (h : ℕ → Bool) → h separator ≡ true → (ws : List (List ℕ))
    → EachOf h ws → Of h (behind separator ws)
of_behind separator h e [] m = tt
of_behind separator h e (w ∷ ws) m =
    (e, of_append h w (behind separator ws) m.0 (of_behind separator h e ws m.1))

abbrev pub joined_by : ℕ → List (List ℕ) → List ℕ
joined_by separator [] = []
joined_by separator (w ∷ ws) = w ++ behind separator ws

pub some_parts : (separator : ℕ) (text : List ℕ) → 1 ≤ length (parts separator text)
some_parts separator text = omega (arith, length-parts)
  where
    onto : (x : ℕ) (ps : List (List ℕ)) → 1 ≤ length (onto_first x ps)
    onto x [] = omega arith
    onto x (p ∷ ps) = omega arith

    at : (text : List ℕ) → 1 ≤ length (parts separator text)
    at [] = omega arith
    at (x ∷ xs) = elim (x == separator) as (λ b.
        1 ≤ length (if b then [] ∷ parts separator xs else onto_first x (parts separator xs)))
        [ true ↦ omega arith | false ↦ onto x (parts separator xs) ]

    length-parts : 1 ≤ length (parts separator text)
    length-parts = at text

pub text_is_parts : (separator : ℕ) (text : List ℕ) (ws : List (List ℕ)) → parts separator text ≡ ws
    → 1 ≤ length ws → text ≡ joined_by separator ws
text_is_parts separator text [] e some = absurd (omega (arith, some))
text_is_parts separator text (w ∷ ws) e some = from_parts separator text w ws e

pub parts_of_text : (separator : ℕ) (alphabet : ℕ → Bool) → alphabet separator ≡ false
    → (ws : List (List ℕ)) → 1 ≤ length ws → EachOf alphabet ws
    → parts separator (joined_by separator ws) ≡ ws
parts_of_text separator alphabet apart [] some made = absurd (omega (arith, some))
parts_of_text separator alphabet apart (w ∷ ws) some made =
    to_parts separator alphabet apart w ws made.0 made.1

pub of_text : (separator : ℕ) (h : ℕ → Bool) → h separator ≡ true → (ws : List (List ℕ))
    → EachOf h ws → Of h (joined_by separator ws)
of_text separator h e [] m = tt
of_text separator h e (w ∷ ws) m = of_append h w (behind separator ws) m.0
    (of_behind separator h e ws m.1)
