-- A word that is one of a list, for values that have a word each.
use Rattle.std.proofs.Common.{◌≡◌, ℕ, inl, inr, Bool, false, ◌||◌, if◌then◌else◌, List, [], ◌∷◌}
use Rattle.std.proofs.Common.{Option, Some, None, refl, sym, ◌∙◌, ap, subst}
use Rattle.std.specs.Str.{bytes_eq}
use Rattle.words.specs.Alphabet.{Of, of_more, among, among_itself}
use Rattle.words.specs.Fixed.{same_word}
use Rattle.words.specs.Kind.{Kind}
use Rattle.words.specs.Steps.{some_is, chosen, or_left, or_right}

-- the first value whose word this is
abbrev pub value_of : {X : Type 0} → (X → List ℕ) → List X → List ℕ → Option X
value_of word [] w = None
value_of word (x ∷ xs) w = if bytes_eq w (word x) then Some x else value_of word xs w

abbrev pub among_words : {X : Type 0} → (X → List ℕ) → List X → ℕ → Bool
among_words word [] c = false
among_words word (x ∷ xs) c = among (word x) c || among_words word xs c

-- each value is the first one of its word
abbrev pub AreListed : {X : Type 0} → (X → List ℕ) → List X → Type 0
AreListed {X} word all = (x : X) → value_of word all (word x) ≡ Some x

pub listed_is : {X : Type 0} (word : X → List ℕ) (xs : List X) (w : List ℕ) (x : X)
    → value_of word xs w ≡ Some x → w ≡ word x
listed_is word [] w x e = absurd cc
listed_is word (y ∷ ys) w x e =
    elim (chosen (bytes_eq w (word y)) (Some y) (value_of word ys w) (Some x) e) [
      | inl h ↦ same_word w (word y) h.0 ∙ ap word (some_is y x h.1)
      | inr h ↦ listed_is word ys w x h.1
    ]

pub listed_clean : {X : Type 0} (word : X → List ℕ) (xs : List X) (w : List ℕ) (x : X)
    → value_of word xs w ≡ Some x → Of (among_words word xs) w
listed_clean word [] w x e = absurd cc
listed_clean word (y ∷ ys) w x e =
    elim (chosen (bytes_eq w (word y)) (Some y) (value_of word ys w) (Some x) e) [
      | inl h ↦
          of_more (among (word y)) (among_words word (y ∷ ys))
          (λ c m. or_left (among (word y) c) (among_words word ys c) m) w
          (subst (Of (among (word y))) (sym (same_word w (word y) h.0)) (among_itself (word y)))
      | inr h ↦
          of_more (among_words word ys) (among_words word (y ∷ ys))
          (λ c m. or_right (among (word y) c) (among_words word ys c) m) w
          (listed_clean word ys w x h.1)
    ]

abbrev pub listed : {X : Type 0} (word : X → List ℕ) (all : List X) → AreListed word all → Kind X
listed word all each = record {
  read = value_of word all;
  write = word;
  Fits = λ x. Unit {0};
  Spells = λ x w. w ≡ word x;
  alphabet = among_words word all;
  is_spelled = λ w x e. (tt, listed_is word all w x e);
  is_read = λ w x fits e. ap (value_of word all) e ∙ each x;
  canonical = λ x fits. refl;
  clean = λ w x fits e. listed_clean word all w x (ap (value_of word all) e ∙ each x);
}
