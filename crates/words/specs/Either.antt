-- A word of one of two kinds.
use Rattle.std.proofs.Common.{◌≡◌, ℕ, ◌⊎◌, inl, inr, ◌||◌, List, Option, Some, None, refl, subst}
use Rattle.words.specs.Alphabet.{Of, of_more}
use Rattle.words.specs.Kind.{Kind}
use Rattle.words.specs.Steps.{◌>>=◌, some_bind, some_is, or_left, or_right}

abbrev pub on_either : {X Y : Type 0} → (X → Type 0) → (Y → Type 0) → X ⊎ Y → Type 0
on_either f g (inl x) = f x
on_either f g (inr y) = g y

abbrev pub either_of : {X Y Z : Type 0} → (X → Z) → (Y → Z) → X ⊎ Y → Z
either_of f g (inl x) = f x
either_of f g (inr y) = g y

abbrev pub or_else : {X Y : Type 0} → Option X → Option Y → Option (X ⊎ Y)
or_else (Some x) o = Some (inl x)
or_else None o = o >>= λ y. Some (inr y)

module _ {X Y : Type 0} (k : Kind X) (l : Kind Y) (apart : (w : List ℕ) (y : Y) → l.Fits y
    → l.Spells y w → k.read w ≡ None) where
  abbrev spells : X ⊎ Y → List ℕ → Type 0
  spells x w = on_either (λ x. k.Spells x w) (λ y. l.Spells y w) x

  either_spelled : (w : List ℕ) (z : X ⊎ Y) (o : Option X) → k.read w ≡ o
      → or_else o (l.read w) ≡ Some z → on_either k.Fits l.Fits z × spells z w
  either_spelled w z (Some x) is e = subst (λ z. on_either k.Fits l.Fits z × spells z w)
      (some_is (inl x) z e) (k.is_spelled w x is)
  either_spelled w z None is e =
      let read = some_bind (l.read w) (λ y. Some (inr y)) z e in
      subst (λ z. on_either k.Fits l.Fits z × spells z w) (some_is (inr read.0) z read.2)
      (l.is_spelled w read.0 read.1)

  pub either_is_spelled : (w : List ℕ) (z : X ⊎ Y) → or_else (k.read w) (l.read w) ≡ Some z
      → on_either k.Fits l.Fits z × on_either (λ x. k.Spells x w) (λ y. l.Spells y w) z
  either_is_spelled w z e = either_spelled w z (k.read w) refl e

  pub either_read : (w : List ℕ) (z : X ⊎ Y) → on_either k.Fits l.Fits z
      → on_either (λ x. k.Spells x w) (λ y. l.Spells y w) z → or_else (k.read w) (l.read w) ≡ Some z
  either_read w (inl x) fits e = rw (k.is_read w x fits e) refl
  either_read w (inr y) fits e = rw (apart w y fits e, l.is_read w y fits e) refl

  pub either_canonical : (z : X ⊎ Y) → on_either k.Fits l.Fits z
      → on_either (λ x. k.Spells x (either_of k.write l.write z))
      (λ y. l.Spells y (either_of k.write l.write z)) z
  either_canonical (inl x) fits = k.canonical x fits
  either_canonical (inr y) fits = l.canonical y fits

  pub either_clean : (w : List ℕ) (z : X ⊎ Y) → on_either k.Fits l.Fits z
      → on_either (λ x. k.Spells x w) (λ y. l.Spells y w) z
      → Of (λ c. k.alphabet c || l.alphabet c) w
  either_clean w (inl x) fits e = of_more k.alphabet (λ c. k.alphabet c || l.alphabet c)
      (λ c h. or_left (k.alphabet c) (l.alphabet c) h) w (k.clean w x fits e)
  either_clean w (inr y) fits e = of_more l.alphabet (λ c. k.alphabet c || l.alphabet c)
      (λ c h. or_right (k.alphabet c) (l.alphabet c) h) w (l.clean w y fits e)

  abbrev pub either : Kind (X ⊎ Y)
  either = record {
    read = λ w. or_else (k.read w) (l.read w);
    write = either_of k.write l.write;
    Fits = on_either k.Fits l.Fits;
    Spells = λ z w. on_either (λ x. k.Spells x w) (λ y. l.Spells y w) z;
    alphabet = λ c. k.alphabet c || l.alphabet c;
    is_spelled = either_is_spelled;
    is_read = either_read;
    canonical = either_canonical;
    clean = either_clean;
  }
