-- A kind of word: what is read, how a value is written, which values fit, which words spell a
-- value, and the facts of these.
use Rattle.std.proofs.Common.{◌≡◌, ℕ, Bool, List, Option, Some, sym, ◌∙◌, ap, subst}
use Rattle.words.specs.Alphabet.{Of}
use Rattle.words.specs.Steps.{◌>>=◌, some_bind, some_is}

-- A kind of word.
pub record Kind (X : Type 0) : Type 1 where
  pub read : List ℕ → Option X
  -- the canonical spelling
  pub write : X → List ℕ
  pub Fits : X → Type 0
  pub Spells : X → List ℕ → Type 0
  -- the octets that a spelling may have
  pub alphabet : ℕ → Bool
  pub is_spelled : (w : List ℕ) (x : X) → read w ≡ Some x → Fits x × Spells x w
  pub is_read : (w : List ℕ) (x : X) → Fits x → Spells x w → read w ≡ Some x
  pub canonical : (x : X) → Fits x → Spells x (write x)
  pub clean : (w : List ℕ) (x : X) → Fits x → Spells x w → Of alphabet w

-- Two views of the same values.
pub record Views (X Y : Type 0) : Type 0 where
  pub to : X → Y
  pub from : Y → X
  pub there : (y : Y) → to (from y) ≡ y
  pub back : (x : X) → from (to x) ≡ x

-- the same values seen otherwise
abbrev pub kind_as : {X Y : Type 0} → Kind X → Views X Y → Kind Y
kind_as k s = record {
  read = λ w. k.read w >>= λ x. Some (s.to x);
  write = λ y. k.write (s.from y);
  Fits = λ y. k.Fits (s.from y);
  Spells = λ y w. k.Spells (s.from y) w;
  alphabet = k.alphabet;
  is_spelled = λ w y e.
      let read = some_bind (k.read w) (λ x. Some (s.to x)) y e in
      let same : read.0 ≡ s.from y = sym (s.back read.0)
      ∙ ap s.from (some_is (s.to read.0) y read.2) in
      subst (λ x. k.Fits x × k.Spells x w) same (k.is_spelled w read.0 read.1);
  is_read = λ w y fits e. rw (k.is_read w (s.from y) fits e) (ap Some (s.there y));
  canonical = λ y fits. k.canonical (s.from y) fits;
  clean = λ w y fits e. k.clean w (s.from y) fits e;
}
