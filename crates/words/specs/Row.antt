-- A row of words, told as a kind of word is, with how many words it may have.
use Rattle.std.proofs.Common.{◌≡◌, ℕ, ◌≤◌, Bool, false, List, [], ◌∷◌, length, Option, Some, None}
use Rattle.std.proofs.Common.{refl, sym, ◌∙◌, ap, subst, arith}
use Rattle.words.specs.Alphabet.{EachOf}
use Rattle.words.specs.Kind.{Views}
use Rattle.words.specs.Steps.{◌>>=◌, some_bind, some_is}

-- A row of further words.
pub record Row (X : Type 0) : Type 1 where
  pub read : List (List ℕ) → Option X
  pub write : X → List (List ℕ)
  pub Fits : X → Type 0
  pub Spells : X → List (List ℕ) → Type 0
  pub alphabet : ℕ → Bool
  -- how many words it has
  pub least : ℕ
  pub most : ℕ
  pub is_spelled : (ws : List (List ℕ)) (x : X) → read ws ≡ Some x → Fits x × Spells x ws
  pub is_read : (ws : List (List ℕ)) (x : X) → Fits x → Spells x ws → read ws ≡ Some x
  pub canonical : (x : X) → Fits x → Spells x (write x)
  pub clean : (ws : List (List ℕ)) (x : X) → Fits x → Spells x ws → EachOf alphabet ws
  pub counted : (ws : List (List ℕ)) (x : X) → Fits x → Spells x ws
      → (least ≤ length ws) × (length ws ≤ most)

-- no further word
abbrev pub none_read : List (List ℕ) → Option (Unit {0})
none_read [] = Some tt
none_read (w ∷ ws) = None

pub none_only : (ws : List (List ℕ)) (x : Unit {0}) → none_read ws ≡ Some x → Unit {0} × (ws ≡ [])
none_only [] x e = (tt, refl)
none_only (w ∷ ws) x e = absurd cc

abbrev pub nothing : Row (Unit {0})
nothing = record {
  read = none_read;
  write = λ x. [];
  Fits = λ x. Unit {0};
  Spells = λ x ws. ws ≡ [];
  alphabet = λ c. false;
  least = 0;
  most = 0;
  is_spelled = none_only;
  is_read = λ ws x fits e. rw e refl;
  canonical = λ x fits. refl;
  clean = λ ws x fits e. subst (EachOf (λ c. false)) (sym e) tt;
  counted = λ ws x fits e. subst (λ (ws : List (List ℕ)). (0 ≤ length ws) × (length ws ≤ 0)) (sym e)
      (omega arith, omega arith);
}

abbrev pub row_as : {X Y : Type 0} → Row X → Views X Y → Row Y
row_as r s = record {
  read = λ ws. r.read ws >>= λ x. Some (s.to x);
  write = λ y. r.write (s.from y);
  Fits = λ y. r.Fits (s.from y);
  Spells = λ y ws. r.Spells (s.from y) ws;
  alphabet = r.alphabet;
  least = r.least;
  most = r.most;
  is_spelled = λ ws y e.
      let read = some_bind (r.read ws) (λ x. Some (s.to x)) y e in
      let same : read.0 ≡ s.from y = sym (s.back read.0)
      ∙ ap s.from (some_is (s.to read.0) y read.2) in
      subst (λ x. r.Fits x × r.Spells x ws) same (r.is_spelled ws read.0 read.1);
  is_read = λ ws y fits e. rw (r.is_read ws (s.from y) fits e) (ap Some (s.there y));
  canonical = λ y fits. r.canonical (s.from y) fits;
  clean = λ ws y fits e. r.clean ws (s.from y) fits e;
  counted = λ ws y fits e. r.counted ws (s.from y) fits e;
}
