-- A row of one word.
use Rattle.std.proofs.Common.{◌≡◌, ℕ, ◌≤◌, List, [], ◌∷◌, length, Option, Some, None, arith}
use Rattle.words.specs.Alphabet.{EachOf}
use Rattle.words.specs.Kind.{Kind}
use Rattle.words.specs.Row.{Row}

-- one word, the last one
abbrev pub last_read : {X : Type 0} → (List ℕ → Option X) → List (List ℕ) → Option X
last_read read [] = None
last_read read (w ∷ []) = read w
last_read read (w ∷ v ∷ ws) = None

abbrev pub last_spelled : (List ℕ → Type 0) → List (List ℕ) → Type 0
last_spelled spells [] = ⊥
last_spelled spells (w ∷ []) = spells w
last_spelled spells (w ∷ v ∷ ws) = ⊥

module _ {X : Type 0} (k : Kind X) where
  pub last_is : (ws : List (List ℕ)) (x : X) → last_read k.read ws ≡ Some x
      → k.Fits x × last_spelled (k.Spells x) ws
  last_is [] x e = absurd cc
  last_is (w ∷ []) x e = k.is_spelled w x e
  last_is (w ∷ v ∷ ws) x e = absurd cc

  pub last_again : (ws : List (List ℕ)) (x : X) → k.Fits x → last_spelled (k.Spells x) ws
      → last_read k.read ws ≡ Some x
  last_again [] x fits e = absurd e
  last_again (w ∷ []) x fits e = k.is_read w x fits e
  last_again (w ∷ v ∷ ws) x fits e = absurd e

  pub last_clean : (ws : List (List ℕ)) (x : X) → k.Fits x → last_spelled (k.Spells x) ws
      → EachOf k.alphabet ws
  last_clean [] x fits e = absurd e
  last_clean (w ∷ []) x fits e = (k.clean w x fits e, tt)
  last_clean (w ∷ v ∷ ws) x fits e = absurd e

  pub last_counted : (ws : List (List ℕ)) (x : X) → k.Fits x → last_spelled (k.Spells x) ws
      → (1 ≤ length ws) × (length ws ≤ 1)
  last_counted [] x fits e = absurd e
  last_counted (w ∷ []) x fits e = (omega arith, omega arith)
  last_counted (w ∷ v ∷ ws) x fits e = absurd e

  abbrev pub last : Row X
  last = record {
    read = last_read k.read;
    write = λ x. k.write x ∷ [];
    Fits = k.Fits;
    Spells = λ x ws. last_spelled (k.Spells x) ws;
    alphabet = k.alphabet;
    least = 1;
    most = 1;
    is_spelled = last_is;
    is_read = last_again;
    canonical = k.canonical;
    clean = last_clean;
    counted = last_counted;
  }
