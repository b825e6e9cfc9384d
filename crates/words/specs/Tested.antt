-- A row whose values pass a test.
use Rattle.std.proofs.Common.{◌≡◌, ℕ, Bool, true, if◌then◌else◌, List, Option, Some, None, refl}
use Rattle.std.proofs.Common.{subst}
use Rattle.words.specs.Row.{Row}
use Rattle.words.specs.Steps.{◌>>=◌, some_bind, if_some}

module _ {X : Type 0} (r : Row X) (test : X → Bool) where
  abbrev pub tested_read : List (List ℕ) → Option X
  tested_read ws = r.read ws >>= λ x. if test x then Some x else None

  pub tested_is : (ws : List (List ℕ)) (x : X) → tested_read ws ≡ Some x
      → (r.Fits x × (test x ≡ true)) × r.Spells x ws
  tested_is ws x e =
      let read = some_bind (r.read ws) (λ x. if test x then Some x else None) x e in
      let passed = if_some (test read.0) read.0 x read.2 in
      let is = r.is_spelled ws read.0 read.1 in
      subst (λ x. (r.Fits x × (test x ≡ true)) × r.Spells x ws) passed.1 ((is.0, passed.0), is.1)

  pub tested_again : (ws : List (List ℕ)) (x : X) → r.Fits x × (test x ≡ true) → r.Spells x ws
      → tested_read ws ≡ Some x
  tested_again ws x fits e = rw (r.is_read ws x fits.0 e, fits.1) refl

  abbrev pub tested : Row X
  tested = record {
    read = tested_read;
    write = r.write;
    Fits = λ x. r.Fits x × (test x ≡ true);
    Spells = r.Spells;
    alphabet = r.alphabet;
    least = r.least;
    most = r.most;
    is_spelled = tested_is;
    is_read = tested_again;
    canonical = λ x fits. r.canonical x fits.0;
    clean = λ ws x fits e. r.clean ws x fits.0 e;
    counted = λ ws x fits e. r.counted ws x fits.0 e;
  }
