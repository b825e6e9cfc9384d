-- A word, and a row behind it.
use Rattle.std.proofs.Common.{◌≡◌, ℕ, suc, ◌≤◌, Bool, ◌||◌, List, [], ◌∷◌, length, Option, Some}
use Rattle.std.proofs.Common.{None, refl, subst, arith}
use Rattle.words.specs.Alphabet.{EachOf, of_more, each_of_more}
use Rattle.words.specs.Kind.{Kind}
use Rattle.words.specs.Row.{Row}
use Rattle.words.specs.Steps.{◌>>=◌, some_bind, some_is, or_left, or_right}

-- a word, and what stands behind it
abbrev pub pair_read : {X Y : Type 0} → (List ℕ → Option X) → (List (List ℕ) → Option Y)
    → List (List ℕ) → Option (X × Y)
pair_read first others [] = None
pair_read first others (w ∷ ws) = first w >>= λ x. others ws >>= λ y. Some (x, y)

abbrev pub pair_spelled : (List ℕ → Type 0) → (List (List ℕ) → Type 0) → List (List ℕ) → Type 0
pair_spelled first others [] = ⊥
pair_spelled first others (w ∷ ws) = first w × others ws

module _ {X Y : Type 0} (k : Kind X) (r : Row Y) where
  abbrev both_fit : X × Y → Type 0
  both_fit p = k.Fits p.0 × r.Fits p.1

  abbrev both_spell : X × Y → List (List ℕ) → Type 0
  both_spell p ws = pair_spelled (k.Spells p.0) (r.Spells p.1) ws

  abbrev either_octet : ℕ → Bool
  either_octet c = k.alphabet c || r.alphabet c

  pub pair_is : (ws : List (List ℕ)) (p : X × Y) → pair_read k.read r.read ws ≡ Some p
      → both_fit p × both_spell p ws
  pair_is [] p e = absurd cc
  pair_is (w ∷ ws) p e =
      let first = some_bind (k.read w) (λ x. r.read ws >>= λ y. Some (x, y)) p e in
      let others = some_bind (r.read ws) (λ y. Some (first.0, y)) p first.2 in
      let one = k.is_spelled w first.0 first.1 in
      let more = r.is_spelled ws others.0 others.1 in
      subst (λ p. both_fit p × both_spell p (w ∷ ws)) (some_is (first.0, others.0) p others.2)
      ((one.0, more.0), (one.1, more.1))

  pub pair_again : (ws : List (List ℕ)) (p : X × Y) → both_fit p → both_spell p ws
      → pair_read k.read r.read ws ≡ Some p
  pair_again [] p fits e = absurd e
  pair_again (w ∷ ws) p fits e = rw (k.is_read w p.0 fits.0 e.0, r.is_read ws p.1 fits.1 e.1) refl

  pub pair_clean : (ws : List (List ℕ)) (p : X × Y) → both_fit p → both_spell p ws
      → EachOf either_octet ws
  pair_clean [] p fits e = absurd e
  pair_clean (w ∷ ws) p fits e = (
    of_more k.alphabet either_octet (λ c h. or_left (k.alphabet c) (r.alphabet c) h) w
        (k.clean w p.0 fits.0 e.0),
    each_of_more r.alphabet either_octet (λ c h. or_right (k.alphabet c) (r.alphabet c) h) ws
        (r.clean ws p.1 fits.1 e.1),
  )

  pub pair_counted : (ws : List (List ℕ)) (p : X × Y) → both_fit p → both_spell p ws
      → (suc r.least ≤ length ws) × (length ws ≤ suc r.most)
  pair_counted [] p fits e = absurd e
  pair_counted (w ∷ ws) p fits e = let n = r.counted ws p.1 fits.1 e.1 in
      (omega (arith, n.0), omega (arith, n.1))

  abbrev pub and_then : Row (X × Y)
  and_then = record {
    read = pair_read k.read r.read;
    write = λ p. k.write p.0 ∷ r.write p.1;
    Fits = both_fit;
    Spells = both_spell;
    alphabet = either_octet;
    least = suc r.least;
    most = suc r.most;
    is_spelled = pair_is;
    is_read = pair_again;
    canonical = λ p fits. (k.canonical p.0 fits.0, r.canonical p.1 fits.1);
    clean = pair_clean;
    counted = pair_counted;
  }

infixr 10 ◌▸◌
abbrev pub ◌▸◌ : {X Y : Type 0} → Kind X → Row Y → Row (X × Y)
k ▸ r = and_then k r
