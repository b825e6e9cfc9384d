-- A row of so many words of one kind.
use Rattle.std.proofs.Common.{◌≡◌, ℕ, ◌≤◌, map, ◌&&◌, if◌then◌else◌, nat_le, List, [], ◌∷◌, length}
use Rattle.std.proofs.Common.{Option, Some, None, refl, subst, arith}
use Rattle.std.proofs.lemmas.Bool.{and_parts, leb-true, le-leb}
use Rattle.words.specs.Alphabet.{EachOf}
use Rattle.words.specs.Kind.{Kind}
use Rattle.words.specs.Row.{Row}
use Rattle.words.specs.Steps.{◌>>=◌, some_bind, some_is, if_some}

abbrev pub each_read : {X : Type 0} → (List ℕ → Option X) → List (List ℕ) → Option (List X)
each_read read [] = Some []
each_read read (w ∷ ws) = read w >>= λ x. each_read read ws >>= λ xs. Some (x ∷ xs)

abbrev pub each_spelled : {X : Type 0} → (X → List ℕ → Type 0) → List X → List (List ℕ) → Type 0
each_spelled spells [] [] = Unit {0}
each_spelled spells [] (w ∷ ws) = ⊥
each_spelled spells (x ∷ xs) [] = ⊥
each_spelled spells (x ∷ xs) (w ∷ ws) = spells x w × each_spelled spells xs ws

abbrev pub each_fits : {X : Type 0} → (X → Type 0) → List X → Type 0
each_fits fits [] = Unit {0}
each_fits fits (x ∷ xs) = fits x × each_fits fits xs

module _ {X : Type 0} (k : Kind X) where
  each_is : (ws : List (List ℕ)) (xs : List X) → each_read k.read ws ≡ Some xs
      → each_fits k.Fits xs × each_spelled k.Spells xs ws
  each_is [] xs e = subst (λ xs. each_fits k.Fits xs × each_spelled k.Spells xs [])
      (some_is [] xs e) (tt, tt)
  each_is (w ∷ ws) xs e =
      let first = some_bind (k.read w) (λ x. each_read k.read ws >>= λ xs. Some (x ∷ xs)) xs e in
      let others = some_bind (each_read k.read ws) (λ xs. Some (first.0 ∷ xs)) xs first.2 in
      let one = k.is_spelled w first.0 first.1 in
      let more = each_is ws others.0 others.1 in
      subst (λ xs. each_fits k.Fits xs × each_spelled k.Spells xs (w ∷ ws))
      (some_is (first.0 ∷ others.0) xs others.2) ((one.0, more.0), (one.1, more.1))

  each_again : (ws : List (List ℕ)) (xs : List X) → each_fits k.Fits xs
      → each_spelled k.Spells xs ws → each_read k.read ws ≡ Some xs
  each_again [] [] fits e = refl
  each_again (w ∷ ws) [] fits e = absurd e
  each_again [] (x ∷ xs) fits e = absurd e
  each_again (w ∷ ws) (x ∷ xs) fits e = rw (
    k.is_read w x fits.0 e.0,
    each_again ws xs fits.1 e.1,
  ) refl

  each_canonical : (xs : List X) → each_fits k.Fits xs → each_spelled k.Spells xs (map k.write xs)
  each_canonical [] fits = tt
  each_canonical (x ∷ xs) fits = (k.canonical x fits.0, each_canonical xs fits.1)

  each_clean : (ws : List (List ℕ)) (xs : List X) → each_fits k.Fits xs
      → each_spelled k.Spells xs ws → EachOf k.alphabet ws
  each_clean [] xs fits e = tt
  each_clean (w ∷ ws) [] fits e = absurd e
  each_clean (w ∷ ws) (x ∷ xs) fits e = (k.clean w x fits.0 e.0, each_clean ws xs fits.1 e.1)

  each_length : (ws : List (List ℕ)) (xs : List X) → each_spelled k.Spells xs ws
      → length ws ≡ length xs
  each_length [] [] e = refl
  each_length (w ∷ ws) [] e = absurd e
  each_length [] (x ∷ xs) e = absurd e
  each_length (w ∷ ws) (x ∷ xs) e = omega (arith, each_length ws xs e.1)

  module _ (fewest longest : ℕ) where
    abbrev pub so_many : List X → Option (List X)
    so_many xs = if nat_le fewest (length xs) && nat_le (length xs) longest then Some xs else None

    -- so many, each in its range
    pub record AreMany (xs : List X) : Type 0 where
      pub some : fewest ≤ length xs
      pub few : length xs ≤ longest
      pub each : each_fits k.Fits xs

    pub many_is : (ws : List (List ℕ)) (xs : List X) → (each_read k.read ws >>= so_many) ≡ Some xs
        → AreMany xs × each_spelled k.Spells xs ws
    many_is ws xs e =
        let read = some_bind (each_read k.read ws) so_many xs e in
        let range = if_some (nat_le fewest (length read.0) && nat_le (length read.0) longest) read.0
        xs read.2 in
        let h = and_parts (nat_le fewest (length read.0)) (nat_le (length read.0) longest) range.0
        in
        let is = each_is ws read.0 read.1 in
        subst (λ xs. AreMany xs × each_spelled k.Spells xs ws) range.1 (
          record {
            some = leb-true fewest (length read.0) h.0;
            few = leb-true (length read.0) longest h.1;
            each = is.0;
          },
          is.1,
        )

    pub many_again : (ws : List (List ℕ)) (xs : List X) → AreMany xs → each_spelled k.Spells xs ws
        → (each_read k.read ws >>= so_many) ≡ Some xs
    many_again ws xs fits e = rw (
      each_again ws xs fits.each e,
      le-leb fewest (length xs) fits.some,
      le-leb (length xs) longest fits.few,
    ) refl

    pub many_counted : (ws : List (List ℕ)) (xs : List X) → AreMany xs → each_spelled k.Spells xs ws
        → (fewest ≤ length ws) × (length ws ≤ longest)
    many_counted ws xs fits e = let n = each_length ws xs e in
        (omega (arith, n, fits.some), omega (arith, n, fits.few))

    pub many_canonical : (xs : List X) → AreMany xs → each_spelled k.Spells xs (map k.write xs)
    many_canonical xs fits = each_canonical xs fits.each

    pub many_clean : (ws : List (List ℕ)) (xs : List X) → AreMany xs → each_spelled k.Spells xs ws
        → EachOf k.alphabet ws
    many_clean ws xs fits e = each_clean ws xs fits.each e

    abbrev pub many : Row (List X)
    many = record {
      read = λ ws. each_read k.read ws >>= so_many;
      write = map k.write;
      Fits = AreMany;
      Spells = each_spelled k.Spells;
      alphabet = k.alphabet;
      least = fewest;
      most = longest;
      is_spelled = many_is;
      is_read = many_again;
      canonical = many_canonical;
      clean = many_clean;
      counted = many_counted;
    }
