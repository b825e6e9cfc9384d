-- Rows of seats and desks that stand one behind the other.
use Rattle.std.proofs.Common.{◌≡◌, ℕ, ◌+◌, List, [], ◌∷◌, ◌++◌, length, subst, subst₂, sym, arith}
use Rattle.sample_lock.specs.Served.{Each}
use Rattle.sample_lock.specs.declared.seat.Seat.{Seat}

module _ {D : Type 0} (rel : ℕ → Seat → Seat → D → D → Type 0) where
  each_append : (n m : ℕ) (ss ss' ts ts' : List Seat) (ds ds' es es' : List D) → m ≡ n + length ss
      → Each rel n ss ss' ds ds' → Each rel m ts ts' es es'
      → Each rel n (ss ++ ts) (ss' ++ ts') (ds ++ es) (ds' ++ es')
  each_append n m [] [] ts ts' [] [] es es' at a b = let same : m ≡ n = omega (arith, at) in
      subst (λ k. Each rel k ts ts' es es') same b
  each_append n m [] [] ts ts' [] (d' ∷ ds') es es' at a b = absurd a
  each_append n m [] [] ts ts' (d ∷ ds) _ es es' at a b = absurd a
  each_append n m [] (s' ∷ ss') ts ts' ds _ es es' at a b = absurd a
  each_append n m (s ∷ ss) [] ts ts' ds _ es es' at a b = absurd a
  each_append n m (s ∷ ss) (s' ∷ ss') ts ts' [] _ es es' at a b = absurd a
  each_append n m (s ∷ ss) (s' ∷ ss') ts ts' (d ∷ ds) [] es es' at a b = absurd a
  each_append n m (s ∷ ss) (s' ∷ ss') ts ts' (d ∷ ds) (d' ∷ ds') es es' at a b =
      (a.0, each_append (n + 1) m ss ss' ts ts' ds ds' es es' (omega (arith, at)) a.1 b)

  pub each_halves : (n m : ℕ) (all ss ss' ts ts' : List Seat) (whole ds ds' es es' : List D)
      → m ≡ n + length ss → all ≡ ss ++ ts → whole ≡ ds ++ es → Each rel n ss ss' ds ds'
      → Each rel m ts ts' es es' → Each rel n all (ss' ++ ts') whole (ds' ++ es')
  each_halves n m all ss ss' ts ts' whole ds ds' es es' at e f a b =
      subst₂ (λ x y. Each rel n x (ss' ++ ts') y (ds' ++ es')) (sym e) (sym f)
      (each_append n m ss ss' ts ts' ds ds' es es' at a b)
