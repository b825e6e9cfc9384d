-- Rows of seats, doors and clocks that stand one behind the other.
use Rattle.std.proofs.Common.{◌≡◌, ℕ, ◌+◌, List, [], ◌∷◌, ◌++◌, length, subst, sym, arith}
use Rattle.station_seats.specs.declared.seat.DoorSeat.{DoorSeat}
use Rattle.door_turns.specs.Doors.{Each}

module _ {G C : Type 0} (rel : ℕ → DoorSeat → DoorSeat → G → G → C → C → Type 0) where
  each_append : (n m : ℕ) (ss ss' ts ts' : List DoorSeat) (gs gs' hs hs' : List G)
      (cs cs' ds ds' : List C) → m ≡ n + length ss → Each rel n ss ss' gs gs' cs cs'
      → Each rel m ts ts' hs hs' ds ds'
      → Each rel n (ss ++ ts) (ss' ++ ts') (gs ++ hs) (gs' ++ hs') (cs ++ ds) (cs' ++ ds')
  each_append n m [] [] ts ts' [] [] hs hs' [] [] ds ds' at a b =
      let same : m ≡ n = omega (arith, at) in
      subst (λ k. Each rel k ts ts' hs hs' ds ds') same b
  each_append n m [] [] ts ts' [] [] hs hs' [] (c' ∷ cs') ds ds' at a b = absurd a
  each_append n m [] [] ts ts' [] [] hs hs' (c ∷ cs) _ ds ds' at a b = absurd a
  each_append n m [] [] ts ts' [] (g' ∷ gs') hs hs' _ _ ds ds' at a b = absurd a
  each_append n m [] [] ts ts' (g ∷ gs) _ hs hs' _ _ ds ds' at a b = absurd a
  each_append n m [] (s' ∷ ss') ts ts' _ _ hs hs' _ _ ds ds' at a b = absurd a
  each_append n m (s ∷ ss) [] ts ts' _ _ hs hs' _ _ ds ds' at a b = absurd a
  each_append n m (s ∷ ss) (s' ∷ ss') ts ts' [] _ hs hs' _ _ ds ds' at a b = absurd a
  each_append n m (s ∷ ss) (s' ∷ ss') ts ts' (g ∷ gs) [] hs hs' _ _ ds ds' at a b = absurd a
  each_append n m (s ∷ ss) (s' ∷ ss') ts ts' (g ∷ gs) (g' ∷ gs') hs hs' [] _ ds ds' at a b =
      absurd a
  each_append n m (s ∷ ss) (s' ∷ ss') ts ts' (g ∷ gs) (g' ∷ gs') hs hs' (c ∷ cs) [] ds ds' at a b =
      absurd a
  each_append n m (s ∷ ss) (s' ∷ ss') ts ts' (g ∷ gs) (g' ∷ gs') hs hs' (c ∷ cs) (c' ∷ cs') ds ds'
      at a b = (
        a.0,
        each_append (n + 1) m ss ss' ts ts' gs gs' hs hs' cs cs' ds ds' (omega (arith, at)) a.1 b,
      )

  pub each_halves : (n m : ℕ) (all ss ss' ts ts' : List DoorSeat) (doors gs gs' hs hs' : List G)
      (clocks cs cs' ds ds' : List C) → m ≡ n + length ss → all ≡ ss ++ ts → doors ≡ gs ++ hs
      → clocks ≡ cs ++ ds → Each rel n ss ss' gs gs' cs cs' → Each rel m ts ts' hs hs' ds ds'
      → Each rel n all (ss' ++ ts') doors (gs' ++ hs') clocks (cs' ++ ds')
  each_halves n m all ss ss' ts ts' doors gs gs' hs hs' clocks cs cs' ds ds' at e f g a b =
      subst (λ x. Each rel n x (ss' ++ ts') doors (gs' ++ hs') clocks (cs' ++ ds')) (sym e)
      (subst (λ y. Each rel n (ss ++ ts) (ss' ++ ts') y (gs' ++ hs') clocks (cs' ++ ds')) (sym f)
      (subst (λ z. Each rel n (ss ++ ts) (ss' ++ ts') (gs ++ hs) (gs' ++ hs') z (cs' ++ ds'))
      (sym g)
      (each_append n m ss ss' ts ts' gs gs' hs hs' cs cs' ds ds' at a b)))

  -- the same of rows that became these
  pub each_made : (n m : ℕ) (all all' ss ss' ts ts' : List DoorSeat)
      (doors doors' gs gs' hs hs' : List G) (clocks clocks' cs cs' ds ds' : List C)
      → m ≡ n + length ss → all ≡ ss ++ ts → doors ≡ gs ++ hs → clocks ≡ cs ++ ds
      → all' ≡ ss' ++ ts' → doors' ≡ gs' ++ hs' → clocks' ≡ cs' ++ ds'
      → Each rel n ss ss' gs gs' cs cs' → Each rel m ts ts' hs hs' ds ds'
      → Each rel n all all' doors doors' clocks clocks'
  each_made n m all all' ss ss' ts ts' doors doors' gs gs' hs hs' clocks clocks' cs cs' ds ds' at e f
      g e' f' g' a b =
      subst (λ x. Each rel n all x doors doors' clocks clocks') (sym e')
      (subst (λ y. Each rel n all (ss' ++ ts') doors y clocks clocks') (sym f')
      (subst (λ z. Each rel n all (ss' ++ ts') doors (gs' ++ hs') clocks z) (sym g')
      (each_halves n m all ss ss' ts ts' doors gs gs' hs hs' clocks cs cs' ds ds' at e f g a b)))
