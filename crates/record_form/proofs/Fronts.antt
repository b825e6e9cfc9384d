-- What stands at the front of octets, while others are put behind them.
use Rattle.std.proofs.Common.{◌≡◌, List, ℕ, ◌++◌, length, take, Result, Ok, Err, OnErr, sym, ◌∙◌}
use Rattle.std.proofs.Common.{ap, refl, drop, arith}
use Rattle.std.proofs.lemmas.List.{take-append-le, length-append, take_at, take-append-drop}

-- octets that begin so
pub front_of : (old new : List ℕ) → take (length old) new ≡ old
    → (more : List ℕ) × (new ≡ old ++ more)
front_of old new begins = (
  drop (length old) new,
  sym (take-append-drop (length old) new)
      ∙ ap (λ (front : List ℕ). front ++ drop (length old) new) begins,
)

-- What begins with octets that begin with older ones begins with the older ones.
pub kept : (old mid new more : List ℕ) → mid ≡ old ++ more → take (length mid) new ≡ mid
    → take (length old) new ≡ old
kept old mid new more longer begins =
    let rest = front_of mid new begins in
    ap (take (length old)) (rest.1 ∙ ap (λ (front : List ℕ). front ++ rest.0) longer)
    ∙ take-append-le (length old) (old ++ more) rest.0 (omega (arith, length-append old more))
    ∙ take_at old more (length old) refl

-- what holds where a call failed
pub where_bad : {T E P : Type 0} → (result : Result T E) → P → OnErr result P
where_bad (Ok value) fact = tt
where_bad (Err error) fact = fact
