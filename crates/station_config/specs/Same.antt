-- A list whose values are seen as themselves.
use Rattle.std.proofs.Common.{◌≡◌, List, [], ◌∷◌, map, refl, ap}

pub same_values : {X : Type 0} (values : List X) → map (λ value. value) values ≡ values
same_values [] = refl
same_values (value ∷ values) = ap (λ others. value ∷ others) (same_values values)
