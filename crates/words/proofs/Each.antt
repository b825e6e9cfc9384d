-- Words one after another.
use Rattle.std.proofs.Common.{◌≡◌, ℕ, List, [], ◌∷◌, ◌++◌, map, Option, Some, None, refl, sym, ◌∙◌}
use Rattle.std.proofs.Common.{ap, append_assoc}
use Rattle.words.specs.Many.{each_read}
use Rattle.words.specs.Steps.{◌>>=◌}

-- what stands before, and what is read behind it
abbrev pub onto : {X : Type 0} → List X → Option (List X) → Option (List X)
onto xs None = None
onto xs (Some ys) = Some (xs ++ ys)

pub onto_nil : {X : Type 0} (o : Option (List X)) → o ≡ onto [] o
onto_nil None = refl
onto_nil (Some ys) = refl

map_last : {A X : Type 0} (seen : A → X) (all : List A) (a : A)
    → map seen (all ++ a ∷ []) ≡ map seen all ++ seen a ∷ []
map_last seen [] a = refl
map_last seen (b ∷ all) a = ap (λ xs. seen b ∷ xs) (map_last seen all a)

moved : {X : Type 0} (xs : List X) (x : X) (o : Option (List X))
    → onto xs (o >>= λ ys. Some (x ∷ ys)) ≡ onto (xs ++ x ∷ []) o
moved xs x None = refl
moved xs x (Some ys) = ap Some (sym (append_assoc xs (x ∷ []) ys))

pub one_more : {A X : Type 0} (seen : A → X) (read : List ℕ
    → Option X) (all : List A) (a : A) (w : List ℕ) (ws : List (List ℕ)) → read w ≡ Some (seen a)
    → onto (map seen all) (each_read read (w ∷ ws))
    ≡ onto (map seen (all ++ a ∷ [])) (each_read read ws)
one_more seen read all a w ws e =
    ap (λ o. onto (map seen all) (o >>= λ x. each_read read ws >>= λ xs. Some (x ∷ xs))) e
    ∙ moved (map seen all) (seen a) (each_read read ws)
    ∙ ap (λ xs. onto xs (each_read read ws)) (sym (map_last seen all a))

pub no_more : {X : Type 0} (read : List ℕ → Option X) (xs : List X) (w : List ℕ)
    (ws : List (List ℕ)) → read w ≡ None → onto xs (each_read read (w ∷ ws)) ≡ None
no_more read xs w ws e = ap (λ o. onto xs (o >>= λ x. each_read read ws >>= λ xs. Some (x ∷ xs))) e
