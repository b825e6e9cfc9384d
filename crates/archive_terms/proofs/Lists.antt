-- Lists of items and of outcomes after one more.
use Rattle.std.proofs.Common.{◌≡◌, ℕ, zero, suc, ◌+◌, ◌-◌, ◌<◌, Bool, true, false, cond, not, ◌||◌}
use Rattle.std.proofs.Common.{◌⊎◌, List, [], ◌∷◌, ◌++◌, length, drop, slice_get, Some, refl, ap}
use Rattle.std.proofs.Common.{◌∙◌, arith, inl, inr}
use Rattle.std.specs.List.{list_any, prefix_len, suffix_len, after_last}
use Rattle.std.proofs.lemmas.List.{length_push, drop-append-le, drop_all, reverse-append}
use Rattle.std.proofs.lemmas.List.Folds.{list_any-append}
use Rattle.archive_terms.specs.Archive.{Entry}
use Rattle.archive_terms.specs.Delivery.{archived, archived_items, is_archived, is_backlog}
use Rattle.archive_terms.specs.Rounds.{Outcome, without_backlog, is_handed, is_discarded, is_untold}

pub without_backlog-archived : (entries : List (ℕ × Entry))
    → without_backlog (archived_items entries) ≡ archived_items entries
without_backlog-archived [] = refl
without_backlog-archived (x ∷ entries) = ap (λ xs. archived x.0 x.1 ∷ xs)
    (without_backlog-archived entries)

pub no_backlog : (entries : List (ℕ × Entry)) → list_any is_backlog (archived_items entries) ≡ false
no_backlog [] = refl
no_backlog (x ∷ entries) = no_backlog entries

pub some_archived : (entries : List (ℕ × Entry)) → 0 < length entries
    → list_any is_archived (archived_items entries) ≡ true
some_archived [] some = absurd (omega arith)
some_archived (x ∷ entries) some = refl

pub or_false : (b : Bool) → (b || false) ≡ b
or_false true = refl
or_false false = refl

-- an element of a list with one more is that one or an earlier one
pub slice_get-push : {X : Type 0} → (xs : List X) (y x : X) (i : ℕ)
    → slice_get (xs ++ y ∷ []) i ≡ Some x
    → ((i < length xs) × (slice_get xs i ≡ Some x)) ⊎ ((i ≡ length xs) × (y ≡ x))
slice_get-push [] y x zero is = inr (refl, cc)
slice_get-push [] y x (suc i) is = cc
slice_get-push (z ∷ xs) y x zero is = inl (omega arith, is)
slice_get-push (z ∷ xs) y x (suc i) is =
    elim (slice_get-push xs y x i is) [
      | inl before ↦ inl (let h : i < length xs = before.0 in omega arith, before.1)
      | inr last ↦ inr (ap suc last.0, last.1)
    ]

-- what stands behind the last element that passes, after one more
pub after_last-push : {X : Type 0} → (p : X → Bool) (xs : List X) (x : X)
    → after_last p (xs ++ x ∷ []) ≡ cond (p x) [] (after_last p xs ++ x ∷ [])
after_last-push {X} p xs x = at_last (p x) refl
  where
    q : X → Bool
    q = λ y. not (p y)

    all : List X
    all = xs ++ x ∷ []

    back : suffix_len q all ≡ cond (not (p x)) (1 + suffix_len q xs) 0
    back = ap (prefix_len q) (reverse-append xs (x ∷ []))

    at_last : (b : Bool) → p x ≡ b → after_last p all ≡ cond b [] (after_last p xs ++ x ∷ [])
    at_last true e =
        let none : suffix_len q all ≡ 0 = back ∙ ap (λ b. cond (not b) (1 + suffix_len q xs) 0) e in
        drop_all (length all - suffix_len q all) all (omega arith)
    at_last false e =
        let one_more : suffix_len q all ≡ 1 + suffix_len q xs =
        back ∙ ap (λ b. cond (not b) (1 + suffix_len q xs) 0) e in
        let from : length all - suffix_len q all ≡ length xs - suffix_len q xs =
        omega (arith, length_push xs x) in
        ap (λ n. drop n all) from ∙ drop-append-le (length xs - suffix_len q xs) xs (x ∷ [])
        (omega arith)

pub is_untold-push : (done : List Outcome) (o : Outcome)
    → is_untold (done ++ o ∷ []) ≡ cond (is_handed o) false (is_untold done || is_discarded o)
is_untold-push done o = ap (list_any is_discarded) (after_last-push is_handed done o)
    ∙ on_test (is_handed o)
  where
    on_test : (b : Bool)
        → list_any is_discarded (cond b [] (after_last is_handed done ++ o ∷ []))
        ≡ cond b false (is_untold done || is_discarded o)
    on_test true = refl
    on_test false =
        list_any-append is_discarded (after_last is_handed done) (o ∷ [])
        ∙ ap (λ b. is_untold done || b) (or_false (is_discarded o))
