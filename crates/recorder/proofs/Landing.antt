-- What a reopen tells of what waited: all of it landed, or all of it is lost.
use Rattle.std.proofs.Common.{◌≡◌, ◌⊎◌, inl, inr, ℕ, ◌+◌, ◌-◌, ◌<◌, List, [], length, take, drop}
use Rattle.std.proofs.Common.{sym, ap, ◌∙◌, arith}
use Rattle.std.proofs.lemmas.List.{length-drop, take_all}

-- where some is lost, all is, and none landed
pub some_lost : {X : Type 0} (waiting : List X) (old new failed : ℕ)
    → (new ≡ old) ⊎ (new ≡ old + failed) → failed ≡ length waiting
    → 0 < length (drop (new - old) waiting)
    → (new ≡ old) × (drop (new - old) waiting ≡ waiting) × (take (new - old) waiting ≡ [])
some_lost waiting old new failed (inl same) all some =
    let none : new - old ≡ 0 = omega (arith, same) in (
      same,
      ap (λ n. drop n waiting) none,
      ap (λ n. take n waiting) none,
    )
some_lost waiting old new failed (inr whole) all some =
    absurd (omega (arith, whole, all, some, length-drop (new - old) waiting))

-- where none is lost, all landed
pub none_lost : {X : Type 0} (waiting : List X) (old new failed : ℕ)
    → (new ≡ old) ⊎ (new ≡ old + failed) → failed ≡ length waiting
    → length (drop (new - old) waiting) ≡ 0
    → (new ≡ old + length waiting) × (take (new - old) waiting ≡ waiting)
none_lost waiting old new failed (inl same) all none =
    let left : length waiting - (new - old) ≡ 0 = sym (length-drop (new - old) waiting) ∙ none in (
      omega (arith, same, left),
      take_all (new - old) waiting (omega (arith, left)),
    )
none_lost waiting old new failed (inr whole) all none = (
  omega (arith, whole, all),
  take_all (new - old) waiting (omega (arith, whole, all)),
)
