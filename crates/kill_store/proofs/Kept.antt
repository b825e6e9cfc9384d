-- What is acknowledged, one store behind another.
use Rattle.std.proofs.Common.{◌≡◌, ◌∙◌, ℕ, ◌+◌, ◌≤◌, List, [], ◌∷◌, ◌++◌, subst, sym, ap}
use Rattle.std.proofs.Common.{append_assoc}
use Rattle.std.proofs.lemmas.List.{append-nil}
use Rattle.archive_terms.specs.Archive.{Entry}
use Rattle.kill_store.specs.Numbered.{numbered, numbered_between}
use Rattle.kill_store.proofs.Counting.{entries-append, entries-none, entries-one}

-- nothing was stored
pub kept_none : (P : List Entry → Type 0) (entries : List Entry) (number last : ℕ)
    → last ≡ number → P entries → P (entries ++ numbered_between number last)
kept_none P entries number last is p =
    subst P
    (sym (ap (λ more. entries ++ more) (ap (numbered_between number) is ∙ entries-none number)
    ∙ append-nil entries))
    p

-- one entry was stored
pub kept_one : (P : List Entry → Type 0) (entries : List Entry) (number last : ℕ) (entry : Entry)
    → last ≡ number + 1 → entry ≡ numbered number → P (entries ++ entry ∷ [])
    → P (entries ++ numbered_between number last)
kept_one P entries number last entry is same p =
    subst P
    (ap (λ e. entries ++ e ∷ []) same
    ∙ ap (λ more. entries ++ more) (sym (ap (numbered_between number) is ∙ entries-one number)))
    p

-- so far, and what one more store added
pub kept_on : (P : List Entry → Type 0) (entries : List Entry) (first number last : ℕ)
    → first ≤ number → number ≤ last
    → P ((entries ++ numbered_between first number) ++ numbered_between number last)
    → P (entries ++ numbered_between first last)
kept_on P entries first number last p q kept =
    subst P
    (append_assoc entries (numbered_between first number) (numbered_between number last)
    ∙ ap (λ more. entries ++ more) (entries-append first number last p q))
    kept

-- the same, where the last number is known by another term
pub kept_more : (P : List Entry → Type 0) (entries : List Entry) (first number last next : ℕ)
    → first ≤ number → number ≤ last → last ≡ next
    → P ((entries ++ numbered_between first number) ++ numbered_between number last)
    → P (entries ++ numbered_between first next)
kept_more P entries first number last next p q is kept =
    subst (λ n. P (entries ++ numbered_between first n)) is
    (kept_on P entries first number last p q kept)
