-- Rows that numbers name: one more, one less, and the one at a place.
use Rattle.std.proofs.Common.{◌≡◌, ℕ, zero, suc, ◌-◌, ◌<◌, ◌≤◌, Bool, true, false, cond}
use Rattle.std.proofs.Common.{List, [], ◌∷◌, ◌++◌, length, take, slice_get, Option, Some, None}
use Rattle.std.proofs.Common.{refl, ap, sym, arith, inl, inr, ◌⊎◌, option_map, append-nil, length-append}
use Rattle.std.proofs.lemmas.List.{map-append, length-map, take-map}
use Rattle.std.proofs.lemmas.Option.{slice_get-map}
use Rattle.archive_index.specs.Rows.{IsThrough}
use Rattle.archive_index.specs.IndexState.{more_if}
use Rattle.archive_index.specs.declared.row.Row.{Row}

-- ---- the one at a place

split : (x y : Option Row) → Some x ≡ option_map (λ (r : Row). Some r) y
    → (r : Row) × (x ≡ Some r) × (y ≡ Some r)
split x None is = cc
split x (Some r) is = let same : x ≡ Some r = cc in (r, same, refl)

pub through_at : (rows : List Row) (numbers : List ℕ) (named : List Row) (k n : ℕ)
    → IsThrough rows numbers named → slice_get numbers k ≡ Some n
    → (r : Row) × (slice_get rows n ≡ Some r) × (slice_get named k ≡ Some r)
through_at rows numbers named k n through there =
    let both = ap (λ xs. slice_get xs k) through in
    split (slice_get rows n) (slice_get named k)
    (rw (slice_get-map, slice_get-map, there) at both)

pub through_long : (rows : List Row) (numbers : List ℕ) (named : List Row)
    → IsThrough rows numbers named → length named ≡ length numbers
through_long rows numbers named through =
    sym (rw (length-map, length-map) at (ap (λ xs. length xs) through))

-- ---- one more

get_kept : (rows : List Row) (x r : Row) (n : ℕ) → slice_get rows n ≡ Some r
    → slice_get (rows ++ x ∷ []) n ≡ Some r
get_kept [] x r n is = cc
get_kept (y ∷ rows) x r zero is = is
get_kept (y ∷ rows) x r (suc n) is = get_kept rows x r n is

get_last : (rows : List Row) (x : Row) → slice_get (rows ++ x ∷ []) (length rows) ≡ Some x
get_last [] x = refl
get_last (y ∷ rows) x = get_last rows x

pub through_push : (rows : List Row) (numbers : List ℕ) (named : List Row) (x : Row)
    → IsThrough rows numbers named → IsThrough (rows ++ x ∷ []) numbers named
through_push rows [] [] x through = refl
through_push rows [] (r ∷ named) x through = cc
through_push rows (n ∷ numbers) [] x through = cc
through_push rows (n ∷ numbers) (r ∷ named) x through =
    let here : slice_get rows n ≡ Some r = cc in
    let rest : IsThrough rows numbers named = cc in
    cc (get_kept rows x r n here, through_push rows numbers named x rest)

pub through_if : (test : Bool) (rows : List Row) (numbers : List ℕ) (named : List Row) (x : Row)
    → IsThrough rows numbers named
    → IsThrough (rows ++ x ∷ []) (more_if test numbers (length rows))
    (named ++ cond test (x ∷ []) [])
through_if true rows numbers named x through = rw (map-append, map-append, get_last)
    (ap (λ xs. xs ++ Some x ∷ []) (through_push rows numbers named x through))
through_if false rows numbers named x through =
    rw append-nil (through_push rows numbers named x through)

-- ---- one less

pub take_last : {X : Type 0} → (xs : List X) (x : X)
    → take (length (xs ++ x ∷ []) - 1) (xs ++ x ∷ []) ≡ xs
take_last xs x = let n : length (xs ++ x ∷ []) - 1 ≡ length xs = rw length-append (omega arith) in
    rw n (front xs x)
  where
    front : {X : Type 0} → (xs : List X) (x : X) → take (length xs) (xs ++ x ∷ []) ≡ xs
    front [] x = refl
    front (y ∷ xs) x = ap (λ ys. y ∷ ys) (front xs x)

get_snoc : (rows : List Row) (x r : Row) (n : ℕ) → slice_get (rows ++ x ∷ []) n ≡ Some r
    → (slice_get rows n ≡ Some r) ⊎ (x ≡ r)
get_snoc [] x r zero is = inr cc
get_snoc [] x r (suc n) is = cc
get_snoc (y ∷ rows) x r zero is = inl is
get_snoc (y ∷ rows) x r (suc n) is = get_snoc rows x r n is

-- a row that none of the named is may go
pub through_shrink : (rows : List Row) (x : Row) (numbers : List ℕ) (named : List Row)
    → ((k : ℕ) (r : Row) → slice_get named k ≡ Some r → r.place < x.place)
    → IsThrough (rows ++ x ∷ []) numbers named → IsThrough rows numbers named
through_shrink rows x [] [] below through = refl
through_shrink rows x [] (r ∷ named) below through = cc
through_shrink rows x (n ∷ numbers) [] below through = cc
through_shrink rows x (n ∷ numbers) (r ∷ named) below through =
    let here : slice_get (rows ++ x ∷ []) n ≡ Some r = cc in
    let rest : IsThrough (rows ++ x ∷ []) numbers named = cc in
    let later = through_shrink rows x numbers named (λ k q is. below (suc k) q is) rest in
    elim (get_snoc rows x r n here) [
      | inl stays ↦ cc (stays, later)
      | inr same ↦
          let less : r.place < x.place = below 0 r refl in
          let equal : x.place ≡ r.place = ap (λ (q : Row). q.place) same in
          absurd (omega arith)
    ]

-- a number that is named last goes with its row
pub through_drop : (rows : List Row) (numbers : List ℕ) (named : List Row) (x : Row)
    → IsThrough rows numbers (named ++ x ∷ [])
    → IsThrough rows (take (length numbers - 1) numbers) named
through_drop rows numbers named x through =
    let long = through_long rows numbers (named ++ x ∷ []) through in
    let same : length (named ++ x ∷ []) - 1 ≡ length numbers - 1 = omega (arith, long) in
    let fewer : take (length numbers - 1) (named ++ x ∷ []) ≡ named =
    rw (← same) (take_last named x) in
    rw (← take-map, through, take-map, fewer) refl

pub through_less : (test : Bool) (rows : List Row) (x : Row) (numbers : List ℕ) (named : List Row)
    → ((k : ℕ) (r : Row) → slice_get named k ≡ Some r → r.place < x.place)
    → IsThrough (rows ++ x ∷ []) numbers (named ++ cond test (x ∷ []) [])
    → IsThrough rows (cond test (take (length numbers - 1) numbers) numbers) named
through_less true rows x numbers named below through =
    through_shrink rows x (take (length numbers - 1) numbers) named below
    (through_drop (rows ++ x ∷ []) numbers named x through)
through_less false rows x numbers named below through =
    through_shrink rows x numbers named below (rw append-nil at through)

-- ---- past the end

get_past : {X : Type 0} → (xs : List X) (n : ℕ) → length xs ≤ n → slice_get xs n ≡ None
get_past [] n past = refl
get_past (x ∷ xs) zero past = absurd (omega arith)
get_past (x ∷ xs) (suc n) past = get_past xs n (omega arith)

pub through_past : (rows : List Row) (numbers : List ℕ) (named : List Row) (place : ℕ)
    → IsThrough rows numbers named → length numbers ≤ place → None ≡ slice_get named place
through_past rows numbers named place through past =
    let long = through_long rows numbers named through in
    sym (get_past named place (omega (arith, long)))
