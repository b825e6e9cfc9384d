-- Places in lists, and what the first rounds of a START do.
use Rattle.std.proofs.Common.{◌≡◌, ℕ, zero, suc, Bool, true, false, if◌then◌else◌, Some, List, []}
use Rattle.std.proofs.Common.{◌∷◌, ◌++◌, length, slice_get, refl, ap, ◌∙◌, append_assoc}
use Rattle.std.specs.List.{filter}
use Rattle.archive_terms.specs.Archive.{Entry}
use Rattle.archive_terms.specs.Delivery.{Terms, Delivery}
use Rattle.archive_terms.specs.Rounds.{Round, Outcome, outcome, outcomes, ends_run, after_round}
use Rattle.station_world.specs.Comes.{Begins}

-- ---- places

-- an element stands there
abbrev pub Stands : {X : Type 0} → List X → X → Type 0
Stands xs x = (k : ℕ) × (slice_get xs k ≡ Some x)

further : {X : Type 0} → (y : X) (xs : List X) (x : X) → Stands xs x → Stands (y ∷ xs) x
further y xs x there = (suc there.0, there.1)

by_test : {X : Type 0} → (q : X → Bool) (y : X) (xs : List X) (p : ℕ) (x : X)
    → ((k : ℕ) → slice_get (filter q xs) k ≡ Some x → Stands xs x) → (b : Bool)
    → slice_get (if b then y ∷ filter q xs else filter q xs) p ≡ Some x → Stands (y ∷ xs) x
by_test q y xs zero x inner true is = (0, is)
by_test q y xs (suc p) x inner true is = further y xs x (inner p is)
by_test q y xs p x inner false is = further y xs x (inner p is)

-- what passes a test stands in the list
pub filtered : {X : Type 0} → (q : X → Bool) (xs : List X) (p : ℕ) (x : X)
    → slice_get (filter q xs) p ≡ Some x → Stands xs x
filtered q [] p x is = absurd (cc is)
filtered q (y ∷ xs) p x is = by_test q y xs p x (λ k at. filtered q xs k x at) (q y) is

pub last_there : {X : Type 0} → (xs : List X) (x : X)
    → slice_get (xs ++ x ∷ []) (length xs) ≡ Some x
last_there [] x = refl
last_there (y ∷ xs) x = last_there xs x

-- ---- what is done

pub begins_both : {X : Type 0} → (a b c : List X) → Begins a b → Begins b c → Begins a c
begins_both {X} a b c first second = (
  first.0 ++ second.0,
  second.1 ∙ ap (λ (xs : List X). xs ++ second.0) first.1 ∙ append_assoc a first.0 second.0,
)

unless_ended : (o : Outcome) (ended : Bool) (some all : List Outcome) → Begins some all
    → Begins (o ∷ (if ended then [] else some)) (o ∷ (if ended then [] else all))
unless_ended o true some all begins = ([], refl)
unless_ended o false some all begins =
    (begins.0, ap (λ (xs : List Outcome). o ∷ xs) begins.1)

-- the first rounds do what they do, whatever rounds follow
pub first_done : (t : Terms) (entries : List Entry) (rounds more : List Round) (d : Delivery)
    → Begins (outcomes t entries rounds d) (outcomes t entries (rounds ++ more) d)
first_done t entries [] more d = (outcomes t entries more d, refl)
first_done t entries (r ∷ rounds) more d =
    let next = after_round t entries r d in
    unless_ended (outcome t entries r d) (ends_run t entries r d) (outcomes t entries rounds next)
    (outcomes t entries (rounds ++ more) next) (first_done t entries rounds more next)
