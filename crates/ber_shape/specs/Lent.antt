-- Lists that are lent: the octets of a list that was read are read again, item by item.
use Rattle.std.proofs.Common.{◌≡◌, ℕ, suc, ◌+◌, ◌-◌, ◌≤◌, true, List, [], ◌∷◌, ◌++◌, length, take}
use Rattle.std.proofs.Common.{drop, nat_le, Option, Some, None, Result, Ok, Err, refl, sym, ◌∙◌, ap}
use Rattle.std.proofs.Common.{subst, arith, length-append}
use Rattle.std.specs.Prelude.{IsOk}
use Rattle.std.proofs.lemmas.List.{length-take, take-take, take_at}
use Rattle.ber_core.specs.declared.fault.BerFault.{BerFault}
use Rattle.ber_core.specs.Length.{IsSlice}
use Rattle.ber_core.specs.Spelling.{SpellsAll}
use Rattle.ber_core.specs.View.{View, end_of, left}
use Rattle.ber_core.specs.Reading.{◌>>=◌}
use Rattle.ber_core.specs.Facts.Whole.{read_trees-ok}
use Rattle.ber_shape.specs.Element.{Element}
use Rattle.ber_shape.specs.Members.{Members}
use Rattle.ber_shape.specs.List.{list_of, one_or_more, each_tree}
use Rattle.ber_shape.specs.Exact.{whole, members_again}

-- the octets between two places
abbrev pub between : View → View → List ℕ
between view new = take (new.place - view.place) (drop view.place view.octets)

between_is : (view new : View) (spelled rest : List ℕ) → left view ≡ spelled ++ rest
    → new ≡ record view { place = view.place + length spelled } → between view new ≡ spelled
between_is view new spelled rest front moved =
    let count : new.place - view.place ≡ length spelled = omega (arith, ap (λ v. v.place) moved) in
    let room : length spelled ≤ end_of view - view.place =
    omega (
      arith,
      ap length front,
      length-append spelled rest,
      length-take (end_of view - view.place) (drop view.place view.octets),
    ) in
    ap (λ n. take n (drop view.place view.octets)) count
    ∙ sym (take-take (length spelled) (end_of view - view.place) (drop view.place view.octets) room)
    ∙ ap (take (length spelled)) front ∙ take_at spelled rest (length spelled) refl

-- What was read is read again from its octets alone.
pub lent_whole : {X : Type 0} (m : Members X) (view new : View) (x : X) → nat_le m.levels 16 ≡ true
    → IsSlice view.octets → length view.ends ≤ 16 → m.read view ≡ Ok (x, new)
    → whole m.read (between view new) ≡ Ok x
lent_whole m view new x levels slice shallow e =
    let were = m.sound view new x slice e in
    let read = read_trees-ok (m.trees x) view new slice.each shallow were.stand in
    members_again m levels (between view new) x were.fits
    (subst (SpellsAll (m.trees x))
    (sym (between_is view new read.spelled read.rest read.front read.moved)) read.is)

-- The octets that were lent have been read, and hold the same again.
abbrev pub Lends : {X : Type 0} → Members X → View → View → Result (List ℕ) BerFault → Type 0
Lends {X} m old new (Ok octets) = (x : X) × (m.read old ≡ Ok (x, new))
    × (whole m.read octets ≡ Ok x)
Lends m old new (Err fault) = m.read old ≡ Err fault

-- what is behind it alone
abbrev pub passed : {X : Type 0} → Result (X × View) BerFault → Result View BerFault
passed reading = reading >>= λ read. Ok read.1

-- the value that octets give, where they give one
abbrev pub or_none : {X : Type 0} → Result (List X) BerFault → List X
or_none (Ok xs) = xs
or_none (Err fault) = []

-- the values that stand one after another in these octets, where those give them
abbrev pub values : {X : Type 0} → Members (List X) → List ℕ → List X
values m octets = or_none (whole m.read octets)

-- the first value and the octets of the others
abbrev pub SplitsFirst : {A X : Type 0} → Members (List X) → (A → X × List ℕ) → List ℕ → Option A
    → Type 0
SplitsFirst m seen octets None = values m octets ≡ []
SplitsFirst m seen octets (Some found) =
    (values m octets ≡ (seen found).0 ∷ values m (seen found).1)
    × IsOk (whole m.read (seen found).1)

-- octets that were lent, without where they lie
abbrev pub lent : {A : Type 0} → (A → List ℕ) → Result A BerFault → Result (List ℕ) BerFault
lent now (Ok a) = Ok (now a)
lent now (Err fault) = Err fault

-- The same of a list with one element at least, whose octets hold it as a list.
abbrev pub LendsSome : {X : Type 0} → Element X → ℕ → View → View → Result (List ℕ) BerFault
    → Type 0
LendsSome {X} f more old new (Ok octets) = (xs : List X)
    × ((one_or_more f more).read old ≡ Ok (xs, new))
    × (whole (list_of f (suc more)).read octets ≡ Ok xs)
LendsSome f more old new (Err fault) = (one_or_more f more).read old ≡ Err fault

-- What was read as one or more is read from its octets as a list.
pub some_whole : {X : Type 0} (f : Element X) (more : ℕ) (view new : View) (xs : List X)
    → nat_le f.levels 16 ≡ true → IsSlice view.octets → length view.ends ≤ 16
    → (one_or_more f more).read view ≡ Ok (xs, new)
    → whole (list_of f (suc more)).read (between view new) ≡ Ok xs
some_whole f more view new xs levels slice shallow e =
    let were = (one_or_more f more).sound view new xs slice e in
    let read = read_trees-ok (each_tree f.tree xs) view new slice.each shallow were.stand in
    members_again (list_of f (suc more)) levels (between view new) xs
    (record { few = were.fits.few; each = were.fits.each })
    (subst (SpellsAll (each_tree f.tree xs)) (sym
    (between_is view new read.spelled read.rest read.front read.moved)) read.is)
