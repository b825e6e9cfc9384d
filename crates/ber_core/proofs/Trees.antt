-- What is read of a tree stays as octets come behind the input, but for Cut.
use Rattle.std.proofs.Common.{◌≡◌, ℕ, ◌+◌, ◌-◌, ◌≤◌, true, false, ◌==◌, List, [], ◌∷◌, ◌++◌, length}
use Rattle.std.proofs.Common.{drop, if◌then◌else◌, Result, Ok, Err, refl, sym, ap, subst, ◌∙◌}
use Rattle.std.proofs.Common.{arith}
use Rattle.std.proofs.lemmas.List.{length-append, length-take, length-drop}
use Rattle.ber_core.specs.declared.fault.BerFault.{BerFault}
use Rattle.ber_core.specs.declared.fault.BerFault.TheVariants.{Cut, WrongTag, BadLength, BadContent}
use Rattle.ber_core.specs.declared.fault.BerFault.TheVariants.{Wide}
use Rattle.ber_core.specs.Length.{IsOctets}
use Rattle.ber_core.specs.Tree.{Tree, Trees, primitive, constructed, no_trees, tree_and}
use Rattle.ber_core.specs.View.{View, view_before, left, IsInside}
use Rattle.ber_core.specs.Reading.{◌>>=◌, next_content, leave, inside, behind, Stands}
use Rattle.ber_core.specs.Whole.{exactly, read_tree, read_trees}
use Rattle.ber_core.specs.Longer.{longer, longer_read, IsUncut, IsWithin}
use Rattle.ber_core.specs.Facts.Found.{next_content-Stands}
use Rattle.ber_core.specs.Facts.Whole.{read_tree-ok, read_trees-ok}
use Rattle.ber_core.proofs.Longer.{found_stays}

-- an answer that stays, where the longer input gives `later`; what was read moves with it
abbrev Stays : {A : Type 0} → (A → A) → Result A BerFault → Result A BerFault → Type 0
Stays moved (Ok x) later = later ≡ Ok (moved x)
Stays moved (Err fault) later = later ≡ Err fault

-- it stays where it isn't Cut
abbrev StaysUncut : {A : Type 0} → (A → A) → Result A BerFault → Result A BerFault → Type 0
StaysUncut {A} moved now later = IsUncut now → Stays moved now later

-- an answer, and then another
stays_on : {A B : Type 0} (moved : A → A) (moved_on : B → B) (now later : Result A BerFault)
    (f g : A → Result B BerFault) → StaysUncut moved now later
    → ((x : A) → now ≡ Ok x → StaysUncut moved_on (f x) (g (moved x)))
    → StaysUncut moved_on (now >>= f) (later >>= g)
stays_on moved moved_on (Ok x) later f g first next h =
    rw (first tt) (next x refl h)
stays_on moved moved_on (Err (Cut place)) later f g first next h = absurd h
stays_on moved moved_on (Err (WrongTag place found)) later f g first next h = rw (first tt) refl
stays_on moved moved_on (Err (BadLength place)) later f g first next h = rw (first tt) refl
stays_on moved moved_on (Err (BadContent place)) later f g first next h = rw (first tt) refl
stays_on moved moved_on (Err (Wide place)) later f g first next h = rw (first tt) refl

same_stays : {A : Type 0} (now later : Result A BerFault) → (IsUncut now → later ≡ now)
    → StaysUncut (λ x. x) now later
same_stays (Ok x) later same h = same h
same_stays (Err fault) later same h = same h

bind_twice : {A B C : Type 0} (r : Result A BerFault) (f : A → Result B BerFault)
    (g : B → Result C BerFault) → ((r >>= f) >>= g) ≡ (r >>= λ x. f x >>= g)
bind_twice (Ok x) f g = refl
bind_twice (Err fault) f g = refl

-- ---- a tree is read by its outermost element, and then by what is within

abbrev pub judged : List ℕ → View → ℕ × List ℕ → Result View BerFault
judged content view found = exactly content found.0 found.1 >>= λ value.
    Ok (behind view found.0 found.1)

abbrev pub left_behind : View → Result View BerFault
left_behind view = leave view >>= λ left. Ok left.1

abbrev pub within : Trees → View → Result View BerFault
within members view = read_trees members view >>= left_behind

pub primitive_is : (tag content : List ℕ) (view : View)
    → read_tree (primitive tag content) view ≡ (next_content view tag >>= judged content view)
unfolding read_tree
primitive_is tag content view =
    bind_twice (next_content view tag) _ (λ read. Ok read.1)
    ∙ ap (λ (f : ℕ × List ℕ → Result View BerFault). next_content view tag >>= f)
    (λ i found. bind_twice {B = Unit {0} × View} (exactly content found.0 found.1)
    (λ value. Ok (value, behind view found.0 found.1)) (λ read. Ok read.1) i)

pub constructed_is : (tag : List ℕ) (members : Trees) (view : View)
    → read_tree (constructed tag members) view
    ≡ (next_content view tag >>= λ found. within members (inside view found.0 found.1))
unfolding read_tree
constructed_is tag members view = bind_twice (next_content view tag) _ _

-- ---- within the input

moved_by : (octets : List ℕ) (place : ℕ) (ends spelled rest : List ℕ)
    → left (record { octets = octets; place = place; ends = ends }) ≡ spelled ++ rest
    → IsInside place ends (length octets)
    → IsInside (place + length spelled) ends (length octets)
moved_by octets place [] spelled rest front is =
    omega (
      arith,
      is,
      ap length front,
      length-append spelled rest,
      length-take (length octets - place) (drop place octets),
      length-drop place octets,
    )
moved_by octets place (end ∷ ends) spelled rest front is = (
  omega (
    arith,
    is.0,
    ap length front,
    length-append spelled rest,
    length-take (end - place) (drop place octets),
  ),
  is.1,
)

inside_within : (view : View) (tag content : List ℕ) (start : ℕ) → Stands view tag content start
    → IsWithin view → IsWithin (inside view start content)
inside_within view tag content start found is = (
  omega arith,
  subst (λ place. IsInside place view.ends (length view.octets)) (sym found.begins)
      (moved_by view.octets view.place view.ends found.spelled found.rest found.before_end is),
)

-- ---- what was read stays

leave_stays : (octets more : List ℕ) (place end : ℕ) (ends : List ℕ)
    → StaysUncut (longer more)
    (left_behind (record { octets = octets; place = place; ends = end ∷ ends }))
    (left_behind (record { octets = octets ++ more; place = place; ends = end ∷ ends }))
leave_stays octets more place end ends =
    elim (place == end) as (λ b. StaysUncut (longer more)
    ((if b then Ok (tt {0}, record { octets = octets; place = place; ends = ends })
    else Err (BadLength place)) >>= λ (left : Unit {0} × View). Ok left.1)
    ((if b then Ok (tt {0}, record { octets = octets ++ more; place = place; ends = ends })
    else Err (BadLength place)) >>= λ (left : Unit {0} × View). Ok left.1))
    [ true ↦ λ h. refl | false ↦ λ h. refl ]

mutual
  unfolding read_tree

  tree_in : (t : Tree) (view : View) (more : List ℕ) → IsOctets view.octets → IsWithin view
      → StaysUncut (longer more) (read_tree t view) (read_tree t (longer more view))
  tree_in (primitive tag content) view more octets is =
      rw (primitive_is tag content view, primitive_is tag content (longer more view))
      (stays_on (λ x. x) (longer more) (next_content view tag)
      (next_content (longer more view) tag) (judged content view)
      (judged content (longer more view))
      (same_stays (next_content view tag) (next_content (longer more view) tag)
      (found_stays view tag more is))
      (λ found read. stays_on (λ x. x) (longer more) (exactly content found.0 found.1)
      (exactly content found.0 found.1) _ _
      (same_stays (exactly content found.0 found.1) (exactly content found.0 found.1) (λ h. refl))
      (λ value is_value h. refl)))
  tree_in (constructed tag members) view more octets is =
      rw (constructed_is tag members view, constructed_is tag members (longer more view))
      (stays_on (λ x. x) (longer more) (next_content view tag)
      (next_content (longer more view) tag)
      (λ found. within members (inside view found.0 found.1))
      (λ found. within members (inside (longer more view) found.0 found.1))
      (same_stays (next_content view tag) (next_content (longer more view) tag)
      (found_stays view tag more is))
      (λ found read.
      let stands = next_content-Stands view tag found.1 found.0 octets read in
      let inner = inside view found.0 found.1 in
      let entered : length inner.ends ≤ 16 = omega (arith, stands.shallow) in
      stays_on (longer more) (longer more) (read_trees members inner)
      (read_trees members (longer more inner)) left_behind left_behind
      (trees_in members inner more octets (inside_within view tag found.1 found.0 stands is)
      entered)
      (λ after all.
      let passed = read_trees-ok members inner after octets entered all in
      subst (λ after. StaysUncut (longer more) (left_behind after)
      (left_behind (longer more after))) (sym passed.moved)
      (leave_stays view.octets more (found.0 + length passed.spelled) (found.0 + length found.1)
      view.ends))))

  trees_in : (ts : Trees) (view : View) (more : List ℕ) → IsOctets view.octets → IsWithin view
      → length view.ends ≤ 16
      → StaysUncut (longer more) (read_trees ts view) (read_trees ts (longer more view))
  trees_in no_trees view more octets is shallow = λ h. refl
  trees_in (tree_and t ts) view more octets is shallow =
      stays_on (longer more) (longer more) (read_tree t view) (read_tree t (longer more view))
      (read_trees ts) (read_trees ts) (tree_in t view more octets is)
      (λ after read.
      let passed = read_tree-ok t view after octets read in
      subst (λ after. StaysUncut (longer more) (read_trees ts after)
      (read_trees ts (longer more after))) (sym passed.moved)
      (trees_in ts (record view { place = view.place + length passed.spelled }) more octets
      (moved_by view.octets view.place view.ends passed.spelled passed.rest passed.front is)
      shallow))

as_read : (more : List ℕ) (now later : Result View BerFault) → Stays (longer more) now later
    → later ≡ longer_read more now
as_read more (Ok view) later stays = stays
as_read more (Err fault) later stays = stays

pub tree_stays : (t : Tree) (octets more : List ℕ) → IsOctets octets
    → IsUncut (read_tree t (view_before octets))
    → read_tree t (view_before (octets ++ more))
    ≡ longer_read more (read_tree t (view_before octets))
tree_stays t octets more all h =
    as_read more (read_tree t (view_before octets)) (read_tree t (view_before (octets ++ more)))
    (tree_in t (view_before octets) more all (omega arith) h)
