-- What decoding octets answers, and that reading, trees and the canonical spelling of a shape
-- agree.
use Rattle.std.proofs.Common.{◌≡◌, ◌↔◌, ℕ, suc, ◌+◌, ◌<◌, ◌≤◌, ◌^◌, true, List, [], ◌++◌, length}
use Rattle.std.proofs.Common.{take, nat_le, nat_lt, Result, Ok, Err, refl, sym, ◌∙◌, ap, subst}
use Rattle.std.proofs.Common.{eq-eqb, arith, append-nil, length-append}
use Rattle.std.proofs.lemmas.List.{nil_from_length}
use Rattle.std.proofs.Math.Seq.{take-length}
use Rattle.ber_core.specs.declared.fault.BerFault.{BerFault}
use Rattle.ber_core.specs.Length.{IsOctets, IsSlice}
use Rattle.ber_core.specs.Tree.{Tree, Trees, no_trees, tree_and, IsWellFormed}
use Rattle.ber_core.specs.Spelling.{Spells, SpellsAll, canonical}
use Rattle.ber_core.specs.View.{View, view_before, end_of, left}
use Rattle.ber_core.specs.Reading.{◌>>=◌, leave, Gives}
use Rattle.ber_core.specs.Whole.{depth_all, read_trees}
use Rattle.ber_core.specs.Facts.Canonical.{canonical-Spells}
use Rattle.ber_core.specs.Facts.Whole.{read_trees-ok, read_trees-at}
use Rattle.ber_shape.specs.Results.{bind_ok, ok_is, err_ok}
use Rattle.ber_shape.specs.Steps.{left_at_end}
use Rattle.ber_shape.specs.Element.{Element}
use Rattle.ber_shape.specs.Identifier.{is_identifier}
use Rattle.ber_shape.specs.Members.{Members, WereRead, last, structured}

-- ---- definitions

-- all of the octets
abbrev pub whole : {X : Type 0} → (View → Result (X × View) BerFault) → List ℕ → Result X BerFault
whole read octets = do
  x ← read (view_before octets)
  behind ← leave x.1
  Ok x.0

-- The answer of decoding, seen by seen: a value that fits, and the octets are a spelling of its
-- tree; or the first fault, and they are a spelling of no value that fits.
abbrev pub IsDecoded : {A X : Type 0} → Element X → (A → X) → List ℕ → Result A BerFault → Type 0
IsDecoded f seen octets (Ok a) = f.Fits (seen a) × Spells (f.tree (seen a)) octets
IsDecoded {X = X} f seen octets (Err fault) = (whole f.read octets ≡ Err fault)
    × ((x : X) → f.Fits x → Spells (f.tree x) octets → ⊥)

-- Octets are read exactly where they are a spelling, each of them, and the value fits.
abbrev pub ReadWhereSpelled : {X : Type 0} → Element X → Type 0
ReadWhereSpelled {X} f = (octets : List ℕ) (x : X) → IsSlice octets
    → (whole f.read octets ≡ Ok x) ↔ (f.Fits x × Spells (f.tree x) octets)

abbrev pub MembersWhereSpelled : {X : Type 0} → Members X → Type 0
MembersWhereSpelled {X} m = (octets : List ℕ) (x : X) → IsSlice octets
    → (whole m.read octets ≡ Ok x) ↔ (m.Fits x × SpellsAll (m.trees x) octets)

-- The canonical spelling is read back.
abbrev pub ReadBack : {X : Type 0} → Element X → Type 0
ReadBack {X} f = (x : X) → f.Fits x → whole f.read (canonical (f.tree x)) ≡ Ok x

-- The tree of a value that fits, spelled in octets, is well formed.
abbrev pub TreesFormed : {X : Type 0} → Element X → Type 0
TreesFormed {X} f = (octets : List ℕ) (x : X) → IsSlice octets → f.Fits x → Spells (f.tree x) octets
    → IsWellFormed (f.tree x)

-- Octets spell one value at most.
abbrev pub OneValue : {X : Type 0} → Element X → Type 0
OneValue {X} f = (octets : List ℕ) (x y : X) → f.Fits x → f.Fits y → Spells (f.tree x) octets
    → Spells (f.tree y) octets → x ≡ y

pub record IsExact {X : Type 0} (f : Element X) : Type 0 where
  pub read : ReadWhereSpelled f
  pub back : ReadBack f
  pub formed : TreesFormed f
  pub one : OneValue f
  pub few : (x : X) → f.Fits x → length (canonical (f.tree x)) ≤ f.most

pub record AreExact {X : Type 0} (m : Members X) : Type 0 where
  pub read : MembersWhereSpelled m

-- ---- proofs

pub all_left : (octets : List ℕ) → left (view_before octets) ≡ octets
all_left octets = ap (λ n. take n octets) (omega arith) ∙ take-length octets

abbrev at_end_of : List ℕ → View
at_end_of octets = record (view_before octets) { place = length octets }

left_whole : (octets : List ℕ) → leave (at_end_of octets) ≡ Ok (tt, at_end_of octets)
left_whole octets = rw (eq-eqb (length octets) (length octets) refl) refl

whole_spelled : (ts : Trees) (octets : List ℕ) (after : View) → IsOctets octets
    → read_trees ts (view_before octets) ≡ Ok after → after.place ≡ end_of after
    → SpellsAll ts octets
whole_spelled ts octets after all e at_end =
    let read = read_trees-ok ts (view_before octets) after all (omega arith) e in
    let is_whole : octets ≡ read.spelled ++ read.rest = sym (all_left octets) ∙ read.front in
    let at : length read.spelled ≡ length octets =
    omega (arith, ap (λ v. v.place) read.moved, at_end, ap end_of read.moved) in
    let nothing : read.rest ≡ [] = nil_from_length read.rest
    (omega (arith, ap length is_whole, length-append read.spelled read.rest)) in
    subst (SpellsAll ts) (sym (is_whole ∙ ap (λ rest. read.spelled ++ rest) nothing
    ∙ append-nil read.spelled)) read.is

whole_again : (ts : Trees) (octets : List ℕ) → depth_all ts ≤ 16 → SpellsAll ts octets
    → read_trees ts (view_before octets) ≡ Ok (at_end_of octets)
whole_again ts octets shallow spells =
    read_trees-at ts (view_before octets) (at_end_of octets) octets [] spells (all_left octets
    ∙ sym (append-nil octets)) (ap (λ place. record (view_before octets) { place = place })
    (omega arith)) (omega arith)

module _ {X : Type 0} (m : Members X) where
  -- what reading all the octets went through
  pub record WholeRead (octets : List ℕ) (x : X) : Type 0 where
    pub after : View
    pub were : WereRead m.Fits m.trees (view_before octets) after x
    pub at_end : after.place ≡ end_of after

  pub whole_read : (octets : List ℕ) (x : X) → IsSlice octets → whole m.read octets ≡ Ok x
      → WholeRead octets x
  whole_read octets x slice e =
      let read = bind_ok (m.read (view_before octets))
      (λ read. leave read.1 >>= λ behind. Ok read.0) x e in
      let left_it = bind_ok (leave read.0.1) (λ behind. Ok read.0.0) x read.2 in
      let were = m.sound (view_before octets) read.0.1 read.0.0 slice read.1 in
      subst (WholeRead octets) (ok_is read.0.0 x left_it.2)
      (record {
        after = read.0.1;
        were = were;
        at_end = left_at_end read.0.1 left_it.0 left_it.1;
      })

  pub members_are : (octets : List ℕ) (x : X) → IsSlice octets → whole m.read octets ≡ Ok x
      → m.Fits x × SpellsAll (m.trees x) octets
  members_are octets x slice e =
      let read = whole_read octets x slice e in (
        read.were.fits,
        whole_spelled (m.trees x) octets read.after slice.each read.were.stand
            read.at_end,
      )

  pub members_again : nat_le m.levels 16 ≡ true → (octets : List ℕ) (x : X) → m.Fits x
      → SpellsAll (m.trees x) octets → whole m.read octets ≡ Ok x
  members_again levels octets x fits spells =
      let few : m.levels ≤ 16 = grind arith in
      let listed = whole_again (m.trees x) octets (omega (arith, m.shallow x)) spells in
      rw (
        m.complete (view_before octets) (at_end_of octets) x fits listed refl,
        left_whole octets,
      ) refl

  pub all_exact : nat_le m.levels 16 ≡ true → AreExact m
  all_exact levels = record {
    read = λ octets x slice.
        (members_are octets x slice, λ (fits, spells). members_again levels octets x fits spells);
  }

alone : (t : Tree) (octets : List ℕ) → SpellsAll (tree_and t no_trees) octets → Spells t octets
alone t octets (first, rest, spells, none, is) =
    subst (Spells t) (sym (is ∙ ap (λ rest. first ++ rest) none ∙ append-nil first)) spells

module _ {X : Type 0} (f : Element X) where
  pub element_is : (octets : List ℕ) (x : X) → IsSlice octets → whole f.read octets ≡ Ok x
      → f.Fits x × Spells (f.tree x) octets
  element_is octets x slice e = let (fits, spells) = members_are (last f) octets x slice e in
      (fits, alone (f.tree x) octets spells)

  pub element_again : nat_le f.levels 16 ≡ true → (octets : List ℕ) (x : X) → f.Fits x
      → Spells (f.tree x) octets → whole f.read octets ≡ Ok x
  element_again levels octets x fits spells =
      members_again (last f) levels octets x fits (
        octets,
        [],
        spells,
        refl,
        sym (append-nil octets),
      )

  pub decoded : {A : Type 0} (seen : A → X) (octets : List ℕ) (result : Result A BerFault)
      → nat_le f.levels 16 ≡ true → IsSlice octets
      → Gives seen result (whole f.read octets) → IsDecoded f seen octets result
  decoded seen octets (Ok a) levels slice e = element_is octets (seen a) slice e
  decoded seen octets (Err fault) levels slice e =
      (e, λ x fits spells. err_ok fault x (sym e ∙ element_again levels octets x fits spells))

  pub read_back : nat_le f.levels 16 ≡ true → nat_lt f.most (2 ^ 64) ≡ true → ReadBack f
  read_back levels most x fits =
      let below : f.most < 2 ^ 64 = grind arith in
      let small : length (canonical (f.tree x)) < 2 ^ 64 = omega (arith, f.few x fits) in
      element_again levels (canonical (f.tree x)) x fits (canonical-Spells (f.tree x) small)

  pub trees_formed : nat_le f.levels 16 ≡ true → TreesFormed f
  trees_formed levels octets x slice fits spells =
      (whole_read (last f) octets x slice (element_again levels octets x fits spells)).were.formed.0

  pub one_value : nat_le f.levels 16 ≡ true → OneValue f
  one_value levels octets x y x_fits y_fits x_spells y_spells =
      ok_is x y (sym (element_again levels octets x x_fits x_spells)
      ∙ element_again levels octets y y_fits y_spells)

  pub exact : nat_le f.levels 16 ≡ true → nat_lt f.most (2 ^ 64) ≡ true → IsExact f
  exact levels most = record {
    read = λ octets x slice. (
      element_is octets x slice,
      λ (fits, spells). element_again levels octets x fits spells,
    );
    back = read_back levels most;
    formed = trees_formed levels;
    one = one_value levels;
    few = f.few;
  }

pub deeper : (n : ℕ) → nat_le n 15 ≡ true → nat_le n 16 ≡ true
deeper n e = grind arith

pub one_deeper : (n : ℕ) → nat_le n 15 ≡ true → nat_le (suc n) 16 ≡ true
one_deeper n e = grind arith

pub structured_exact : {X : Type 0} (tag : List ℕ) (m : Members X)
    (is_tag : is_identifier true tag ≡ true) → nat_le m.levels 15 ≡ true
    → nat_lt (length tag + 9 + m.most) (2 ^ 64) ≡ true
    → IsExact (structured tag m is_tag)
structured_exact tag m is_tag levels most = exact (structured tag m is_tag)
    (one_deeper m.levels levels) most
