-- Lists that are gone over, and lent.
use Rattle.std.proofs.Common.{◌≡◌, ℕ, zero, suc, ◌+◌, ◌-◌, ◌<◌, ◌≤◌, ◌↔◌, IsTrue, IsOk, Bool, true}
use Rattle.std.proofs.Common.{false, List, [], ◌∷◌, length, take, drop, ◌==◌, nat_le, Result, Ok}
use Rattle.std.proofs.Common.{Err, refl, sym, ◌∙◌, ap, subst, eq-eqb, arith, append-nil}
use Rattle.std.proofs.Common.{append_assoc, ◌++◌}
use Rattle.std.specs.List.{AllByRecursion}
use Rattle.ber_core.specs.Spelling.{canonical, canonical_all}
use Rattle.ber_core.specs.Parts.{spelled-tree_and, spelled-no_trees, length-tree_and}
use Rattle.ber_core.specs.Parts.{length-no_trees}
use Rattle.std.proofs.lemmas.Bool.{eqb-true}
use Rattle.ber_core.specs.declared.fault.BerFault.{BerFault}
use Rattle.ber_core.specs.View.{View, view_before, end_of}
use Rattle.ber_core.specs.Reading.{◌>>=◌, leave}
use Rattle.ber_core.specs.Length.{IsSlice}
use Rattle.ber_shape.specs.Results.{bind_ok, ok_is, err_ok}
use Rattle.ber_shape.specs.Steps.{left_at_end}
use Rattle.ber_shape.specs.Element.{Element}
use Rattle.ber_shape.specs.List.{list_of, one_or_more, many_at, each_tree, times, AreFew, each_few}
use Rattle.ber_shape.specs.Exact.{whole, members_are, members_again}
use Rattle.ber_shape.specs.Lent.{passed, between, lent_whole, some_whole, values, or_none}
use Rattle.ber_core.specs.Facts.Found.{IsOctets-take, IsOctets-drop}
use Rattle.ber_core.specs.Facts.Whole.{read_tree-ok, read_trees-ok}
use Rattle.std.proofs.lemmas.List.{length-take, length-drop}

contradicted_2 : true ≡ false → ⊥
contradicted_2 e = cc

slice_part : (n k : ℕ) (octets : List ℕ) → IsSlice octets → IsSlice (take n (drop k octets))
slice_part n k octets all = record {
  each = IsOctets-take n (drop k octets) (IsOctets-drop k octets all.each);
  short = omega (arith, all.short, length-take n (drop k octets), length-drop k octets);
}

abbrev pub Going : {X : Type 0} → Element X → ℕ → View → Result View BerFault → Type 0
Going f n view total = passed (many_at f.read n view) ≡ total

module _ {X : Type 0} (f : Element X) where
  pub ended_passed : (n : ℕ) (view : View) → view.place ≡ end_of view
      → passed (many_at f.read n view) ≡ Ok view
  unfolding many_at
  ended_passed zero view e = refl
  ended_passed (suc n) view e = rw (eq-eqb view.place (end_of view) e) refl

  regrouped : (n : ℕ) (first : X) (between : View)
      → passed (many_at f.read n between >>= λ others. Ok (first ∷ others.0, others.1))
      ≡ passed (many_at f.read n between)
  regrouped n first between = elim (many_at f.read n between) as
      (λ read. passed (read >>= λ others. Ok (first ∷ others.0, others.1)) ≡ passed read)
      [ Ok read ↦ refl | Err fault ↦ refl ]

  one_passed : (n : ℕ) (view between : View) (first : X) → (view.place == end_of view) ≡ false
      → f.read view ≡ Ok (first, between)
      → passed (many_at f.read (suc n) view) ≡ passed (many_at f.read n between)
  unfolding many_at
  one_passed n view between first more e = rw (more, e) (regrouped n first between)

  not_passed : (n : ℕ) (view : View) (fault : BerFault) → (view.place == end_of view) ≡ false
      → f.read view ≡ Err fault → passed (many_at f.read (suc n) view) ≡ Err fault
  unfolding many_at
  not_passed n view fault more e = rw (more, e) refl

  contradicted : (test : Bool) → IsTrue test → test ≡ false → ⊥
  contradicted test so not_so = cc

  pub more_left : (at_end : Bool) (view : View) → (IsTrue at_end ↔ (view.place ≡ end_of view))
      → at_end ≡ false → (view.place == end_of view) ≡ false
  more_left at_end view told not_so =
      elim (view.place == end_of view) as (λ test. (view.place == end_of view) ≡ test
      → test ≡ false) [
        | true ↦ λ e. absurd (contradicted at_end (told.1 (eqb-true view.place (end_of view) e))
            not_so)
        | false ↦ λ e. refl
      ] refl

  pub goes_on : (n i : ℕ) (at_end : Bool) (view between : View) (first : X)
      (total : Result View BerFault) → i < n → (IsTrue at_end ↔ (view.place ≡ end_of view))
      → at_end ≡ false
      → f.read view ≡ Ok (first, between) → Going f (n - i) view total
      → Going f (n - (i + 1)) between total
  goes_on n i at_end view between first total below told not_so read so_far =
      let count : n - i ≡ suc (n - (i + 1)) = omega arith in
      sym (one_passed (n - (i + 1)) view between first (more_left at_end view told not_so) read)
      ∙ ap (λ n. passed (many_at f.read n view)) (sym count) ∙ so_far

  pub stops : (n i : ℕ) (at_end : Bool) (view : View) (fault : BerFault)
      (total : Result View BerFault) → i < n → (IsTrue at_end ↔ (view.place ≡ end_of view))
      → at_end ≡ false
      → f.read view ≡ Err fault → Going f (n - i) view total → total ≡ Err fault
  stops n i at_end view fault total below told not_so read so_far =
      let count : n - i ≡ suc (n - (i + 1)) = omega arith in
      sym so_far ∙ ap (λ n. passed (many_at f.read n view)) count
      ∙ not_passed (n - (i + 1)) view fault (more_left at_end view told not_so) read

  pub ends : (n i : ℕ) (view : View) (total : Result View BerFault) → n ≤ i
      → Going f (n - i) view total → total ≡ Ok view
  unfolding many_at
  ends n i view total past so_far = let none : n - i ≡ 0 = omega arith in sym so_far
      ∙ ap (λ n. passed (many_at f.read n view)) none

  -- what was passed is lent
  pub record Lending (n : ℕ) (view new : View) : Type 0 where
    pub values : List X
    pub is : many_at f.read n view ≡ Ok (values, new)
    pub again : whole (many_at f.read n) (between view new) ≡ Ok values
    pub onward : view.place ≤ new.place

  pub lending : (n : ℕ) (view new : View) → nat_le f.levels 16 ≡ true → IsSlice view.octets
      → length view.ends ≤ 16 → passed (many_at f.read n view) ≡ Ok new → Lending n view new
  lending n view new levels octets shallow e =
      let (read, is, same) = bind_ok (many_at f.read n view) (λ read. Ok read.1) new e in
      let is_read : many_at f.read n view ≡ Ok (read.0, new) = is
      ∙ ap (λ place. Ok (read.0, place)) (ok_is read.1 new same) in
      let moved = (read_trees-ok ((list_of f n).trees read.0) view new octets.each shallow
      ((list_of f n).sound view new read.0 octets is_read).stand).moved in
      record {
        values = read.0;
        is = is_read;
        again = lent_whole (list_of f n) view new read.0 levels octets shallow is_read;
        onward = omega (arith, ap (λ v. v.place) moved);
      }

  pub record LendingSome (more : ℕ) (view new : View) : Type 0 where
    pub values : List X
    pub is : (one_or_more f more).read view ≡ Ok (values, new)
    pub again : whole (many_at f.read (suc more)) (between view new) ≡ Ok values
    pub onward : view.place ≤ new.place

  some_read : (more : ℕ) (view middle new : View) (x : X) (others : List X)
      → f.read view ≡ Ok (x, middle) → many_at f.read more middle ≡ Ok (others, new)
      → (one_or_more f more).read view ≡ Ok (x ∷ others, new)
  some_read more view middle new x others first behind = rw (first, behind) refl

  pub lending_some : (more : ℕ) (view middle new : View) (x : X) → nat_le f.levels 16 ≡ true
      → IsSlice view.octets → length view.ends ≤ 16 → f.read view ≡ Ok (x, middle)
      → passed (many_at f.read more middle) ≡ Ok new → LendingSome more view new
  lending_some more view middle new x levels octets shallow first e =
      let (read, is, same) = bind_ok (many_at f.read more middle) (λ read. Ok read.1) new e in
      let behind : many_at f.read more middle ≡ Ok (read.0, new) = is
      ∙ ap (λ place. Ok (read.0, place)) (ok_is read.1 new same) in
      let all = some_read more view middle new x read.0 first behind in
      let moved = (read_trees-ok (each_tree f.tree (x ∷ read.0)) view new octets.each shallow
      ((one_or_more f more).sound view new (x ∷ read.0) octets all).stand).moved in
      record {
        values = x ∷ read.0;
        is = all;
        again = some_whole f more view new (x ∷ read.0) levels octets shallow all;
        onward = omega (arith, ap (λ v. v.place) moved);
      }

  part_is : (view new : View) (octets : List ℕ) (start stop : ℕ) → octets ≡ view.octets
      → start ≡ view.place → stop ≡ new.place
      → take (stop - start) (drop start octets) ≡ between view new
  part_is view new octets start stop same starts stops = rw (same, starts, stops) refl

  pub lent_again : (n : ℕ) (view new : View) (octets part : List ℕ) (start stop : ℕ) (xs : List X)
      → octets ≡ view.octets → start ≡ view.place → stop ≡ new.place
      → part ≡ take (stop - start) (drop start octets)
      → whole (many_at f.read n) (between view new) ≡ Ok xs
      → whole (many_at f.read n) part ≡ Ok xs
  lent_again n view new octets part start stop xs same starts stops is e =
      ap (whole (many_at f.read n)) (is ∙ part_is view new octets start stop same starts stops) ∙ e

  -- ---- the first one

  pub record First (n : ℕ) (octets : List ℕ) (x : X) (new : View) : Type 0 where
    pub others : List X
    pub is : whole (many_at f.read n) octets ≡ Ok (x ∷ others)
    pub rest : whole (many_at f.read n) (take (length octets - new.place) (drop new.place octets))
        ≡ Ok others

  some_of : {A : Type 0} (r : Result A BerFault) → IsOk r → (a : A) × (r ≡ Ok a)
  some_of (Ok a) ok = (a, refl)
  some_of (Err fault) ok = absurd cc

  none_whole : (octets : List ℕ) (xs : List X)
      → ((view_before octets).place == end_of (view_before octets)) ≡ false
      → whole (many_at f.read zero) octets ≡ Ok xs → ⊥
  unfolding many_at
  none_whole octets xs more e =
      let left_it = bind_ok (leave (view_before octets)) (λ behind. Ok []) xs e in
      let test : ((view_before octets).place == end_of (view_before octets)) ≡ true =
      eq-eqb _ _ (left_at_end (view_before octets) left_it.0 left_it.1) in
      contradicted_2 (sym test ∙ more)

  more_many : (n : ℕ) (octets : List ℕ) (xs : List X) → nat_le f.levels 16 ≡ true → IsSlice octets
      → whole (many_at f.read n) octets ≡ Ok xs → whole (many_at f.read (suc n)) octets ≡ Ok xs
  more_many n octets xs levels all e =
      let (fits, spells) = members_are (list_of f n) octets xs all e in
      members_again (list_of f (suc n)) levels octets xs
      (record { few = omega (arith, fits.few); each = fits.each }) spells

  behind_first : (octets : List ℕ) (new : View) (x : X) → IsSlice octets
      → f.read (view_before octets) ≡ Ok (x, new)
      → new ≡ record (view_before octets) { place = new.place }
  behind_first octets new x all e =
      let moved = (read_tree-ok (f.tree x) (view_before octets) new all.each
      (f.sound (view_before octets) new x all e).stands).moved in
      moved ∙ ap (λ place. record (view_before octets) { place = place })
      (sym (ap (λ v. v.place) moved))

  rest_is : (m : ℕ) (octets : List ℕ) (new after : View) (others : List X)
      → nat_le f.levels 16 ≡ true → IsSlice octets
      → new ≡ record (view_before octets) { place = new.place }
      → many_at f.read m new ≡ Ok (others, after) → after.place ≡ end_of after
      → whole (many_at f.read m) (take (length octets - new.place) (drop new.place octets))
      ≡ Ok others
  rest_is m octets new after others levels all moved e at_end =
      let octets_same : new.octets ≡ octets = ap (λ v. v.octets) moved in
      let ends_same : new.ends ≡ [] = ap (λ v. v.ends) moved in
      let new_all : IsSlice new.octets = subst IsSlice (sym octets_same) all in
      let few : length new.ends ≤ 16 = omega (arith, ap length ends_same) in
      let read = ((list_of f m).sound new after others new_all e).stand in
      let passed_by = read_trees-ok ((list_of f m).trees others) new after new_all.each few read in
      let stop : after.place ≡ length octets = at_end ∙ ap end_of passed_by.moved
      ∙ ap end_of moved in
      let same : between new after ≡ take (length octets - new.place) (drop new.place octets) =
      rw (stop, octets_same) refl in
      ap (whole (many_at f.read m)) (sym same)
      ∙ lent_whole (list_of f m) new after others levels new_all few e

  many_step : (m : ℕ) (view between : View) (x : X) → (view.place == end_of view) ≡ false
      → f.read view ≡ Ok (x, between)
      → many_at f.read (suc m) view ≡ (many_at f.read m between >>= λ others.
      Ok (x ∷ others.0, others.1))
  unfolding many_at
  many_step m view between x more read = rw (more, read) refl

  many_fault : (m : ℕ) (view : View) (fault : BerFault) → (view.place == end_of view) ≡ false
      → f.read view ≡ Err fault → many_at f.read (suc m) view ≡ Err fault
  unfolding many_at
  many_fault m view fault more read = rw (more, read) refl

  first_one : (n : ℕ) (octets : List ℕ) (x : X) (new : View) (xs : List X)
      → nat_le f.levels 16 ≡ true → IsSlice octets → whole (many_at f.read n) octets ≡ Ok xs
      → ((view_before octets).place == end_of (view_before octets)) ≡ false
      → f.read (view_before octets) ≡ Ok (x, new) → First n octets x new
  first_one zero octets x new xs levels all e more read = absurd (none_whole octets xs more e)
  first_one (suc m) octets x new xs levels all e more read =
      let view : View = view_before octets in
      let whole_read = bind_ok (many_at f.read (suc m) view)
      (λ read. leave read.1 >>= λ behind. Ok read.0) xs e in
      let left_it = bind_ok (leave whole_read.0.1) (λ behind. Ok whole_read.0.0) xs whole_read.2 in
      let stepped : (many_at f.read m new >>= λ others. Ok (x ∷ others.0, others.1))
      ≡ Ok whole_read.0 = sym (many_step m view new x more read) ∙ whole_read.1 in
      let (others, others_read, same) = bind_ok (many_at f.read m new)
      (λ others. Ok (x ∷ others.0, others.1)) whole_read.0 stepped in
      let pair = ok_is (x ∷ others.0, others.1) whole_read.0 same in
      let after : others.1 ≡ whole_read.0.1 = ap (λ p. p.1) pair in
      let at_end : others.1.place ≡ end_of others.1 =
      subst (λ v. v.place ≡ end_of v) (sym after)
      (left_at_end whole_read.0.1 left_it.0 left_it.1) in
      let moved = behind_first octets new x all read in
      record {
        others = others.0;
        is = e ∙ ap (λ xs. Ok xs) (sym (ok_is whole_read.0.0 xs left_it.2)
            ∙ sym (ap (λ p. p.0) pair));
        rest = more_many m (take (length octets - new.place) (drop new.place octets)) others.0
            levels (slice_part (length octets - new.place) new.place octets all)
            (rest_is m octets new others.1 others.0 levels all moved others_read at_end);
      }

  pub first : (n : ℕ) (octets : List ℕ) (x : X) (new : View) (at_end : Bool)
      → nat_le f.levels 16 ≡ true → IsSlice octets → IsOk (whole (many_at f.read n) octets)
      → (IsTrue at_end ↔ ((view_before octets).place ≡ end_of (view_before octets)))
      → at_end ≡ false → f.read (view_before octets) ≡ Ok (x, new) → First n octets x new
  first n octets x new at_end levels all ok told not_so read =
      let (xs, e) = some_of (whole (many_at f.read n) octets) ok in
      first_one n octets x new xs levels all e (more_left at_end (view_before octets) told not_so)
      read

  none_read : (n : ℕ) (octets : List ℕ) (fault : BerFault) (xs : List X)
      → whole (many_at f.read n) octets ≡ Ok xs
      → ((view_before octets).place == end_of (view_before octets)) ≡ false
      → f.read (view_before octets) ≡ Err fault → ⊥
  none_read zero octets fault xs e more read = none_whole octets xs more e
  none_read (suc m) octets fault xs e more read =
      let whole_read = bind_ok (many_at f.read (suc m) (view_before octets))
      (λ read. leave read.1 >>= λ behind. Ok read.0) xs e in
      err_ok fault whole_read.0 (sym (many_fault m (view_before octets) fault more read)
      ∙ whole_read.1)

  pub no_fault : (n : ℕ) (octets : List ℕ) (fault : BerFault) (at_end : Bool)
      → IsOk (whole (many_at f.read n) octets)
      → (IsTrue at_end ↔ ((view_before octets).place ≡ end_of (view_before octets)))
      → at_end ≡ false → f.read (view_before octets) ≡ Err fault → ⊥
  no_fault n octets fault at_end ok told not_so read =
      let (xs, e) = some_of (whole (many_at f.read n) octets) ok in
      none_read n octets fault xs e (more_left at_end (view_before octets) told not_so) read

  pub none_first : (n : ℕ) (octets : List ℕ) → (view_before octets).place
      ≡ end_of (view_before octets) → whole (many_at f.read n) octets ≡ Ok []
  unfolding many_at
  none_first zero octets e = rw (eq-eqb (view_before octets).place (end_of (view_before octets)) e)
      refl
  none_first (suc n) octets e =
      let so = eq-eqb (view_before octets).place (end_of (view_before octets)) e in
      rw (so, so) refl

  -- ---- going over lent octets

  pub valued : (n : ℕ) (octets : List ℕ) → IsOk (whole (many_at f.read n) octets)
      → whole (many_at f.read n) octets ≡ Ok (values (list_of f n) octets)
  valued n octets ok = by_result (whole (many_at f.read n) octets) ok
    where
      by_result : (r : Result (List X) BerFault) → IsOk r → r ≡ Ok (or_none r)
      by_result (Ok xs) ok = refl
      by_result (Err fault) ok = absurd cc

  ok_of : {A : Type 0} (r : Result A BerFault) (a : A) → r ≡ Ok a → IsOk r
  ok_of r a e = subst IsOk (sym e) refl

  pub split_so : (n : ℕ) (octets rest : List ℕ) (x : X) (others : List X)
      → whole (many_at f.read n) octets ≡ Ok (x ∷ others)
      → whole (many_at f.read n) rest ≡ Ok others
      → (values (list_of f n) octets ≡ x ∷ values (list_of f n) rest)
      × IsOk (whole (many_at f.read n) rest)
  split_so n octets rest x others e g = (
    ap or_none e ∙ ap (λ xs. x ∷ xs) (sym (ap or_none g)),
    ok_of (whole (many_at f.read n) rest) others g,
  )

  pub each_fits : (n : ℕ) (octets : List ℕ) → IsSlice octets
      → IsOk (whole (many_at f.read n) octets) → AreFew f.Fits n (values (list_of f n) octets)
  each_fits n octets all ok = (members_are (list_of f n) octets (values (list_of f n) octets) all
      (valued n octets ok)).0

  abbrev pub size : List X → ℕ
  size xs = length (canonical_all (each_tree f.tree xs))

  pub size_few : (n : ℕ) (xs : List X) → AreFew f.Fits n xs → size xs ≤ times n f.most
  size_few n xs fits = each_few f n xs fits.few fits.each

  pub size_more : (xs others : List X) (x : X) → xs ≡ x ∷ others
      → size xs ≡ length (canonical (f.tree x)) + size others
  size_more xs others x e = ap size e ∙ length-tree_and (f.tree x) (each_tree f.tree others)

  pub size_none : (xs : List X) → xs ≡ [] → size xs ≡ 0
  size_none xs e = ap size e ∙ length-no_trees

  pub fits_more : (xs others : List X) (x : X) → xs ≡ x ∷ others → AllByRecursion f.Fits xs
      → f.Fits x × AllByRecursion f.Fits others
  fits_more xs others x e each = subst (AllByRecursion f.Fits) e each

  pub one_more : (w new total : List ℕ) (rest others : List X) (x : X) → rest ≡ x ∷ others
      → new ≡ w ++ canonical (f.tree x) → w ++ canonical_all (each_tree f.tree rest) ≡ total
      → new ++ canonical_all (each_tree f.tree others) ≡ total
  one_more w new total rest others x is appended so_far =
      ap (λ octets. octets ++ canonical_all (each_tree f.tree others)) appended
      ∙ append_assoc w (canonical (f.tree x)) (canonical_all (each_tree f.tree others))
      ∙ ap (λ octets. w ++ octets) (sym (spelled-tree_and (f.tree x) (each_tree f.tree others)))
      ∙ ap (λ xs. w ++ canonical_all (each_tree f.tree xs)) (sym is) ∙ so_far

  pub no_more : (w total : List ℕ) (rest : List X) → rest ≡ []
      → w ++ canonical_all (each_tree f.tree rest) ≡ total → w ≡ total
  no_more w total rest none so_far = sym (append-nil w)
      ∙ ap (λ octets. w ++ octets) (sym spelled-no_trees)
      ∙ ap (λ xs. w ++ canonical_all (each_tree f.tree xs)) (sym none) ∙ so_far
