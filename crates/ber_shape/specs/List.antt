-- The shape of elements of one type, one behind the other up to the end of the element around them
-- (X.690 8.10, 8.12).
use Rattle.std.proofs.Common.{◌≡◌, ℕ, zero, suc, ◌+◌, ◌*◌, ◌-◌, ◌<◌, ◌≤◌, ◌^◌, true, false}
use Rattle.std.proofs.Common.{if◌then◌else◌, ◌==◌, List, [], ◌∷◌, length, drop, Result, Ok, inl}
use Rattle.std.proofs.Common.{inr, refl, sym, ap, subst, eq-eqb, arith}
use Rattle.std.specs.List.{AllByRecursion}
use Rattle.std.proofs.lemmas.Bool.{eqb-true}
use Rattle.std.proofs.lemmas.List.{length-take, nil_from_length}
use Rattle.ber_core.specs.declared.fault.BerFault.{BerFault}
use Rattle.ber_core.specs.Length.{IsSlice}
use Rattle.ber_core.specs.Tree.{Tree, Trees, primitive, constructed, no_trees, tree_and}
use Rattle.ber_core.specs.Tree.{AreWellFormed}
use Rattle.ber_core.specs.Spelling.{canonical_all}
use Rattle.ber_core.specs.Parts.{length-tree_and, length-no_trees}
use Rattle.ber_core.specs.View.{View, end_of, left}
use Rattle.ber_core.specs.Reading.{◌>>=◌, next_content, inside}
use Rattle.ber_core.specs.Whole.{depth, depth_all, read_tree, read_trees}
use Rattle.ber_shape.specs.Results.{bind_ok, ok_is, err_ok, chosen}
use Rattle.ber_shape.specs.Steps.{content_found, tree_ok}
use Rattle.ber_shape.specs.Element.{Element, kept}
use Rattle.ber_shape.specs.Members.{Members, WereRead}

-- each by its shape, up to the end of the element around them and at most so many
unfoldable pub many_at : {X : Type 0} → (View → Result (X × View) BerFault) → ℕ → View
    → Result (List X × View) BerFault
many_at each zero view = Ok ([], view)
many_at each (suc n) view =
    if view.place == end_of view
    then Ok ([], view)
    else each view >>= λ first. many_at each n first.1 >>= λ others.
    Ok (first.0 ∷ others.0, others.1)

abbrev pub each_tree : {X : Type 0} → (X → Tree) → List X → Trees
each_tree f [] = no_trees
each_tree f (x ∷ xs) = tree_and (f x) (each_tree f xs)

-- n times m
abbrev pub times : ℕ → ℕ → ℕ
times n m = n * m

pub record AreFew {X : Type 0} (Fits : X → Type 0) (most : ℕ) (xs : List X) : Type 0 where
  pub few : length xs ≤ most
  pub each : AllByRecursion Fits xs

-- where nothing is left, no element is read
nothing_found : (view : View) (tag : List ℕ) (found : ℕ × List ℕ) → left view ≡ []
    → next_content view tag ≡ Ok found → ⊥
unfolding next_content
nothing_found view [] found none e = err_ok _ found (rw none at e)
nothing_found view (octet ∷ tag) found none e = err_ok _ found (rw none at e)

pub some_left : (t : Tree) (view new : View) → read_tree t view ≡ Ok new → left view ≡ [] → ⊥
some_left (primitive tag content) view new e none =
    let (start, found, moved) = content_found view new tag content e in
    nothing_found view tag (start, content) none found
some_left (constructed tag members) view new e none =
    let (inner, after, read, around) = tree_ok members view new tag e in
    let found = bind_ok (next_content view tag) (λ found. Ok (tt {0}, inside view found.0 found.1))
    (tt, inner) around.entered in
    nothing_found view tag found.0 none found.1

module _ {X : Type 0} (f : Element X) where
  pub record Listed (n : ℕ) (xs : List X) (view new : View) : Type 0 where
    pub few : length xs ≤ n
    pub each : AllByRecursion f.Fits xs
    pub stand : read_trees (each_tree f.tree xs) view ≡ Ok new
    pub formed : AreWellFormed (each_tree f.tree xs)

  none_read : (n : ℕ) (view new : View) (xs : List X)
      → ◌≡◌ {A = Result (List X × View) BerFault} (Ok ([], view)) (Ok (xs, new))
      → Listed n xs view new
  unfolding read_trees
  none_read n view new xs e =
      subst (λ read. Listed n read.0 view read.1) (ok_is ([], view) (xs, new) e)
      (record { few = omega arith; each = tt; stand = refl; formed = tt })

  pub many_ok : (n : ℕ) (view new : View) (xs : List X) → IsSlice view.octets
      → many_at f.read n view ≡ Ok (xs, new) → Listed n xs view new
  unfolding many_at read_trees
  many_ok zero view new xs slice e = none_read 0 view new xs e
  many_ok (suc n) view new xs slice e =
      elim (chosen (view.place == end_of view) (Ok ([], view))
      (f.read view >>= λ first. many_at f.read n first.1 >>= λ others.
      Ok (first.0 ∷ others.0, others.1)) (Ok (xs, new)) e) [
        | inl h ↦ none_read (suc n) view new xs h.1
        | inr h ↦
            let first = bind_ok (f.read view)
            (λ first. many_at f.read n first.1 >>= λ others. Ok (first.0 ∷ others.0, others.1))
            (xs, new) h.1 in
            let others = bind_ok (many_at f.read n first.0.1)
            (λ others. Ok (first.0.0 ∷ others.0, others.1)) (xs, new) first.2 in
            let was = f.sound view first.0.1 first.0.0 slice first.1 in
            let were = many_ok n first.0.1 others.0.1 others.0.0
            (kept (f.tree first.0.0) view first.0.1 slice was.stands) others.1 in
            subst (λ read. Listed (suc n) read.0 view read.1)
            (ok_is (first.0.0 ∷ others.0.0, others.0.1) (xs, new) others.2)
            (record {
              few = omega (arith, were.few);
              each = (was.fits, were.each);
              stand = rw was.stands were.stand;
              formed = (was.formed, were.formed);
            })
      ]

  not_at_end : (view : View) → (left view ≡ [] → ⊥) → (view.place == end_of view) ≡ false
  not_at_end view some =
      elim (view.place == end_of view) as (λ test. (view.place == end_of view) ≡ test
      → test ≡ false) [
        | true ↦ λ e. absurd (some (nil_from_length (left view)
            (omega (
              arith,
              eqb-true view.place (end_of view) e,
              length-take (end_of view - view.place) (drop view.place view.octets),
            ))))
        | false ↦ λ e. refl
      ] refl

  pub many_again : (n : ℕ) (view new : View) (xs : List X) → length xs ≤ n
      → AllByRecursion f.Fits xs → read_trees (each_tree f.tree xs) view ≡ Ok new
      → new.place ≡ end_of new → many_at f.read n view ≡ Ok (xs, new)
  unfolding many_at read_trees
  many_again zero view new [] few each e at_end = ap (λ place. Ok ([], place)) (ok_is view new e)
  many_again zero view new (first ∷ others) few each e at_end = absurd (omega (arith, few))
  many_again (suc n) view new [] few each e at_end =
      let same = ok_is view new e in
      rw (eq-eqb view.place (end_of view) (subst (λ v. v.place ≡ end_of v) (sym same) at_end))
      (ap (λ place. Ok ([], place)) same)
  many_again (suc n) view new (first ∷ others) few each e at_end =
      let read = bind_ok (read_tree (f.tree first) view)
      (λ behind. read_trees (each_tree f.tree others) behind) new e in
      rw (
        not_at_end view (some_left (f.tree first) view read.0 read.1),
        f.complete view read.0 first each.0 read.1,
        many_again n read.0 new others (omega (arith, few)) each.1 read.2 at_end,
      ) refl

  pub each_shallow : (xs : List X) → depth_all (each_tree f.tree xs) ≤ f.levels
  unfolding depth
  each_shallow [] = omega arith
  each_shallow (x ∷ xs) = omega (arith, f.shallow x, each_shallow xs)

  suc-mul : (n m : ℕ) → suc n * m ≡ m + n * m
  suc-mul n m = grind arith

  pub each_few : (n : ℕ) (xs : List X) → length xs ≤ n → AllByRecursion f.Fits xs
      → length (canonical_all (each_tree f.tree xs)) ≤ times n f.most
  each_few n [] few each = omega (arith, length-no_trees)
  each_few zero (x ∷ xs) few each = absurd (omega (arith, few))
  each_few (suc n) (x ∷ xs) few each = grind (
    arith,
    suc-mul n f.most,
    length-tree_and (f.tree x) (each_tree f.tree xs),
    f.few x each.0,
    each_few n xs (omega (arith, few)) each.1,
  )

  -- at most so many
  abbrev pub list_of : ℕ → Members (List X)
  list_of n = record {
    read = many_at f.read n;
    trees = each_tree f.tree;
    Fits = AreFew f.Fits n;
    levels = f.levels;
    most = times n f.most;
    sound = λ view new xs slice e. let were = many_ok n view new xs slice e in
        record {
          fits = record { few = were.few; each = were.each };
          stand = were.stand;
          formed = were.formed;
        };
    complete = λ view new xs fits e at_end. many_again n view new xs fits.few fits.each e at_end;
    shallow = each_shallow;
    few = λ xs fits. each_few n xs fits.few fits.each;
  }

  -- as many as stand there, which are fewer than a slice has octets
  abbrev pub every : Members (List X)
  every = list_of (2 ^ 63)

  -- ---- one at least

  abbrev pub some_at : ℕ → View → Result (List X × View) BerFault
  some_at more view = f.read view >>= λ first. many_at f.read more first.1 >>= λ others.
      Ok (first.0 ∷ others.0, others.1)

  pub record AreSome (more : ℕ) (xs : List X) : Type 0 where
    pub few : length xs ≤ suc more
    pub each : AllByRecursion f.Fits xs
    pub some : 0 < length xs

  abbrev pub SomeRead : ℕ → View → View → List X → Type 0
  SomeRead more view new xs = WereRead (AreSome more) (each_tree f.tree) view new xs

  pub some_sound : (more : ℕ) (view new : View) (xs : List X) → IsSlice view.octets
      → some_at more view ≡ Ok (xs, new) → SomeRead more view new xs
  unfolding read_trees
  some_sound more view new xs slice e =
      let first = bind_ok (f.read view) (λ first. many_at f.read more first.1 >>= λ others.
      Ok (first.0 ∷ others.0, others.1)) (xs, new) e in
      let others = bind_ok (many_at f.read more first.0.1)
      (λ others. Ok (first.0.0 ∷ others.0, others.1)) (xs, new) first.2 in
      let was = f.sound view first.0.1 first.0.0 slice first.1 in
      let were = many_ok more first.0.1 others.0.1 others.0.0
      (kept (f.tree first.0.0) view first.0.1 slice was.stands) others.1 in
      subst (λ read. SomeRead more view read.1 read.0)
      (ok_is (first.0.0 ∷ others.0.0, others.0.1) (xs, new) others.2)
      (record {
        fits = record {
          few = omega (arith, were.few);
          each = (was.fits, were.each);
          some = omega arith;
        };
        stand = rw was.stands were.stand;
        formed = (was.formed, were.formed);
      })

  pub some_complete : (more : ℕ) (view new : View) (xs : List X) → AreSome more xs
      → read_trees (each_tree f.tree xs) view ≡ Ok new → new.place ≡ end_of new
      → some_at more view ≡ Ok (xs, new)
  unfolding read_trees
  some_complete more view new [] fits e at_end = absurd (omega (arith, fits.some))
  some_complete more view new (first ∷ others) fits e at_end =
      let read = bind_ok (read_tree (f.tree first) view)
      (λ behind. read_trees (each_tree f.tree others) behind) new e in
      rw (
        f.complete view read.0 first fits.each.0 read.1,
        many_again more read.0 new others (omega (arith, fits.few)) fits.each.1 read.2 at_end,
      )
      refl

  -- one, and at most so many more
  abbrev pub one_or_more : ℕ → Members (List X)
  one_or_more more = record {
    read = some_at more;
    trees = each_tree f.tree;
    Fits = AreSome more;
    levels = f.levels;
    most = times (suc more) f.most;
    sound = some_sound more;
    complete = some_complete more;
    shallow = each_shallow;
    few = λ xs fits. each_few (suc more) xs fits.few fits.each;
  }
