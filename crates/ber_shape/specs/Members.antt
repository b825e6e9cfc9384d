-- The shape of what stands in an element, one behind the other up to its end, and of the element
-- around it.
use Rattle.std.proofs.Common.{◌≡◌, ℕ, suc, ◌+◌, ◌≤◌, max, true, false, List, [], ◌∷◌, length}
use Rattle.std.proofs.Common.{Result, Ok, refl, sym, ◌∙◌, subst, arith}
use Rattle.ber_core.specs.declared.fault.BerFault.{BerFault}
use Rattle.ber_core.specs.Length.{IsSlice}
use Rattle.ber_core.specs.Tree.{Trees, constructed, no_trees, tree_and, AreWellFormed}
use Rattle.ber_core.specs.Spelling.{canonical, canonical_all}
use Rattle.ber_core.specs.Parts.{length-constructed, length-tree_and, length-no_trees}
use Rattle.ber_core.specs.Parts.{few-shortest_length}
use Rattle.ber_core.specs.View.{View, end_of, left}
use Rattle.ber_core.specs.Reading.{◌>>=◌, next_content, inside}
use Rattle.ber_core.specs.Whole.{depth, depth_all, read_tree, read_trees}
use Rattle.ber_shape.specs.Results.{bind_ok, ok_is}
use Rattle.ber_shape.specs.Steps.{within_at, within_ok, within_again, tree_ok, tree_again}
use Rattle.ber_shape.specs.Identifier.{is_identifier, identifier_so, begin_with, found_begins}
use Rattle.ber_shape.specs.Identifier.{or_first}
use Rattle.ber_shape.specs.Element.{Element, WasRead, kept}

-- a value that was read: it fits, its trees stand there, and they are well formed
pub record WereRead {X : Type 0} (Fits : X → Type 0) (trees : X
    → Trees) (view new : View) (x : X) : Type 0 where
  pub fits : Fits x
  pub stand : read_trees (trees x) view ≡ Ok new
  pub formed : AreWellFormed (trees x)

pub record Members (X : Type 0) : Type 1 where
  -- the value that stands next, with the reader behind it, or the first fault
  pub read : View → Result (X × View) BerFault
  pub trees : X → Trees
  pub Fits : X → Type 0
  -- at most so many elements stand inside one another
  pub levels : ℕ
  -- the canonical spelling has at most so many octets
  pub most : ℕ
  pub sound : (view new : View) (x : X) → IsSlice view.octets → read view ≡ Ok (x, new)
      → WereRead Fits trees view new x
  pub complete : (view new : View) (x : X) → Fits x → read_trees (trees x) view ≡ Ok new
      → new.place ≡ end_of new → read view ≡ Ok (x, new)
  pub shallow : (x : X) → depth_all (trees x) ≤ levels
  pub few : (x : X) → Fits x → length (canonical_all (trees x)) ≤ most

-- ---- a constructed element

module _ {X : Type 0} (tag : List ℕ) (m : Members X) where
  pub structured_sound : is_identifier true tag ≡ true → (view new : View) (x : X)
      → IsSlice view.octets → within_at tag m.read view ≡ Ok (x, new)
      → WasRead m.Fits (λ x. constructed tag (m.trees x)) view new x
  structured_sound whole view new x slice e =
      let (inner, after, read, around) = within_ok m.read view new tag x e in
      let were = m.sound inner after x (subst IsSlice (sym around.octets) slice) read in
      record {
        fits = were.fits;
        stands = tree_again (m.trees x) view new inner after tag around were.stand;
        formed = (identifier_so true tag whole, were.formed);
      }

  pub structured_complete : (view new : View) (x : X) → m.Fits x
      → read_tree (constructed tag (m.trees x)) view ≡ Ok new
      → within_at tag m.read view ≡ Ok (x, new)
  structured_complete view new x fits e =
      let (inner, after, read, around) = tree_ok (m.trees x) view new tag e in
      within_again m.read view new inner after tag x around
      (m.complete inner after x fits read around.at_end)

  pub structured_begins : (view new : View) (x : X)
      → read_tree (constructed tag (m.trees x)) view ≡ Ok new
      → begin_with (tag ∷ []) (left view) ≡ true
  structured_begins view new x e =
      let (inner, after, read, around) = tree_ok (m.trees x) view new tag e in
      let found = bind_ok (next_content view tag)
      (λ found. Ok (tt {0}, inside view found.0 found.1)) (tt, inner) around.entered in
      or_first _ false (found_begins view tag found.0 found.1)

  pub structured_shallow : (x : X) → depth (constructed tag (m.trees x)) ≤ suc m.levels
  unfolding depth
  structured_shallow x = omega (arith, m.shallow x)

  pub structured_few : (x : X) → m.Fits x → length (canonical (constructed tag (m.trees x)))
      ≤ length tag + 9 + m.most
  structured_few x fits = omega (
    arith,
    length-constructed tag (m.trees x),
    few-shortest_length (length (canonical_all (m.trees x))),
    m.few x fits,
  )

  abbrev pub structured : is_identifier true tag ≡ true → Element X
  structured whole = record {
    read = within_at tag m.read;
    tree = λ x. constructed tag (m.trees x);
    Fits = m.Fits;
    starts = tag ∷ [];
    levels = suc m.levels;
    most = length tag + 9 + m.most;
    sound = structured_sound whole;
    complete = structured_complete;
    begins = structured_begins;
    shallow = structured_shallow;
    few = structured_few;
  }

-- ---- one element alone

module _ {X : Type 0} (f : Element X) where
  pub last_sound : (view new : View) (x : X) → IsSlice view.octets → f.read view ≡ Ok (x, new)
      → WereRead f.Fits (λ x. tree_and (f.tree x) no_trees) view new x
  unfolding read_trees
  last_sound view new x slice e =
      let was = f.sound view new x slice e in
      record { fits = was.fits; stand = rw was.stands refl; formed = (was.formed, tt) }

  pub last_complete : (view new : View) (x : X) → f.Fits x
      → read_trees (tree_and (f.tree x) no_trees) view ≡ Ok new → new.place ≡ end_of new
      → f.read view ≡ Ok (x, new)
  unfolding read_trees
  last_complete view new x fits e at_end =
      let (behind, read, same) = bind_ok (read_tree (f.tree x) view) (λ behind. Ok behind) new e in
      f.complete view new x fits (read ∙ same)

  pub last_shallow : (x : X) → depth_all (tree_and (f.tree x) no_trees) ≤ f.levels
  unfolding depth
  last_shallow x = omega (arith, f.shallow x)

  pub last_few : (x : X) → f.Fits x → length (canonical_all (tree_and (f.tree x) no_trees)) ≤ f.most
  last_few x fits = omega (
    arith,
    length-tree_and (f.tree x) no_trees,
    length-no_trees,
    f.few x fits,
  )

  abbrev pub last : Members X
  last = record {
    read = f.read;
    trees = λ x. tree_and (f.tree x) no_trees;
    Fits = f.Fits;
    levels = f.levels;
    most = f.most;
    sound = last_sound;
    complete = last_complete;
    shallow = last_shallow;
    few = last_few;
  }

-- ---- one element, and what stands behind it, which its value may decide

abbrev pub then_at : {X Y : Type 0} → (View → Result (X × View) BerFault)
    → (X → View → Result (Y × View) BerFault) → View → Result ((X × Y) × View) BerFault
then_at first others view = do
  x ← first view
  y ← others x.0 x.1
  Ok ((x.0, y.0), y.1)

module _ {X Y : Type 0} (f : Element X) (m : X → Members Y) (levels most : ℕ) (levels_so : (x : X)
    → (m x).levels ≤ levels) (most_so : (x : X) → (m x).most ≤ most) where
  abbrev pub ThenFit : X × Y → Type 0
  ThenFit p = f.Fits p.0 × (m p.0).Fits p.1

  abbrev pub then_trees : X × Y → Trees
  then_trees p = tree_and (f.tree p.0) ((m p.0).trees p.1)

  pub then_sound : (view new : View) (p : X × Y) → IsSlice view.octets
      → then_at f.read (λ x. (m x).read) view ≡ Ok (p, new) → WereRead ThenFit then_trees view new p
  unfolding read_trees
  then_sound view new p slice e =
      let (x, x_read, others) = bind_ok (f.read view)
      (λ x. (m x.0).read x.1 >>= λ y. Ok ((x.0, y.0), y.1)) (p, new) e in
      let (y, y_read, same) = bind_ok ((m x.0).read x.1) (λ y. Ok ((x.0, y.0), y.1)) (
        p,
        new,
      ) others in
      let was = f.sound view x.1 x.0 slice x_read in
      let were = (m x.0).sound x.1 y.1 y.0 (kept (f.tree x.0) view x.1 slice was.stands) y_read in
      subst (λ r. WereRead ThenFit then_trees view r.1 r.0) (ok_is ((x.0, y.0), y.1) (p, new) same)
      (record {
        fits = (was.fits, were.fits);
        stand = rw (was.stands, were.stand) refl;
        formed = (was.formed, were.formed);
      })

  pub then_complete : (view new : View) (p : X × Y) → ThenFit p
      → read_trees (then_trees p) view ≡ Ok new → new.place ≡ end_of new
      → then_at f.read (λ x. (m x).read) view ≡ Ok (p, new)
  unfolding read_trees
  then_complete view new p fits e at_end =
      let (between, x_tree, y_trees) = bind_ok (read_tree (f.tree p.0) view)
      (λ behind. read_trees ((m p.0).trees p.1) behind) new e in
      rw (
        f.complete view between p.0 fits.0 x_tree,
        (m p.0).complete between new p.1 fits.1 y_trees at_end,
      ) refl

  pub then_shallow : (p : X × Y) → depth_all (then_trees p) ≤ max f.levels levels
  unfolding depth
  then_shallow p = omega (arith, f.shallow p.0, (m p.0).shallow p.1, levels_so p.0)

  pub then_few : (p : X × Y) → ThenFit p → length (canonical_all (then_trees p)) ≤ f.most + most
  then_few p fits = omega (
    arith,
    length-tree_and (f.tree p.0) ((m p.0).trees p.1),
    f.few p.0 fits.0,
    (m p.0).few p.1 fits.1,
    most_so p.0,
  )

  -- members whose shape the value before them decides, each of at most so many levels and octets
  abbrev pub followed_by : Members (X × Y)
  followed_by = record {
    read = then_at f.read (λ x. (m x).read);
    trees = then_trees;
    Fits = ThenFit;
    levels = max f.levels levels;
    most = f.most + most;
    sound = then_sound;
    complete = then_complete;
    shallow = then_shallow;
    few = then_few;
  }

pub at_most_itself : {X : Type 0} (n : ℕ) (x : X) → n ≤ n
at_most_itself n x = omega arith

abbrev pub and_then : {X Y : Type 0} → Element X → Members Y → Members (X × Y)
and_then f m = followed_by f (λ x. m) m.levels m.most (at_most_itself m.levels)
    (at_most_itself m.most)

infixr 10 ◌▸◌
abbrev pub ◌▸◌ : {X Y : Type 0} → Element X → Members Y → Members (X × Y)
f ▸ m = and_then f m
