-- Shapes whose values are seen as another type.
use Rattle.std.proofs.Common.{◌≡◌, Ok, sym, ◌∙◌, ap, subst}
use Rattle.ber_core.specs.Length.{IsSlice}
use Rattle.ber_core.specs.View.{View, end_of}
use Rattle.ber_core.specs.Whole.{read_tree, read_trees}
use Rattle.ber_shape.specs.Results.{taken, taken_ok, taken_again}
use Rattle.ber_shape.specs.Element.{Element, WasRead}
use Rattle.ber_shape.specs.Members.{Members, WereRead}

-- each value of one type is one of the other
pub record Same (X Y : Type 0) : Type 0 where
  pub to : X → Y
  pub from : Y → X
  pub there : (y : Y) → to (from y) ≡ y
  pub back : (x : X) → from (to x) ≡ x

-- The same of those that fit, where other values have no meaning.
pub record SameWhere {X : Type 0} (Fits : X → Type 0) (Y : Type 0) : Type 1 where
  pub to : X → Y
  pub from : Y → X
  pub Holds : Y → Type 0
  pub there : (y : Y) → Holds y → Fits (from y) × (to (from y) ≡ y)
  pub back : (x : X) → Fits x → Holds (to x) × (from (to x) ≡ x)

module _ {X Y : Type 0} (f : Element X) (s : SameWhere f.Fits Y) where
  pub element_sound : (view new : View) (y : Y) → IsSlice view.octets
      → taken s.to (f.read view) ≡ Ok (y, new) → WasRead s.Holds (λ y. f.tree (s.from y)) view new y
  element_sound view new y slice e =
      let (x, read, is) = taken_ok s.to (f.read view) y new e in
      let was = f.sound view new x slice read in
      let (holds, same) = s.back x was.fits in
      let from : x ≡ s.from y = sym same ∙ ap s.from is in
      record {
        fits = subst s.Holds is holds;
        stands = ap (λ x. read_tree (f.tree x) view) (sym from) ∙ was.stands;
        formed = rw (sym from) was.formed;
      }

  pub element_complete : (view new : View) (y : Y) → s.Holds y
      → read_tree (f.tree (s.from y)) view ≡ Ok new → taken s.to (f.read view) ≡ Ok (y, new)
  element_complete view new y holds e =
      let (fits, same) = s.there y holds in
      taken_again s.to (f.read view) (s.from y) y new (f.complete view new (s.from y) fits e) same

  abbrev pub element_where : Element Y
  element_where = record {
    read = λ view. taken s.to (f.read view);
    tree = λ y. f.tree (s.from y);
    Fits = s.Holds;
    starts = f.starts;
    levels = f.levels;
    most = f.most;
    sound = element_sound;
    complete = element_complete;
    begins = λ view new y. f.begins view new (s.from y);
    shallow = λ y. f.shallow (s.from y);
    few = λ y holds. f.few (s.from y) (s.there y holds).0;
  }

module _ {X Y : Type 0} (m : Members X) (s : SameWhere m.Fits Y) where
  pub members_sound : (view new : View) (y : Y) → IsSlice view.octets
      → taken s.to (m.read view) ≡ Ok (y, new)
      → WereRead s.Holds (λ y. m.trees (s.from y)) view new y
  members_sound view new y slice e =
      let (x, read, is) = taken_ok s.to (m.read view) y new e in
      let were = m.sound view new x slice read in
      let (holds, same) = s.back x were.fits in
      let from : x ≡ s.from y = sym same ∙ ap s.from is in
      record {
        fits = subst s.Holds is holds;
        stand = ap (λ x. read_trees (m.trees x) view) (sym from) ∙ were.stand;
        formed = rw (sym from) were.formed;
      }

  pub members_complete : (view new : View) (y : Y) → s.Holds y
      → read_trees (m.trees (s.from y)) view ≡ Ok new → new.place ≡ end_of new
      → taken s.to (m.read view) ≡ Ok (y, new)
  members_complete view new y holds e at_end =
      let (fits, same) = s.there y holds in
      taken_again s.to (m.read view) (s.from y) y new (m.complete view new (s.from y) fits e at_end)
      same

  abbrev pub members_where : Members Y
  members_where = record {
    read = λ view. taken s.to (m.read view);
    trees = λ y. m.trees (s.from y);
    Fits = s.Holds;
    levels = m.levels;
    most = m.most;
    sound = members_sound;
    complete = members_complete;
    shallow = λ y. m.shallow (s.from y);
    few = λ y holds. m.few (s.from y) (s.there y holds).0;
  }

-- where all have a meaning
abbrev pub everywhere : {X Y : Type 0} (Fits : X → Type 0) → Same X Y → SameWhere Fits Y
everywhere Fits s = record {
  to = s.to;
  from = s.from;
  Holds = λ y. Fits (s.from y);
  there = λ y fits. (fits, s.there y);
  back = λ x fits. (subst Fits (sym (s.back x)) fits, s.back x);
}

abbrev pub element_as : {X Y : Type 0} → Element X → Same X Y → Element Y
element_as f s = element_where f (everywhere f.Fits s)

abbrev pub members_as : {X Y : Type 0} → Members X → Same X Y → Members Y
members_as m s = members_where m (everywhere m.Fits s)
