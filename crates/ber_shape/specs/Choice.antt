-- CHOICE (X.690 8.13): the alternative whose identifier stands next. One of more alternatives is an
-- alternative and the CHOICE of the others.
use Rattle.std.proofs.Common.{◌≡◌, ℕ, ◌≤◌, max, Bool, true, false, if◌then◌else◌, List, [], ◌∷◌}
use Rattle.std.proofs.Common.{length, Option, Some, None, Result, Ok, ◌⊎◌, inl, inr, refl, subst}
use Rattle.std.proofs.Common.{arith}
use Rattle.ber_core.specs.declared.fault.BerFault.{BerFault}
use Rattle.ber_core.specs.Length.{IsSlice}
use Rattle.ber_core.specs.Tree.{Tree}
use Rattle.ber_core.specs.Spelling.{canonical}
use Rattle.ber_core.specs.View.{View, left}
use Rattle.ber_core.specs.Reading.{is_next}
use Rattle.ber_core.specs.Whole.{depth, read_tree}
use Rattle.ber_shape.specs.Results.{taken, taken_ok, taken_again, chosen, if_true, if_false}
use Rattle.ber_shape.specs.Identifier.{is_apart, apart_so, begin_with, or_more, or_first, or_alone}
use Rattle.ber_shape.specs.Content.{null}
use Rattle.ber_shape.specs.Element.{Element, WasRead, simple}
use Rattle.ber_shape.specs.Same.{element_as}

abbrev pub either_tree : {X Y : Type 0} → (X → Tree) → (Y → Tree) → X ⊎ Y → Tree
either_tree f g (inl x) = f x
either_tree f g (inr y) = g y

abbrev pub EitherFits : {X Y : Type 0} → (X → Type 0) → (Y → Type 0) → X ⊎ Y → Type 0
EitherFits F G (inl x) = F x
EitherFits F G (inr y) = G y

abbrev pub either_at : {X Y : Type 0} → List ℕ → (View → Result (X × View) BerFault)
    → (View → Result (Y × View) BerFault) → View → Result ((X ⊎ Y) × View) BerFault
either_at tag first second view = if is_next tag view then taken inl (first view)
    else taken inr (second view)

module _ {X Y : Type 0} (tag : List ℕ) (a : Element X) (b : Element Y) (only : a.starts ≡ tag ∷ [])
    (apart : is_apart tag b.starts ≡ true) where
  pub first_next : (view new : View) (x : X) → read_tree (a.tree x) view ≡ Ok new
      → is_next tag view ≡ true
  first_next view new x e = or_alone (is_next tag view)
      (subst (λ starts. begin_with starts (left view) ≡ true) only (a.begins view new x e))

  pub second_next : (view new : View) (y : Y) → read_tree (b.tree y) view ≡ Ok new
      → is_next tag view ≡ false
  second_next view new y e = apart_so tag b.starts (left view) apart (b.begins view new y e)

  abbrev pub AnyRead : View → View → X ⊎ Y → Type 0
  AnyRead view new z = WasRead (EitherFits a.Fits b.Fits) (either_tree a.tree b.tree) view new z

  pub either_sound : (view new : View) (z : X ⊎ Y) → IsSlice view.octets
      → either_at tag a.read b.read view ≡ Ok (z, new) → AnyRead view new z
  either_sound view new z slice e =
      elim (chosen (is_next tag view) (taken inl (a.read view)) (taken inr (b.read view))
      (Ok (z, new)) e) [
        | inl h ↦
            let (x, read, is) = taken_ok inl (a.read view) z new h.1 in
            let was = a.sound view new x slice read in
            subst (λ z. AnyRead view new z) is
            (record { fits = was.fits; stands = was.stands; formed = was.formed })
        | inr h ↦
            let (y, read, is) = taken_ok inr (b.read view) z new h.1 in
            let was = b.sound view new y slice read in
            subst (λ z. AnyRead view new z) is
            (record { fits = was.fits; stands = was.stands; formed = was.formed })
      ]

  pub either_complete : (view new : View) (z : X ⊎ Y) → EitherFits a.Fits b.Fits z
      → read_tree (either_tree a.tree b.tree z) view ≡ Ok new
      → either_at tag a.read b.read view ≡ Ok (z, new)
  either_complete view new (inl x) fits e =
      if_true (is_next tag view) _ _ _ (first_next view new x e)
      (taken_again inl (a.read view) x (inl x) new (a.complete view new x fits e) refl)
  either_complete view new (inr y) fits e =
      if_false (is_next tag view) _ _ _ (second_next view new y e)
      (taken_again inr (b.read view) y (inr y) new (b.complete view new y fits e) refl)

  pub either_begins : (view new : View) (z : X ⊎ Y)
      → read_tree (either_tree a.tree b.tree z) view ≡ Ok new
      → begin_with (tag ∷ b.starts) (left view) ≡ true
  either_begins view new (inl x) e = or_first (is_next tag view) (begin_with b.starts (left view))
      (first_next view new x e)
  either_begins view new (inr y) e = or_more (is_next tag view) (begin_with b.starts (left view))
      (b.begins view new y e)

  pub either_shallow : (z : X ⊎ Y) → depth (either_tree a.tree b.tree z) ≤ max a.levels b.levels
  either_shallow (inl x) = omega (arith, a.shallow x)
  either_shallow (inr y) = omega (arith, b.shallow y)

  pub either_few : (z : X ⊎ Y) → EitherFits a.Fits b.Fits z
      → length (canonical (either_tree a.tree b.tree z)) ≤ max a.most b.most
  either_few (inl x) fits = omega (arith, a.few x fits)
  either_few (inr y) fits = omega (arith, b.few y fits)

  abbrev pub either : Element (X ⊎ Y)
  either = record {
    read = either_at tag a.read b.read;
    tree = either_tree a.tree b.tree;
    Fits = EitherFits a.Fits b.Fits;
    starts = tag ∷ b.starts;
    levels = max a.levels b.levels;
    most = max a.most b.most;
    sound = either_sound;
    complete = either_complete;
    begins = either_begins;
    shallow = either_shallow;
    few = either_few;
  }

-- ---- a value that may be given or not

abbrev pub option_of : {X : Type 0} → X ⊎ Unit {0} → Option X
option_of (inl x) = Some x
option_of (inr none) = None

abbrev pub of_option : {X : Type 0} → Option X → X ⊎ Unit {0}
of_option (Some x) = inl x
of_option None = inr tt

pub option_there : {X : Type 0} (o : Option X) → option_of (of_option o) ≡ o
option_there (Some x) = refl
option_there None = refl

pub option_back : {X : Type 0} (z : X ⊎ Unit {0}) → of_option (option_of z) ≡ z
option_back (inl x) = refl
option_back (inr none) = refl

-- a NULL under the context tag 0, or this element
abbrev pub optional : {X : Type 0} (tag : List ℕ) (f : Element X) → f.starts ≡ tag ∷ []
    → is_apart tag ((0x80 ∷ []) ∷ []) ≡ true → Element (Option X)
optional tag f only apart =
    element_as (either tag f (simple (0x80 ∷ []) null refl) only apart)
    (record { to = option_of; from = of_option; there = option_there; back = option_back })

-- ---- a value of two forms, told apart by the identifier and by the value

abbrev pub forms_at : {X : Type 0} → List ℕ → (View → Result (X × View) BerFault)
    → (View → Result (X × View) BerFault) → View → Result (X × View) BerFault
forms_at tag first second view = if is_next tag view then first view else second view

module _ {X : Type 0} (tag : List ℕ) (a b : Element X) (is_first : X
    → Bool) (only : a.starts ≡ tag ∷ []) (apart : is_apart tag b.starts ≡ true)
    (a_first : (x : X) → a.Fits x → is_first x ≡ true) (b_second : (x : X) → b.Fits x
    → is_first x ≡ false) where
  abbrev pub forms_tree : X → Tree
  forms_tree x = if is_first x then a.tree x else b.tree x

  abbrev pub FormsFit : X → Type 0
  FormsFit x = EitherFits a.Fits b.Fits (if is_first x then inl x else inr x)

  pub forms_sound : (view new : View) (x : X) → IsSlice view.octets
      → forms_at tag a.read b.read view ≡ Ok (x, new) → WasRead FormsFit forms_tree view new x
  forms_sound view new x slice e =
      elim (chosen (is_next tag view) (a.read view) (b.read view) (Ok (x, new)) e) [
        | inl h ↦
            let was = a.sound view new x slice h.1 in
            let is = a_first x was.fits in
            record { fits = rw is was.fits; stands = rw is was.stands; formed = rw is was.formed }
        | inr h ↦
            let was = b.sound view new x slice h.1 in
            let is = b_second x was.fits in
            record { fits = rw is was.fits; stands = rw is was.stands; formed = rw is was.formed }
      ]

  by_form : (form : Bool) (view new : View) (x : X)
      → EitherFits a.Fits b.Fits (if form then inl x else inr x)
      → read_tree (if form then a.tree x else b.tree x) view ≡ Ok new
      → forms_at tag a.read b.read view ≡ Ok (x, new)
  by_form true view new x fits e = if_true (is_next tag view) _ _ _
      (first_next tag a b only apart view new x e) (a.complete view new x fits e)
  by_form false view new x fits e = if_false (is_next tag view) _ _ _
      (second_next tag a b only apart view new x e) (b.complete view new x fits e)

  pub forms_complete : (view new : View) (x : X) → FormsFit x
      → read_tree (forms_tree x) view ≡ Ok new → forms_at tag a.read b.read view ≡ Ok (x, new)
  forms_complete view new x fits e = by_form (is_first x) view new x fits e

  begins_by_form : (form : Bool) (view new : View) (x : X)
      → read_tree (if form then a.tree x else b.tree x) view ≡ Ok new
      → begin_with (tag ∷ b.starts) (left view) ≡ true
  begins_by_form true view new x e = either_begins tag a b only apart view new (inl x) e
  begins_by_form false view new x e = either_begins tag a b only apart view new (inr x) e

  pub forms_begin : (view new : View) (x : X) → read_tree (forms_tree x) view ≡ Ok new
      → begin_with (tag ∷ b.starts) (left view) ≡ true
  forms_begin view new x e = begins_by_form (is_first x) view new x e

  shallow_by_form : (form : Bool) (x : X) → depth (if form then a.tree x else b.tree x)
      ≤ max a.levels b.levels
  shallow_by_form true x = omega (arith, a.shallow x)
  shallow_by_form false x = omega (arith, b.shallow x)

  pub forms_shallow : (x : X) → depth (forms_tree x) ≤ max a.levels b.levels
  forms_shallow x = shallow_by_form (is_first x) x

  few_by_form : (form : Bool) (x : X) → EitherFits a.Fits b.Fits (if form then inl x else inr x)
      → length (canonical (if form then a.tree x else b.tree x)) ≤ max a.most b.most
  few_by_form true x fits = omega (arith, a.few x fits)
  few_by_form false x fits = omega (arith, b.few x fits)

  pub forms_few : (x : X) → FormsFit x → length (canonical (forms_tree x)) ≤ max a.most b.most
  forms_few x fits = few_by_form (is_first x) x fits

  abbrev pub two_forms : Element X
  two_forms = record {
    read = forms_at tag a.read b.read;
    tree = forms_tree;
    Fits = FormsFit;
    starts = tag ∷ b.starts;
    levels = max a.levels b.levels;
    most = max a.most b.most;
    sound = forms_sound;
    complete = forms_complete;
    begins = forms_begin;
    shallow = forms_shallow;
    few = forms_few;
  }
