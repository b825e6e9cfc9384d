-- A page that is being written, as contracts see it.
use Rattle.std.proofs.Common.{◌≡◌, ℕ, List, [], ◌∷◌, ◌++◌, Option, Some, None, refl}
use Rattle.std.proofs.Common.{sym, ◌∙◌, ap, subst, append_assoc, append-nil}
use Rattle.std.specs.List.{flat_map}
use Rattle.picture_page.specs.Content.{finish, doctype}
use Rattle.picture_page.specs.declared.tag.Tag.{Tag}

-- its octets, and the elements that are open, the last one first
pub record Sheet : Type 0 where
  pub octets : List ℕ
  pub open_tags : List Tag

-- Where memory was refused once, nothing is there from then on; else the next sheet is this one, or
-- memory was refused.
abbrev pub Turns : Option Sheet → Option Sheet → (Sheet → Sheet) → Type 0
Turns None after change = after ≡ None
Turns (Some before) None change = Unit {0}
Turns (Some before) (Some after) change = after ≡ change before

-- octets stand behind what was there
abbrev pub more : List ℕ → Sheet → Sheet
more octets s = record s { octets = s.octets ++ octets }

abbrev pub Gains : Option Sheet → Option Sheet → List ℕ → Type 0
Gains before after octets = Turns before after (more octets)

-- an element's start does, and the element is open
abbrev pub begun : Tag → List ℕ → Sheet → Sheet
begun t octets s = record { octets = s.octets ++ octets; open_tags = t ∷ s.open_tags }

abbrev pub Begins : Option Sheet → Option Sheet → Tag → List ℕ → Type 0
Begins before after t octets = Turns before after (begun t octets)

-- the last open element ends
abbrev pub ended : Sheet → List Tag → Sheet
ended s [] = s
ended s (t ∷ outer) = record { octets = s.octets ++ finish t; open_tags = outer }

-- octets and open elements before and behind that
abbrev pub Finishes : List ℕ → List Tag → List ℕ → List Tag → Type 0
Finishes octets [] more outer = (more ≡ octets) × (outer ≡ [])
Finishes octets (t ∷ tags) more outer = (more ≡ octets ++ finish t) × (outer ≡ tags)

abbrev pub closed : Sheet → Sheet
closed s = ended s s.open_tags

abbrev pub Ends : Option Sheet → Option Sheet → Type 0
Ends before after = Turns before after closed

-- all that is there, with the ends of all open elements behind it
abbrev pub Becomes : Option Sheet → List ℕ → Type 0
Becomes None document = ⊥
Becomes (Some s) document = document ≡ doctype ++ (s.octets ++ flat_map finish s.open_tags)

-- ---- what is asked one after the other

abbrev with_octets : Sheet → List ℕ → Sheet
with_octets s octets = record s { octets = octets }

-- what was refused memory holds no sheet
abbrev IsThere : Option Sheet → Type 0
IsThere None = ⊥
IsThere (Some s) = Unit {0}

pub not_there : (s : Sheet) → Some s ≡ None → ⊥
not_there s e = subst IsThere e tt

pub gains_then : (a b c : Option Sheet) (x y : List ℕ) → Gains a b x → Gains b c y
    → Gains a c (x ++ y)
gains_then None None c x y e f = f
gains_then None (Some b) c x y e f = absurd (not_there b e)
gains_then (Some a) None None x y e f = tt
gains_then (Some a) None (Some c) x y e f = absurd (not_there c f)
gains_then (Some a) (Some b) None x y e f = tt
gains_then (Some a) (Some b) (Some c) x y e f =
    f ∙ ap (more y) e ∙ ap (with_octets a) (append_assoc a.octets x y)

-- an element that begins, gains octets and ends
pub element_gains : (a b c d : Option Sheet) (t : Tag) (s x : List ℕ) → Begins a b t s
    → Gains b c x → Ends c d → Gains a d (s ++ (x ++ finish t))
element_gains None None None d t s x e f g = g
element_gains None None (Some c) d t s x e f g = absurd (not_there c f)
element_gains None (Some b) c d t s x e f g = absurd (not_there b e)
element_gains (Some a) None None None t s x e f g = tt
element_gains (Some a) None None (Some d) t s x e f g = absurd (not_there d g)
element_gains (Some a) None (Some c) d t s x e f g = absurd (not_there c f)
element_gains (Some a) (Some b) None None t s x e f g = tt
element_gains (Some a) (Some b) None (Some d) t s x e f g = absurd (not_there d g)
element_gains (Some a) (Some b) (Some c) None t s x e f g = tt
element_gains (Some a) (Some b) (Some c) (Some d) t s x e f g =
    g ∙ ap closed (f ∙ ap (more x) e)
    ∙ ap (with_octets a) (append_assoc (a.octets ++ s) x (finish t)
    ∙ append_assoc a.octets s (x ++ finish t))

pub gains_nothing : (a : Option Sheet) → Gains a a []
gains_nothing None = refl
gains_nothing (Some a) = ap (with_octets a) (sym (append-nil a.octets))
