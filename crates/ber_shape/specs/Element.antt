-- The shape of one element: how it is read, which tree a value has, and that both agree.
use Rattle.std.proofs.Common.{◌≡◌, ℕ, ◌+◌, ◌-◌, ◌≤◌, true, false, List, [], ◌∷◌, length, drop}
use Rattle.std.proofs.Common.{Result, Ok, sym, ◌∙◌, ap, subst, arith}
use Rattle.std.proofs.lemmas.List.{length-take, length-drop}
use Rattle.ber_core.specs.declared.fault.BerFault.{BerFault}
use Rattle.ber_core.specs.Length.{IsOctets, IsSlice}
use Rattle.ber_core.specs.Tree.{Tree, primitive, IsWellFormed}
use Rattle.ber_core.specs.Spelling.{canonical}
use Rattle.ber_core.specs.Parts.{length-primitive, few-shortest_length}
use Rattle.ber_core.specs.View.{View, left}
use Rattle.ber_core.specs.Reading.{next_content, primitive_at}
use Rattle.ber_core.specs.Whole.{depth, read_tree}
use Rattle.ber_core.specs.Facts.Found.{next_content-Stands, IsOctets-take, IsOctets-drop}
use Rattle.ber_core.specs.Facts.Moves.{left-inside}
use Rattle.ber_core.specs.Facts.Whole.{read_tree-ok}
use Rattle.ber_shape.specs.Results.{}
use Rattle.ber_shape.specs.Steps.{primitive_ok, primitive_again, content_found}
use Rattle.ber_shape.specs.Identifier.{is_identifier, identifier_so, begin_with, found_begins}
use Rattle.ber_shape.specs.Identifier.{or_first}
use Rattle.ber_shape.specs.Content.{Content}

-- a value that was read: it fits, its tree stands there, and that is well formed
pub record WasRead {X : Type 0} (Fits : X → Type 0) (tree : X
    → Tree) (view new : View) (x : X) : Type 0 where
  pub fits : Fits x
  pub stands : read_tree (tree x) view ≡ Ok new
  pub formed : IsWellFormed (tree x)

pub record Element (X : Type 0) : Type 1 where
  -- the value that stands next, with the reader behind it, or the first fault
  pub read : View → Result (X × View) BerFault
  pub tree : X → Tree
  pub Fits : X → Type 0
  -- the identifiers with which it may begin
  pub starts : List (List ℕ)
  -- at most so many elements stand inside one another, itself included
  pub levels : ℕ
  -- its canonical spelling has at most so many octets
  pub most : ℕ
  pub sound : (view new : View) (x : X) → IsSlice view.octets → read view ≡ Ok (x, new)
      → WasRead Fits tree view new x
  pub complete : (view new : View) (x : X) → Fits x → read_tree (tree x) view ≡ Ok new
      → read view ≡ Ok (x, new)
  pub begins : (view new : View) (x : X) → read_tree (tree x) view ≡ Ok new
      → begin_with starts (left view) ≡ true
  pub shallow : (x : X) → depth (tree x) ≤ levels
  pub few : (x : X) → Fits x → length (canonical (tree x)) ≤ most

-- an element that was read leaves the octets
pub kept : (t : Tree) (view new : View) → IsSlice view.octets → read_tree t view ≡ Ok new
    → IsSlice new.octets
kept t view new slice e = subst IsSlice
    (sym (ap (λ v. v.octets) (read_tree-ok t view new slice.each e).moved)) slice

content_slice : (view : View) (tag content : List ℕ) (start : ℕ) → IsSlice view.octets
    → next_content view tag ≡ Ok (start, content) → IsSlice content
content_slice view tag content start slice found =
    let is = left-inside view tag content start
    (next_content-Stands view tag content start slice.each found) in
    subst IsSlice is (record {
      each = IsOctets-take (start + length content - start) (drop start view.octets)
          (IsOctets-drop start view.octets slice.each);
      short = omega (
        arith,
        slice.short,
        length-take (start + length content - start) (drop start view.octets),
        length-drop start view.octets,
      );
    })

module _ {X : Type 0} (tag : List ℕ) (c : Content X) where
  pub simple_sound : is_identifier false tag ≡ true → (view new : View) (x : X)
      → IsSlice view.octets → primitive_at c.judge view tag ≡ Ok (x, new)
      → WasRead c.Fits (λ x. primitive tag (c.octets x)) view new x
  simple_sound whole view new x slice e =
      let read = primitive_ok c.judge view new tag x e in
      let content = content_slice view tag read.content read.start slice read.found in
      let (fits, same) = c.sound read.start read.content x content read.judged in
      record {
        fits = fits;
        stands = ap (λ content. read_tree (primitive tag content) view) (sym same) ∙ read.is_tree;
        formed = (identifier_so false tag whole, subst IsOctets same content.each);
      }

  pub simple_complete : (view new : View) (x : X) → c.Fits x
      → read_tree (primitive tag (c.octets x)) view ≡ Ok new
      → primitive_at c.judge view tag ≡ Ok (x, new)
  simple_complete view new x fits e = primitive_again c.judge view new tag (c.octets x) x e
      (λ place. c.complete place x fits)

  pub simple_begins : (view new : View) (x : X)
      → read_tree (primitive tag (c.octets x)) view ≡ Ok new
      → begin_with (tag ∷ []) (left view) ≡ true
  simple_begins view new x e =
      let (start, found, moved) = content_found view new tag (c.octets x) e in
      or_first _ false (found_begins view tag (start, c.octets x) found)

  pub simple_shallow : (x : X) → depth (primitive tag (c.octets x)) ≤ 1
  unfolding depth
  simple_shallow x = omega arith

  pub simple_few : (x : X) → c.Fits x → length (canonical (primitive tag (c.octets x)))
      ≤ length tag + 9 + c.most
  simple_few x fits = omega (
    arith,
    length-primitive tag (c.octets x),
    few-shortest_length (length (c.octets x)),
    c.few x fits,
  )

  -- a primitive element
  abbrev pub simple : is_identifier false tag ≡ true → Element X
  simple whole = record {
    read = λ view. primitive_at c.judge view tag;
    tree = λ x. primitive tag (c.octets x);
    Fits = c.Fits;
    starts = tag ∷ [];
    levels = 1;
    most = length tag + 9 + c.most;
    sound = simple_sound whole;
    complete = simple_complete;
    begins = simple_begins;
    shallow = simple_shallow;
    few = simple_few;
  }
