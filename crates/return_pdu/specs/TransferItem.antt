-- Items of a transfer buffer, and the buffer (CCSDS 911.1-B and 911.2-B, annex A).
use Rattle.std.proofs.Common.{◌≡◌, ℕ, is_some, if◌then◌else◌, List, [], ◌∷◌, ◌++◌, length, Ok, ◌⊎◌}
use Rattle.std.proofs.Common.{inl, inr, refl}
use Rattle.std.specs.List.{flat_map}
use Rattle.ber_core.specs.Tree.{Tree}
use Rattle.ber_core.specs.Spelling.{Spells, canonical}
use Rattle.ber_shape.specs.Element.{Element}
use Rattle.ber_shape.specs.Members.{Members, structured}
use Rattle.ber_shape.specs.Same.{element_as}
use Rattle.ber_shape.specs.Choice.{either}
use Rattle.ber_shape.specs.Exact.{whole, ReadWhereSpelled, OneValue}
use Rattle.ber_shape.specs.List.{every}
use Rattle.return_pdu.specs.declared.return_kind.ReturnKind.{ReturnKind}
use Rattle.return_pdu.specs.declared.return_kind.ReturnKind.TheVariants.{Raf, Rcf}
use Rattle.return_pdu.specs.Items.{buffer_start}
use Rattle.return_pdu.specs.Frames.{FrameContent, raf_frame_fields, rcf_frame_fields}
use Rattle.return_pdu.specs.Notification.{ToldContent, told_fields}

pub data ItemContent : Type 0 where
  frame : FrameContent → ItemContent
  told : ToldContent → ItemContent

abbrev pub item_from : ToldContent ⊎ FrameContent → ItemContent
item_from (inl t) = told t
item_from (inr f) = frame f

abbrev pub of_item : ItemContent → ToldContent ⊎ FrameContent
of_item (told t) = inl t
of_item (frame f) = inr f

pub item_there : (i : ItemContent) → item_from (of_item i) ≡ i
item_there (told t) = refl
item_there (frame f) = refl

pub item_back : (z : ToldContent ⊎ FrameContent) → of_item (item_from z) ≡ z
item_back (inl t) = refl
item_back (inr f) = refl

-- [0] SEQUENCE a frame, [1] SEQUENCE a notification
abbrev pub item_with : Members FrameContent → Element ItemContent
item_with fields = element_as (either (0xa1 ∷ []) (structured (0xa1 ∷ []) told_fields refl)
    (structured (0xa0 ∷ []) fields refl) refl refl)
    (record { to = item_from; from = of_item; there = item_there; back = item_back })

abbrev pub raf_item : Element ItemContent
raf_item = item_with raf_frame_fields

abbrev pub rcf_item : Element ItemContent
rcf_item = item_with rcf_frame_fields

-- ---- an item of either service, which a frame's quality tells

abbrev pub service_of : ItemContent → ReturnKind
service_of (frame f) = if is_some f.quality then Raf else Rcf
service_of (told t) = Raf

abbrev pub item_shape : ReturnKind → Element ItemContent
item_shape Raf = raf_item
item_shape Rcf = rcf_item

-- its fields are in their ranges
abbrev pub ItemFits : ItemContent → Type 0
ItemFits i = (item_shape (service_of i)).Fits i

abbrev pub item_tree : ItemContent → Tree
item_tree i = (item_shape (service_of i)).tree i

-- ---- a buffer

abbrev pub items : ReturnKind → Members (List ItemContent)
items service = every (item_shape service)

-- [8] SEQUENCE OF the items
abbrev pub buffer : ReturnKind → Element (List ItemContent)
buffer service = structured (0xa8 ∷ []) (items service) refl

-- ---- spelled

-- the items' canonical spellings, one after another
abbrev pub spelled_items : List ItemContent → List ℕ
spelled_items xs = flat_map (λ i. canonical (item_tree i)) xs

-- A buffer whose items fit is its head and then the items, each as it is encoded.
abbrev pub BufferIsHeadAndEncoded : Type 0
BufferIsHeadAndEncoded = (s : ReturnKind) (xs : List ItemContent) → (buffer s).Fits xs
    → canonical ((buffer s).tree xs) ≡ buffer_start (length (spelled_items xs)) ++ spelled_items xs

-- ---- read

-- Octets are read as a buffer exactly where they spell it and its items fit; octets that spell one
-- are read as its items; they spell one at most.
pub record BuffersAreExact : Type 0 where
  pub read : (s : ReturnKind) → ReadWhereSpelled (buffer s)
  pub again : (s : ReturnKind) (xs : List ItemContent) (octets : List ℕ) → (buffer s).Fits xs
      → Spells ((buffer s).tree xs) octets
      → whole (buffer s).read octets ≡ Ok xs
  pub one : (s : ReturnKind) → OneValue (buffer s)
