-- The items that a buffer holds fit, and are spelled as they are encoded.
use Rattle.std.proofs.Common.{◌≡◌, ℕ, true, nat_le, is_some, if◌then◌else◌, List, [], ◌∷◌, ◌++◌}
use Rattle.std.proofs.Common.{length, append_assoc, Result, Ok, Err, refl, sym, ◌∙◌, ap, subst}
use Rattle.std.specs.Prelude.{IsOk}
use Rattle.std.specs.List.{AllByRecursion}
use Rattle.ber_core.specs.declared.fault.BerFault.{BerFault}
use Rattle.ber_core.specs.Length.{IsSlice, shortest_length}
use Rattle.ber_core.specs.Spelling.{canonical, canonical_all}
use Rattle.ber_core.specs.Parts.{spelled-constructed, spelled-tree_and, spelled-no_trees}
use Rattle.ber_shape.specs.List.{each_tree}
use Rattle.ber_shape.specs.Exact.{whole, members_are, element_is, element_again, one_value}
use Rattle.ber_shape.specs.Lent.{values, or_none}
use Rattle.return_pdu.specs.declared.return_kind.ReturnKind.{ReturnKind}
use Rattle.return_pdu.specs.declared.return_kind.ReturnKind.TheVariants.{Raf, Rcf}
use Rattle.return_pdu.specs.Items.{buffer_tag}
use Rattle.return_pdu.specs.TransferItem.{ItemContent, frame, told, item_shape, items, ItemFits}
use Rattle.return_pdu.specs.TransferItem.{item_tree, spelled_items, BufferIsHeadAndEncoded}
use Rattle.return_pdu.specs.TransferItem.{BuffersAreExact, buffer}

service_fits : (s : ReturnKind) (i : ItemContent) → (item_shape s).Fits i → ItemFits i
service_fits Raf (told t) fits = fits
service_fits Rcf (told t) fits = fits
service_fits Raf (frame f) fits =
    subst (λ some. (item_shape (if some then Raf else Rcf)).Fits (frame f)) (sym fits.has_quality)
    fits
service_fits Rcf (frame f) fits =
    subst (λ some. (item_shape (if some then Raf else Rcf)).Fits (frame f))
    (sym (ap is_some fits.no_quality)) fits

first_of : (s : ReturnKind) (i : ItemContent) (xs rest : List ItemContent)
    → AllByRecursion (item_shape s).Fits xs → xs ≡ i ∷ rest → ItemFits i
first_of s i xs rest all same = service_fits s i
    (subst (AllByRecursion (item_shape s).Fits) same all).0

-- the first item that octets hold
pub first_fits : (s : ReturnKind) (octets : List ℕ) (i : ItemContent) (rest : List ItemContent)
    → IsSlice octets → IsOk (whole (items s).read octets)
    → values (items s) octets ≡ i ∷ rest → ItemFits i
first_fits s octets i rest slice are same = by_cases (whole (items s).read octets) refl are same
  where
    by_cases : (read : Result (List ItemContent) BerFault) → whole (items s).read octets ≡ read
        → IsOk read → or_none read ≡ i ∷ rest → ItemFits i
    by_cases (Ok xs) is are same = first_of s i xs rest
        (members_are (items s) octets xs slice is).0.each same
    by_cases (Err fault) is are same = absurd cc

-- ---- spelled

same_tree : (s : ReturnKind) (i : ItemContent) → (item_shape s).Fits i
    → (item_shape s).tree i ≡ item_tree i
same_tree Raf (told t) fits = refl
same_tree Rcf (told t) fits = refl
same_tree Raf (frame f) fits = ap (λ some. (item_shape (if some then Raf else Rcf)).tree (frame f))
    (sym fits.has_quality)
same_tree Rcf (frame f) fits = ap (λ some. (item_shape (if some then Raf else Rcf)).tree (frame f))
    (sym (ap is_some fits.no_quality))

spelled-each : (s : ReturnKind) (xs : List ItemContent) → AllByRecursion (item_shape s).Fits xs
    → canonical_all (each_tree (item_shape s).tree xs) ≡ spelled_items xs
spelled-each s [] fits = spelled-no_trees
spelled-each s (i ∷ xs) fits =
    spelled-tree_and ((item_shape s).tree i) (each_tree (item_shape s).tree xs)
    ∙ ap (λ t. canonical t ++ canonical_all (each_tree (item_shape s).tree xs))
    (same_tree s i fits.0)
    ∙ ap (λ rest. canonical (item_tree i) ++ rest) (spelled-each s xs fits.1)

pub buffer_spelled : BufferIsHeadAndEncoded
buffer_spelled s xs fits =
    spelled-constructed buffer_tag (each_tree (item_shape s).tree xs)
    ∙ ap (λ spelled. buffer_tag ++ (shortest_length (length spelled) ++ spelled))
    (spelled-each s xs fits.each)
    ∙ sym (append_assoc buffer_tag (shortest_length (length (spelled_items xs))) (spelled_items xs))

-- ---- read

shallow : (s : ReturnKind) → nat_le (buffer s).levels 16 ≡ true
shallow Raf = refl
shallow Rcf = refl

pub buffers_exact : BuffersAreExact
buffers_exact = record {
  read = λ s octets xs slice. (
    element_is (buffer s) octets xs slice,
    λ (fits, spells). element_again (buffer s) (shallow s) octets xs fits spells,
  );
  again = λ s xs octets fits spells. element_again (buffer s) (shallow s) octets xs fits spells;
  one = λ s. one_value (buffer s) (shallow s);
}
