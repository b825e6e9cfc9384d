-- A message of items that fit is read as these items.
use Rattle.std.proofs.Common.{◌≡◌, ℕ, suc, ◌+◌, ◌≤◌, Option, List, [], ◌∷◌, ◌++◌, length}
use Rattle.std.proofs.Common.{length-append}
use Rattle.std.proofs.Common.{refl, ap, arith}
use Rattle.std.specs.List.{AllByRecursion}
use Rattle.ber_core.specs.Length.{shortest_length}
use Rattle.ber_core.specs.Parts.{few-shortest_length}
use Rattle.ber_core.specs.Spelling.{canonical, CanonicalSpells}
use Rattle.isp1_auth.specs.Numbers.{next_number}
use Rattle.archive_terms.specs.Placed.{ToldItem}
use Rattle.return_pdu.specs.declared.return_kind.ReturnKind.{ReturnKind}
use Rattle.return_pdu.specs.Items.{buffer_tag, buffer_start}
use Rattle.return_pdu.specs.TransferItem.{item_shape, buffer, BufferIsHeadAndEncoded}
use Rattle.return_pdu.specs.TransferItem.{BuffersAreExact}
use Rattle.buffer_message.specs.Signing.{Signing}
use Rattle.buffer_message.specs.Content.{contents}
use Rattle.buffer_message.specs.Message.{buffer_tree, IsRead}
use Rattle.buffer_message.proofs.Steps.{spelled}

length-contents : (s : ReturnKind) (by : Option Signing) (number : ℕ) (items : List ToldItem)
    → length (contents s by number items) ≡ length items
length-contents s by number [] = refl
length-contents s by number (x ∷ items) =
    ap suc (length-contents s by (next_number number) items)

length-buffer_start : (n : ℕ) → length (buffer_start n) ≤ 10
length-buffer_start n = omega (
  arith,
  length-append buffer_tag (shortest_length n),
  few-shortest_length n,
)

pub is_read : BufferIsHeadAndEncoded → BuffersAreExact → CanonicalSpells
    → (s : ReturnKind) (by : Option Signing) (first : ℕ) (items : List ToldItem)
    → AllByRecursion (item_shape s).Fits (contents s by first items)
    → length items ≤ 1000 → length (spelled s by first items) ≤ 1000000
    → IsRead s by first items
is_read encoded exact spells s by first items fits few small =
    let xs = contents s by first items in
    let octets = canonical (buffer_tree s by first items) in
    let fit : (buffer s).Fits xs =
    record { few = omega (arith, length-contents s by first items); each = fits } in
    let size = length (spelled s by first items) in
    let short : length octets ≤ 1000010 = omega (
      arith,
      ap length (encoded s xs fit),
      length-append (buffer_start size) (spelled s by first items),
      length-buffer_start size,
    ) in
    let spelled_so = spells (buffer_tree s by first items) (omega arith) in
    record {
      fits = omega arith;
      read = exact.again s xs octets fit spelled_so;
      fit = fit;
      spelled = spelled_so;
      no_others = λ others other_fit e. exact.one s octets others xs other_fit fit e spelled_so;
    }

-- the octets of a message, in the pieces in which it is written
pub message_pieces : BufferIsHeadAndEncoded
    → (s : ReturnKind) (by : Option Signing) (first : ℕ) (items : List ToldItem) (size : ℕ)
    → IsRead s by first items → size ≡ length (spelled s by first items)
    → canonical (buffer_tree s by first items) ≡ buffer_start size ++ spelled s by first items
message_pieces encoded s by first items size read is =
    rw is (encoded s (contents s by first items) read.fit)

pub message_length : BufferIsHeadAndEncoded
    → (s : ReturnKind) (by : Option Signing) (first : ℕ) (items : List ToldItem) (size : ℕ)
    → IsRead s by first items → size ≡ length (spelled s by first items)
    → length (canonical (buffer_tree s by first items)) ≡ length (buffer_start size) + size
message_length encoded s by first items size read is = omega (
  arith,
  is,
  ap length (message_pieces encoded s by first items size read is),
  length-append (buffer_start size) (spelled s by first items),
)
