-- The message of a transfer buffer, and what a user reads of it.
use Rattle.std.specs.Prelude.{◌≡◌, ℕ, Option, List, Ok}
use Rattle.ber_core.specs.Tree.{Tree}
use Rattle.ber_core.specs.Spelling.{Spells, canonical}
use Rattle.ber_shape.specs.Exact.{whole}
use Rattle.isp1_tml.specs.Message.{Content, pdu, spelling, IsMessage}
use Rattle.archive_terms.specs.Placed.{ToldItem}
use Rattle.return_pdu.specs.declared.return_kind.ReturnKind.{ReturnKind}
use Rattle.return_pdu.specs.TransferItem.{ItemContent, buffer}
use Rattle.buffer_message.specs.Signing.{Signing}
use Rattle.buffer_message.specs.Content.{contents}

-- the transfer buffer of items as they are told, whose first credentials have this number
abbrev pub buffer_tree : ReturnKind → Option Signing → ℕ → List ToldItem → Tree
buffer_tree service by number items = (buffer service).tree (contents service by number items)

-- its message, and the octets of that
abbrev pub buffer_message : ReturnKind → Option Signing → ℕ → List ToldItem → Content
buffer_message service by number items = pdu (canonical (buffer_tree service by number items))

abbrev pub message_octets : ReturnKind → Option Signing → ℕ → List ToldItem → List ℕ
message_octets service by number items = spelling (buffer_message service by number items)

-- The transport takes the message. A user of the service who decodes its octets gets just what the
-- items say, each with its own fields, continuity and credentials; they spell nothing else.
pub record IsRead (service : ReturnKind) (by : Option Signing) (number : ℕ) (items : List ToldItem)
    : Type 0 where
  pub fits : IsMessage (buffer_message service by number items)
  pub read : whole (buffer service).read (canonical (buffer_tree service by number items))
      ≡ Ok (contents service by number items)
  pub fit : (buffer service).Fits (contents service by number items)
  pub spelled : Spells (buffer_tree service by number items)
      (canonical (buffer_tree service by number items))
  pub no_others : (others : List ItemContent) → (buffer service).Fits others
      → Spells ((buffer service).tree others) (canonical (buffer_tree service by number items))
      → others ≡ contents service by number items
