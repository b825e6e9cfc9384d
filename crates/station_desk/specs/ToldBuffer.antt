-- Buffers as they are told, and the messages that hand them over.
use Rattle.std.specs.Prelude.{ℕ, ℤ, Option, Some, List, map}
use Rattle.ber_core.specs.Tree.{Tree}
use Rattle.ber_core.specs.Spelling.{canonical}
use Rattle.isp1_tml.specs.Message.{Content, spelling, pdu}
use Rattle.return_pdu.specs.Items.{frame_of, absent, transfer_buffer}
use Rattle.return_pdu.specs.Items as items
use Rattle.archive_terms.specs.Archive.{frame}
use Rattle.archive_terms.specs.Delivery.{Item, archived, end_of_data}

-- a buffer as it is told: its items, each frame with its continuity
abbrev pub ToldBuffer : Type 0
ToldBuffer = List (Item × Option ℤ)

-- an item as it is told: a frame with its fields as it was received, and its continuity; or the end
-- of data. An offline delivery has no other.
abbrev pub item_tree : Item × Option ℤ → Tree
item_tree (archived place (frame f), Some continuity) =
    items.frame (frame_of f.ert f.antenna continuity f.quality f.octets)
item_tree (end_of_data, _) = items.end_of_data
item_tree _ = absent

-- the message of a buffer
abbrev pub buffer_message : ToldBuffer → Content
buffer_message buffer = pdu (canonical (transfer_buffer (map item_tree buffer)))

-- its octets
abbrev pub message_octets : ToldBuffer → List ℕ
message_octets buffer = spelling (buffer_message buffer)
