-- What a user reads of the messages that are handed over.
use Rattle.std.specs.Prelude.{◌≡◌, ◌≤◌, ℤ, Option, Some, List, Ok, map, length}
use Rattle.std.specs.List.{AllByRecursion}
use Rattle.ber_core.specs.Spelling.{Spells, canonical}
use Rattle.ber_shape.specs.Exact.{whole}
use Rattle.isp1_tml.specs.Message.{IsMessage}
use Rattle.return_pdu.specs.declared.return_kind.ReturnKind.TheVariants.{Raf}
use Rattle.return_pdu.specs.Fields.{IsFrame}
use Rattle.return_pdu.specs.Items.{frame_of, transfer_buffer}
use Rattle.return_pdu.specs.TransferItem.{ItemContent, buffer}
use Rattle.return_pdu.specs.Plain.{plain_item, plain_end}
use Rattle.archive_terms.specs.Archive.{frame}
use Rattle.archive_terms.specs.Delivery.{Item, archived, end_of_data}
use Rattle.station_desk.specs.declared.limits.TheConstants.{BUFFER_ITEMS}
use Rattle.station_desk.specs.ToldBuffer.{ToldBuffer, item_tree, buffer_message}

-- an item as a user reads it: a frame with its fields as it was received, and its continuity; or
-- the end of data. An offline delivery has no other.
abbrev pub item_said : Item × Option ℤ → ItemContent
item_said (archived place (frame f), Some continuity) =
    plain_item (frame_of f.ert f.antenna continuity f.quality f.octets)
item_said _ = plain_end

-- an item that an offline delivery hands over: a frame whose fields are in their ranges, or the end
-- of data
abbrev pub IsHanded : Item × Option ℤ → Type 0
IsHanded (archived place (frame f), Some continuity) =
    IsFrame (frame_of f.ert f.antenna continuity f.quality f.octets)
IsHanded (end_of_data, _) = Unit {0}
IsHanded _ = ⊥

-- A buffer as it is told has no more such items than a buffer of the desk, and fits in a message of
-- the transport. A user who decodes its octets as a buffer of RAF gets these items, each with its
-- fields in their ranges; they spell no others.
pub record IsReadable (told : ToldBuffer) : Type 0 where
  pub few : length told ≤ BUFFER_ITEMS
  pub handed : AllByRecursion IsHanded told
  pub fits : IsMessage (buffer_message told)
  pub read : whole (buffer Raf).read (canonical (transfer_buffer (map item_tree told)))
      ≡ Ok (map item_said told)
  pub fit : (buffer Raf).Fits (map item_said told)
  pub spelled : Spells ((buffer Raf).tree (map item_said told))
      (canonical (transfer_buffer (map item_tree told)))
  pub no_others : (others : List ItemContent) → (buffer Raf).Fits others
      → Spells ((buffer Raf).tree others) (canonical (transfer_buffer (map item_tree told)))
      → others ≡ map item_said told

-- So is each of the buffers that are handed over.
abbrev pub AreReadable : List ToldBuffer → Type 0
AreReadable told = AllByRecursion IsReadable told
