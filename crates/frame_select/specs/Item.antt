-- Items as the archive's definitions have them, each with its continuity.
use Rattle.std.specs.Prelude.{Some, None, List, map}
use Rattle.archive_terms.specs.Archive.{frame, loss_of_sync, production}
use Rattle.archive_terms.specs.Archive as archive
use Rattle.archive_terms.specs.Delivery.{archived, backlog, end_of_data}
use Rattle.archive_terms.specs.Placed.{ToldItem}
use Rattle.sle_numbers.specs.FrameQuality.{number_of as quality_number}
use Rattle.sle_numbers.specs.LockStatus.{number_of as lock_number}
use Rattle.sle_numbers.specs.ReturnProductionStatus.{number_of as production_number}
use Rattle.frame_select.specs.declared.item.Item.{Item}
use Rattle.frame_select.specs.declared.item.Item.TheVariants.{Frame, Loss, Production, Backlog}
use Rattle.frame_select.specs.declared.item.Item.TheVariants.{EndOfData}

-- an item says a frame's continuity, and not how many frames were lost before it
abbrev pub item_of : Item → ToldItem
item_of (Frame place ert quality antenna continuity octets) = (
  archived place (frame (record {
    ert = ert;
    quality = quality_number quality;
    antenna = antenna;
    lost = 0;
    octets = octets;
  })),
  Some continuity,
)
item_of (Loss place at carrier subcarrier symbol) = (
  archived place (loss_of_sync (record {
    at = at;
    carrier = lock_number carrier;
    subcarrier = lock_number subcarrier;
    symbol = lock_number symbol;
  })),
  None,
)
item_of (Production place status) = (archived place (production (production_number status)), None)
item_of Backlog = (backlog, None)
item_of EndOfData = (end_of_data, None)

abbrev pub items_of : List Item → List ToldItem
items_of items = map item_of items

-- what an item says of a picked entry
abbrev pub without_lost : archive.Entry → archive.Entry
without_lost (frame f) = frame (record f { lost = 0 })
without_lost entry = entry

abbrev pub said_of : ToldItem → ToldItem
said_of (archived place entry, continuity) = (archived place (without_lost entry), continuity)
said_of told = told
