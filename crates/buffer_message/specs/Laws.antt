-- What holds of the messages of all buffers.
use Rattle.std.specs.Prelude.{◌≡◌, ℕ, ◌≤◌, true, Some, None, Option, List, map}
use Rattle.std.specs.List.{list_all}
use Rattle.archive_terms.specs.Archive.{Entry, Frame, SyncLoss, frame, loss_of_sync, production}
use Rattle.archive_terms.specs.Archive.{is_storable}
use Rattle.archive_terms.specs.Delivery.{archived, IsBuffer}
use Rattle.archive_terms.specs.Continuity.{continuity}
use Rattle.archive_terms.specs.Placed.{ToldItem, items_of}
use Rattle.frame_select.specs.Item.{said_of}
use Rattle.return_pdu.specs.declared.return_kind.ReturnKind.{ReturnKind}
use Rattle.buffer_message.specs.declared.limits.TheConstants.{MOST_ITEMS}
use Rattle.buffer_message.specs.Signing.{Signing}
use Rattle.buffer_message.specs.Content.{contents}
use Rattle.buffer_message.specs.Fitting.{is_in_range, fits_message}

-- A buffer of at most 1,000 items in their ranges, none of whose proper prefixes is complete, goes
-- into one message.
abbrev pub BuffersFit : Type 0
BuffersFit = (size : ℕ) (items : List ToldItem) → size ≤ MOST_ITEMS → IsBuffer size (items_of items)
    → list_all is_in_range items ≡ true → fits_message items ≡ true

-- What may be archived and is no seal is in its ranges, a frame with its continuity in any archive.
pub record StoredInRange : Type 0 where
  pub frames : (entries : List Entry) (before : Option ℕ) (place : ℕ) (f : Frame)
      → is_storable (frame f) ≡ true
      → is_in_range (archived place (frame f), Some (continuity entries before place)) ≡ true
  pub losses : (place : ℕ) (l : SyncLoss) → is_storable (loss_of_sync l) ≡ true
      → is_in_range (archived place (loss_of_sync l), None) ≡ true
  pub productions : (place status : ℕ) → is_storable (production status) ≡ true
      → is_in_range (archived place (production status), None) ≡ true

-- What a look says of picked entries is told as the entries are.
pub record SaidTheSame : Type 0 where
  pub contents_same : (service : ReturnKind) (by : Option Signing) (number : ℕ) (items : List ToldItem)
      → contents service by number (map said_of items) ≡ contents service by number items
  pub fit_same : (items : List ToldItem) → fits_message (map said_of items) ≡ fits_message items
