-- What the items of a transfer buffer say (CCSDS 911.1-B and 911.2-B, annex A). That the antenna is
-- told in its local form and that there is no annotation is this product's own.
use Rattle.std.specs.Prelude.{ℕ, ℤ, pos, Option, Some, None, unwrap_or, List, [], ◌∷◌}
use Rattle.sle_numbers.specs.Numbered.{of_number}
use Rattle.sle_numbers.specs.FrameQuality as quality
use Rattle.sle_numbers.specs.LockStatus as lock
use Rattle.sle_numbers.specs.declared.frame_quality.FrameQuality.{FrameQuality}
use Rattle.sle_numbers.specs.declared.lock_status.LockStatus.{LockStatus}
use Rattle.sle_numbers.specs.declared.lock_status.LockStatus.TheVariants.{Unknown}
use Rattle.archive_terms.specs.Archive.{Frame, frame, loss_of_sync, production}
use Rattle.archive_terms.specs.Delivery.{archived, backlog}
use Rattle.archive_terms.specs.Placed.{ToldItem}
use Rattle.cds_time.specs.Octets.{FieldsFit}
use Rattle.sle_common.specs.Antenna.{local}
use Rattle.isp1_auth.specs.Numbers.{next_number}
use Rattle.return_pdu.specs.declared.return_kind.ReturnKind.{ReturnKind}
use Rattle.return_pdu.specs.declared.return_kind.ReturnKind.TheVariants.{Raf, Rcf}
use Rattle.return_pdu.specs.declared.notification.Notification.{Notification}
use Rattle.return_pdu.specs.declared.notification.Notification.TheVariants.{Loss, Production}
use Rattle.return_pdu.specs.declared.notification.Notification.TheVariants.{Backlog, EndOfData}
use Rattle.return_pdu.specs.TransferItem.{ItemContent, told}
use Rattle.return_pdu.specs.TransferItem as pdu
use Rattle.buffer_message.specs.Signing.{Signing, credentials_by}

-- the quality with a number; RCF doesn't tell it
abbrev pub quality_in : ReturnKind → ℕ → Option FrameQuality
quality_in Raf number = of_number quality.number_of quality.all number
quality_in Rcf number = None

-- the lock status with a number
abbrev pub lock_of : ℕ → LockStatus
lock_of number = unwrap_or (of_number lock.number_of lock.all number) Unknown

-- a frame with its fields as it was received, and its continuity
abbrev pub frame_content : ReturnKind → Option (List ℕ) → Frame → ℤ → ItemContent
frame_content service credentials f continuity = pdu.frame (record {
  credentials = credentials;
  ert = f.ert;
  antenna = local f.antenna;
  continuity = continuity;
  quality = quality_in service f.quality;
  note = None;
  octets = f.octets;
})

abbrev pub notice_content : Option (List ℕ) → Notification → ItemContent
notice_content credentials notice = told (record { credentials = credentials; notice = notice })

-- an item as it is told, with its credentials. The last equation is that of the end of data; a seal
-- and a frame without a continuity are in no buffer.
abbrev pub content_of : ReturnKind → Option (List ℕ) → ToldItem → ItemContent
content_of service credentials (archived place (frame f), Some continuity) =
    frame_content service credentials f continuity
content_of service credentials (archived place (loss_of_sync l), _) =
    notice_content credentials
    (Loss l.at (lock_of l.carrier) (lock_of l.subcarrier) (lock_of l.symbol))
content_of service credentials (archived place (production status), _) =
    notice_content credentials (Production (pos status))
content_of service credentials (backlog, _) = notice_content credentials Backlog
content_of service credentials _ = notice_content credentials EndOfData

-- the fields of an item's time fit in their octets, as a time's always do in code
abbrev pub TimeFits : ToldItem → Type 0
TimeFits (archived place (frame f), _) = FieldsFit f.ert
TimeFits (archived place (loss_of_sync l), _) = FieldsFit l.at
TimeFits _ = Unit {0}

-- what items say one after the other: the first item's credentials have this number, and each
-- further one's the number that is drawn after its neighbour's
abbrev pub contents : ReturnKind → Option Signing → ℕ → List ToldItem → List ItemContent
contents service by number [] = []
contents service by number (item ∷ items) =
    content_of service (credentials_by by number) item
    ∷ contents service by (next_number number) items
