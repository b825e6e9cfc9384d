-- Items as they are written to a peer without authentication: with unused credentials, the local
-- form of the antenna and no annotation.
use Rattle.std.specs.Prelude.{◌≡◌, ◌+◌, ◌≤◌, Option, None, length}
use Rattle.ber_core.specs.Spelling.{canonical}
use Rattle.sle_common.specs.Antenna.{local}
use Rattle.cds_time.specs.Octets.{FieldsFit}
use Rattle.sle_numbers.specs.Numbered.{of_number}
use Rattle.sle_numbers.specs.FrameQuality.{number_of, all}
use Rattle.sle_numbers.specs.declared.frame_quality.FrameQuality.{FrameQuality}
use Rattle.return_pdu.specs.declared.notification.Notification.TheVariants.{EndOfData}
use Rattle.return_pdu.specs.Items.{Frame, frame, end_of_data}
use Rattle.return_pdu.specs.Fields.{IsFrame}
use Rattle.return_pdu.specs.TransferItem.{ItemContent, told, raf_item}
use Rattle.return_pdu.specs.TransferItem as items

abbrev pub with_quality : Frame → Option FrameQuality → ItemContent
with_quality f quality = items.frame (record {
  credentials = None;
  ert = f.ert;
  antenna = local f.antenna;
  continuity = f.continuity;
  quality = quality;
  note = None;
  octets = f.octets;
})

-- the quality is the one of the frame's number
abbrev pub plain_item : Frame → ItemContent
plain_item f = with_quality f (of_number number_of all f.quality)

abbrev pub plain_end : ItemContent
plain_end = told (record { credentials = None; notice = EndOfData })

-- a frame with its fields in their ranges fits, and its tree has these fields
pub record IsPlain (f : Frame) : Type 0 where
  pub fits : raf_item.Fits (plain_item f)
  pub tree : raf_item.tree (plain_item f) ≡ frame f

abbrev pub FramesArePlain : Type 0
FramesArePlain = (f : Frame) → IsFrame f → FieldsFit f.ert → IsPlain f

-- so does the end of data
pub record EndIsPlain : Type 0 where
  pub fits : raf_item.Fits plain_end
  pub tree : raf_item.tree plain_end ≡ end_of_data

-- A frame's spelling has few octets more than the frame.
abbrev pub FramesAreShort : Type 0
FramesAreShort = (f : Frame) → IsFrame f → length (canonical (frame f)) ≤ length f.octets + 300
