-- Which items go into one message.
use Rattle.std.specs.Prelude.{◌+◌, ◌==◌, Bool, true, false, ◌&&◌, nat_lt, nat_le, ℤ, pos, negsuc}
use Rattle.std.specs.Prelude.{Some, List, length}
use Rattle.std.specs.List.{list_all, sum_by}
use Rattle.archive_terms.specs.Archive.{Frame, SyncLoss, frame, loss_of_sync, production}
use Rattle.archive_terms.specs.Delivery.{archived, backlog, end_of_data, frame_octets}
use Rattle.archive_terms.specs.Placed.{ToldItem, items_of}
use Rattle.archive_terms.specs.declared.limits.TheConstants.{GREATEST_LOST, LONGEST_FRAME}
use Rattle.archive_terms.specs.declared.limits.TheConstants.{FULL_BUFFER}
use Rattle.buffer_message.specs.declared.limits.TheConstants.{MOST_ITEMS}

-- -1, or how many frames were lost before this one (CCSDS 911.1-B, data-link-continuity)
abbrev pub is_continuity : ℤ → Bool
is_continuity (pos lost) = nat_le lost GREATEST_LOST
is_continuity (negsuc n) = n == 0

-- the ranges of what an item says (CCSDS 911.1-B, annex A; the longest frame is this product's own)
abbrev pub is_frame_in_range : Frame → ℤ → Bool
is_frame_in_range f continuity =
    nat_le 1 (length f.antenna) && nat_le (length f.antenna) 16
    && is_continuity continuity && nat_le f.quality 2
    && nat_le 1 (length f.octets) && nat_le (length f.octets) LONGEST_FRAME

abbrev pub is_loss_in_range : SyncLoss → Bool
is_loss_in_range l = nat_le l.carrier 3 && nat_le l.subcarrier 3 && nat_le l.symbol 3

-- whether an item's fields are in their ranges; a seal and a frame without a continuity are in no
-- buffer
abbrev pub is_in_range : ToldItem → Bool
is_in_range (archived place (frame f), Some continuity) = is_frame_in_range f continuity
is_in_range (archived place (loss_of_sync l), _) = is_loss_in_range l
is_in_range (archived place (production status), _) = nat_le status 2
is_in_range (backlog, _) = true
is_in_range (end_of_data, _) = true
is_in_range _ = false

-- Whether items go into one message: each in its ranges, at most 1,000 of them, and of their frames
-- fewer octets than fill a buffer and the longest frame has.
abbrev pub fits_message : List ToldItem → Bool
fits_message items =
    nat_le (length items) MOST_ITEMS && list_all is_in_range items
    && nat_lt (sum_by frame_octets (items_of items)) (FULL_BUFFER + LONGEST_FRAME)
