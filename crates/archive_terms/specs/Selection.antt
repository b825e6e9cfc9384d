-- What a START picks of the archive (CCSDS 911.1-B, RAF-START; CCSDS 911.2-B, RCF-START).
use Rattle.std.specs.Prelude.{ℕ, ◌+◌, ◌*◌, ◌/◌, ◌%◌, Bool, true, false, not, ◌&&◌, ◌||◌, ◌==◌}
use Rattle.std.specs.Prelude.{nat_le, if◌then◌else◌, Option, Some, None, List, ◌∷◌, take}
use Rattle.std.specs.List.{filter, list_any, enumerate_from}
use Rattle.std.specs.Option.{option_map_or}
use Rattle.cds_time.specs.Moment.{moment_of}
use Rattle.archive_terms.specs.Archive.{Frame, Entry, frame, loss_of_sync, production, frame_time}
use Rattle.archive_terms.specs.Archive.{is_closed}

-- a master channel as a whole, or one of its virtual channels
pub data Channel : Type 0 where
  master : Channel
  virtual : ℕ → Channel

-- a global virtual channel identifier (CCSDS 911.2-B, Gvcid)
pub record ChannelId : Type 0 where
  pub spacecraft : ℕ
  pub version : ℕ
  pub channel : Channel

-- version 0, a TM frame: 2 bits of version, 10 of spacecraft, 3 of virtual channel (CCSDS 132.0-B,
-- 4.1.2)
abbrev pub tm_channel : ℕ → ℕ → ChannelId
tm_channel first second =
    record {
      spacecraft = first % 64 * 16 + second / 16;
      version = 0;
      channel = virtual (second / 2 % 8);
    }

-- version 1, an AOS frame: 2 bits of version, 8 of spacecraft, 6 of virtual channel (CCSDS 732.0-B,
-- 4.1.2)
abbrev pub aos_channel : ℕ → ℕ → ChannelId
aos_channel first second =
    record {
      spacecraft = first % 64 * 4 + second / 64;
      version = 1;
      channel = virtual (second % 64);
    }

-- the channel that a frame's first two octets name: none with fewer octets, or where the version is
-- neither 0 nor 1
abbrev pub channel_of : List ℕ → Option ChannelId
channel_of (first ∷ second ∷ _) =
    if first / 64 == 0 then Some (tm_channel first second)
    else if first / 64 == 1 then Some (aos_channel first second)
    else None
channel_of _ = None

-- whether a virtual channel is the wanted one, or any where the master channel is wanted
abbrev pub is_within : Channel → Channel → Bool
is_within master _ = true
is_within (virtual wanted) (virtual found) = wanted == found
is_within (virtual _) master = false

abbrev pub is_of_channel : ChannelId → ChannelId → Bool
is_of_channel wanted found =
    wanted.spacecraft == found.spacecraft && wanted.version == found.version
    && is_within wanted.channel found.channel

-- RAF asks for good frames (0), erred frames (1) or all (2); RCF asks for the good frames of a
-- channel
pub data Filter : Type 0 where
  by_quality : ℕ → Filter
  by_channel : ChannelId → Filter

abbrev pub fits : Filter → Frame → Bool
fits (by_quality wanted) f = wanted == 2 || f.quality == wanted
fits (by_channel wanted) f = f.quality == 0 && option_map_or (is_of_channel wanted)
    (channel_of f.octets) false

-- a START's selection: filter, start and stop time where known, the first position (a place in the
-- archive, from 0), and whether losses of synchronisation and production changes are told, as
-- online modes do
pub record Selection : Type 0 where
  pub filter : Filter
  pub start : Option ℕ
  pub stop : Option ℕ
  pub first : ℕ
  pub notices : Bool

abbrev pub is_not_before : Option ℕ → ℕ → Bool
is_not_before start time = option_map_or (λ t. nat_le t time) start true

abbrev pub is_not_after : Option ℕ → ℕ → Bool
is_not_after stop time = option_map_or (λ t. nat_le time t) stop true

-- whether a time names a moment that lies between start and stop
abbrev pub is_between : Selection → Option ℕ → Bool
is_between s time = option_map_or (λ t. is_not_before s.start t && is_not_after s.stop t) time false

-- whether the entry at a place is a frame that the selection admits
abbrev pub admits : Selection → ℕ → Entry → Bool
admits s place (frame f) = nat_le s.first place && fits s.filter f && is_between s (moment_of f.ert)
admits s place _ = false

-- whether the stop time is known and closed
abbrev pub is_stop_closed : Selection → List Entry → Bool
is_stop_closed s entries = option_map_or (is_closed entries) s.stop false

abbrev pub is_frame_from : ℕ → Entry → Bool
is_frame_from time entry = option_map_or (λ t. nat_le time t) (frame_time entry) false

-- whether the start time is undefined, or a frame at or above it stands among the entries
abbrev pub is_started : Selection → List Entry → Bool
is_started s entries = option_map_or (λ t. list_any (is_frame_from t) entries) s.start true

abbrev pub is_notice : Entry → Bool
is_notice (loss_of_sync _) = true
is_notice (production _) = true
is_notice _ = false

-- whether a loss or a production change behind the entries `before` is told: from the first
-- position on, once the start is reached and as long as the stop isn't closed (this product's own)
abbrev pub is_told : Selection → List Entry → ℕ → Entry → Bool
is_told s before place entry =
    s.notices && is_notice entry && nat_le s.first place && is_started s before
    && not (is_stop_closed s before)

abbrev pub is_picked : Selection → List Entry → ℕ → Entry → Bool
is_picked s entries place entry = admits s place entry || is_told s (take place entries) place entry

-- what a selection picks of an archive: the picked entries in order, each with its place
abbrev pub picked : List Entry → Selection → List (ℕ × Entry)
picked entries s = filter (λ x. is_picked s entries x.0 x.1) (enumerate_from 0 entries)
