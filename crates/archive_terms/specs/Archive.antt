-- The archive of a ground station's return frames: its entries, which lists of them are an archive,
-- and when a stop is closed. A moment is the number of picoseconds since 1958-01-01T00:00:00, and
-- an octet a number below 256. A time stands as it was received, and names a moment or none.
use Rattle.std.specs.Prelude.{ℕ, Bool, true, false, ◌&&◌, ◌||◌, nat_lt, nat_le, IsTrue}
use Rattle.std.specs.Prelude.{Option, None, List, [], ◌∷◌, length}
use Rattle.std.specs.List.{list_any, list_all, fold}
use Rattle.std.specs.Option.{option_or, option_map_or}
use Rattle.cds_time.specs.declared.cds.Cds.{Cds}
use Rattle.cds_time.specs.declared.cds.TheConstants.{MOMENT_END}
use Rattle.cds_time.specs.Moment.{moment_of}
use Rattle.archive_terms.specs.declared.limits.TheConstants.{GREATEST_LOST, LONGEST_FRAME}

-- a transfer frame as received (CCSDS 911.1-B, RAF-TRANSFER-DATA): earth receive time, quality (0
-- good, 1 erred, 2 undetermined), antenna, how many frames were lost between the frame before it
-- and this one, and its octets
pub record Frame : Type 0 where
  pub ert : Cds
  pub quality : ℕ
  pub antenna : List ℕ
  pub lost : ℕ
  pub octets : List ℕ

-- a loss of frame synchronisation, with three lock statuses (CCSDS 911.1-B, RAF-SYNC-NOTIFY)
pub record SyncLoss : Type 0 where
  pub at : Cds
  pub carrier : ℕ
  pub subcarrier : ℕ
  pub symbol : ℕ

-- an entry of the archive: a frame, a loss of synchronisation, a change of the production status
-- (CCSDS 911.1-B, RAF-SYNC-NOTIFY), or a seal, which says that each later frame has a later time
-- (this product's own)
pub data Entry : Type 0 where
  frame : Frame → Entry
  loss_of_sync : SyncLoss → Entry
  production : ℕ → Entry
  seal : Cds → Entry

-- the moment of a frame's time, and of a seal's
abbrev pub frame_time : Entry → Option ℕ
frame_time (frame f) = moment_of f.ert
frame_time _ = None

abbrev pub seal_time : Entry → Option ℕ
seal_time (seal at) = moment_of at
seal_time _ = None

-- whether a time names a moment; a time code's days go up to 65,535 (CCSDS 301.0-B, CDS with 16
-- bits of days)
abbrev pub is_moment : Cds → Bool
is_moment time = option_map_or (λ t. nat_lt t MOMENT_END) (moment_of time) false

-- the ranges of a frame's fields (CCSDS 911.1-B; the greatest loss is this product's own)
abbrev pub is_valid_frame : Frame → Bool
is_valid_frame f =
    is_moment f.ert && nat_le f.quality 2 && nat_le 1 (length f.antenna)
    && nat_le (length f.antenna) 16
    && nat_le f.lost GREATEST_LOST && nat_le 1 (length f.octets)

-- lock statuses go from 0 to 3, production statuses from 0 to 2
abbrev pub is_valid : Entry → Bool
is_valid (frame f) = is_valid_frame f
is_valid (loss_of_sync l) = is_moment l.at && nat_le l.carrier 3 && nat_le l.subcarrier 3
    && nat_le l.symbol 3
is_valid (production status) = nat_le status 2
is_valid (seal at) = is_moment at

-- an archive holds frames of a greatest length (this product's own)
abbrev pub is_short : Entry → Bool
is_short (frame f) = nat_le (length f.octets) LONGEST_FRAME
is_short _ = true

-- whether an entry may be stored, wherever it stands
abbrev pub is_storable : Entry → Bool
is_storable entry = is_valid entry && is_short entry

-- whether the later of two times is at or above the earlier one, or above it, where both are known
abbrev pub is_from : Option ℕ → Option ℕ → Bool
is_from earlier later = option_map_or (λ t. option_map_or (λ u. nat_le t u) later true) earlier true

abbrev pub is_above : Option ℕ → Option ℕ → Bool
is_above earlier later = option_map_or (λ t. option_map_or (λ u. nat_lt t u) later true) earlier
    true

-- whether an entry is in order behind a last frame and a last seal at these times, where there are
-- such: frame times don't fall, seal times don't fall, and a frame after a seal has a time above it
-- (this product's own)
abbrev pub is_in_order : Option ℕ → Option ℕ → Entry → Bool
is_in_order last_frame last_seal entry =
    is_from last_frame (frame_time entry) && is_above last_seal (frame_time entry)
    && is_from last_seal (seal_time entry)

-- whether an entry may stand before a later one
abbrev pub may_precede : Entry → Entry → Bool
may_precede earlier later = is_in_order (frame_time earlier) (seal_time earlier) later

-- whether an entry behind others keeps the order of times
abbrev pub keeps_order : List Entry → Entry → Bool
keeps_order entries entry = list_all (λ earlier. may_precede earlier entry) entries

-- whether each entry of a list may stand before each later one
abbrev pub is_ordered : List Entry → Bool
is_ordered [] = true
is_ordered (entry ∷ later) = list_all (may_precede entry) later && is_ordered later

-- whether a list is an archive: each entry is storable, and they are in order
abbrev pub is_archive : List Entry → Bool
is_archive entries = list_all is_storable entries && is_ordered entries

abbrev pub IsArchive : List Entry → Type 0
IsArchive entries = IsTrue (is_archive entries)

-- whether an archive with this entry behind it is one
abbrev pub may_follow : List Entry → Entry → Bool
may_follow entries entry = is_storable entry && keeps_order entries entry

-- the last of the times that `time_of` gives of entries, or of the time before them
abbrev pub last_time : (Entry → Option ℕ) → Option ℕ → List Entry → Option ℕ
last_time time_of before entries = fold (λ last entry. option_or (time_of entry) last) before
    entries

-- whether an entry shows that each later frame has a time above `stop`: a seal at it or later, or a
-- frame above it
abbrev pub closes : ℕ → Entry → Bool
closes stop entry =
    option_map_or (λ t. nat_lt stop t) (frame_time entry) false
    || option_map_or (λ t. nat_le stop t) (seal_time entry) false

-- a stop is closed where no frame up to it can come any more (this product's own)
abbrev pub is_closed : List Entry → ℕ → Bool
is_closed entries stop = list_any (closes stop) entries
