-- What an index keeps of a list of entries.
use Rattle.std.specs.Prelude.{◌≡◌, ℕ, ◌+◌, ◌-◌, max, Bool, true, false, ◌&&◌}
use Rattle.std.specs.Prelude.{◌||◌, nat_lt, nat_le, Option, List, [], ◌∷◌, ◌++◌, length, ◌==◌}
use Rattle.std.specs.Prelude.{if◌then◌else◌, take}
use Rattle.std.specs.List.{fold, sum_by}
use Rattle.std.specs.Option.{option_map_or}
use Rattle.std.specs.BTreeMap.{BTreeMap}
use Rattle.cds_time.specs.Moment.{moment_of}
use Rattle.archive_terms.specs.Archive.{Entry, frame, loss_of_sync, production, seal, frame_time}
use Rattle.archive_terms.specs.Archive.{seal_time}
use Rattle.archive_terms.specs.Selection.{is_notice, by_quality, by_channel, ChannelId}
use Rattle.archive_terms.specs.Selection.{is_of_channel}
use Rattle.archive_terms.specs.Continuity.{lost_of}
use Rattle.archive_terms.specs.Glimpse.{Locks, locks_after, locks, production_after}
use Rattle.archive_terms.specs.Glimpse.{production_status}
use Rattle.archive_index.specs.Rows.{rows_of, passes, is_seal, IsThrough}
use Rattle.archive_index.specs.Keys.{id_of_key, list_of}
use Rattle.archive_index.specs.declared.row.Row.{Row}
use Rattle.archive_index.specs.declared.channels.Key.{Key}
use Rattle.archive_index.specs.declared.totals.Totals as code
use Rattle.archive_index.specs.declared.mark.Mark.{Mark}
use Rattle.archive_index.specs.declared.index.Index.{Index}

-- the first moment above all times that `time_of` gives of entries: 0 where there is none
abbrev pub end_with : (Entry → Option ℕ) → ℕ → Entry → ℕ
end_with time_of end entry = option_map_or (λ t. max end (t + 1)) (time_of entry) end

abbrev pub end_of : (Entry → Option ℕ) → List Entry → ℕ
end_of time_of entries = fold (end_with time_of) 0 entries

-- what is told of entries together: the first moments above the times of all frames and of all
-- seals, how many frames were lost, and the statuses of a report
pub record Totals : Type 0 where
  pub frames_end : ℕ
  pub seals_end : ℕ
  pub lost : ℕ
  pub locks : Locks
  pub production : ℕ

abbrev pub totals_of : List Entry → Totals
totals_of entries = record {
  frames_end = end_of frame_time entries;
  seals_end = end_of seal_time entries;
  lost = sum_by lost_of entries;
  locks = locks entries;
  production = production_status entries;
}

-- the totals with one entry more: its time, what was lost, and its statuses
abbrev pub totals_with : Totals → Entry → Totals
totals_with t entry = record {
  frames_end = end_with frame_time t.frames_end entry;
  seals_end = end_with seal_time t.seals_end entry;
  lost = t.lost + lost_of entry;
  locks = locks_after t.locks entry;
  production = production_after t.production entry;
}

-- the lists: the rows of all frames, of seals and of notices, and the numbers among the frames' rows
-- of the good ones, of the erred ones and of each channel's
pub record Lists : Type 0 where
  pub frames : List Row
  pub good : List ℕ
  pub erred : List ℕ
  pub channels : BTreeMap Key (List ℕ)
  pub seals : List Row
  pub notices : List Row

-- an index of the program, and its lists
abbrev pub IndexState : Type 0
IndexState = Index

abbrev pub lists_of : IndexState → Lists
lists_of i = record {
  frames = i.frames;
  good = i.good;
  erred = i.erred;
  channels = i.channels;
  seals = i.seals;
  notices = i.notices;
}

-- each list has the rows of the entries that belong there, in order
pub record Sorts (lists : Lists) (entries : List Entry) : Type 0 where
  pub frames : lists.frames ≡ rows_of (passes (by_quality 2)) entries
  pub good : IsThrough lists.frames lists.good (rows_of (passes (by_quality 0)) entries)
  pub erred : IsThrough lists.frames lists.erred (rows_of (passes (by_quality 1)) entries)
  pub channels : (k : Key) → IsThrough lists.frames (list_of lists.channels k)
      (rows_of (passes (by_channel (id_of_key k))) entries)
  pub seals : lists.seals ≡ rows_of is_seal entries
  pub notices : lists.notices ≡ rows_of is_notice entries

-- totals of the program
abbrev pub totals_seen : code.Totals → Totals
totals_seen t = record {
  frames_end = t.frames_end;
  seals_end = t.seals_end;
  lost = t.lost;
  locks = record {
    frame_sync = t.frame_sync;
    symbol = t.symbol;
    subcarrier = t.subcarrier;
    carrier = t.carrier;
  };
  production = t.production;
}

-- the index keeps what it needs of these entries
pub record Indexes (index : IndexState) (entries : List Entry) : Type 0 where
  pub sorts : Sorts (lists_of index) entries
  pub count : index.count ≡ length entries
  pub totals : totals_seen index.totals ≡ totals_of entries

-- ---- lists with one entry more, and with one entry less

-- the same lists
pub record AreSame (old new : Lists) : Type 0 where
  pub frames : new.frames ≡ old.frames
  pub good : new.good ≡ old.good
  pub erred : new.erred ≡ old.erred
  pub channels : (k : Key) → list_of new.channels k ≡ list_of old.channels k
  pub seals : new.seals ≡ old.seals
  pub notices : new.notices ≡ old.notices

-- a list with one number more, where a test says so
abbrev pub more_if : Bool → List ℕ → ℕ → List ℕ
more_if test numbers n = if test then numbers ++ n ∷ [] else numbers

-- whether a good frame of a channel belongs to a list of a channel
abbrev pub is_for : Key → Option ChannelId → Bool
is_for k channel = option_map_or (is_of_channel (id_of_key k)) channel false

-- the number of a frame's row put into the lists of its quality and channel
pub record AddsNumber (old new : Lists) (number quality : ℕ) (channel : Option ChannelId) : Type 0
  where
    pub good : new.good ≡ more_if (quality == 0) old.good number
    pub erred : new.erred ≡ more_if (quality == 1) old.erred number
    pub channels : (k : Key) → list_of new.channels k
        ≡ more_if (quality == 0 && is_for k channel) (list_of old.channels k) number

-- a frame's row put after the others, and its number into those lists
pub record AddsFrame (old new : Lists) (row : Row) (quality : ℕ) (channel : Option ChannelId)
    : Type 0 where
  pub frames : new.frames ≡ old.frames ++ row ∷ []
  pub numbers : AddsNumber old new (length old.frames) quality channel
  pub seals : new.seals ≡ old.seals
  pub notices : new.notices ≡ old.notices

-- a list without its last number, where a test says so
abbrev pub less_if : Bool → List ℕ → List ℕ
less_if test numbers = if test then take (length numbers - 1) numbers else numbers

-- the last frame's row taken off, and its number off the lists of its quality and channel
pub record TakesFrame (old new : Lists) (quality : ℕ) (channel : Option ChannelId) : Type 0 where
  pub frames : new.frames ≡ take (length old.frames - 1) old.frames
  pub good : new.good ≡ less_if (quality == 0) old.good
  pub erred : new.erred ≡ less_if (quality == 1) old.erred
  pub channels : (k : Key) → list_of new.channels k
      ≡ less_if (quality == 0 && is_for k channel) (list_of old.channels k)
  pub seals : new.seals ≡ old.seals
  pub notices : new.notices ≡ old.notices

-- ---- totals

-- whether the totals tell that a start is unknown or reached by a frame, and that a stop is known
-- and closed
abbrev pub has_closed : Totals → Option ℕ → Bool
has_closed t stop = option_map_or (λ moment. nat_lt moment (t.frames_end - 1)
    || nat_lt moment t.seals_end) stop false

-- whether an entry keeps the order of times after entries of these totals
abbrev pub is_in_order : Totals → Entry → Bool
is_in_order t (frame f) =
    option_map_or (λ at. nat_le t.frames_end (at + 1) && nat_le t.seals_end at) (moment_of f.ert)
    true
is_in_order t (seal time) = option_map_or (λ at. nat_le t.seals_end (at + 1)) (moment_of time) true
is_in_order t (loss_of_sync _) = true
is_in_order t (production _) = true

-- a mark keeps how many these entries were, and their totals
pub record IsMark (mark : Mark) (entries : List Entry) : Type 0 where
  pub count : mark.count ≡ length entries
  pub totals : totals_seen mark.totals ≡ totals_of entries
