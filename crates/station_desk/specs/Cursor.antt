-- The buffers of a START, one after the other, and the delivery that hands them over.
use Rattle.std.specs.Prelude.{◌≡◌, ℕ, ◌+◌, ◌-◌, ◌≤◌, Bool, true, false, nat_lt, if◌then◌else◌}
use Rattle.std.specs.Prelude.{None, List, [], length, map, take, replicate, slice_index_or}
use Rattle.archive_terms.specs.Archive.{Entry}
use Rattle.archive_terms.specs.Selection.{Selection, picked, is_stop_closed}
use Rattle.archive_terms.specs.Delivery.{Terms, offline, offline_buffers}
use Rattle.archive_terms.specs.Continuity.{told_buffers}
use Rattle.archive_terms.specs.Rounds.{Round, free_round}
use Rattle.frame_select.specs.Item.{said_of}
use Rattle.return_core.specs.Course.{Course, is_offering, held_of}
use Rattle.return_core.specs.Standing.{StandsFor, Steps}
use Rattle.station_desk.specs.declared.limits.TheConstants.{BUFFER_ITEMS}
use Rattle.station_desk.specs.ToldBuffer.{ToldBuffer}
use Rattle.station_desk.specs.Readable.{AreReadable}

-- the buffers of a START; how many of them were handed over, with the current one; and whether
-- there is a current one
pub record Cursor : Type 0 where
  pub buffers : List ToldBuffer
  pub count : ℕ
  pub has_current : Bool

abbrev pub before_first : List ToldBuffer → Cursor
before_first buffers = record { buffers = buffers; count = 0; has_current = false }

-- whether there is a next one
abbrev pub has_next : Cursor → Bool
has_next c = nat_lt c.count (length c.buffers)

-- at the next one, or behind the last
abbrev pub at_next : Cursor → Cursor
at_next c = record c {
  count = if has_next c then c.count + 1 else c.count;
  has_current = has_next c;
}

-- the current one was taken
abbrev pub with_taken : Cursor → Cursor
with_taken c = record c { has_current = false }

abbrev pub current : Cursor → ToldBuffer
current c = slice_index_or c.buffers (c.count - 1) []

-- ---- the delivery

abbrev pub terms_of : Selection → Terms
terms_of s = record { mode = offline; size = BUFFER_ITEMS; latency = 0; selection = s }

abbrev pub told_of : Selection → List Entry → List ToldBuffer
told_of s entries = told_buffers entries None
    (offline_buffers BUFFER_ITEMS (picked entries s) (is_stop_closed s entries))

-- so many rounds at one front, whose link takes each offer
abbrev pub rounds : ℕ → ℕ → List Round
rounds front n = map (free_round front) (replicate n 0)

-- a delivery stands for rounds over all entries, in which so many buffers were handed over
pub record IsBetween (s : Selection) (entries : List Entry) (count : ℕ) (c : Course) : Type 0 where
  pub made : ℕ
  pub stands : StandsFor c (terms_of s) entries (rounds (length entries) made)
  pub handed : take made (told_of s entries) ≡ take count (told_of s entries)

-- it made its step in the round that is to hand over the last of so many buffers, which it holds
pub record IsAtBuffer (s : Selection) (entries : List Entry) (count : ℕ) (c : Course) : Type 0 where
  pub before : ℕ
  pub next : count ≡ before + 1
  pub steps : Steps c (terms_of s) entries (rounds (length entries) before) (length entries) 0
  pub held : held_of c ≡ map said_of (slice_index_or (told_of s entries) before [])

abbrev pub IsOnItsWay : Selection → List Entry → ℕ → Course → Bool → Type 0
IsOnItsWay s entries count c true = IsAtBuffer s entries count c
IsOnItsWay s entries count c false = IsBetween s entries count c

pub record IsRight (s : Selection) (entries : List Entry) (count : ℕ) (c : Course) : Type 0 where
  pub readable : AreReadable (told_of s entries)
  pub within : count ≤ length (told_of s entries)
  pub on_its_way : IsOnItsWay s entries count c (is_offering c)
