-- How a look goes on.
use Rattle.std.specs.Prelude.{◌≡◌, ℕ, ◌+◌, ◌-◌, Bool, true, false, ◌||◌, ◌==◌, nat_lt, List, map}
use Rattle.std.specs.Prelude.{length, Option, Some, None, ℤ, pos, negsuc}
use Rattle.std.specs.Option.{option_or}
use Rattle.archive_terms.specs.Archive.{Entry, seal}
use Rattle.archive_terms.specs.Selection.{Selection}
use Rattle.archive_terms.specs.Delivery.{archived, archived_items, frame_octets}
use Rattle.archive_terms.specs.Continuity.{frame_place, told_items}
use Rattle.archive_terms.specs.Glimpse.{Wanted, picked_from, given_of, place_behind}
use Rattle.frame_select.specs.Item.{said_of}
use Rattle.archive_index.specs.declared.cursor.Cursor.{Cursor}
use Rattle.archive_index.specs.declared.look.Given.{Given}

-- what is wanted, and how far a look has come
abbrev pub wanted_of : Selection → Cursor → Wanted
wanted_of s c = record {
  selection = s;
  place = c.place;
  since = c.since;
  room = c.room;
  octets = c.octets;
}

abbrev pub is_full : Cursor → Bool
is_full c = c.room == 0 || c.octets == 0

-- behind an entry that was given
abbrev pub behind : Cursor → ℕ → Entry → Cursor
behind c place entry = record {
  place = place + 1;
  since = option_or (frame_place (archived place entry)) c.since;
  room = c.room - 1;
  octets = c.octets - frame_octets (archived place entry);
}

-- a frame's continuity, by the frames lost since the one before it, if there is one
abbrev pub continuity_by : Option ℕ → ℕ → ℤ
continuity_by None lost = negsuc 0
continuity_by (Some _) lost = pos lost

-- a seal is told to no one
abbrev pub is_told_of : Entry → Bool
is_told_of (seal _) = false
is_told_of _ = true

-- what a look gives of what is wanted
pub record Gives (entries : List Entry) (w : Wanted) (given : Given) : Type 0 where
  pub items : given.items ≡ map said_of (told_items entries w.since
      (archived_items (given_of entries w)))
  pub next : given.next ≡ place_behind w.place (given_of entries w)
  pub more : given.more ≡ nat_lt (length (given_of entries w))
      (length (picked_from entries w.selection w.place))
