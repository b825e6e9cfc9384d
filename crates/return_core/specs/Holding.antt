-- The items that a delivery holds for its next message.
use Rattle.std.specs.Prelude.{◌≡◌, ℕ, ◌-◌, ◌^◌, ◌<◌, Bool, not, ◌&&◌, ◌==◌, if◌then◌else◌, Option, None, List}
use Rattle.std.specs.Prelude.{[], ◌∷◌, ◌++◌, length, take}
use Rattle.std.specs.List.{list_any, sum_by}
use Rattle.archive_terms.specs.Delivery.{backlog, end_of_data, is_notification, is_notice_item}
use Rattle.archive_terms.specs.Delivery.{frame_octets, is_complete, buffer_length, entries_of}
use Rattle.archive_terms.specs.Continuity.{last_frame}
use Rattle.archive_terms.specs.Glimpse.{place_behind, Glimpse}
use Rattle.archive_terms.specs.Placed.{ToldItem, items_of}
use Rattle.frame_select.specs.Item as select
use Rattle.frame_select.specs.declared.item.Item.{Item}
use Rattle.transfer_buffer.specs.Held.{Held}

-- for how many items there is room; the held ones as they are told; the place behind the last
-- picked entry that was put; the place of the last frame that was put; and when the first of the
-- held ones was put
pub record Holding : Type 0 where
  pub size : ℕ
  pub told : List ToldItem
  pub place : ℕ
  pub frame : Option ℕ
  pub since : ℕ

abbrev pub holding_of : Held Item → ℕ → Option ℕ → Holding
holding_of b place frame =
    record {
      size = b.size;
      told = select.items_of b.items;
      place = place;
      frame = frame;
      since = b.since;
    }

-- the buffer's numbers are those of its items, and its size is a number of 32 bits
pub record IsCounted (b : Held Item) : Type 0 where
  pub size : b.size < 2 ^ 32
  pub octets : b.octets ≡ sum_by frame_octets (items_of (select.items_of b.items))
  pub notified : b.notified ≡ list_any is_notification (items_of (select.items_of b.items))
  pub closing : b.closing ≡ list_any is_notice_item (items_of (select.items_of b.items))

-- nothing is held, and what is put next stands at a place or behind it
abbrev pub empty_holding : ℕ → ℕ → Holding
empty_holding size place = record { size = size; told = []; place = place; frame = None; since = 0 }

-- whether it takes a further item
abbrev pub takes_more : Holding → Bool
takes_more h = not (is_complete h.size (items_of h.told))

-- with items behind those that are held; the first item sets the moment
abbrev pub with_put : Holding → List ToldItem → ℕ → Holding
with_put h put now = record h {
  told = h.told ++ put;
  place = place_behind h.place (entries_of (items_of put));
  frame = last_frame h.frame (items_of put);
  since = if length h.told == 0 && not (length (h.told ++ put) == 0) then now else h.since;
}

-- how many of some items go in
abbrev pub fitting : Holding → List ToldItem → ℕ
fitting h items = buffer_length h.size (items_of h.told ++ items_of items) - length h.told

-- with as many of some items as go in
abbrev pub filled_with : Holding → List ToldItem → ℕ → Holding
filled_with h items now = with_put h (take (fitting h items) items) now

-- without what is held, of which the last frame before it is known
abbrev pub without_held : Holding → Option ℕ → Holding
without_held h frame = record h { told = []; frame = frame }

-- where nothing is held and a backlog is owed, it is the head
abbrev pub headed : Holding → Bool → ℕ → Holding
headed h owed now = record h {
  told = if owed && length h.told == 0 then (backlog, None) ∷ [] else h.told;
  since = if owed && length h.told == 0 then now else h.since;
}

-- where nothing is held and nothing more comes, end of data alone is held
abbrev pub ended_with : Holding → Bool → Holding
ended_with h last =
    record h { told = if length h.told == 0 && last then (end_of_data, None) ∷ [] else h.told }

-- whether nothing more comes behind the items of a glimpse
abbrev pub is_last_of : Holding → Bool → Glimpse → ℕ → Bool
is_last_of h owed g now =
    g.closed && (not g.more && fitting (headed h owed now) g.items == length g.items)

-- filled from a glimpse
abbrev pub filled_at : Holding → Bool → Glimpse → ℕ → Holding
filled_at h owed g now =
    ended_with (filled_with (headed h owed now) g.items now) (is_last_of h owed g now)
