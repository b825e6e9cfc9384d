-- What a station has stored, in lists: no octet of a disk stands in it, and no cursor. This
-- product's own.
use Rattle.std.specs.Prelude.{ℕ, Bool, List, [], Option, None}
use Rattle.archive_terms.specs.Archive.{Entry}
use Rattle.disk_model.specs.MemoryDisk.{DiskState}
use Rattle.script_store.specs.declared.order.Order.{Order}

-- How many octets the archive's file may have; the entries that are acknowledged, each of which was
-- published in the line that stored it; those of a store that isn't over, of which the file holds
-- all or none behind them; and the order that stands for the disk, if one does.
pub record Store : Type 0 where
  pub capacity : ℕ
  pub published : List Entry
  pub unsettled : List Entry
  pub order : Option Order

-- nothing is stored
abbrev pub blank : ℕ → Store
blank capacity = record {
  capacity = capacity;
  published = [];
  unsettled = [];
  order = None;
}

-- A store as contracts see it: what it has, the disk that its archive's file lies on, and whether
-- memory was refused in the middle of a line, after which none is run.
pub record Recorded : Type 0 where
  pub state : Store
  pub disk : DiskState
  pub is_spent : Bool
