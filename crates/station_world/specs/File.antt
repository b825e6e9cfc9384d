-- The archive's file in a world: which lists it may stand for, and what happens to it. This
-- product's own.
use Rattle.std.specs.Prelude.{◌≡◌, ◌⊎◌, Bool, true, false, Option, Some, None, List, [], ◌∷◌, ◌++◌}
use Rattle.archive_terms.specs.Archive.{Entry}

-- No store stands open; one has begun, with this batch; or one of this batch failed or was cut off
-- by a power failure, and the file wasn't opened again since.
pub data Phase : Type 0 where
  settled : Phase
  in_store : List Entry → Phase
  broken_off : List Entry → Phase

-- What the last recovery found, and nothing where the file was just made; what was acknowledged
-- since then; what waits to be stored; and how the last store stands.
pub record File : Type 0 where
  pub found : List Entry
  pub kept : List Entry
  pub waiting : List Entry
  pub phase : Phase

-- the acknowledged entries
abbrev pub acknowledged : File → List Entry
acknowledged f = f.found ++ f.kept

-- the batch that the file may hold behind them
abbrev pub batch_of : Phase → List Entry
batch_of settled = []
batch_of (in_store batch) = batch
batch_of (broken_off batch) = batch

-- The one or two lists that the file may stand for: the acknowledged entries, and from a store's
-- begin up to its good end, or up to the next opening, these with its batch.
abbrev pub IsListOf : File → List Entry → Type 0
IsListOf f entries =
    (entries ≡ acknowledged f) ⊎ (entries ≡ acknowledged f ++ batch_of f.phase)

-- ---- what happens to it

-- the file was made
abbrev pub made : File
made = record { found = []; kept = []; waiting = []; phase = settled }

-- an entry is taken, and waits
abbrev pub with_offer : File → Entry → File
with_offer f entry = record f { waiting = f.waiting ++ entry ∷ [] }

-- a store of all that waits has begun
abbrev pub in_a_store : File → File
in_a_store f = record f { phase = in_store f.waiting }

-- these entries are acknowledged with the others: the file stands for one list, and nothing waits
abbrev pub with_kept : File → List Entry → File
with_kept f entries = record f { kept = f.kept ++ entries; waiting = []; phase = settled }

-- a store was broken off: the file may still stand for either list
abbrev pub with_break : File → File
with_break f = record f { phase = broken_off (batch_of f.phase) }

-- a store's good end makes the longer list the acknowledged one; a failed one leaves both
abbrev pub store_ended : File → Bool → File
store_ended f true = with_kept f (batch_of f.phase)
store_ended f false = with_break f

-- What an opening finds of a file's lists: the one with the batch, or the one without it; or it is
-- refused.
pub data Finding : Type 0 where
  with_batch : Finding
  without_batch : Finding
  refused : Finding

-- A reopen makes the list that it finds the acknowledged one and the only one, and nothing waits
-- behind it. One that is refused leaves the file's lists.
abbrev pub reopened : File → Finding → File
reopened f with_batch = with_kept f (batch_of f.phase)
reopened f without_batch = with_kept f []
reopened f refused = f

-- the power failed: what waits is gone, and a store that stood open is broken off
abbrev pub without_power : File → File
without_power f = record (with_break f) { waiting = [] }

-- the list that a recovery finds
abbrev pub found_by : File → Finding → Option (List Entry)
found_by f with_batch = Some (acknowledged f ++ batch_of f.phase)
found_by f without_batch = Some (acknowledged f)
found_by f refused = None

-- the file behind a recovery that found these entries
abbrev pub recovered : List Entry → File
recovered entries = record { found = entries; kept = []; waiting = []; phase = settled }
