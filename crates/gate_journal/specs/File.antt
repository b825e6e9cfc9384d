-- What a file of gated batches stands for. This product's own form; numbers stand with the high
-- octet first.
use Rattle.std.specs.Prelude.{ℕ, ◌+◌, ◌≤◌, ◌≡◌, ◌≢◌, IsTrue, List, [], ◌∷◌, ◌++◌, length}
use Rattle.std.specs.List.{AllByRecursion, flat_map, list_all}
use Rattle.std.specs.Int.{w16, w32, to_be_bytes}
use Rattle.archive_terms.specs.Archive.{Entry, IsArchive, is_storable}
use Rattle.record_form.specs.Spelling.{entry_octets}

-- the eight octets at the front: SLEA, and the form 1
abbrev pub header : List ℕ
header = 83 ∷ 76 ∷ 69 ∷ 65 ∷ 0 ∷ 0 ∷ 0 ∷ 1 ∷ []

-- entries, one after another
abbrev pub entries_octets : List Entry → List ℕ
entries_octets entries = flat_map entry_octets entries

-- a batch: how many octets its entries have, how many entries there are, and the entries
abbrev pub batch_octets : List Entry → List ℕ
batch_octets batch = to_be_bytes w32 (length (entries_octets batch))
    ++ (to_be_bytes w16 (length batch) ++ entries_octets batch)

-- a batch has 1 to 256 entries
pub record IsBatch (batch : List Entry) : Type 0 where
  pub some : 1 ≤ length batch
  pub most : length batch ≤ 256
  pub storable : IsTrue (list_all is_storable batch)

-- each batch behind an open gate (A5)
abbrev pub gated : List (List Entry) → List ℕ
gated [] = []
gated (batch ∷ batches) = 165 ∷ (batch_octets batch ++ gated batches)

-- the entries of all batches
abbrev pub joined : List (List Entry) → List Entry
joined [] = []
joined (batch ∷ batches) = batch ++ joined batches

-- The header and batches behind open gates stand at the front of a file, up to a place, and their
-- entries are an archive.
pub record Leads (batches : List (List Entry)) (entries : List Entry) (place : ℕ) : Type 0 where
  pub each : AllByRecursion IsBatch batches
  pub entries_are : entries ≡ joined batches
  pub archive : IsArchive entries
  pub there : place ≡ 8 + length (gated batches)

-- A file stands for entries: the header, batches behind open gates, and then a gate that isn't
-- open, at this place. The entries are those of the batches, and an archive. Anything may follow
-- the gate.
pub record StandsAt (entries : List Entry) (place : ℕ) (file : List ℕ) : Type 0 where
  pub batches : List (List Entry)
  pub gate : ℕ
  pub rest : List ℕ
  pub leads : Leads batches entries place
  pub shut : gate ≢ 165
  pub is : file ≡ header ++ (gated batches ++ gate ∷ rest)

abbrev pub StandsFor : List Entry → List ℕ → Type 0
StandsFor entries file = (place : ℕ) × StandsAt entries place file
