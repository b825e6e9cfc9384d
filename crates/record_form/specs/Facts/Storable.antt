-- Each of storable entries is storable.
use Rattle.std.proofs.Common.{◌≡◌, ℕ, ◌<◌, true, List}
use Rattle.std.proofs.Common.{length, get_or, IsTrue, arith}
use Rattle.std.specs.List.{list_all}
use Rattle.std.proofs.lemmas.List.{get_or-map, length-map}
use Rattle.std.proofs.lemmas.List.Folds.{list_all_at}
use Rattle.archive_terms.specs.Archive.{is_storable}
use Rattle.record_form.specs.declared.entry.Entry.{Entry}
use Rattle.record_form.specs.Entry.{entry_of, entries_of}

pub storable_at : (entries : List Entry) (i : ℕ) (entry : Entry) → i < length entries
    → entry ≡ get_or entries i entry → list_all is_storable (entries_of entries) ≡ true
    → IsTrue (is_storable (entry_of entry))
storable_at entries i entry there is all =
    grind (
      arith,
      list_all_at is_storable (entries_of entries) i (entry_of entry),
      get_or-map entry_of entries i entry (entry_of entry) there,
      length-map entries entry_of,
    )
