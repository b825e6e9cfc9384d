-- Whether entries are an archive, seen from the last times among them.
use Rattle.std.specs.Prelude.{◌≡◌, Option, Some, None, List, IsFalse}
use Rattle.archive_terms.specs.Archive.{Entry, IsArchive, is_archive, last_time, frame_time}
use Rattle.archive_terms.specs.Archive.{seal_time}
use Rattle.gate_journal.specs.declared.order.Times.{Times}

-- these are the last times of entries that are an archive, or there are none, and they aren't one
abbrev pub Knows : List Entry → Option Times → Type 0
Knows entries (Some times) =
    IsArchive entries × (times.frame ≡ last_time frame_time None entries)
    × (times.seal ≡ last_time seal_time None entries)
Knows entries None = IsFalse (is_archive entries)
