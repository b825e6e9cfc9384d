-- The entries of a file, as lines.
use Rattle.std.proofs.Common.{◌≡◌, ℕ, ◌+◌, ◌<◌, ◌≤◌, true, List, [], ◌++◌}
use Rattle.std.proofs.Common.{length, drop, get_or, refl, drop-cons, add-one}
use Rattle.std.proofs.lemmas.Bool.{and_parts}
use Rattle.std.proofs.lemmas.List.{drop_all}
use Rattle.std.specs.List.{list_all}
use Rattle.archive_terms.specs.Archive.{is_storable, is_ordered, IsArchive}
use Rattle.archive_terms.specs.Archive as terms
use Rattle.record_form.specs.declared.entry.Entry.{Entry}
use Rattle.record_form.specs.declared.entry.Entry.TheVariants.{Frame, LossOfSync, Production, Seal}
use Rattle.record_form.specs.Entry.{entry_of, entries_of}
use Rattle.sle_numbers.specs.FrameQuality as qualities
use Rattle.sle_numbers.specs.LockStatus as locks
use Rattle.sle_numbers.specs.ReturnProductionStatus as productions
use Rattle.sle_numbers.specs.declared.frame_quality.FrameQuality.{FrameQuality}
use Rattle.sle_numbers.specs.declared.lock_status.LockStatus.{LockStatus}
use Rattle.sle_numbers.specs.declared.return_production_status.ReturnProductionStatus.{ReturnProductionStatus}
use Rattle.drill_text.specs.Reading.{entry_text}
use Rattle.archive_commands.specs.Archives.{offered, entries_text, quality_at, lock_at}
use Rattle.archive_commands.specs.Archives.{production_at}

pub same_quality : (q : FrameQuality) → quality_at (qualities.number_of q) ≡ q
same_quality q = rw (qualities.each q).found refl

same_lock : (l : LockStatus) → lock_at (locks.number_of l) ≡ l
same_lock l = rw (locks.each l).found refl

same_production : (p : ReturnProductionStatus) → production_at (productions.number_of p) ≡ p
same_production p = rw (productions.each p).found refl

pub same_entry : (entry : Entry) → offered (entry_of entry) ≡ entry
same_entry (Frame ert quality antenna lost octets) = rw (same_quality quality) refl
same_entry (LossOfSync at carrier subcarrier symbol) =
    rw (same_lock carrier, same_lock subcarrier, same_lock symbol) refl
same_entry (Production status) = rw (same_production status) refl
same_entry (Seal at) = refl

-- the entry at a place, and those behind it
pub next_line : (entries : List Entry) (i : ℕ) (entry : Entry) → i < length entries
    → entry ≡ get_or entries i entry
    → entries_text (entries_of (drop i entries))
    ≡ entry_text (offered (entry_of entry)) ++ entries_text (entries_of (drop (i + 1) entries))
next_line entries i entry h here = rw (drop-cons entries i entry h, ← here, add-one) refl

pub no_lines : (entries : List Entry) (i : ℕ) → length entries ≤ i
    → entries_text (entries_of (drop i entries)) ≡ []
no_lines entries i past = rw (drop_all i entries past) refl

-- each entry of an archive may be stored
pub all_storable : (entries : List terms.Entry) → IsArchive entries
    → list_all is_storable entries ≡ true
all_storable entries archive =
    (and_parts (list_all is_storable entries) (is_ordered entries) archive).0
