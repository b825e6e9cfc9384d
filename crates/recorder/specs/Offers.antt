-- What becomes of entries that are offered to an archive one after another. This product's own
-- rule.
use Rattle.std.specs.Prelude.{ℕ, ◌≡◌, ◌⊎◌, ◌+◌, ◌-◌, ◌<◌, ◌≤◌, Option, Some, None, List, ◌++◌, length}
use Rattle.std.specs.Prelude.{IsTrue}
use Rattle.std.specs.List.{fold, list_all}
use Rattle.archive_terms.specs.Archive.{Entry, is_valid}
use Rattle.record_form.specs.Spelling.{entry_octets}
use Rattle.frame_archive.specs.State.{ArchiveState, refusal, with_waiting}
use Rattle.frame_archive.specs.declared.fault.OfferFault.{OfferFault}
use Rattle.frame_archive.specs.declared.fault.OfferFault.TheVariants.{Backward, TooLong, Full}
use Rattle.recorder.specs.declared.recorded.Recorded.{Recorded}

-- entries that may be stored as one batch
abbrev pub IsBatch : List Entry → Type 0
IsBatch entries = (length entries ≤ 256) × IsTrue (list_all is_valid entries)

-- how many of the entries that were offered were dropped as backward or too long, how many as full,
-- and why the last one
pub record Dropped : Type 0 where
  pub refused : ℕ
  pub full : ℕ
  pub refusal : Option OfferFault

abbrev pub none_dropped : Dropped
none_dropped = record { refused = 0; full = 0; refusal = None }

-- what a refusal counts as: refused where the entry is backward or too long, or full; nothing is
-- dropped for another cause
abbrev pub refused_by : OfferFault → ℕ
refused_by Backward = 1
refused_by TooLong = 1
refused_by fault = 0

abbrev pub full_by : OfferFault → ℕ
full_by (Full need free) = 1
full_by fault = 0

-- one entry more was dropped
abbrev pub with_refusal : Dropped → OfferFault → Dropped
with_refusal dropped fault = record {
  refused = dropped.refused + refused_by fault;
  full = dropped.full + full_by fault;
  refusal = Some fault;
}

-- how many entries were dropped
abbrev pub how_many : Dropped → ℕ
how_many dropped = dropped.refused + dropped.full

-- what a step says it dropped
abbrev pub dropped_of : Recorded → Dropped
dropped_of recorded = record {
  refused = recorded.refused;
  full = recorded.full;
  refusal = recorded.refusal;
}

-- the same, of a step that dropped these
abbrev pub with_dropped : Recorded → Dropped → Recorded
with_dropped recorded dropped = record recorded {
  refused = dropped.refused;
  full = dropped.full;
  refusal = dropped.refusal;
}

-- an archive to which entries were offered, and what was dropped of them
pub record Offered (D : Type 0) : Type 0 where
  pub archive : ArchiveState D
  pub dropped : Dropped

abbrev pub offered : {D : Type 0} → ArchiveState D → Dropped → Offered D
offered archive dropped = record { archive = archive; dropped = dropped }

-- an entry that isn't refused waits behind the others, and one that is refused is dropped
abbrev pub by_refusal : {D : Type 0} → Offered D → Entry → Option OfferFault → Offered D
by_refusal before entry None = record before { archive = with_waiting before.archive entry }
by_refusal before entry (Some fault) = record before {
  dropped = with_refusal before.dropped fault;
}

abbrev pub after_offer : {D : Type 0} → Offered D → Entry → Offered D
after_offer before entry = by_refusal before entry (refusal before.archive entry)

-- the entries are offered in order, each behind those before it that weren't refused
unfoldable pub after_offers : {D : Type 0} → Offered D → List Entry → Offered D
after_offers before entries = fold after_offer before entries

-- Entries were offered until memory was wanted: those in front. The others are dropped, and aren't
-- counted.
pub record IsCutShort {D : Type 0} (start : Offered D) (entries : List Entry)
    (new : ArchiveState D) : Type 0 where
  pub front : List Entry
  pub rest : List Entry
  pub all : entries ≡ front ++ rest
  pub state : new ≡ (after_offers start front).archive

-- an entry has no room behind what is stored, or as many entries are as an archive holds
abbrev pub HasNoRoom : {D : Type 0} → ArchiveState D → Entry → Type 0
HasNoRoom archive entry =
    (archive.capacity - archive.used < length (entry_octets entry) + 7)
    ⊎ (4194304 ≤ archive.count)

-- entries are offered to an archive of which nothing was dropped yet
abbrev pub offered_to : {D : Type 0} → ArchiveState D → List Entry → Offered D
offered_to archive entries = after_offers (offered archive none_dropped) entries
