-- What holds of an archive on a disk in memory and of what is published, step by step.
use Rattle.std.proofs.Common.{◌≡◌, inl, inr, ℕ, ◌+◌, ◌-◌, Bool, true, false, if◌then◌else◌}
use Rattle.std.proofs.Common.{IsTrue, Option, Some, None, option_map, List, [], ◌∷◌, ◌++◌, length}
use Rattle.std.proofs.Common.{refl, ap, add-zero, arith, Result, Ok, Err, OnErr}
use Rattle.std.proofs.lemmas.Bool.{and_parts}
use Rattle.std.proofs.Math.Nat.{sub-zero}
use Rattle.std.proofs.lemmas.List.{append-nil}
use Rattle.std.proofs.lemmas.List.Sums.{sum_by_push}
use Rattle.std.specs.List.{AllByRecursion, list_all}
use Rattle.archive_terms.specs.Archive.{Entry, IsArchive, is_storable, is_ordered, keeps_order}
use Rattle.archive_terms.specs.Archive.{is_in_order, last_time, frame_time, seal_time}
use Rattle.record_form.specs.Spelling.{entry_octets}
use Rattle.disk_model.specs.Images.{Pending, IsImage}
use Rattle.disk_model.specs.Moments.{IsImageOf}
use Rattle.disk_model.specs.MemoryDisk.{DiskState, pending_of, steered}
use Rattle.disk_model.specs.declared.orders.Orders.{Orders}
use Rattle.gate_journal.specs.File.{IsBatch, joined, StandsAt, StandsFor, entries_octets}
use Rattle.gate_journal.specs.JournalState.{Keeps, IsOldOrNew, HasBatch}
use Rattle.frame_archive.specs.declared.fault.OfferFault.{OfferFault}
use Rattle.frame_archive.specs.State as archives
use Rattle.frame_archive.specs.State.{ArchiveState, with_waiting, with_stored}
use Rattle.frame_archive.specs.State.{times_of, at_rest}
use Rattle.frame_archive.specs.Acknowledges.{Acknowledges}
use Rattle.frame_archive.specs.Faults.{IsRefusal}
use Rattle.script_store.specs.declared.refusal.Refusal.{Refusal}
use Rattle.script_store.specs.Store.{Store}
use Rattle.script_store.specs.Entries.{need, used, refusal}
use Rattle.script_store.specs.IsHeld.{told_by, IsAt, Rests, HoldsAllOrNone, fault_of}
use Rattle.script_store.proofs.Disks.{IsCalm}

-- ---- a file of no entries

no_batches : (batches : List (List Entry)) → AllByRecursion IsBatch batches → [] ≡ joined batches
    → batches ≡ []
no_batches [] each e = refl
no_batches ([] ∷ batches) each e = absurd (let some = each.0.some in omega arith)
no_batches ((entry ∷ batch) ∷ batches) each e = absurd cc

pub empty_place : (place : ℕ) (file : List ℕ) → StandsAt [] place file → place ≡ 8
empty_place place file stands =
    let none : stands.batches ≡ [] = no_batches stands.batches stands.leads.each
    stands.leads.entries_are in
    let there = rw none at stands.leads.there in
    omega (arith, there)

-- ---- an archive that rests

module _ (archive : ArchiveState DiskState) (entries : List Entry) (rests : Rests archive entries)
  where
    pub is_archive : IsArchive entries
    is_archive = simp (rests.waits, append-nil) at rests.acknowledges.agrees.archive

    last_times : archive.times ≡ times_of entries
    last_times = simp (rests.waits, append-nil) at rests.acknowledges.agrees.last

    pub calm : IsCalm archive.disk
    calm = record { runs = rests.runs; unsteered = rests.unsteered }

-- where all is synced each image stands for what is kept
abbrev pub AtRestStands : Type 0
AtRestStands = (pending : Option Pending) (entries : List Entry) (image : List ℕ)
    → Keeps pending entries → IsImageOf pending image → StandsFor entries image

-- each image of its disk stands for its entries
pub alone : AtRestStands → (archive : ArchiveState DiskState) (entries waiting : List Entry)
    → IsAt archive entries waiting
    → (image : List ℕ) → IsImage (pending_of archive.disk) image → StandsFor entries image
alone law archive entries waiting at image is =
    law (told_by archive.disk) entries image (at.acknowledges.kept at.fresh) is

pub stands_alone : (entries : List Entry) (image : List ℕ) → IsOldOrNew entries [] image
    → StandsFor entries image
stands_alone entries image (inl old) = old
stands_alone entries image (inr new) = rw append-nil at new

pub none_stored : AtRestStands → (archive : ArchiveState DiskState) (entries waiting : List Entry)
    → IsAt archive entries waiting → (batch : List Entry)
    → HoldsAllOrNone archive.disk entries batch
none_stored law archive entries waiting at batch image is =
    inl (alone law archive entries waiting at image is)

-- orders change nothing of what an archive has acknowledged
pub steered_still : (archive : ArchiveState DiskState) (orders : Orders) (entries : List Entry)
    → Acknowledges told_by archive entries
    → Acknowledges told_by (record archive { disk = steered archive.disk orders }) entries
steered_still archive orders entries old =
    record { agrees = old.agrees; tells = old.tells; images = old.images; kept = old.kept }

-- ---- refusals

-- an entry's order is seen from the last times
abbrev pub OrderIsSeen : Type 0
OrderIsSeen = (a : List Entry) (e : Entry) → IsTrue (is_ordered a)
    → keeps_order a e ≡ is_in_order (last_time frame_time None a) (last_time seal_time None a) e

pub same_refusal : OrderIsSeen → (archive : ArchiveState DiskState) (state : Store)
    → Rests archive state.published → archive.capacity ≡ state.capacity → (entry : Entry)
    → archives.refusal archive entry ≡ option_map fault_of (refusal state entry)
same_refusal seen archive state rests capacity entry =
    let published = state.published in
    let ordered = seen published entry (and_parts (list_all is_storable published)
    (is_ordered published) (is_archive archive published rests)).1 in
    rw (
      last_times archive published rests,
      ← ordered,
      rests.waits,
      ← rests.acknowledges.agrees.counted,
      capacity,
      rests.used_are,
      add-zero,
      sub-zero,
    )
    (grind arith)

-- what the archive refused so, the world refuses
pub refused_so : (found : Option Refusal) (fault : OfferFault) (why : Refusal)
    → IsRefusal (option_map fault_of found) fault → fault_of why ≡ fault → Some why ≡ found
refused_so None fault why is same = grind (arith, is, same)
refused_so (Some found) fault why is same = grind (arith, is, same)

pub none_of : OrderIsSeen → (archive : ArchiveState DiskState) (state : Store)
    → Rests archive state.published → archive.capacity ≡ state.capacity → (entry : Entry)
    → archives.refusal archive entry ≡ None → None ≡ refusal state entry
none_of seen archive state rests capacity entry is =
    let one = same_refusal seen archive state rests capacity entry in grind (arith, one, is)

-- ---- an entry more

pub used_more : (entries : List Entry) (entry : Entry)
    → used (entries ++ entry ∷ []) ≡ used entries + need entry
used_more entries entry = let more = sum_by_push need entries entry in omega (arith, more)

pub one_octets : (entry : Entry)
    → length (entries_octets (entry ∷ [])) ≡ length (entry_octets entry)
one_octets entry = ap (λ (octets : List ℕ). length octets) (append-nil (entry_octets entry))

pub wanted_one : (entry : Entry) → archives.wanted (entry ∷ []) ≡ need entry
wanted_one entry = ap (λ n. n + 7) (one_octets entry)

-- the file of an archive with an entry more, or without it
pub stands_at : (has : Bool) (entries : List Entry) (entry : Entry) (file : List ℕ)
    → HasBatch has entries (entry ∷ []) (used entries - 1) file
    → StandsAt (if has then entries ++ entry ∷ [] else entries)
    (used (if has then entries ++ entry ∷ [] else entries) - 1) file
stands_at true entries entry file stands =
    let there : used entries - 1 + (length (entries_octets (entry ∷ [])) + 7)
    ≡ used (entries ++ entry ∷ []) - 1 =
    omega (arith, used_more entries entry, one_octets entry) in
    rw there at stands
stands_at false entries entry file stands = stands

-- what holds whatever an error is
pub on_err : {T E P : Type 0} (result : Result T E) → P → OnErr result P
on_err (Ok value) holds = tt
on_err (Err error) holds = holds
