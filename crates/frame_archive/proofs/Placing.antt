-- How many octets an archive's file uses that is to be opened again.
use Rattle.std.proofs.Common.{◌≡◌, inl, inr, ℕ, ◌+◌, ◌-◌, ◌≤◌, Bool, true, false, Option, Some, None}
use Rattle.std.proofs.Common.{is_some, IfSome, MatchOption, List, [], ◌∷◌, ◌++◌, length, take}
use Rattle.std.proofs.Common.{Result, Ok, Err, OnOk, OnErr, refl, sym, ap, subst, ◌∙◌, arith}
use Rattle.std.proofs.Common.{length-append}
use Rattle.std.proofs.lemmas.List.{take_all, length-take-le}
use Rattle.std.proofs.lemmas.List.Sums.{fold_push}
use Rattle.archive_terms.specs.Archive.{Entry}
use Rattle.disk_model.specs.Images.{IsImage, Pending, IsCoherent, all_synced}
use Rattle.disk_model.specs.Moments.{IsImageOf}
use Rattle.disk_model.specs.Facts.Images.{only_synced}
use Rattle.disk_model.specs.MemoryDisk.{DiskState, Medium, after_event, restarted, pending_of}
use Rattle.disk_model.specs.MemoryDisk.{content_of, medium_of, left_by, synced_medium}
use Rattle.disk_model.specs.declared.event.Event.TheVariants.{Restarted}
use Rattle.disk_model.specs.declared.orders.Pick.{Pick}
use Rattle.gate_journal.specs.File.{StandsFor, StandsAt, entries_octets}
use Rattle.gate_journal.specs.JournalState.{JournalState, Keeps, IsAtRest, IsInPlace}
use Rattle.gate_journal.specs.declared.order.Times.{Times}
use Rattle.frame_archive.specs.State.{wanted}
use Rattle.frame_archive.specs.Acknowledges.{Agrees, UsesOldOrNew, IsPlaced, IsSound}

-- ---- a store failed

wanted_some : (waiting : List Entry) → 1 ≤ length waiting
    → wanted waiting ≡ length (entries_octets waiting) + 7
wanted_some [] some = absurd (omega arith)
wanted_some (entry ∷ entries) some = refl

used_in_place : (entries waiting : List Entry) (gate used given : ℕ) (image : List ℕ)
    → used ≡ gate + 1 → 1 ≤ length waiting → given ≡ length waiting
    → IsInPlace entries waiting gate image → UsesOldOrNew entries (take given waiting) used image
used_in_place entries waiting gate used given image used_is some all (inl old) =
    inl (gate, used_is, old)
used_in_place entries waiting gate used given image used_is some all (inr new) =
    subst (λ (batch : List Entry). UsesOldOrNew entries batch used image)
    (sym (take_all given waiting (omega (arith, all)))) (inr (
      gate + (length (entries_octets waiting) + 7),
      omega (arith, used_is, wanted_some waiting some),
      new,
    ))

pub placed_failed : (old new : Option Pending) (gate used count given : ℕ) (times : Times)
    (waiting : List Entry) → used ≡ gate + 1 → 1 ≤ length waiting → given ≡ length waiting
    → is_some new ≡ is_some old
    → IfSome old (λ _. (entries : List Entry) × Keeps old entries
    × Agrees entries count times waiting)
    → ((entries : List Entry) → Keeps old entries → (image : List ℕ) → IsImageOf new image
    → IsInPlace entries waiting gate image)
    → IsPlaced new count used (take given waiting)
placed_failed old None gate used count given times waiting used_is some all tells keeps placed = tt
placed_failed (Some told) (Some now) gate used count given times waiting used_is some all tells
    keeps placed = (
      keeps.0,
      keeps.2.counted,
      λ image is. used_in_place keeps.0 waiting gate used given image used_is some all
          (placed keeps.0 keeps.1 image is),
    )
placed_failed None (Some now) gate used count given times waiting used_is some all tells keeps
    placed = absurd (cc)

pub sound_failed : {D : Type 0} (pending : D → Option Pending) (old new : JournalState D)
    (capacity count used failed given octets : ℕ) (times : Times) (waiting : List Entry)
    (is_stale : Bool) → is_stale ≡ false → 1 ≤ length waiting → given ≡ length waiting
    → is_some (pending new.disk) ≡ is_some (pending old.disk)
    → ((entries : List Entry) → Keeps (pending old.disk) entries → (image : List ℕ)
    → IsImageOf (pending new.disk) image → IsInPlace entries waiting old.gate image)
    → IsSound pending old capacity count used failed octets times waiting is_stale
    → IsSound pending new capacity count used given octets times waiting true
sound_failed pending old new capacity count used failed given octets times waiting is_stale is_open
    some all tells placed sound =
    let was = sound.open_ is_open in record {
      within = sound.within;
      waits = record {
        octets_are = sound.waits.octets_are;
        most = sound.waits.most;
        storable = sound.waits.storable;
        some_failed = omega (arith, all);
      };
      open_ = λ fresh. absurd (cc);
      placed = λ stale. placed_failed (pending old.disk) (pending new.disk) old.gate used count
          given times waiting was.used_are some all tells was.keeps placed;
    }

-- ---- a reopen was refused, or the disk was started again

placed_moves : (old new : Option Pending) (count used : ℕ) (batch : List Entry)
    → is_some new ≡ is_some old
    → ((image : List ℕ) → IsImageOf new image → IsImageOf old image)
    → IsPlaced old count used batch → IsPlaced new count used batch
placed_moves old None count used batch tells images placed = tt
placed_moves (Some told) (Some now) count used batch tells images placed =
    (placed.0, placed.1, λ image is. placed.2 image (images image is))
placed_moves None (Some now) count used batch tells images placed = absurd (cc)

synced_of : (disk : DiskState) (octets : List ℕ) → medium_of disk ≡ synced_medium octets
    → pending_of disk ≡ all_synced (content_of disk)
synced_of disk octets is = ap (λ (m : Medium). m.pending) is
    ∙ ap (λ (m : Medium). all_synced m.pending.content) (sym is)

-- a restart of a disk in memory leaves one of its images alone
by_pick : (old new : DiskState) (stopped : Option Pick)
    → MatchOption stopped (new ≡ old) (λ pick. new ≡ restarted old pick)
    → IsImage (pending_of old) (content_of new) → (image : List ℕ) → IsImage (pending_of new) image
    → IsImage (pending_of old) image
by_pick old new None same left image is =
    subst (λ (disk : DiskState). IsImage (pending_of disk) image) same is
by_pick old new (Some pick) same left image is =
    let synced : pending_of new ≡ all_synced (content_of new) =
    synced_of new (left_by pick (medium_of old)) (ap medium_of same
    ∙ fold_push after_event (synced_medium old.start) old.log (Restarted pick)) in
    rw (only_synced (content_of new) image (subst (λ (p : Pending). IsImage p image) synced is))
    left

pub restarted_images : {T E : Type 0} (result : Result T E) (old new : DiskState)
    → OnOk result (MatchOption old.stopped (new ≡ old) (λ pick. new ≡ restarted old pick))
    → OnErr result (new ≡ old) → OnOk result (IsImage (pending_of old) (content_of new))
    → (image : List ℕ) → IsImage (pending_of new) image → IsImage (pending_of old) image
restarted_images (Ok done) old new restarts same left = by_pick old new old.stopped restarts left
restarted_images (Err refused) old new restarts same left = λ image is.
    subst (λ (disk : DiskState). IsImage (pending_of disk) image) same is

-- ---- an archive to be opened again

module _ (one_list : (one other : List Entry) (file : List ℕ) → StandsFor one file
    → StandsFor other file → one ≡ other) where
  placed_open : (pending : Option Pending) (gate count used : ℕ) (times : Times)
      (waiting batch : List Entry) → used ≡ gate + 1 → IsAtRest pending gate
      → IfSome pending (λ _. (entries : List Entry) × Keeps pending entries
      × Agrees entries count times waiting)
      → IsPlaced pending count used batch
  placed_open None gate count used times waiting batch used_is at_rest keeps = tt
  placed_open (Some told) gate count used times waiting batch used_is at_rest keeps =
      let same : at_rest.1 ≡ keeps.0 =
      one_list at_rest.1 keeps.0 told.content (gate, at_rest.2) keeps.1.1 in (
        keeps.0,
        keeps.2.counted,
        λ image is. rw (only_synced told.content image (rw keeps.1.0 at is)) (inl (
          gate,
          used_is,
          subst (λ (entries : List Entry). StandsAt entries gate told.content) same at_rest.2,
        )),
      )

  pub placed_now : {D : Type 0} (pending : D → Option Pending) (journal : JournalState D)
      (capacity count used failed octets : ℕ) (times : Times) (waiting : List Entry)
      (is_stale : Bool) → (journal.is_stale ≡ false → IsAtRest (pending journal.disk) journal.gate)
      → IsSound pending journal capacity count used failed octets times waiting is_stale
      → IsPlaced (pending journal.disk) count used (take failed waiting)
  placed_now pending journal capacity count used failed octets times waiting true at_rest sound =
      sound.placed refl
  placed_now pending journal capacity count used failed octets times waiting false at_rest sound =
      let now = sound.open_ refl in
      placed_open (pending journal.disk) journal.gate count used times waiting (take failed waiting)
      now.used_are (at_rest now.fresh) now.keeps

  pub sound_stale : {D : Type 0} (pending : D → Option Pending) (old new : JournalState D)
      (capacity count used failed octets : ℕ) (times : Times) (waiting : List Entry)
      (is_stale : Bool) → (old.is_stale ≡ false → IsAtRest (pending old.disk) old.gate)
      → is_some (pending new.disk) ≡ is_some (pending old.disk)
      → ((image : List ℕ) → IsImageOf (pending new.disk) image
      → IsImageOf (pending old.disk) image)
      → IsSound pending old capacity count used failed octets times waiting is_stale
      → IsSound pending new capacity count used failed octets times waiting true
  sound_stale pending old new capacity count used failed octets times waiting is_stale at_rest tells
      images sound = record {
        within = sound.within;
        waits = sound.waits;
        open_ = λ fresh. absurd (cc);
        placed = λ stale. placed_moves (pending old.disk) (pending new.disk) count used
            (take failed waiting) tells images
            (placed_now pending old capacity count used failed octets times waiting is_stale at_rest
            sound);
      }

  -- ---- what a reopen finds

  module _ (one_place : (one other : List Entry) (place there : ℕ) (file : List ℕ)
      → StandsAt one place file → StandsAt other there file → place ≡ there) where
    found_there : (entries found waiting : List Entry) (count used failed gate : ℕ)
        (file : List ℕ) → length entries ≡ count → failed ≤ length waiting
        → StandsAt found gate file → UsesOldOrNew entries (take failed waiting) used file
        → gate + 1 ≡ used + wanted (take (length found - count) waiting)
    found_there entries found waiting count used failed gate file counted few stands (inl is) =
        let same = ap length (one_list found entries file (gate, stands) (is.0, is.2)) in
        let none : length found - count ≡ 0 = omega (arith, same, counted) in
        let place = one_place found entries gate is.0 file stands is.2 in
        rw none (omega (arith, place, is.1))
    found_there entries found waiting count used failed gate file counted few stands (inr is) =
        let batch : length (take failed waiting) ≡ failed = length-take-le failed waiting few in
        let same = ap length (one_list found (entries ++ take failed waiting) file (gate, stands)
        (is.0, is.2)) in
        let all : length found - count ≡ failed =
        omega (arith, same, counted, batch, length-append entries (take failed waiting)) in
        let place = one_place found (entries ++ take failed waiting) gate is.0 file stands is.2 in
        rw all (omega (arith, place, is.1))

    pub used_found : (pending : Option Pending) (found waiting : List Entry)
        (count used failed gate new_count new_used : ℕ) → failed ≤ length waiting
        → new_count ≡ length found → new_used ≡ gate + 1
        → IfSome pending IsCoherent → IfSome pending (λ told. StandsAt found gate told.content)
        → IsPlaced pending count used (take failed waiting)
        → IfSome pending (λ _. new_used ≡ used + wanted (take (new_count - count) waiting))
    used_found (Some told) found waiting count used failed gate new_count new_used few count_is
        used_is coherent stands placed =
        rw (count_is, used_is) (found_there placed.0 found waiting count used failed gate
        told.content placed.1 few stands (placed.2 told.content coherent.content))
    used_found None found waiting count used failed gate new_count new_used few count_is used_is
        coherent stands placed = tt
