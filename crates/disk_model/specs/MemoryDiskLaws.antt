-- What the disk in memory proves of itself as a disk.
use Rattle.std.specs.Prelude.{ℕ, ◌<◌, ◌≤◌, ◌≡◌, Bool, true, false, ◌||◌, slice_index, List, [], ◌∷◌}
use Rattle.std.specs.Prelude.{length, take, fold, refl}
use Rattle.std.proofs.Common.{arith, ◌∙◌, sym, subst}
use Rattle.std.proofs.lemmas.List.{take_all, places}
use Rattle.std.proofs.lemmas.Bool.Decides.{nat_tests}
use Rattle.std.proofs.lemmas.Grind.{common_steps}
use Rattle.disk_model.specs.Images.{Pending, IsImage, IsCoherent, all_synced, after_write}
use Rattle.disk_model.specs.Images.{after_cut, overwritten, is_inside}
use Rattle.disk_model.specs.MemoryDisk.{Medium, DiskState, IsImageSince, synced_medium, after_event}
use Rattle.disk_model.specs.MemoryDisk.{left_by, medium_after, pending_of, torn_half}
use Rattle.disk_model.specs.declared.call.Call.TheVariants.{Write, Cut, Sync}
use Rattle.disk_model.specs.declared.event.Event.{Event}
use Rattle.disk_model.specs.declared.event.Event.TheVariants.{Made, Restarted}
use Rattle.disk_model.specs.declared.orders.Pick.{Pick}
use Rattle.disk_model.specs.declared.orders.Pick.TheVariants.{Old, New, Torn}

pub or_false : (a b : Bool) → (a || b) ≡ false → (a ≡ false) × (b ≡ false)
or_false false b free = (refl, free)
or_false true b free = absurd (cc)

-- a write changes no octet outside of its range
pub written_elsewhere : (content octets : List ℕ) (place at : ℕ) → at < length content
    → is_inside at (place, length octets) ≡ false
    → slice_index (overwritten content place octets) at ≡ slice_index content at
written_elsewhere content octets place at below outside = grind (arith, places, nat_tests)

length-torn : (octets : List ℕ) → length (torn_half octets) ≡ length octets
length-torn octets = grind (arith, common_steps)

-- an image stays one where a write doesn't take effect, and becomes one where it does, whole or
-- torn
module _ (pending : Pending) (image : List ℕ) (is : IsImage pending image) where
  cut_image : (size : ℕ) → IsImage (after_cut size pending) (take size image)
  cut_image size = grind (arith, common_steps)

  kept_image : (place : ℕ) (octets : List ℕ) → IsImage (after_write place octets pending) image
  kept_image place octets = grind (arith, common_steps)

  written_image : (place : ℕ) (octets written : List ℕ) → length written ≡ length octets
      → IsImage (after_write place octets pending) (overwritten image place written)
  written_image place octets written same_length = record {
    no_shorter = grind (arith, common_steps);
    no_longer = grind (arith, common_steps);
    kept = λ at below free. written_elsewhere image written place at (omega (arith, is.no_shorter))
        (rw same_length (or_false _ _ free).0) ∙ is.kept at below (or_false _ _ free).1;
  }

-- what a read gives is an image, and what a stop leaves by any pick
record IsSound (medium : Medium) : Type 0 where
  pub read : IsCoherent medium.pending
  pub old : IsImage medium.pending medium.old
  pub torn : IsImage medium.pending medium.torn

pub coherent_sync : (octets : List ℕ) → IsCoherent (all_synced octets)
coherent_sync octets = record {
  synced = omega arith;
  content = record {
    no_shorter = omega arith;
    no_longer = omega arith;
    kept = λ place below free. refl;
  };
}

sound_sync : (octets : List ℕ) → IsSound (synced_medium octets)
sound_sync octets = record {
  read = coherent_sync octets;
  old = (coherent_sync octets).content;
  torn = (coherent_sync octets).content;
}

sound_more : (event : Event) (medium : Medium) → IsSound medium → IsSound (after_event medium event)
sound_more (Made (Write place octets)) medium sound = record {
  read = record {
    synced = sound.read.synced;
    content = written_image medium.pending medium.pending.content sound.read.content place octets
        octets refl;
  };
  old = kept_image medium.pending medium.old sound.old place octets;
  torn = written_image medium.pending medium.torn sound.torn place octets (torn_half octets)
      (length-torn octets);
}
sound_more (Made (Cut size)) medium sound = record {
  read = record {
    synced = grind (arith, sound.read.synced);
    content = cut_image medium.pending medium.pending.content sound.read.content size;
  };
  old = cut_image medium.pending medium.old sound.old size;
  torn = cut_image medium.pending medium.torn sound.torn size;
}
sound_more (Made Sync) medium sound = sound_sync medium.pending.content
sound_more (Restarted pick) medium sound = sound_sync (left_by pick medium)

sound_on : (log : List Event) (medium : Medium) → IsSound medium
    → IsSound (fold after_event medium log)
sound_on [] medium sound = sound
sound_on (event ∷ log) medium sound = sound_on log (after_event medium event)
    (sound_more event medium sound)

sound_after : (start : List ℕ) (log : List Event) → IsSound (medium_after start log)
sound_after start log = sound_on log (synced_medium start) (sound_sync start)

left_is_image : (pick : Pick) (medium : Medium) → IsSound medium
    → IsImage medium.pending (left_by pick medium)
left_is_image Old medium sound = sound.old
left_is_image New medium sound = sound.read.content
left_is_image Torn medium sound = sound.torn

-- what a read gives is an image, after the events of any log
pub is_coherent : (disk : DiskState) → IsCoherent (pending_of disk)
is_coherent disk = (sound_after disk.start disk.log).read

-- and so is what a stop leaves
pub left_after_stop : (pick : Pick) (start : List ℕ) (log : List Event)
    → IsImage (medium_after start log).pending (left_by pick (medium_after start log))
left_after_stop pick start log = left_is_image pick (medium_after start log) (sound_after start log)

-- the present images are among those since an earlier moment
pub counted_now : (disk : DiskState) (since : ℕ) (image : List ℕ) → since ≤ length disk.log
    → IsImage (pending_of disk) image → IsImageSince disk since image
counted_now disk since image earlier is = (
  length disk.log,
  earlier,
  omega arith,
  subst (λ (log : List Event). IsImage (medium_after disk.start log).pending image)
      (sym (take_all (length disk.log) disk.log (omega arith))) is,
)

-- and since now there are no others
pub only_one_now : (disk : DiskState) (image : List ℕ) → IsImageSince disk (length disk.log) image
    → IsImage (pending_of disk) image
only_one_now disk image since =
    subst (λ (log : List Event). IsImage (medium_after disk.start log).pending image)
    (take_all since.0 disk.log since.1) since.3
