-- What an archive is once it is opened again.
use Rattle.std.proofs.Common.{◌≡◌, ℕ, ◌-◌, MatchOption}
use Rattle.std.proofs.Common.{List, [], ◌∷◌, refl}
use Rattle.std.proofs.Common.{arith}
use Rattle.archive_terms.specs.Archive.{Entry}
use Rattle.disk_model.specs.Calls.{AllMade}
use Rattle.disk_model.specs.MemoryDisk.{DiskState, IsMadeCall, content_of, restarted}
use Rattle.disk_model.specs.declared.call.Call.TheVariants.{Sync}
use Rattle.gate_journal.specs.File.{StandsAt}
use Rattle.frame_archive.specs.State.{ArchiveState, at_rest}
use Rattle.frame_archive.specs.Acknowledges.{Acknowledges, Uses}
use Rattle.script_store.specs.Entries.{used}
use Rattle.script_store.specs.IsHeld.{told_by, Rests}
use Rattle.script_store.specs.Storing.{IsDown}
use Rattle.script_store.proofs.Disks.{calm_after}
use Rattle.script_store.proofs.Striking.{OneList}

-- a file's gate stands at one place
abbrev pub OnePlace : Type 0
OnePlace = (one other : List Entry) (place there : ℕ) (file : List ℕ) → StandsAt one place file
    → StandsAt other there file → place ≡ there

-- what a file's reading found is what it stands for, and it uses what these use
module _ (one : OneList) (place : OnePlace) (left found : List Entry) (octets : ℕ) (file : List ℕ)
    (stands : StandsAt left (used left - 1) file) (uses : Uses found octets file) where
  pub found_is : found ≡ left
  found_is = one found left file (uses.0, uses.2) (used left - 1, stands)

  pub uses_are : octets ≡ used left
  uses_are =
      omega (arith, place found left uses.0 (used left - 1) file uses.2 stands, uses.1)

-- ---- behind a power failure

module _ (one : OneList) (place : OnePlace) (archive back now : ArchiveState DiskState)
    (left found : List Entry) (down : IsDown archive left)
    (back_is : MatchOption archive.disk.stopped (back.disk ≡ archive.disk)
    (λ pick. back.disk ≡ restarted archive.disk pick))
    (uses : Uses found now.used (content_of back.disk)) where
  back_disk : back.disk ≡ restarted archive.disk down.pick
  back_disk = rw down.stopped at back_is

  there : StandsAt left (used left - 1) (content_of back.disk)
  there = rw back_disk down.holds

  pub found_left : found ≡ left
  found_left = found_is one place left found now.used (content_of back.disk) there uses

  pub rests_left : (capacity : ℕ) → now ≡ at_rest now.disk capacity now.used found
      → Acknowledges told_by now found → AllMade IsMadeCall back.disk (Sync ∷ []) now.disk
      → Rests now left
  rests_left capacity now_is acknowledges made =
      let calm = calm_after (Sync ∷ []) back.disk now.disk (rw back_disk (record {
        runs = refl;
        unsteered = record {
          goes_on = down.unsteered.goes_on;
          succeeds = down.unsteered.succeeds;
          ample = down.unsteered.ample;
        };
      })) made in
      record {
        acknowledges = rw found_left at acknowledges;
        waits = cc;
        fresh = cc;
        used_are = uses_are one place left found now.used (content_of back.disk) there uses;
        runs = calm.runs;
        unsteered = calm.unsteered;
      }
