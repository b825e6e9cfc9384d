-- What a store leaves that an order hits.
use Rattle.std.proofs.Common.{◌≡◌, ℕ, ◌-◌, ◌<◌, ◌≤◌, false, IsTrue}
use Rattle.std.proofs.Common.{is_some, nat_le, if◌then◌else◌, Option, Some, None, List, [], ◌∷◌}
use Rattle.std.proofs.Common.{◌++◌, length, refl}
use Rattle.std.proofs.Common.{sym, ap, ◌∙◌, arith}
use Rattle.std.proofs.lemmas.Bool.Decides.{nat_tests}
use Rattle.std.specs.List.{list_all}
use Rattle.archive_terms.specs.Archive.{Entry, IsArchive, is_storable}
use Rattle.octet_core.specs.FailingCalls.{fails_next}
use Rattle.disk_model.specs.Calls.{AllMade, FailedAtOne}
use Rattle.disk_model.specs.MemoryDisk.{DiskState, IsMadeCall, IsFailedCall, pending_of, steered}
use Rattle.disk_model.specs.MemoryDisk.{restarted, content_of, medium_of, synced_medium, counted}
use Rattle.disk_model.specs.MemoryDiskLaws.{or_false}
use Rattle.disk_model.specs.Images.{all_synced}
use Rattle.disk_model.specs.declared.call.Call.{Call}
use Rattle.disk_model.specs.declared.orders.Orders.{Orders}
use Rattle.disk_model.specs.declared.orders.Pick.{Pick}
use Rattle.disk_model.specs.declared.orders.Stop as disks
use Rattle.gate_journal.specs.File.{IsBatch, StandsFor, StandsAt}
use Rattle.gate_journal.specs.JournalState.{Keeps, IsAtRest, IsToStop, StopsIn, IsToFail, FailsIn}
use Rattle.gate_journal.specs.JournalState.{HasBatch}
use Rattle.gate_journal.specs.JournalState.{appending, leaves_batch, holds_batch}
use Rattle.frame_archive.specs.State.{ArchiveState}
use Rattle.script_store.specs.declared.order.Strike.{Strike}
use Rattle.script_store.specs.declared.order.Strike.TheVariants.{Stop, Fail}
use Rattle.script_store.specs.Entries.{used}
use Rattle.script_store.specs.IsHeld.{Rests}
use Rattle.script_store.specs.Storing.{no_orders, stop_at, orders_by, IsDown}
use Rattle.script_store.proofs.Disks.{restart_keeps}
use Rattle.script_store.proofs.WorldArchives.{stands_at}

-- ---- calls

none_of : {A : Type 0} (x : Option A) → is_some x ≡ false → x ≡ None
none_of None is = refl
none_of (Some a) is = absurd cc

-- a disk runs at a call that it makes, and behind it
runs_behind : (old new : DiskState) (call : Call) → IsMadeCall old call new → new.stopped ≡ None
runs_behind old new call made =
    ap (λ (d : DiskState). d.stopped) made.1
    ∙ none_of (counted old).stopped
    (or_false (is_some (counted old).stopped) (fails_next old.calls) made.0).0

pub runs_after : (calls : List Call) (old new : DiskState) → 0 < length calls
    → AllMade IsMadeCall old calls new → new.stopped ≡ None
runs_after [] old new some made = absurd (omega (arith, some))
runs_after (call ∷ []) old new some made =
    ap (λ (d : DiskState). d.stopped) made.2 ∙ runs_behind old made.0 call made.1
runs_after (call ∷ next ∷ calls) old new some made =
    runs_after (next ∷ calls) made.0 new (omega arith) made.2

-- a disk that has stopped makes none
pub stopped_makes : (old new : DiskState) (call : Call) (calls : List Call) (pick : Pick)
    → old.stopped ≡ Some pick → AllMade IsMadeCall old (call ∷ calls) new → ⊥
stopped_makes old new call calls pick stopped made =
    let no = (or_false (is_some (counted old).stopped) (fails_next old.calls) made.1.0).0 in
    absurd (grind (arith, no, stopped))

-- memory that was refused to a disk stays refused
ample_made : (calls : List Call) (old new : DiskState) → AllMade IsMadeCall old calls new
    → new.memory_refused ≡ old.memory_refused
ample_made [] old new made = ap (λ (d : DiskState). d.memory_refused) made
ample_made (call ∷ calls) old new made =
    ample_made calls made.0 new made.2 ∙ ap (λ (d : DiskState). d.memory_refused) made.1.1

pub ample_before : (calls : List Call) (old new : DiskState) → AllMade IsMadeCall old calls new
    → new.memory_refused ≡ false → old.memory_refused ≡ false
ample_before calls old new made ample = sym (ample_made calls old new made) ∙ ample

-- ---- laws of appends

-- a disk that is to stop in an append, or to fail a call of it
pub record Struck : Type 0 where
  pub to_stop : (disk : DiskState) (orders : Orders) (stop : disks.Stop) → disk.stopped ≡ None
      → orders.stop ≡ Some stop → orders.failing.failing ≡ [] → 0 < stop.calls
      → IsToStop (steered disk orders) stop
  pub no_stop : (disk after : DiskState) (gate : ℕ) (batch : List Entry) (stop : disks.Stop)
      → IsToStop disk stop → 0 < stop.calls → stop.calls ≤ 4
      → AllMade IsMadeCall disk (appending gate batch) after → ⊥
  pub stopped : (disk after : DiskState) (gate : ℕ) (batch : List Entry) (stop : disks.Stop)
      → StopsIn disk gate batch stop after → after.stopped ≡ Some stop.pick
  pub left : (disk after : DiskState) (gate : ℕ) (entries batch : List Entry) (stop : disks.Stop)
      → IsAtRest (Some (pending_of disk)) gate → Keeps (Some (pending_of disk)) entries
      → IsBatch batch → IsArchive (entries ++ batch) → StopsIn disk gate batch stop after
      → HasBatch (leaves_batch stop.calls stop.pick) entries batch gate
      (content_of (restarted after stop.pick))
  pub to_fail : (disk : DiskState) (orders : Orders) (k : ℕ) → disk.stopped ≡ None
      → orders.stop ≡ None → orders.failing ≡ record { failing = k ∷ []; made = 0 }
      → IsToFail (steered disk orders) k
  pub no_fault : (disk after : DiskState) (gate : ℕ) (batch : List Entry) (k : ℕ)
      → IsToFail disk k → 0 < k → k ≤ 4
      → AllMade IsMadeCall disk (appending gate batch) after → ⊥
  pub runs : (disk after : DiskState) (gate : ℕ) (batch : List Entry) (k : ℕ)
      → FailsIn disk gate batch k after → after.stopped ≡ None
  pub held : (disk after : DiskState) (gate : ℕ) (entries batch : List Entry) (k : ℕ)
      → IsAtRest (Some (pending_of disk)) gate → Keeps (Some (pending_of disk)) entries
      → IsBatch batch → IsArchive (entries ++ batch) → FailsIn disk gate batch k after
      → HasBatch (holds_batch k) entries batch gate (content_of after)
  pub storable : (stored batch : List Entry) → IsArchive (stored ++ batch)
      → IsTrue (list_all is_storable batch)

abbrev pub OneList : Type 0
OneList = (one other : List Entry) (file : List ℕ) → StandsFor one file → StandsFor other file
    → one ≡ other

-- what the calls of a store left that an order hits
module _ (laws : Struck) (calls : ℕ) (some : 0 < calls) (hit : IsTrue (nat_le calls 4))
    (archive : ArchiveState DiskState) (published : List Entry) (entry : Entry)
    (rests : Rests archive published) where
  within : calls ≤ 4
  within = grind (arith, nat_tests, hit)

  to_stop : (pick : Pick) → IsToStop (steered archive.disk (stop_at calls pick))
      (record { calls = calls; pick = pick })
  to_stop pick = laws.to_stop archive.disk (stop_at calls pick) _ rests.runs refl refl some

  to_fail : IsToFail (steered archive.disk (orders_by Fail calls)) calls
  to_fail = laws.to_fail archive.disk (orders_by Fail calls) calls rests.runs refl refl

  pub never_made : (strike : Strike) (after : DiskState)
      → AllMade IsMadeCall (steered archive.disk (orders_by strike calls))
      (appending (archive.used - 1) (entry ∷ [])) after → ⊥
  never_made (Stop pick) after made =
      laws.no_stop _ after _ (entry ∷ []) _ (to_stop pick) some within made
  never_made Fail after made = laws.no_fault _ after _ (entry ∷ []) calls to_fail some within made

  -- the batch was given to a store
  module _ (broken : DiskState) (ample : broken.memory_refused ≡ false) where
    stops_in : (pick : Pick)
        → FailedAtOne IsMadeCall IsFailedCall (steered archive.disk (stop_at calls pick))
        (appending (archive.used - 1) (entry ∷ [])) broken
        → StopsIn (steered archive.disk (stop_at calls pick)) (archive.used - 1) (entry ∷ [])
        (record { calls = calls; pick = pick }) broken
    stops_in pick failed = record {
      ordered = to_stop pick;
      some = some;
      within = within;
      failed = failed;
      ample = ample;
    }

    pub has_stopped : (pick : Pick)
        → FailedAtOne IsMadeCall IsFailedCall (steered archive.disk (stop_at calls pick))
        (appending (archive.used - 1) (entry ∷ [])) broken → broken.stopped ≡ Some pick
    has_stopped pick failed = laws.stopped _ broken _ _ _ (stops_in pick failed)

  module _ (broken : DiskState) (ample : broken.memory_refused ≡ false)
      (longer : IsArchive (published ++ entry ∷ []))
      (at_rest : IsAtRest (Some (pending_of archive.disk)) (archive.used - 1)) where
    batch : IsBatch (entry ∷ [])
    batch = record {
      some = omega arith;
      most = omega arith;
      storable = laws.storable published (entry ∷ []) longer;
    }

    pub stop_leaves : (pick : Pick)
        → FailedAtOne IsMadeCall IsFailedCall (steered archive.disk (stop_at calls pick))
        (appending (archive.used - 1) (entry ∷ [])) broken
        → StandsAt (if leaves_batch calls pick then published ++ entry ∷ [] else published)
        (used (if leaves_batch calls pick then published ++ entry ∷ [] else published) - 1)
        (content_of (restarted broken pick))
    stop_leaves pick failed =
        stands_at (leaves_batch calls pick) published entry (content_of (restarted broken pick))
        (rw rests.used_are at (laws.left _ broken _ published (entry ∷ []) _ at_rest
        (rests.acknowledges.kept rests.fresh) batch longer (stops_in broken ample pick failed)))

    pub fault_leaves : FailedAtOne IsMadeCall IsFailedCall
        (steered archive.disk (orders_by Fail calls)) (appending (archive.used - 1) (entry ∷ []))
        broken
        → StandsAt (if holds_batch calls then published ++ entry ∷ [] else published)
        (used (if holds_batch calls then published ++ entry ∷ [] else published) - 1)
        (content_of broken)
    fault_leaves failed =
        let fails : FailsIn (steered archive.disk (orders_by Fail calls)) (archive.used - 1)
        (entry ∷ []) calls broken = record {
          ordered = to_fail;
          some = some;
          within = within;
          failed = failed;
          ample = ample;
        } in
        stands_at (holds_batch calls) published entry (content_of broken)
        (rw rests.used_are at (laws.held _ broken _ published (entry ∷ []) _ at_rest
        (rests.acknowledges.kept rests.fresh) batch longer fails))

-- ---- a power failure between two calls

-- a law of disks in memory: where all is synced any stop leaves what a read gives
abbrev pub SyncedIsAll : Type 0
SyncedIsAll = (disk : DiskState) (octets : List ℕ) → pending_of disk ≡ all_synced octets
    → medium_of disk ≡ synced_medium octets

pub down_now : SyncedIsAll → OneList → (archive told now : ArchiveState DiskState) (pick : Pick)
    (published : List Entry) → Rests archive published
    → IsAtRest (Some (pending_of archive.disk)) (archive.used - 1)
    → told ≡ record archive { disk = steered archive.disk (stop_at 0 pick) }
    → now ≡ record told { disk = steered told.disk no_orders }
    → IsDown now published
down_now synced one archive told now pick published rests at_rest told_is now_is =
    let content = content_of archive.disk in
    let same = one at_rest.1 published content (archive.used - 1, at_rest.2)
    (rests.acknowledges.kept rests.fresh).1 in
    rw (now_is, told_is) (record {
      pick = pick;
      stopped = cc;
      unsteered = record { goes_on = refl; succeeds = refl; ample = rests.unsteered.ample };
      holds = rw (restart_keeps archive.disk pick content (synced archive.disk content at_rest.0))
          (rw (same, rests.used_are) at at_rest.2);
    })
