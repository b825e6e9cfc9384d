-- What a stop in an append leaves on a disk in memory.
use Rattle.std.proofs.Common.{◌≡◌, ◌≢◌, ℕ, zero, suc, ◌+◌, ◌-◌, ◌<◌, ◌≤◌, Bool, true, false}
use Rattle.std.proofs.Common.{not, IsFalse, if◌then◌else◌, List, [], ◌∷◌, ◌++◌, length, fold, take}
use Rattle.std.proofs.Common.{Option, Some, None, refl, sym, ◌∙◌, ap, subst, arith}
use Rattle.std.proofs.lemmas.List.Sums.{fold-append}
use Rattle.archive_terms.specs.Archive.{Entry, IsArchive}
use Rattle.octet_core.specs.Fault.{last_count}
use Rattle.record_form.specs.Reading.{ReadBack}
use Rattle.disk_model.specs.Images.{Pending, all_synced, overwritten}
use Rattle.disk_model.specs.Calls.{FailedAtOne}
use Rattle.disk_model.specs.MemoryDisk.{DiskState, Medium, RunIs, IsMadeCall, IsFailedCall}
use Rattle.disk_model.specs.MemoryDisk.{run_as_ordered, calls_until_stop, medium_of, pending_of}
use Rattle.disk_model.specs.MemoryDisk.{synced_medium, left_by, after_call, after_event, torn_half}
use Rattle.disk_model.specs.MemoryDisk.{restarted, content_of}
use Rattle.disk_model.specs.declared.call.Call.{Call}
use Rattle.disk_model.specs.declared.event.Event.TheVariants.{Restarted}
use Rattle.disk_model.specs.declared.orders.Pick.{Pick}
use Rattle.disk_model.specs.declared.orders.Pick.TheVariants.{Old, New, Torn}
use Rattle.disk_model.specs.declared.orders.Stop.{Stop}
use Rattle.gate_journal.specs.File.{IsBatch, StandsAt, StandsFor, entries_octets}
use Rattle.gate_journal.specs.JournalState.{Keeps, IsAtRest, IsReady, StopsIn}
use Rattle.gate_journal.specs.JournalState.{KeepsOnRestart}
use Rattle.gate_journal.specs.JournalState.{appending, closed_batch, entries_left}
use Rattle.gate_journal.specs.JournalState.{leaves_batch, HasBatch, IsToFail, FailsIn, holds_batch}
use Rattle.gate_journal.proofs.Adding.{gate_over, stands_gated, stands_whole, with_gate, kept}
use Rattle.gate_journal.proofs.Adding.{written, closed_size}
use Rattle.gate_journal.proofs.Following.{follows_kept}

-- ---- what the calls that a stop lets through leave by each pick

torn_is_shut : ◌≢◌ {A = ℕ} 90 165
torn_is_shut same = omega (arith, same)

module _ {told : Pending} {gate : ℕ} (at_rest : IsAtRest (Some told) gate) where
  -- octets behind the gate, and then the gate's octet
  gate_is : (octets : List ℕ) (value : ℕ)
      → overwritten (overwritten told.content (gate + 1) octets) gate (value ∷ [])
      ≡ with_gate at_rest value octets
  gate_is octets value = rw (written at_rest octets) (gate_over at_rest octets value)

  module _ (batch : List Entry) (law : ReadBack)
      (ready : IsReady (Some told) batch (closed_batch batch)) (entries : List Entry)
      (keeps : Keeps (Some told) entries) where
    put : (octets : List ℕ) → StandsAt entries gate (overwritten told.content (gate + 1) octets)
    put octets = stands_gated at_rest law entries keeps octets at_rest.2.gate _ at_rest.2.shut
        (written at_rest octets)

    torn : StandsAt entries gate
        (overwritten (overwritten told.content (gate + 1) (closed_batch batch)) gate (90 ∷ []))
    torn = stands_gated at_rest law entries keeps (closed_batch batch) 90 _ torn_is_shut
        (gate_is (closed_batch batch) 90)

    new : StandsAt (entries ++ batch) (gate + (length (entries_octets batch) + 7)) (overwritten
        (overwritten told.content (gate + 1) (closed_batch batch)) gate (165 ∷ []))
    new = rw (← closed_size batch) (stands_whole at_rest law entries keeps (closed_batch batch)
        batch ready _ (gate_is (closed_batch batch) 165))

    abbrev let_through : ℕ → Medium
    let_through k = fold after_call (synced_medium told.content)
        (calls_until_stop k (appending gate batch))

    pub left_at : (k : ℕ) (pick : Pick) → 0 < k → k ≤ 4
        → HasBatch (leaves_batch k pick) entries batch gate (left_by pick (let_through k))
    left_at zero pick some most = absurd (omega arith)
    left_at (suc zero) Old some most = kept at_rest law entries keeps
    left_at (suc zero) New some most = put (closed_batch batch)
    left_at (suc zero) Torn some most = put (torn_half (closed_batch batch))
    left_at (suc (suc zero)) Old some most = kept at_rest law entries keeps
    left_at (suc (suc zero)) New some most = put (closed_batch batch)
    left_at (suc (suc zero)) Torn some most = put (torn_half (closed_batch batch))
    left_at (suc (suc (suc zero))) Old some most = put (closed_batch batch)
    left_at (suc (suc (suc zero))) New some most = new
    left_at (suc (suc (suc zero))) Torn some most = torn
    left_at (suc (suc (suc (suc zero)))) Old some most = put (closed_batch batch)
    left_at (suc (suc (suc (suc zero)))) New some most = new
    left_at (suc (suc (suc (suc zero)))) Torn some most = torn
    left_at (suc (suc (suc (suc (suc k))))) pick some most = absurd (omega arith)

    -- the calls before one that fails
    abbrev made_before : ℕ → Medium
    made_before k = fold after_call (synced_medium told.content)
        (take (k - 1) (appending gate batch))

    pub held_at : (k : ℕ) → 0 < k → k ≤ 4
        → HasBatch (holds_batch k) entries batch gate (made_before k).pending.content
    held_at zero some most = absurd (omega arith)
    held_at (suc zero) some most = kept at_rest law entries keeps
    held_at (suc (suc zero)) some most = put (closed_batch batch)
    held_at (suc (suc (suc zero))) some most = put (closed_batch batch)
    held_at (suc (suc (suc (suc zero)))) some most = new
    held_at (suc (suc (suc (suc (suc k))))) some most = absurd (omega arith)

-- a file with the batch or without it stands for the entries with it or without it
pub stands_with : (has : Bool) (entries batch : List Entry) (gate : ℕ) (file : List ℕ)
    → HasBatch has entries batch gate file
    → StandsFor (if has then entries ++ batch else entries) file
stands_with true entries batch gate file stands =
    (gate + (length (entries_octets batch) + 7), stands)
stands_with false entries batch gate file stands = (gate, stands)

-- a batch that may follow is ready to be put
is_ready : (pending : Option Pending) (batch : List Entry) → ReadBack → IsBatch batch
    → (entries : List Entry) → Keeps pending entries → IsArchive (entries ++ batch)
    → IsReady pending batch (closed_batch batch)
is_ready pending batch law is_batch entries keeps archive = record {
  spelled = refl;
  is_batch = is_batch;
  archive = λ others. follows_kept law pending entries batch others keeps archive;
}

-- ---- the laws of the disk in memory

-- a stop comes at its call
abbrev pub StopsNow : Type 0
StopsNow =
    (disk : DiskState) (calls : List Call) (stop : Stop) → disk.stopped ≡ None
    → disk.stop ≡ Some stop → disk.calls.failing ≡ [] → 0 < stop.calls
    → stop.calls ≤ length calls
    → RunIs disk calls false (calls_until_stop stop.calls calls) (Some stop.pick)

-- calls up to one that failed are a run by the orders
abbrev pub FailedAsOrdered : Type 0
FailedAsOrdered =
    (old new : DiskState) (calls : List Call) → FailedAtOne IsMadeCall IsFailedCall old calls new
    → IsFalse new.memory_refused → run_as_ordered old calls ≡ (false, new)

-- what is synced is all that there is
abbrev pub SyncedIsAll : Type 0
SyncedIsAll = (disk : DiskState) (octets : List ℕ) → pending_of disk ≡ all_synced octets
    → medium_of disk ≡ synced_medium octets

-- a run answers once
pub not_both : (answer : Bool) {run : Bool × DiskState} {after : DiskState} → run ≡ (answer, after)
    → run.0 ≡ not answer → ⊥
not_both true is said = cc
not_both false is said = cc

module _ (now : StopsNow) (ordered : FailedAsOrdered) (disk after : DiskState) (gate : ℕ)
    (batch : List Entry) (stop : Stop) (is : StopsIn disk gate batch stop after) where
  run : RunIs disk (appending gate batch) false (calls_until_stop stop.calls (appending gate batch))
      (Some stop.pick)
  run = now disk (appending gate batch) stop is.ordered.runs is.ordered.stops is.ordered.succeeds
      is.some is.within

  there : run_as_ordered disk (appending gate batch) ≡ (false, after)
  there = ordered disk after (appending gate batch) is.failed is.ample

  -- the disk has stopped then, by the stop's pick
  pub has_stopped : after.stopped ≡ Some stop.pick
  has_stopped = rw there at run.stopped

  -- and once it is restarted it holds these entries
  module _ (synced : SyncedIsAll) (law : ReadBack)
      (at_rest : IsAtRest (Some (pending_of disk)) gate)
      (is_batch : IsBatch batch) (entries : List Entry) (keeps : Keeps (Some (pending_of disk))
      entries) (archive : IsArchive (entries ++ batch)) where
    abbrev medium_left : Medium
    medium_left = fold after_call (synced_medium (pending_of disk).content)
        (calls_until_stop stop.calls (appending gate batch))

    medium_then : medium_of after ≡ medium_left
    medium_then = rw (there, synced disk (pending_of disk).content at_rest.0) at run.medium

    restarts : pending_of (restarted after stop.pick) ≡ all_synced (left_by stop.pick medium_left)
    restarts =
        ap (λ (m : Medium). m.pending) (fold-append after_event (synced_medium after.start)
        after.log (Restarted stop.pick ∷ []))
        ∙ ap (λ (m : Medium). all_synced (left_by stop.pick m)) medium_then

    there_then : HasBatch (leaves_batch stop.calls stop.pick) entries batch gate
        (left_by stop.pick medium_left)
    there_then = left_at at_rest batch law (is_ready _ batch law is_batch entries keeps archive)
        entries keeps stop.calls stop.pick is.some is.within

    pub file_left : HasBatch (leaves_batch stop.calls stop.pick) entries batch gate
        (content_of (restarted after stop.pick))
    file_left = subst (λ (p : Pending).
        HasBatch (leaves_batch stop.calls stop.pick) entries batch gate p.content) (sym restarts)
        there_then

    pub keeps_left : KeepsOnRestart after stop (entries_left entries batch stop)
    keeps_left = rw restarts (refl, stands_with _ entries batch gate _ there_then)

-- ---- a call that fails

-- a fault comes at its call
abbrev pub FaultsNow : Type 0
FaultsNow =
    (disk : DiskState) (calls : List Call) (k : ℕ) → disk.stopped ≡ None → disk.stop ≡ None
    → disk.calls.failing ≡ (disk.calls.made + k) ∷ [] → disk.calls.made + k ≤ last_count
    → 0 < k → k ≤ length calls → RunIs disk calls false (take (k - 1) calls) None

pub fault_run : FaultsNow → (disk : DiskState) (gate : ℕ) (batch : List Entry) (k : ℕ)
    → IsToFail disk k → 0 < k → k ≤ 4
    → RunIs disk (appending gate batch) false (take (k - 1) (appending gate batch)) None
fault_run now disk gate batch k is some within =
    let none : 0 + k ≡ k = omega arith in
    now disk (appending gate batch) k is.runs is.goes_on (rw (is.fails, none) refl)
    (rw is.fails (omega (arith, within))) some within

module _ (now : FaultsNow) (ordered : FailedAsOrdered) (disk after : DiskState) (gate : ℕ)
    (batch : List Entry) (k : ℕ) (is : FailsIn disk gate batch k after) where
  run_failed : RunIs disk (appending gate batch) false (take (k - 1) (appending gate batch)) None
  run_failed = fault_run now disk gate batch k is.ordered is.some is.within

  there_failed : run_as_ordered disk (appending gate batch) ≡ (false, after)
  there_failed = ordered disk after (appending gate batch) is.failed is.ample

  -- the disk runs on
  pub runs_on : after.stopped ≡ None
  runs_on = rw there_failed at run_failed.stopped

  -- and holds these entries
  pub file_held : SyncedIsAll → ReadBack → IsAtRest (Some (pending_of disk)) gate → IsBatch batch
      → (entries : List Entry) → Keeps (Some (pending_of disk)) entries
      → IsArchive (entries ++ batch)
      → HasBatch (holds_batch k) entries batch gate (content_of after)
  file_held synced law at_rest is_batch entries keeps archive =
      let medium_is =
      rw (there_failed, synced disk (pending_of disk).content at_rest.0) at run_failed.medium in
      subst (λ (m : Medium). HasBatch (holds_batch k) entries batch gate m.pending.content)
      (sym medium_is)
      (held_at at_rest batch law (is_ready _ batch law is_batch entries keeps archive) entries
      keeps k is.some is.within)
