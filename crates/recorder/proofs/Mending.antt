-- What a store that failed and the reopen behind it come to, by what the calls ensure.
use Rattle.std.proofs.Common.{◌≡◌, ◌⊎◌, inr, true, false, ℕ, ◌+◌, ◌-◌, List, [], ◌∷◌, ◌++◌}
use Rattle.std.proofs.Common.{◌<◌, ◌≤◌, length, take, drop, Option, Some, None, IfSome, Result, Ok}
use Rattle.std.proofs.Common.{Err, IsTrue, IsSome, IfOk, IfErr, OnErr, refl, sym, ap, subst, ◌∙◌}
use Rattle.std.proofs.Common.{arith}
use Rattle.std.specs.List.{list_all}
use Rattle.std.proofs.lemmas.List.{append-nil}
use Rattle.archive_terms.specs.Archive.{Entry, is_valid}
use Rattle.octet_core.specs.Fault.{Rose}
use Rattle.disk_model.specs.Images.{Pending}
use Rattle.disk_model.specs.Calls.{AllMade, FailedAtOne}
use Rattle.disk_model.specs.declared.call.Call.{Call}
use Rattle.gate_journal.specs.JournalState.{appending, recovering}
use Rattle.frame_archive.specs.State.{ArchiveState, with_stored, with_failed, at_rest, times_of}
use Rattle.frame_archive.specs.State.{wanted}
use Rattle.frame_archive.specs.Acknowledges.{Acknowledges, Uses}
use Rattle.frame_archive.specs.Run.{Adds, Keeps}
use Rattle.recorder.specs.declared.recorded.Recorded.{Recorded}
use Rattle.recorder.specs.declared.record_fault.RecordFault.{RecordFault}
use Rattle.recorder.specs.declared.record_fault.RecordFault.TheVariants as faults
use Rattle.recorder.specs.Feeds.{Answer}
use Rattle.recorder.specs.Polling.{Gave}
use Rattle.recorder.specs.Offers.{Dropped, dropped_of, Offered, offered, after_offers, offered_to}
use Rattle.recorder.specs.Offers.{IsCutShort}
use Rattle.recorder.specs.Steps.{storing, Stores, StoreFails, Reopened, IsMended, IsStored}
use Rattle.recorder.specs.Steps.{FailsAgain, IsLostShort, IsUnmended, IsLeft, IsLeftBroken}
use Rattle.recorder.proofs.Landing.{some_lost}

-- an answer that is an error isn't Ok
pub not_so : false ≡ true → ⊥
not_so is = cc

storing_some : (used : ℕ) (waiting : List Entry) → (waiting ≡ [] → ⊥)
    → storing used waiting ≡ appending (used - 1) waiting
storing_some used [] some = absurd (some refl)
storing_some used (entry ∷ entries) some = refl

-- a store that failed made the calls that append what waits, up to one
pub store_failed : {D : Type 0} (makes fails : D → Call → D → Type 0) (archive : ArchiveState D)
    (broken : D) → (archive.waiting ≡ [] → ⊥)
    → FailedAtOne makes fails archive.disk (appending (archive.used - 1) archive.waiting) broken
    → StoreFails makes fails archive broken
store_failed makes fails archive broken some failed =
    subst (λ (calls : List Call). FailedAtOne makes fails archive.disk calls broken)
    (sym (storing_some archive.used archive.waiting some)) failed

-- a store that is Ok made the calls that append what waits, or none where nothing does
store_made : {D : Type 0} (makes : D → Call → D → Type 0) (used : ℕ) (waiting : List Entry)
    (old new : D) → (1 ≤ length waiting → AllMade makes old (appending (used - 1) waiting) new)
    → (waiting ≡ [] → new ≡ old) → AllMade makes old (storing used waiting) new
store_made makes used [] old new some none = none refl
store_made makes used (entry ∷ entries) old new some none = some (omega arith)

pub stores_so : {D : Type 0} (makes : D → Call → D → Type 0) (old new : ArchiveState D)
    (dropped : Dropped) (recorded : Recorded) → new ≡ with_stored old new.disk
    → (1 ≤ length old.waiting
    → AllMade makes old.disk (appending (old.used - 1) old.waiting) new.disk)
    → (old.waiting ≡ [] → new ≡ old) → recorded.entries ≡ old.waiting
    → dropped_of recorded ≡ dropped → Stores makes (offered old dropped) new recorded
stores_so {D} makes old new dropped recorded state calls nothing entries drops = record {
  state = state;
  calls = store_made makes old.used old.waiting old.disk new.disk calls
      (λ none. ap (λ (a : ArchiveState D). a.disk) (nothing none));
  told = record {
    stored = entries;
    dropped_are = drops;
  };
}

-- ---- what is acknowledged

pub keeps_none : {D : Type 0} (pending : D → Option Pending) (old new : ArchiveState D)
    (landed : List Entry) → Adds pending old new landed → landed ≡ [] → Keeps pending old new
keeps_none pending old new landed adds none entries is =
    subst (λ (all : List Entry). Acknowledges pending new all)
    (ap (λ more. entries ++ more) none ∙ append-nil entries) (adds entries is)

pub adds_behind : {D : Type 0} (pending : D → Option Pending) (old mid new : ArchiveState D)
    (result : Result Recorded RecordFault) → Keeps pending old mid
    → IfOk result (λ recorded. Adds pending mid new recorded.entries)
    → IfOk result (λ recorded. Adds pending old new recorded.entries)
adds_behind pending old mid new (Ok recorded) keeps adds = λ entries is. adds entries
    (keeps entries is)
adds_behind pending old mid new (Err fault) keeps adds = adds

pub keeps_behind : {D : Type 0} (pending : D → Option Pending) (old mid new : ArchiveState D)
    (result : Result Recorded RecordFault) → Keeps pending old mid
    → OnErr result (Keeps pending mid new) → OnErr result (Keeps pending old new)
keeps_behind pending old mid new (Ok recorded) keeps still = still
keeps_behind pending old mid new (Err fault) keeps still = λ entries is. still entries
    (keeps entries is)

-- ---- behind a reopen

pub opened_so : {D : Type 0} (pending : D → Option Pending) (makes : D → Call → D → Type 0)
    (old opened : ArchiveState D) (landed : List Entry)
    → landed ≡ take (opened.count - old.count) old.waiting
    → AllMade makes old.disk recovering opened.disk
    → opened ≡ record (at_rest opened.disk old.capacity opened.used []) {
      count = opened.count;
      times = opened.times;
    }
    → (entries : List Entry) × (length entries ≡ opened.count)
    × (opened.times ≡ times_of entries)
    × IfSome (pending old.disk) (λ told. Uses entries opened.used told.content)
    → IfSome (pending old.disk) (λ _. opened.used
    ≡ old.used + wanted (take (opened.count - old.count) old.waiting))
    → Adds pending old opened landed → Reopened pending makes old opened
opened_so pending makes old opened landed landed_is calls state found used adds = record {
  calls = calls;
  state = state;
  found = found;
  used = used;
  acknowledged = λ entries was. subst (λ (es : List Entry). Acknowledges pending opened
      (entries ++ es)) landed_is (adds entries was);
}

-- All that waited was lost, and is to be offered once more.
pub record IsLost {D : Type 0} (pending : D → Option Pending) (makes : D → Call → D → Type 0)
    (old opened : ArchiveState D) (lost : List Entry) : Type 0 where
  pub reopened : Reopened pending makes old opened
  pub count : opened.count ≡ old.count
  pub all : lost ≡ old.waiting
  pub keeps : Keeps pending old opened

pub lost_so : {D : Type 0} (pending : D → Option Pending) (makes : D → Call → D → Type 0)
    (old opened : ArchiveState D) (landed lost : List Entry)
    → landed ≡ take (opened.count - old.count) old.waiting
    → lost ≡ drop (opened.count - old.count) old.waiting
    → (opened.count ≡ old.count) ⊎ (opened.count ≡ old.count + old.failed)
    → old.failed ≡ length old.waiting → 0 < length lost → Reopened pending makes old opened
    → Adds pending old opened landed → IsLost pending makes old opened lost
lost_so pending makes old opened landed lost landed_is lost_is whole failed some reopened adds =
    let all = some_lost old.waiting old.count opened.count old.failed whole failed
    (omega (arith, some, ap length lost_is)) in record {
      reopened = reopened;
      count = all.0;
      all = lost_is ∙ all.1;
      keeps = keeps_none pending old opened landed adds (landed_is ∙ all.2);
    }

-- it is stored, or isn't, and why
module _ {D : Type 0} (pending : D → Option Pending) (faults_of : D → ℕ)
    (makes fails : D → Call → D → Type 0) (fails_to_read : D → D → Type 0) (dropped : Dropped)
    (old opened : ArchiveState D) (lost : List Entry) (is : IsLost pending makes old opened lost)
    (new : ArchiveState D) (before : Offered D) where
  pub lost_mended : (recorded : Recorded) → before ≡ after_offers (offered opened dropped) lost
      → recorded.reopened ≡ Some opened.count → Stores makes before new recorded
      → IsMended pending makes dropped old new recorded
  lost_mended recorded same counted stores = inr (record {
    opened = opened;
    reopened = is.reopened;
    counted = counted;
    count = is.count;
    stores = subst (λ (o : Offered D). Stores makes o new recorded)
        (same ∙ ap (after_offers (offered opened dropped)) is.all) stores;
  })

  pub lost_twice : IsTrue (list_all is_valid old.waiting)
      → before ≡ after_offers (offered opened dropped) lost
      → Rose (faults_of opened.disk) (faults_of new.disk)
      → StoreFails makes fails before.archive new.disk → new ≡ with_failed before.archive new.disk
      → FailsAgain pending faults_of makes fails dropped old new
  lost_twice valid same rose failed state =
      let all = same ∙ ap (after_offers (offered opened dropped)) is.all in record {
        opened = opened;
        reopened = is.reopened;
        count = is.count;
        valid = valid;
        cause = rose;
        failed = subst (λ (o : Offered D). StoreFails makes fails o.archive new.disk) all failed;
        state = subst (λ (o : Offered D). new ≡ with_failed o.archive new.disk) all state;
      }

  pub lost_short : IsTrue (list_all is_valid old.waiting)
      → IsCutShort (offered opened dropped) lost new
      → IsLostShort pending faults_of makes fails fails_to_read dropped old new
  lost_short valid short = record {
    opened = opened;
    reopened = is.reopened;
    count = is.count;
    valid = valid;
    offered_again = subst (λ (es : List Entry). IsCutShort (offered opened dropped) es new) is.all
        short;
  }

module _ {D : Type 0} (pending : D → Option Pending) (faults_of : D → ℕ)
    (makes fails : D → Call → D → Type 0) (fails_to_read : D → D → Type 0) where
  -- ---- behind a store that failed

  stored_by : (count : Option ℕ) (before : Offered D) (new : ArchiveState D) (recorded : Recorded)
      → IsSome count
      → (broken : D) × StoreFails makes fails before.archive broken
      × IsMended pending makes before.dropped (with_failed before.archive broken) new recorded
      → IsStored pending makes fails count before new recorded
  stored_by None before new recorded some is = absurd (not_so some)
  stored_by (Some count) before new recorded some is = is

  pub mended_stored : (before : Offered D) (broken new : ArchiveState D)
      (result : Result Recorded RecordFault) → broken ≡ with_failed before.archive broken.disk
      → StoreFails makes fails before.archive broken.disk
      → IfOk result (λ recorded. IsMended pending makes before.dropped broken new recorded)
      → IfOk result (λ recorded. IsSome recorded.reopened)
      → IfOk result (λ recorded. IsStored pending makes fails recorded.reopened before new
      recorded)
  mended_stored before broken new (Ok recorded) state failed mended some =
      stored_by recorded.reopened before new recorded some (
        broken.disk,
        failed,
        subst (λ (a : ArchiveState D). IsMended pending makes before.dropped a new recorded) state
            mended,
      )
  mended_stored before broken new (Err fault) state failed mended some = some

  left_by : (fault : RecordFault) (old : ArchiveState D) (polled : List Entry)
      (new : ArchiveState D)
      → IsLeftBroken pending faults_of makes fails fails_to_read fault (offered_to old polled) new
      → IsLeft pending faults_of makes fails fails_to_read fault old polled new
  left_by faults.SourceFault old polled new is = absurd is.3
  left_by faults.Memory old polled new is = inr is
  left_by faults.DiskFault old polled new is = is
  left_by (faults.Refused fault) old polled new is = is

  pub unmended_left : (told now : Option (List Answer)) (old : ArchiveState D)
      (polled : List Entry) (broken new : ArchiveState D) (result : Result Recorded RecordFault)
      → Gave polled told now → broken ≡ with_failed (offered_to old polled).archive broken.disk
      → StoreFails makes fails (offered_to old polled).archive broken.disk
      → Rose (faults_of (offered_to old polled).archive.disk) (faults_of broken.disk)
      → IfErr result (λ fault. IsUnmended pending faults_of makes fails fails_to_read fault
      (offered_to old polled).dropped broken new)
      → IfErr result (λ fault. (entries : List Entry) × Gave entries told now
      × IsLeft pending faults_of makes fails fails_to_read fault old entries new)
  unmended_left told now old polled broken new (Ok recorded) gave state failed rose unmended =
      unmended
  unmended_left told now old polled broken new (Err fault) gave state failed rose unmended = (
    polled,
    gave,
    left_by fault old polled new (
      broken.disk,
      failed,
      rose,
      subst (λ (a : ArchiveState D). IsUnmended pending faults_of makes fails fails_to_read fault
          (offered_to old polled).dropped a new) state unmended,
    ),
  )
