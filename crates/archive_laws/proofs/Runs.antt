-- An archive is open to stores exactly where the last call that recovers or breaks recovers.
use Rattle.std.proofs.Common.{◌≡◌, ◌⊎◌, inl, inr, ℕ, Bool, true, false, not, ◌&&◌, ◌||◌, List, []}
use Rattle.std.proofs.Common.{◌∷◌, ◌++◌, Result, Ok, Err, IsOk, IsErrOf, IsTrue, refl, sym, ap, ◌∙◌}
use Rattle.std.proofs.lemmas.Bool.{true≢false, false≢true, and_parts, and_from, or_left, or_right}
use Rattle.std.proofs.lemmas.Bool.{false_from_ne_true}
use Rattle.std.specs.List.{list_all}
use Rattle.frame_archive.specs.State.{ArchiveState}
use Rattle.frame_archive.specs.declared.archive.Stored.{Stored}
use Rattle.frame_archive.specs.declared.fault.ArchiveFault.{ArchiveFault}
use Rattle.frame_archive.specs.declared.fault.ArchiveFault.TheVariants.{NotJournal, Damaged}
use Rattle.frame_archive.specs.declared.fault.ArchiveFault.TheVariants.{DiskFault, Stale, Changed}
use Rattle.frame_archive.specs.declared.fault.ArchiveFault.TheVariants.{Memory}
use Rattle.archive_laws.specs.Calls.{Call, offer, store, reopen, open_anew, steer, restart, Stores}
use Rattle.archive_laws.specs.Calls.{Ensures, Run, opened, called, is_good_recovery, is_a_break}
use Rattle.archive_laws.specs.Calls.{begins_well, IsUnbroken}
use Rattle.archive_laws.specs.Stores.{StoresAreComplete}

-- whether these calls, the last one first, leave an archive open
abbrev is_open : List Call → Bool
is_open [] = true
is_open (call ∷ before) = is_good_recovery call || (not (is_a_break call) && is_open before)

stays : {D : Type 0} {one other : ArchiveState D} → one ≡ other → one.is_stale ≡ other.is_stale
stays {D} is = ap (λ (a : ArchiveState D). a.is_stale) is

abbrev failing : ArchiveFault → Result Stored ArchiveFault
failing fault = Err fault

abbrev fault_of : Result Stored ArchiveFault → ArchiveFault
fault_of (Ok stored) = Stale
fault_of (Err fault) = fault

abbrev is_named : ArchiveFault → Bool
is_named DiskFault = true
is_named Memory = true
is_named _ = false

-- where an archive is open no other answer comes
no_answer : (fault : ArchiveFault) → is_named fault ≡ false
    → IsOk (failing fault) ⊎ IsErrOf (failing fault) DiskFault ⊎ IsErrOf (failing fault) Memory → ⊥
no_answer fault other (inl is) = false≢true is
no_answer fault other (inr (inl is)) =
    true≢false (sym (ap (λ (r : Result Stored ArchiveFault). is_named (fault_of r)) is) ∙ other)
no_answer fault other (inr (inr is)) =
    true≢false (sym (ap (λ (r : Result Stored ArchiveFault). is_named (fault_of r)) is) ∙ other)

same : {D : Type 0} (faults : D → ℕ) (fault : ArchiveFault) → is_named fault ≡ false
    → (old new : ArchiveState D) → Stores faults (failing fault) old new → (stale : Bool)
    → old.is_stale ≡ stale → new ≡ old
same faults fault other old new does true is = (does.stale is).1
same faults fault other old new does false is = absurd (no_answer fault other (does.answers is))

other_fault : {D : Type 0} (faults : D → ℕ) (fault : ArchiveFault) → is_named fault ≡ false
    → (old new : ArchiveState D) (was : Bool) → Stores faults (failing fault) old new
    → old.is_stale ≡ was → new.is_stale ≡ was
other_fault faults fault other old new was does is =
    stays (same faults fault other old new does old.is_stale refl) ∙ is

step : {D : Type 0} (faults : D → ℕ) (call : Call) (old new : ArchiveState D) (was : Bool)
    → Ensures faults call old new → old.is_stale ≡ not was
    → new.is_stale ≡ not (is_good_recovery call || (not (is_a_break call) && was))
step faults (offer entry (Ok taken)) old new was does is = stays does.taken ∙ is
step faults (offer entry (Err refused)) old new was does is = stays does.unchanged ∙ is
step faults (store (Ok stored)) old new was does is = stays does.stored.0 ∙ is
step faults (store (Err DiskFault)) old new was does is = stays (does.failed refl)
step faults (store (Err Memory)) old new was does is = stays (does.memory refl) ∙ is
step faults (store (Err Stale)) old new was does is =
    other_fault faults Stale refl old new (not was) does is
step faults (store (Err (NotJournal place))) old new was does is =
    other_fault faults (NotJournal place) refl old new (not was) does is
step faults (store (Err (Damaged place))) old new was does is =
    other_fault faults (Damaged place) refl old new (not was) does is
step faults (store (Err (Changed expected found))) old new was does is =
    other_fault faults (Changed expected found) refl old new (not was) does is
step faults (reopen (Ok landing)) old new was does is = stays does.reopened
step faults (reopen (Err fault)) old new was does is = stays does.refused
step faults (open_anew (Ok found)) old new was does is = stays does.opened
step faults (open_anew (Err fault)) old new was does is = stays does.refused
step faults steer old new was does is = stays does ∙ is
step faults restart old new was does is = stays does

stale_after : {D : Type 0} (faults : D → ℕ) {calls : List Call} {archive : ArchiveState D}
    → Run faults calls archive → archive.is_stale ≡ not (is_open calls)
stale_after faults (opened archive found is) = stays is
stale_after faults (called call calls old new run does) =
    step faults call old new (is_open calls) does (stale_after faults run)

-- both ways between the last call that recovers or breaks and the calls since
open_by : (since before : List Call) → IsTrue (begins_well before)
    → IsTrue (list_all (λ call. not (is_a_break call)) since) → is_open (since ++ before) ≡ true
open_by [] [] well all = refl
open_by [] (call ∷ before) well all =
    or_left (is_good_recovery call) (not (is_a_break call) && is_open before) well
open_by (call ∷ since) before well all =
    let parts = and_parts (not (is_a_break call)) (list_all (λ c. not (is_a_break c)) since) all in
    or_right (is_good_recovery call) (not (is_a_break call) && is_open (since ++ before))
    (and_from (not (is_a_break call)) (is_open (since ++ before)) parts.0
    (open_by since before well parts.1))

is_open_where : (calls : List Call) → IsUnbroken calls → is_open calls ≡ true
is_open_where calls is = ap is_open is.all ∙ open_by is.since is.before is.well is.unbroken

by_call : (call : Call) (before : List Call) (good : Bool) → is_good_recovery call ≡ good
    → (good || (not (is_a_break call) && is_open before)) ≡ true
    → (is_open before ≡ true → IsUnbroken before) → IsUnbroken (call ∷ before)
by_call call before true good is more = record {
  since = [];
  before = call ∷ before;
  all = refl;
  well = good;
  unbroken = refl;
}
by_call call before false good is more =
    let parts = and_parts (not (is_a_break call)) (is_open before) is in
    let rest = more parts.1 in
    record {
      since = call ∷ rest.since;
      before = rest.before;
      all = ap (λ (calls : List Call). call ∷ calls) rest.all;
      well = rest.well;
      unbroken = and_from (not (is_a_break call)) (list_all (λ c. not (is_a_break c)) rest.since)
          parts.0 rest.unbroken;
    }

unbroken_where : (calls : List Call) → is_open calls ≡ true → IsUnbroken calls
unbroken_where [] is = record {
  since = [];
  before = [];
  all = refl;
  well = refl;
  unbroken = refl;
}
unbroken_where (call ∷ before) is =
    by_call call before (is_good_recovery call) refl is (unbroken_where before)

no_negation : (b : Bool) → not b ≡ false → b ≡ true
no_negation true is = refl
no_negation false is = absurd (true≢false is)

-- of what a store may answer, without a rise
without : {P Q R : Type 0} → (Q → ⊥) → P ⊎ Q ⊎ R → P ⊎ R
without never (inl p) = inl p
without never (inr (inl q)) = absurd (never q)
without never (inr (inr r)) = inr r

is_fresh : {D : Type 0} (faults : D → ℕ) (calls : List Call) (archive : ArchiveState D)
    → Run faults calls archive → IsUnbroken calls → archive.is_stale ≡ false
is_fresh faults calls archive run is = stale_after faults run ∙ ap not (is_open_where calls is)

pub complete : {D : Type 0} (faults : D → ℕ) → StoresAreComplete faults
complete faults = record {
  complete = λ calls old new result run is does still.
      without (λ failed. still (does.cause failed))
      (does.answers (is_fresh faults calls old run is));
  stale = λ calls old new result run broken does.
      (does.stale (stale_after faults run ∙ ap not (false_from_ne_true (is_open calls)
      (λ is. broken (unbroken_where calls is))))).0;
  open_ = is_fresh faults;
  unbroken = λ calls archive run fresh. unbroken_where calls (no_negation (is_open calls)
      (sym (stale_after faults run) ∙ fresh));
}
