-- Several counted calls of the disk in memory, one after another.
use Rattle.std.proofs.Common.{◌≡◌, inl, inr, ℕ, suc, ◌+◌, ◌-◌, ◌<◌, ◌≤◌, nat_le, nat_eq, Bool, true}
use Rattle.std.proofs.Common.{cond, false, not, IsFalse, Option, Some, None, List, [], ◌∷◌, length}
use Rattle.std.proofs.Common.{filter, take, drop, zero, ◌++◌, refl, sym, ap, arith, append_assoc}
use Rattle.std.proofs.lemmas.List.{append-nil}
use Rattle.std.proofs.lemmas.Bool.Decides.{nat_tests}
use Rattle.octet_core.specs.Fault.{last_count, count_up}
use Rattle.disk_model.specs.Calls.{AllMade, FailedAtOne}
use Rattle.disk_model.specs.MemoryDisk.{DiskState, IsMadeCall, IsFailedCall, RunIs, with_call}
use Rattle.disk_model.specs.MemoryDisk.{counted, run_as_ordered, is_to_fail, is_left_to_pick}
use Rattle.disk_model.specs.MemoryDisk.{is_sync, calls_until_stop}
use Rattle.disk_model.specs.declared.call.Call.{Call}
use Rattle.disk_model.specs.declared.orders.Pick.{Pick}
use Rattle.disk_model.specs.declared.orders.Stop.{Stop}
use Rattle.disk_model.proofs.Replay.{medium_more}

module _ (disk : DiskState) (call : Call) (calls : List Call) where
  -- a call that passes, and a run after it
  on : (ok : Bool) (made : List Call) (pick : Option Pick) → is_to_fail disk ≡ false
      → RunIs (with_call (counted disk) call) calls ok made pick
      → RunIs disk (call ∷ calls) ok (call ∷ made) pick
  on ok made pick passes rest = record {
    answer = rw passes rest.answer;
    medium = rw (passes, rest.medium, medium_more);
    log = rw (passes, rest.log, append_assoc);
    stopped = rw passes rest.stopped;
  }

  -- a call that is to fail, and is left to the pick or takes no effect
  ends_by : (left : Bool) (pick : Option Pick) → is_to_fail disk ≡ true
      → is_left_to_pick disk call ≡ left → (counted disk).stopped ≡ pick
      → RunIs disk (call ∷ calls) false (cond left (call ∷ []) []) pick
  ends_by true pick fails left stopped = record {
    answer = rw fails;
    medium = rw (fails, left, medium_more);
    log = rw (fails, left);
    stopped = rw (fails, left) stopped;
  }
  ends_by false pick fails left stopped = record {
    answer = rw fails;
    medium = rw (fails, left);
    log = rw (fails, left, append-nil);
    stopped = rw (fails, left) stopped;
  }

nothing_run : (disk : DiskState) (pick : Option Pick) → disk.stopped ≡ pick
    → RunIs disk [] true [] pick
nothing_run disk pick is =
    record { answer = refl; medium = refl; log = sym (append-nil disk.log); stopped = is }

-- several calls are a run by the orders
pub all_made : (calls : List Call) (old new : DiskState) → AllMade IsMadeCall old calls new
    → run_as_ordered old calls ≡ (true, new)
all_made [] old new same = rw same
all_made (call ∷ calls) old new made =
    rw (made.1.0, ← made.1.1) (all_made calls made.0 new made.2)

pub failed_at_one : (calls : List Call) (old new : DiskState)
    → FailedAtOne IsMadeCall IsFailedCall old calls new → IsFalse new.memory_refused
    → run_as_ordered old calls ≡ (false, new)
failed_at_one [] old new failed ample = absurd failed
failed_at_one (call ∷ calls) old new (inl (inl told)) ample = rw (told.0, told.1)
failed_at_one (call ∷ calls) old new (inl (inr refused)) ample =
    let not_ample = ap (λ (disk : DiskState). disk.memory_refused) refused in absurd (cc)
failed_at_one (call ∷ calls) old new (inr later) ample =
    rw (later.1.0, ← later.1.1) (failed_at_one calls later.0 new later.2 ample)

pub unordered_run : (calls : List Call) (disk : DiskState) → disk.stopped ≡ None → disk.stop ≡ None
    → disk.calls.failing ≡ []
    → RunIs disk calls true calls None
unordered_run [] disk runs stops fails = nothing_run disk None runs
unordered_run (call ∷ calls) disk runs stops fails =
    on disk call calls true calls None (rw (runs, stops, fails))
    (unordered_run calls (with_call (counted disk) call) (rw (runs, stops)) (rw stops) fails)

pub stop_later : (calls : List Call) (disk : DiskState) (stop : Stop) → disk.stopped ≡ None
    → disk.stop ≡ Some stop → disk.calls.failing ≡ []
    → length calls < stop.calls → RunIs disk calls true calls None
stop_later [] disk stop runs stops fails later = nothing_run disk None runs
stop_later (call ∷ calls) disk stop runs stops fails later =
    let not_now : nat_le stop.calls 1 ≡ false = grind (arith, nat_tests) in
    on disk call calls true calls None (rw (runs, stops, not_now, fails))
    (stop_later calls (with_call (counted disk) call) (record stop { calls = stop.calls - 1 })
    (rw (runs, stops, not_now)) (rw (stops, not_now)) fails (omega arith))

-- a stop at the call that so many others come before
stop_after : (n : ℕ) (calls : List Call) (disk : DiskState) (stop : Stop) → disk.stopped ≡ None
    → disk.stop ≡ Some stop → disk.calls.failing ≡ [] → stop.calls ≡ n + 1 → n < length calls
    → RunIs disk calls false
    (take n calls ++ filter (λ call. not (is_sync call)) (take 1 (drop n calls))) (Some stop.pick)
stop_after n [] disk stop runs stops fails at within = absurd (omega arith)
stop_after zero (call ∷ calls) disk stop runs stops fails at within =
    ends_by disk call calls (not (is_sync call)) (Some stop.pick) (rw (runs, stops, at))
    (rw (runs, stops, at)) (rw (runs, stops, at))
stop_after (suc n) (call ∷ calls) disk stop runs stops fails at within =
    let not_now : nat_le stop.calls 1 ≡ false = grind (arith, nat_tests) in
    on disk call calls false _ (Some stop.pick) (rw (runs, stops, not_now, fails))
    (stop_after n calls (with_call (counted disk) call) (record stop { calls = stop.calls - 1 })
    (rw (runs, stops, not_now)) (rw (stops, not_now)) fails (omega arith) (omega arith))

pub stop_now : (calls : List Call) (disk : DiskState) (stop : Stop) → disk.stopped ≡ None
    → disk.stop ≡ Some stop → disk.calls.failing ≡ []
    → 0 < stop.calls → stop.calls ≤ length calls
    → RunIs disk calls false (calls_until_stop stop.calls calls) (Some stop.pick)
stop_now calls disk stop runs stops fails some within =
    stop_after (stop.calls - 1) calls disk stop runs stops fails (omega arith) (omega arith)

-- a call that fails, which so many others come before
fault_after : (n : ℕ) (calls : List Call) (disk : DiskState) (at : ℕ) → disk.stopped ≡ None
    → disk.stop ≡ None → disk.calls.failing ≡ at ∷ [] → disk.calls.made + n + 1 ≡ at
    → at ≤ last_count → n < length calls → RunIs disk calls false (take n calls) None
fault_after n [] disk at runs stops fails there small within = absurd (omega arith)
fault_after zero (call ∷ calls) disk at runs stops fails there small within =
    let now : nat_eq at (count_up disk.calls.made) ≡ true = grind (arith, nat_tests) in
    ends_by disk call calls false None (rw (runs, stops, fails, now)) (rw (runs, stops))
    (rw (runs, stops))
fault_after (suc n) (call ∷ calls) disk at runs stops fails there small within =
    let not_now : nat_eq at (count_up disk.calls.made) ≡ false = grind (arith, nat_tests) in
    on disk call calls false (take n calls) None (rw (runs, stops, fails, not_now))
    (fault_after n calls (with_call (counted disk) call) at (rw (runs, stops)) (rw stops) fails
    (grind (arith, nat_tests)) small (omega arith))

pub fault_now : (calls : List Call) (disk : DiskState) (k : ℕ) → disk.stopped ≡ None
    → disk.stop ≡ None
    → disk.calls.failing ≡ (disk.calls.made + k) ∷ [] → disk.calls.made + k ≤ last_count → 0 < k
    → k ≤ length calls
    → RunIs disk calls false (take (k - 1) calls) None
fault_now calls disk k runs stops fails there some within =
    fault_after (k - 1) calls disk (disk.calls.made + k) runs stops fails (omega arith) there
    (omega arith)
