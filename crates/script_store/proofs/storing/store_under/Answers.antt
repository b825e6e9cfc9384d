use Rattle.std.proofs.Common.{◌≡◌, ◌∙◌, List, [], None, Option, OnOk, IfSome, is_some, sym, subst}
use Rattle.archive_terms.specs.Archive.{Entry}
use Rattle.record_form.specs.Entry.{entry_of}
use Rattle.disk_model.specs.MemoryDisk.{DiskState}
use Rattle.gate_journal.specs.JournalState.{IsOldOrNew}
use Rattle.frame_archive.specs.State.{ArchiveState, refusal}
use Rattle.frame_archive.specs.Run.{Adds}
use Rattle.frame_archive.specs.declared.fault.OfferFault.{OfferFault}
use Rattle.script_store.specs.declared.storing.Settled.{Settled}
use Rattle.script_store.specs.declared.storing.Unstored.{Unstored}
use Rattle.script_store.specs.Store.{Store}
use Rattle.script_store.specs.IsHeld.{told_by, Rests, IsOfOffer, KeepsAllOrNone}
use Rattle.script_store.specs.Storing.{hitting, taken_of, StoresOne, IsMissed, settled_of}
use Rattle.script_store.specs.Storing.{IsSettled, IsUnstored, IsRestarted}
use Rattle.script_store.specs.Unmoved.{unmoved}
use Rattle.script_store.proofs.Disks.{at_end, then_on}
use Rattle.script_store.proofs.WorldArchives.{none_stored}
use Rattle.script_store.proofs.Striking.{Struck}
use Rattle.script_store.proofs.Ending.{told_archive, untold, told_is, untold_is, refuses_so}
use Rattle.script_store.proofs.Ending.{cause_is}
use Rattle.script_store.proofs.Ending.{rests_refused, rests_taken, counted, told_so, hitting_is}
use Rattle.script_store.proofs.Ending.{to_come_of, ended_taken, ended_settled, ended_unstored}
use Rattle.script_store.proofs.Ending.{unstored_so, step_images}
use Rattle.script_store.proofs.Breaking.{restarted_taken, restarted_unstored, restarted_settled}
use Rattle.script_store.proofs.storing.store_under.Goals as goal
use Rattle.script_store.proofs.storing.store_under.Goals.{In-Ok-recorded, After-ended}
use Rattle.script_store.proofs.storing.store_under.Goals.{After-restarted}

pub returns-in_default-clause-images : goal.returns-in_default-clause-images
returns-in_default-clause-images c = λ published rests.
    unmoved c.args.archive.now.disk (IsOldOrNew published (taken_of c.args.archive.now
    (entry_of c.args.entry.now)))
    (none_stored c.an_image_at_rest_stands_for_what_is_kept.ensures c.args.archive.now published []
    rests (taken_of c.args.archive.now (entry_of c.args.entry.now)))

pub returns-in_default-orders_told-clause-unstored : goal.returns-in_default-orders_told-clause-unstored
returns-in_default-orders_told-clause-unstored c = λ published rests.
    none_stored c.an_image_at_rest_stands_for_what_is_kept.ensures c.args.archive.now published []
    rests []

pub returns-in_default-orders_told-clause-images : goal.returns-in_default-orders_told-clause-images
returns-in_default-orders_told-clause-images c = λ published rests.
    unmoved c.args.archive.now.disk (IsOldOrNew published (taken_of c.args.archive.now
    (entry_of c.args.entry.now)))
    (none_stored c.an_image_at_rest_stands_for_what_is_kept.ensures c.args.archive.now published []
    rests (taken_of c.args.archive.now (entry_of c.args.entry.now)))

-- ---- the step is Ok

told : (c : In-Ok-recorded)
    → c.steer.new.self ≡ told_archive c.args.archive.now (hitting c.args.order)
told c = told_is c.args.archive.now c.steer.new.self c.in-Ok-orders_told.orders c.args.order
    c.hitting-strike.result c.steer.ensures.steered c.in-Ok-orders_told.ensures
    c.hitting-strike.ensures

now_is : (c : In-Ok-recorded) → c.steer-2.new.self ≡ untold c.record_one-recorded.new.archive
now_is c = untold_is c.record_one-recorded.new.archive c.steer-2.new.self c.no_orders.result
    c.steer-2.ensures.steered c.no_orders.ensures

stores : (c : In-Ok-recorded)
    → StoresOne (told_archive c.args.archive.now (hitting c.args.order)) (entry_of c.args.entry.now)
    c.record_one-recorded.new.archive c.in-Ok-recorded.recorded
stores c = rw (told c, c.in-Ok.ensures) at c.in-Ok-recorded.ensures.stored

adds : (c : In-Ok-recorded)
    → Adds told_by (told_archive c.args.archive.now (hitting c.args.order))
    c.record_one-recorded.new.archive c.in-Ok-recorded.recorded.entries
adds c = rw (told c) at c.in-Ok-recorded.ensures.acknowledged

cause : (c : In-Ok-recorded) → (published : List Entry) → Rests c.args.archive.now published
    → c.in-Ok-recorded.recorded.refusal ≡ refusal c.args.archive.now (entry_of c.args.entry.now)
cause c published rests =
    cause_is c.args.archive.now c.record_one-recorded.new.archive (entry_of c.args.entry.now)
    c.args.order c.requires.to_come published rests c.in-Ok-recorded.recorded (stores c) (adds c)
    c.in-Ok-recorded.ensures.rests c.in-Ok-recorded.ensures.ready c.in-Ok-recorded.ensures.ample

pub ended-requires : goal.ended-requires
ended-requires c =
    let rests = c.requires.rests in
    subst (λ (o : Option OfferFault). IfSome o IsOfOffer) (sym (cause c rests.0 rests.1))
    (refuses_so c.args.archive.now (entry_of c.args.entry.now) rests.1.waits)

laws : (c : In-Ok-recorded) → Struck
laws c = record {
  to_stop = c.a_stop_leaves_whole_batches.ensures.steered;
  no_stop = c.a_stop_leaves_whole_batches.ensures.fails;
  stopped = c.a_stop_leaves_whole_batches.ensures.stopped;
  left = c.a_stop_leaves_whole_batches.ensures.file;
  to_fail = c.a_fault_leaves_whole_batches.ensures.steered;
  no_fault = c.a_fault_leaves_whole_batches.ensures.fails;
  runs = c.a_fault_leaves_whole_batches.ensures.runs;
  held = c.a_fault_leaves_whole_batches.ensures.file;
  storable = c.a_batch_may_follow.ensures.storable;
}

taken_then : (c : In-Ok-recorded) → (state : Store) → state.order ≡ c.args.order
    → Rests c.args.archive.now state.published
    → refusal c.args.archive.now (entry_of c.args.entry.now) ≡ None
    → IsSettled state (entry_of c.args.entry.now) c.steer-2.new.self
    (settled_of (is_some c.hitting-strike.result) c.in-Ok-recorded.recorded.reopened)
taken_then c state same rests taken =
    let old = c.args.archive.now in
    let now = c.record_one-recorded.new.archive in
    let entry = entry_of c.args.entry.now in
    let recorded = c.in-Ok-recorded.recorded in
    let is = c.in-Ok-recorded.ensures in
    subst (λ (a : ArchiveState DiskState). IsSettled state entry a
    (settled_of (is_some c.hitting-strike.result) recorded.reopened)) (sym (now_is c))
    (told_so state entry (untold now) c.args.order c.hitting-strike.result recorded.reopened same
    (sym c.hitting-strike.ensures)
    (rests_taken old now entry c.args.order c.requires.to_come state.published rests recorded
    (stores c) (adds c) is.rests is.ready is.ample taken)
    (λ hits hit. counted old now entry c.args.order c.requires.to_come state.published rests
    recorded (stores c) (adds c) is.rests is.ready is.ample taken (laws c)
    c.a_file_stands_for_one_list.ensures.list c.a_file_stands_for_one_list.ensures.place
    (c.steer.ensures.at_rest rests.fresh) hits hit
    (to_come_of c.args.order hits (hitting_is c.args.order hits hit).0 c.requires.to_come)
    (hitting_is c.args.order hits hit).1))

pub returns-in-Ok-recorded-clause-settled : goal.returns-in-Ok-recorded-clause-settled
returns-in-Ok-recorded-clause-settled c =
    let at = (goal.at.returns-in-Ok-recorded-clause-settled c).In-Ok-recorded in
    let entry = entry_of c.args.entry.now in
    ended_settled (is_some c.hitting-strike.result) c.in-Ok-recorded.recorded.refusal
    c.in-Ok-recorded.recorded.reopened c.ended.result c.ended.ensures
    (λ (settled : Settled). (state : Store) → state.order ≡ c.args.order
    → Rests c.args.archive.now state.published
    → IsSettled state entry c.steer-2.new.self settled)
    (λ none state same rests. taken_then at state same rests
    (sym (cause at state.published rests) ∙ none))

pub returns-in-Ok-recorded-clause-taken : goal.returns-in-Ok-recorded-clause-taken
returns-in-Ok-recorded-clause-taken c =
    let at = (goal.at.returns-in-Ok-recorded-clause-taken c).In-Ok-recorded in
    subst (λ (o : Option OfferFault). OnOk c.ended.result (o ≡ None))
    (cause at c.requires.rests.0 c.requires.rests.1)
    (ended_taken (is_some c.hitting-strike.result) c.in-Ok-recorded.recorded.refusal
    c.in-Ok-recorded.recorded.reopened c.ended.result c.ended.ensures)

pub returns-in-Ok-recorded-clause-unstored : goal.returns-in-Ok-recorded-clause-unstored
returns-in-Ok-recorded-clause-unstored c =
    let at = (goal.at.returns-in-Ok-recorded-clause-unstored c).In-Ok-recorded in
    let old = c.args.archive.now in
    let now = c.record_one-recorded.new.archive in
    let entry = entry_of c.args.entry.now in
    let is = c.in-Ok-recorded.ensures in
    ended_unstored (is_some c.hitting-strike.result) c.in-Ok-recorded.recorded.refusal
    c.in-Ok-recorded.recorded.reopened c.ended.result c.ended.ensures
    (λ (why : Unstored). (published : List Entry) → Rests old published
    → IsUnstored why old published entry c.steer-2.new.self)
    (λ fault why same is_why published rests.
    let refused = sym (cause at published rests) ∙ same in
    unstored_so c.an_image_at_rest_stands_for_what_is_kept.ensures old c.steer-2.new.self published
    entry fault why refused is_why
    (subst (λ (a : ArchiveState DiskState). Rests a published) (sym (now_is at))
    (rests_refused old now entry c.args.order c.requires.to_come published rests
    c.in-Ok-recorded.recorded (stores at) (adds at) is.rests is.ready is.ample fault refused)))

pub returns-in-Ok-recorded-clause-images : goal.returns-in-Ok-recorded-clause-images
returns-in-Ok-recorded-clause-images c = λ published rests.
    let at = (goal.at.returns-in-Ok-recorded-clause-images c).In-Ok-recorded in
    let entry = entry_of c.args.entry.now in
    subst (λ (a : ArchiveState DiskState). KeepsAllOrNone c.args.archive.now.disk a.disk published
    (taken_of c.args.archive.now entry)) (sym (now_is at))
    (step_images c.args.archive.now c.record_one-recorded.new.archive (hitting c.args.order) entry
    published rests (rw (told at, c.in-Ok.ensures) at c.record_one-recorded.ensures.images))

-- ---- the step isn't Ok

told_then : (c : After-restarted)
    → c.steer.new.self ≡ told_archive c.args.archive.now (hitting c.args.order)
told_then c = told_is c.args.archive.now c.steer.new.self c.in-Ok-orders_told.orders c.args.order
    c.hitting-strike.result c.steer.ensures.steered c.in-Ok-orders_told.ensures
    c.hitting-strike.ensures

now_then : (c : After-restarted) → c.steer-2.new.self ≡ untold c.record_one-recorded.new.archive
now_then c = untold_is c.record_one-recorded.new.archive c.steer-2.new.self c.no_orders.result
    c.steer-2.ensures.steered c.no_orders.ensures

missed : (c : After-restarted)
    → IsMissed c.in-Err.missed (told_archive c.args.archive.now (hitting c.args.order))
    (entry_of c.args.entry.now) c.record_one-recorded.new.archive
missed c = rw (told_then c, c.in-Ok.ensures) at c.in-Err.ensures.missed

restarted : (c : After-restarted)
    → IsRestarted c.in-Err.missed c.hitting-strike.result
    (untold c.record_one-recorded.new.archive) c.restarted.new.archive c.restarted.result
restarted c = rw (now_then c) at c.restarted.ensures.restarted

laws_then : (c : After-restarted) → Struck
laws_then c = record {
  to_stop = c.a_stop_leaves_whole_batches.ensures.steered;
  no_stop = c.a_stop_leaves_whole_batches.ensures.fails;
  stopped = c.a_stop_leaves_whole_batches.ensures.stopped;
  left = c.a_stop_leaves_whole_batches.ensures.file;
  to_fail = c.a_fault_leaves_whole_batches.ensures.steered;
  no_fault = c.a_fault_leaves_whole_batches.ensures.fails;
  runs = c.a_fault_leaves_whole_batches.ensures.runs;
  held = c.a_fault_leaves_whole_batches.ensures.file;
  storable = c.a_batch_may_follow.ensures.storable;
}

pub returns-in-Err-clause-settled : goal.returns-in-Err-clause-settled
returns-in-Err-clause-settled c =
    let at = (goal.at.returns-in-Err-clause-settled c).After-restarted in
    restarted_settled c.args.archive.now c.record_one-recorded.new.archive c.restarted.new.archive
    (entry_of c.args.entry.now) c.args.order c.requires.rests.1.waits (laws_then at)
    c.steer.ensures.at_rest c.requires.to_come c.in-Err.missed c.hitting-strike.result
    c.restarted.result (sym c.hitting-strike.ensures) (restarted at) (missed at)

pub returns-in-Err-clause-taken : goal.returns-in-Err-clause-taken
returns-in-Err-clause-taken c =
    let at = (goal.at.returns-in-Err-clause-taken c).After-restarted in
    restarted_taken c.args.archive.now c.record_one-recorded.new.archive c.restarted.new.archive
    (entry_of c.args.entry.now) c.args.order c.requires.rests.1.waits c.in-Err.missed
    c.hitting-strike.result c.restarted.result (restarted at) (missed at)

pub returns-in-Err-clause-unstored : goal.returns-in-Err-clause-unstored
returns-in-Err-clause-unstored c =
    let at = (goal.at.returns-in-Err-clause-unstored c).After-restarted in
    restarted_unstored c.args.archive.now c.record_one-recorded.new.archive c.restarted.new.archive
    (entry_of c.args.entry.now) c.args.order c.requires.rests.1.waits c.in-Err.missed
    c.hitting-strike.result c.restarted.result (restarted at) (missed at)

pub returns-in-Err-clause-images : goal.returns-in-Err-clause-images
returns-in-Err-clause-images c = λ published rests.
    let at = (goal.at.returns-in-Err-clause-images c).After-restarted in
    let entry = entry_of c.args.entry.now in
    let old = c.args.archive.now.disk in
    let P = IsOldOrNew published (taken_of c.args.archive.now entry) in
    let first = subst (λ (a : ArchiveState DiskState). KeepsAllOrNone old a.disk published
    (taken_of c.args.archive.now entry)) (sym (now_then at))
    (step_images c.args.archive.now c.record_one-recorded.new.archive (hitting c.args.order) entry
    published rests (rw (told_then at, c.in-Ok.ensures) at c.record_one-recorded.ensures.images)) in
    then_on old c.steer-2.new.self.disk c.restarted.new.archive.disk P first
    (c.restarted.ensures.images published (taken_of c.args.archive.now entry)
    (at_end old c.steer-2.new.self.disk P first))
