use Rattle.std.proofs.Common.{true, refl}
use Rattle.gate_journal.specs.JournalState.{appending}
use Rattle.gate_journal.proofs.Stopping.{fault_run, runs_on, file_held, not_both}
use Rattle.gate_journal.proofs.laws.a_fault_leaves_whole_batches.Goals as goal

pub returns-clause-steered : goal.returns-clause-steered
returns-clause-steered c disk orders k runs goes_on fails = record {
  runs = rw (runs, goes_on) refl;
  goes_on = rw goes_on refl;
  fails = fails;
}

-- an append at which a call is to fail isn't Ok
pub returns-clause-fails : goal.returns-clause-fails
returns-clause-fails c disk after gate batch k is some within made =
    not_both true (c.a_run_is_as_ordered.ensures.made disk after (appending gate batch) made)
    (fault_run c.a_fault_comes_at_its_call.ensures disk gate batch k is some within).answer

pub returns-clause-runs : goal.returns-clause-runs
returns-clause-runs c disk after gate batch k =
    runs_on c.a_fault_comes_at_its_call.ensures c.a_run_is_as_ordered.ensures.failed disk after
    gate batch k

pub returns-clause-file : goal.returns-clause-file
returns-clause-file c disk after gate entries batch k at_rest keeps is_batch archive is =
    file_held c.a_fault_comes_at_its_call.ensures c.a_run_is_as_ordered.ensures.failed disk after
    gate batch k is c.a_stop_leaves_an_image.ensures.synced c.read_back.ensures at_rest is_batch
    entries keeps archive
