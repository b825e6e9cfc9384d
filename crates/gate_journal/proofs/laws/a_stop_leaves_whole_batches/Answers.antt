use Rattle.std.proofs.Common.{◌≡◌, ◌-◌, true, false, nat_le, refl, arith}
use Rattle.std.proofs.lemmas.Bool.Decides.{nat_tests}
use Rattle.gate_journal.specs.JournalState.{appending}
use Rattle.gate_journal.proofs.Stopping.{has_stopped, keeps_left, file_left, not_both}
use Rattle.gate_journal.proofs.laws.a_stop_leaves_whole_batches.Goals as goal

pub returns-clause-steered : goal.returns-clause-steered
returns-clause-steered c disk orders stop runs stops succeeds some =
    let later : nat_le stop.calls 0 ≡ false = grind (arith, nat_tests) in
    let same : stop.calls - 0 ≡ stop.calls = omega arith in
    record {
      runs = rw (runs, stops, later) refl;
      stops = rw (stops, later, same) refl;
      succeeds = succeeds;
    }

-- an append at which the disk is to stop isn't Ok
pub returns-clause-fails : goal.returns-clause-fails
returns-clause-fails c disk after gate batch stop is some most made =
    not_both true (c.a_run_is_as_ordered.ensures.made disk after (appending gate batch) made)
    (c.a_stop_comes_at_its_call.ensures.now disk (appending gate batch) stop is.runs is.stops
    is.succeeds some most).answer

pub returns-clause-stopped : goal.returns-clause-stopped
returns-clause-stopped c disk after gate batch stop =
    has_stopped c.a_stop_comes_at_its_call.ensures.now c.a_run_is_as_ordered.ensures.failed disk
    after gate batch stop

pub returns-clause-left : goal.returns-clause-left
returns-clause-left c disk after gate entries batch stop at_rest keeps is_batch archive is =
    keeps_left c.a_stop_comes_at_its_call.ensures.now c.a_run_is_as_ordered.ensures.failed disk
    after gate batch stop is
    c.a_stop_leaves_an_image.ensures.synced c.read_back.ensures at_rest is_batch entries keeps
    archive

pub returns-clause-file : goal.returns-clause-file
returns-clause-file c disk after gate entries batch stop at_rest keeps is_batch archive is =
    file_left c.a_stop_comes_at_its_call.ensures.now c.a_run_is_as_ordered.ensures.failed disk
    after gate batch stop is
    c.a_stop_leaves_an_image.ensures.synced c.read_back.ensures at_rest is_batch entries keeps
    archive

-- and one before its stop doesn't fail
pub returns-clause-later : goal.returns-clause-later
returns-clause-later c disk after gate batch stop is past failed ample =
    not_both false (c.a_run_is_as_ordered.ensures.failed disk after (appending gate batch) failed
    ample)
    (c.a_stop_comes_at_its_call.ensures.later disk (appending gate batch) stop is.runs is.stops
    is.succeeds past).answer
