use Rattle.std.proofs.Common.{◌≡◌, ◌∙◌, ◌+◌, ◌++◌, Ok, Some, sym}
use Rattle.station_law.specs.State.{State, start}
use Rattle.station_law.specs.Standing.{Stands}
use Rattle.station_law.specs.Lines.{step_text}
use Rattle.station_law.specs.Runs.{transcript_from, in_order, all_fine}
use Rattle.script_head.specs.Lines.{lines_of}
use Rattle.script_head.specs.Head.{site_of, running, empty_lines}
use Rattle.script_commands.specs.Script.{script_of, script_text, status_of, status_by}
use Rattle.script_commands.proofs.Running.{runs_text, runs_status, if_ok}
use Rattle.script_commands.proofs.run.run_script.Goals as goal

pub returns-in_ok-new-in-Some : goal.returns-in_ok-new-in-Some
returns-in_ok-new-in-Some g c =
    let lines = lines_of c.args.script.now in
    let rest = lines_of c.in-Some.rest.now in
    let first = start c.in-Ok.site in
    let says : site_of lines ≡ Ok c.in-Ok.site =
    sym c.split_head-head.ensures.site ∙ c.in-Ok.ensures.exact in
    let runs : running lines ≡ Some (empty_lines c.split_head-head.result.lines ++ rest) =
    rw c.in-Some.is at c.split_head-head.ensures.splits in
    let text : script_text (script_of lines)
    ≡ transcript_from step_text (c.split_head-head.result.lines + 1) first rest =
    runs_text lines rest c.in-Ok.site c.split_head-head.result.lines says runs in
    let status : status_of (script_of lines)
    ≡ status_by (in_order step_text first rest) (all_fine step_text first rest) =
    runs_status lines rest c.in-Ok.site c.split_head-head.result.lines says runs in
    record {
      written = rw text (c.run_lines.ensures.written first c.in_ok-new-in-Some.ensures.state);
      status = rw status (if_ok c.run_lines.result
          (λ status. (state : State) → Stands c.in_ok-new-in-Some.field-0 state
          → status ≡ status_by (in_order step_text state rest) (all_fine step_text state rest))
          (λ status. status
          ≡ status_by (in_order step_text first rest) (all_fine step_text first rest))
          (λ status so. so first c.in_ok-new-in-Some.ensures.state) c.run_lines.ensures.status);
    }
