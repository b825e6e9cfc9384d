use Rattle.script_store.specs.Steps.{at_start, behind_as, step_on, at_end, stopped_by}
use Rattle.station_law.proofs.Telling.{next_told, none_told}
use Rattle.station_law.proofs.said.put_lines.Goals as goal

pub loop-line-init : goal.loop-line-init
loop-line-init g c = record { behind = at_start _ _ _ }

pub returns-in_err-put_said : goal.returns-in_err-put_said
returns-in_err-put_said g c =
    stopped_by _ _ _ _ _ _ _ _ _ c.in_err-put_said.field-0.0 c.from_residual.result
    c.from_residual.ensures.1
    (behind_as _ _ _ _ _ _ _
    (next_told c.args.c c.args.lines.now c.loop-line.line-index c.line-item.result
    c.loop-line-test.true c.line-item.is)
    c.loop-line.invariant.behind)
    c.in_err-put_said.ensures

pub loop-line-preserved : goal.loop-line-preserved
loop-line-preserved g c = record {
  behind = step_on _ _ _ _ _ _ _ _ _ _
      (behind_as _ _ _ _ _ _ _
      (next_told c.args.c c.args.lines.now c.loop-line.line-index c.line-item.result
      c.loop-line-test.true c.line-item.is)
      c.loop-line.invariant.behind)
      c.in_ok-put_said.ensures;
}

pub returns : goal.returns
returns g c =
    at_end _ _ _ _ _ _
    (behind_as _ _ _ _ _ _ _
    (none_told c.args.c c.args.lines.now c.loop-line.line-index c.loop-line-test.false)
    c.loop-line.invariant.behind)
