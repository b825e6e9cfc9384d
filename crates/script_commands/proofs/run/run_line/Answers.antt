use Rattle.std.proofs.Common.{◌≡◌, ◌∙◌, ◌++◌, ℕ, [], sym, ap, append-nil}
use Rattle.script_store.specs.declared.step_done.StepDone.{StepDone}
use Rattle.station_law.specs.Runs.{text_behind}
use Rattle.script_store.specs.Steps.{at_start, behind_as, step_on, at_end, stopped_by}
use Rattle.script_commands.proofs.run.run_line.Goals as goal

-- what stands behind a line's text, by how it was found to end
by_end : (done found : StepDone) (number : ℕ) → found ≡ done
    → text_behind done number [] ≡ text_behind found number [] ++ []
by_end done found number is =
    ap (λ (d : StepDone). text_behind d number []) (sym is)
    ∙ sym (append-nil (text_behind found number []))

pub returns-in_err-done-clause-written : goal.returns-in_err-done-clause-written
returns-in_err-done-clause-written g c = λ state stands.
    stopped_by _ _ _ _ _ _ _ _ _ c.in_err-done.field-0.0 c.from_residual.result
    c.from_residual.ensures.1 (at_start _ _ _) (c.in_err-done.ensures.written state stands)

pub returns-in_err-tell_bad_line-clause-written : goal.returns-in_err-tell_bad_line-clause-written
returns-in_err-tell_bad_line-clause-written g c = λ state stands.
    stopped_by _ _ _ _ _ _ _ _ _ c.in_err-tell_bad_line.field-0.0
    c.from_residual-in_err-tell_bad_line.result c.from_residual-in_err-tell_bad_line.ensures.1
    (behind_as _ _ _ _ _ _ _
    (by_end _ _ c.args.number (c.in_ok-done.ensures.done state stands))
    (step_on _ _ _ _ _ _ _ _ _ _ (at_start _ _ _) (c.in_ok-done.ensures.written state stands)))
    c.in_err-tell_bad_line.ensures.written

pub returns-clause-written : goal.returns-clause-written
returns-clause-written g c = λ state stands.
    at_end _ _ _ _ _ _
    (step_on _ _ _ _ _ _ _ _ _ _
    (behind_as _ _ _ _ _ _ _
    (by_end _ _ c.args.number (c.in_ok-done.ensures.done state stands))
    (step_on _ _ _ _ _ _ _ _ _ _ (at_start _ _ _) (c.in_ok-done.ensures.written state stands)))
    c.in_ok-tell_bad_line.ensures.written)
