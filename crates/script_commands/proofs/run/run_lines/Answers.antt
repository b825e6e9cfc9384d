use Rattle.std.proofs.Common.{◌≡◌, ◌∙◌, ◌+◌, ◌<◌, ℕ, Bool, List, length, refl, sym, ap}
use Rattle.std.proofs.Common.{length-drop, arith}
use Rattle.std.proofs.lemmas.Grind.{common_steps}
use Rattle.script_store.specs.declared.step_done.StepDone.{StepDone}
use Rattle.script_store.specs.declared.step_done.StepDone.TheVariants.{Fine, Full, WrongState}
use Rattle.station_law.specs.State.{State}
use Rattle.station_law.specs.Standing.{Stands}
use Rattle.station_law.specs.Lines.{step_text}
use Rattle.script_store.specs.Steps.{at_start, behind_as, at_end, stopped_by}
use Rattle.script_commands.proofs.Running.{on_line, on_status, line_run, status_from, status_later}
use Rattle.script_commands.proofs.Running.{text_later, text_end, status_end, goes_on}
use Rattle.script_commands.proofs.run.run_lines.Goals.{in-Fine, in-Full}
use Rattle.script_commands.proofs.run.run_lines.Goals as goal

pub loop-rest-init : goal.loop-rest-init
loop-rest-init g c = record {
  goes = λ first stands. record {
    state = first;
    stands = stands;
    behind = at_start _ _ _;
    ends = refl;
  };
  numbers = omega arith;
}

pub returns-in_err-run_line-clause-written : goal.returns-in_err-run_line-clause-written
returns-in_err-run_line-clause-written g c = λ first stands.
    let some : 0 < length c.loop-rest.rest.now = grind (arith, common_steps) in
    let so = c.loop-rest.invariant.goes first stands in
    stopped_by _ _ _ _ _ _ _ _ _ c.in_err-run_line.field-0.0 c.from_residual.result
    c.from_residual.ensures.1
    (behind_as _ _ _ _ _ _ _
    (on_line so.state _ c.loop-rest.rest.now c.split_line.result.0.now
    c.split_line.result.1.now _ some c.split_line.ensures.line c.split_line.ensures.rest refl refl
    c.loop-rest.number)
    so.behind)
    (c.in_err-run_line.ensures.written so.state so.stands)

pub returns-in-WrongState-clause-written : goal.returns-in-WrongState-clause-written
returns-in-WrongState-clause-written g c = λ first stands.
    let some : 0 < length c.loop-rest.rest.now = grind (arith, common_steps) in
    let so = c.loop-rest.invariant.goes first stands in
    at_end _ _ _ _ _ _
    (line_run so.state _ c.loop-rest.rest.now c.split_line.result.0.now c.split_line.result.1.now
    WrongState some c.split_line.ensures.line c.split_line.ensures.rest refl
    (sym c.in-WrongState.is ∙ c.in_ok-run_line.ensures.done so.state so.stands)
    c.loop-rest.number _ _ _ _ _ _ _ _ so.behind
    (c.in_ok-run_line.ensures.written so.state so.stands))

pub returns-in-WrongState-clause-status : goal.returns-in-WrongState-clause-status
returns-in-WrongState-clause-status g c = λ first stands.
    let some : 0 < length c.loop-rest.rest.now = grind (arith, common_steps) in
    let so = c.loop-rest.invariant.goes first stands in
    c.status_at_end.ensures
    ∙ sym (so.ends
    ∙ on_status so.state _ c.loop-rest.rest.now c.split_line.result.0.now
    c.split_line.result.1.now WrongState some c.split_line.ensures.line c.split_line.ensures.rest
    refl (sym c.in-WrongState.is ∙ c.in_ok-run_line.ensures.done so.state so.stands)
    c.loop-rest.fine)

pub loop-rest-preserved : goal.loop-rest-preserved
loop-rest-preserved g c =
    let some : 0 < length c.loop-rest.rest.now = grind (arith, common_steps) in
    let line = c.split_line.result.0.now in
    let behind = c.split_line.result.1.now in
    let next = λ (state : State). (step_text state line).next in
    let goes = λ (first : State) (stands : Stands c.args.world first) (fine : Bool)
    (done : StepDone)
    (ends : (state : State) → Stands c.loop-rest.world state → done ≡ (step_text state line).done)
    (on : (rest : List ℕ) → text_later done rest ≡ rest)
    (by : (state : State) → status_later done c.loop-rest.fine (next state) behind
    ≡ status_from fine (next state) behind).
    let so = c.loop-rest.invariant.goes first stands in
    goes_on first so.state (next so.state) _ _ _ _ _ _ _ (c.args.before + 1) c.loop-rest.number
    c.args.text.now c.loop-rest.rest.now line behind c.loop-rest.fine fine done _ some
    c.split_line.ensures.line c.split_line.ensures.rest refl (ends so.state so.stands) on
    (by so.state) so.behind so.ends
    (c.in_ok-run_line.ensures.written so.state so.stands)
    (c.in_ok-run_line.ensures.next so.state so.stands) in
    elim c.match-branch-2.branch [
      | in-Fine w ↦ record {
        goes = λ first stands. goes first stands _ Fine
            (λ state so. sym w.in-Fine.is ∙ c.in_ok-run_line.ensures.done state so) (λ rest. refl)
            (λ state. ap (λ fine. status_from fine (next state) behind) (sym w.fine-is));
        numbers = rw c.split_line.ensures.rest (simp length-drop
            (omega (arith, c.loop-rest.invariant.numbers, some)));
      }
      | in-Full w ↦ record {
        goes = λ first stands. goes first stands _ Full
            (λ state so. sym w.in-Full.is ∙ c.in_ok-run_line.ensures.done state so) (λ rest. refl)
            (λ state. ap (λ fine. status_from fine (next state) behind) (sym w.fine-is));
        numbers = rw c.split_line.ensures.rest (simp length-drop
            (omega (arith, c.loop-rest.invariant.numbers, some)));
      }
    ]

pub returns-clause-written : goal.returns-clause-written
returns-clause-written g c = λ first stands.
    let none : length c.loop-rest.rest.now ≡ 0 = grind (arith, common_steps) in
    let so = c.loop-rest.invariant.goes first stands in
    at_end _ _ _ _ _ _
    (behind_as _ _ _ _ _ _ _ (text_end c.loop-rest.number so.state c.loop-rest.rest.now none)
    so.behind)

pub returns-clause-status : goal.returns-clause-status
returns-clause-status g c = λ first stands.
    let none : length c.loop-rest.rest.now ≡ 0 = grind (arith, common_steps) in
    let so = c.loop-rest.invariant.goes first stands in
    c.status_at_end-2.ensures
    ∙ sym (so.ends ∙ status_end c.loop-rest.fine so.state c.loop-rest.rest.now none)
