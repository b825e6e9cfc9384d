use Rattle.std.proofs.Common.{◌≡◌, ◌<◌, true, false, length, length-drop, rules, arith}
use Rattle.std.proofs.lemmas.Grind.{common_steps}
use Rattle.script_head.specs.Head.{is_end}
use Rattle.script_head.proofs.FirstLines.{line_in}
use Rattle.script_head.proofs.Settings.{none_passed, one_passed, end_told, end_splits}
use Rattle.script_head.proofs.Settings.{all_told, none_left}
use Rattle.script_head.proofs.head.find_end.Goals as goal

pub loop-rest-init : goal.loop-rest-init
loop-rest-init c = record { passed = none_passed c.args.text.now; few = omega arith }

pub returns-then-eq-clause-told : goal.returns-then-eq-clause-told
returns-then-eq-clause-told c =
    let some : 0 < length c.loop-rest.rest.now = grind (arith, common_steps) in
    let ends : is_end (line_in c.loop-rest.rest.now) ≡ true =
    rw (← c.split_line.ensures.line) (search rules) in
    end_told c.args.text.now c.loop-rest.rest.now c.loop-rest.lines some
    c.loop-rest.invariant.passed ends _ (search rules)

pub returns-then-eq-clause-behind : goal.returns-then-eq-clause-behind
returns-then-eq-clause-behind c =
    let some : 0 < length c.loop-rest.rest.now = grind (arith, common_steps) in
    let ends : is_end (line_in c.loop-rest.rest.now) ≡ true =
    rw (← c.split_line.ensures.line) (search rules) in
    rw c.split_line.ensures.rest (end_splits c.args.text.now c.loop-rest.rest.now c.loop-rest.lines
    some c.loop-rest.invariant.passed ends)

pub loop-rest-preserved : goal.loop-rest-preserved
loop-rest-preserved c =
    let some : 0 < length c.loop-rest.rest.now = grind (arith, common_steps) in
    let other : is_end (line_in c.loop-rest.rest.now) ≡ false =
    rw (← c.split_line.ensures.line) (search rules) in
    record {
      passed = rw c.split_line.ensures.rest (one_passed c.args.text.now c.loop-rest.rest.now
          c.loop-rest.lines some c.loop-rest.invariant.passed other);
      few = rw c.split_line.ensures.rest (simp length-drop
          (omega (arith, c.loop-rest.invariant.few, some)));
    }

pub returns-clause-told : goal.returns-clause-told
returns-clause-told c =
    let none : length c.loop-rest.rest.now ≡ 0 = search rules in
    all_told c.args.text.now c.loop-rest.lines (none_left c.args.text.now c.loop-rest.rest.now
    c.loop-rest.lines none c.loop-rest.invariant.passed)
