use Rattle.std.proofs.Common.{◌≡◌, ◌+◌, ◌-◌, ◌*◌, ◌<◌, ◌≤◌, drop, get_or, arith}
use Rattle.std.proofs.lemmas.Bool.Decides.{nat_tests}
use Rattle.std.proofs.lemmas.Grind.{common_steps}
use Rattle.std.specs.Str.Parse.{digits_value, digits_value_after}
use Rattle.std.specs.Char.{digit_value}
use Rattle.run_plan.proofs.Digits.{value_grows_past}
use Rattle.run_plan.proofs.number.value_of.Goals as goal

-- the number is above the greatest one already
pub returns-then-wide-from-clause-exact : goal.returns-then-wide-from-clause-exact
returns-then-wide-from-clause-exact c =
    let grown : c.loop-digit.value * 10 + digit_value
    (get_or c.args.digits.now c.loop-digit.digit-index 0)
    ≤ digits_value_after 10 c.loop-digit.value
    (drop c.loop-digit.digit-index c.args.digits.now) =
    value_grows_past c.args.digits.now c.loop-digit.digit-index c.loop-digit.value
    c.loop-digit-test.true in
    let digit : digit_value (get_or c.args.digits.now c.loop-digit.digit-index 0)
    ≡ get_or c.args.digits.now c.loop-digit.digit-index 0 - 48 = grind (arith, common_steps) in
    let above : c.args.most < digits_value 10 c.args.digits.now = grind arith in
    grind (arith, nat_tests)
