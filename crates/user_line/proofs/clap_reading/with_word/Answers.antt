use Rattle.std.proofs.Common.{◌≡◌, ◌||◌, false, ap, ◌∙◌, rules}
use Rattle.std.proofs.lemmas.Result.{IfOk-weaker}
use Rattle.clap.specs.declared.builder.command.Command.TheViews.{out-Command as fields_of}
use Rattle.user_line.proofs.Values.{or_false}
use Rattle.user_line.proofs.clap_reading.with_word.Goals as goal

pub returns-clause-plain : goal.returns-clause-plain
returns-clause-plain c =
    let own : c.required.result.global ≡ false = search rules in
    IfOk-weaker c.arg.result _ _ (λ more adds. adds.globals
    ∙ (ap (λ global. (fields_of c.args.command).has_globals || global) own
    ∙ or_false (fields_of c.args.command).has_globals)) c.arg.ensures
