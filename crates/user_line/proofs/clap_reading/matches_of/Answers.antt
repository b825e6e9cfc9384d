use Rattle.std.proofs.Common.{ap, ◌∙◌}
use Rattle.std.proofs.lemmas.Result.{IfErr-weaker}
use Rattle.clap.specs.Words.{takes}
use Rattle.user_line.specs.Line.{texts_of}
use Rattle.user_line.proofs.clap_reading.matches_of.Goals as goal

pub returns-clause-err : goal.returns-clause-err
returns-clause-err c =
    IfErr-weaker c.try_get_matches_from.result _ _ (λ error passes taken. passes
    (ap (λ app. takes app (texts_of c.args.line.now)) c.in_ok-command.ensures ∙ taken))
    c.try_get_matches_from.ensures.passes
