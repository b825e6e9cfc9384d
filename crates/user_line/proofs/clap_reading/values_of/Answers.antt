use Rattle.std.proofs.Common.{ap, ◌∙◌, drop, take, length}
use Rattle.clap.specs.Words.{subcommand_of, subcommand_rows_of}
use Rattle.user_line.specs.Clap.{program, values_in}
use Rattle.user_line.specs.Line.{ids_of, texts_of}
use Rattle.user_line.proofs.Forms.{reads}
use Rattle.user_line.proofs.clap_reading.values_of.Goals as goal

pub returns-clause-ok : goal.returns-clause-ok
returns-clause-ok c =
    c.in_ok-words.ensures
    ∙ (ap (λ ids. values_in ids (subcommand_rows_of c.in_ok-matches.matches)) c.ids_for.ensures
    ∙ (ap (values_in (take (length (drop 1 (texts_of c.args.line.now))) (ids_of c.args.form)))
    (c.in_ok-matches.ensures.ok ∙ ap (subcommand_of program) c.requires.name)
    ∙ (reads c.args.form (drop 1 (texts_of c.args.line.now)) c.requires.words).values))
