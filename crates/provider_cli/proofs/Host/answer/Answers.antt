use Rattle.std.proofs.Common.{◌≡◌, map, rules, string_bytes}
use Rattle.command_words.specs.Command.{asked, plan_of}
use Rattle.provider_cli.proofs.Host.answer.Goals as goal

-- the texts are the words
pub returns-in-Ok : goal.returns-in-Ok
returns-in-Ok g c =
    let same : asked c.as_slice.result.now ≡ plan_of (map string_bytes c.args.words.now) =
    search rules in
    rw same at c.provide_asked.ensures
