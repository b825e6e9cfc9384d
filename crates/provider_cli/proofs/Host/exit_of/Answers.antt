use Rattle.std.proofs.Common.{◌≡◌, rules}
use Rattle.std.specs.Process.{exit_status}
use Rattle.provider_cli.proofs.Host.exit_of.Goals as goal

-- the exit code is the one that the words are answered with
pub returns-in-Ok-clause-answered : goal.returns-in-Ok-clause-answered
returns-in-Ok-clause-answered g c =
    let code : exit_status c.from.result ≡ c.answer.result = search rules in
    rw c.in-Ok.is (rw code (rw c.as_slice.ensures.value at c.answer.ensures))
