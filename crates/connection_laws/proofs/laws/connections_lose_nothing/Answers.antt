use Rattle.std.proofs.Common.{Some}
use Rattle.drill_text.specs.Reading.{reading}
use Rattle.drill_text.specs.declared.script_line.ScriptLine.{ScriptLine}
use Rattle.connection_laws.proofs.Lives.{are_lossless}
use Rattle.connection_laws.proofs.laws.connections_lose_nothing.Goals as goal

pub returns : goal.returns
returns c =
    let laws = c.rests_on.ensures in
    record {
      lines = are_lossless (λ (line : ScriptLine). Some line)
          c.connections_are_sessions.ensures.lines laws;
      texts = are_lossless reading c.connections_are_sessions.ensures.texts laws;
    }
