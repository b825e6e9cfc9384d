use Rattle.script_commands.proofs.Promises.{read_of, streamed, placed, has_transcript, has_world}
use Rattle.script_commands.proofs.Sessions.{is_session, is_sent, is_lossless, is_delivered}
use Rattle.script_commands.proofs.Sessions.{of_world, has_history}
use Rattle.script_commands.proofs.laws.every_script_is_lawful.Goals as goal

pub returns : goal.returns
returns c =
    let laws = c.rests_on.ensures in
    λ script. record {
      transcript = has_transcript laws script;
      world = has_world laws script;
      placed = placed laws script;
      streamed = streamed laws script;
      read = read_of laws script;
      sessions = is_session laws script;
      sent = is_sent laws script;
      lossless = is_lossless laws script;
      all = c.of_sessions.ensures;
      counted = c.reports_are_counted.ensures;
      deliveries = is_delivered laws script;
      in_world = of_world laws script;
      history = has_history laws script;
    }
