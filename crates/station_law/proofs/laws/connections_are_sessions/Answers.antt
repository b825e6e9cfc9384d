use Rattle.std.proofs.Common.{Some}
use Rattle.drill_text.specs.Reading.{reading}
use Rattle.drill_text.specs.declared.script_line.ScriptLine.{ScriptLine}
use Rattle.station_law.proofs.Lives.{of_session, goes_on}
use Rattle.station_law.proofs.laws.connections_are_sessions.Goals as goal

pub returns : goal.returns
returns c = record {
  lines = record {
    lives = λ state door moment lines at.
        of_session (λ (line : ScriptLine). Some line) door c.runs_are_sessions.ensures state moment
        lines at;
    history = λ state line. goes_on state (Some line);
  };
  texts = record {
    lives = λ state door moment lines at.
        of_session reading door c.runs_are_sessions.ensures state moment lines at;
    history = λ state line. goes_on state (reading line);
  };
}
