use Rattle.std.proofs.Common.{Some}
use Rattle.drill_text.specs.Reading.{reading}
use Rattle.drill_text.specs.declared.script_line.ScriptLine.{ScriptLine}
use Rattle.script_world.proofs.Runs.{in_world, site_stays}
use Rattle.script_world.proofs.laws.a_script_is_events.Goals as goal

pub returns : goal.returns
returns c =
    let sites = site_stays c.connections_are_sessions.ensures.lines in
    record {
      lines = λ site lines more. in_world c.lines_are_events.ensures
          c.what_a_round_makes_may_come.ensures c.a_start_hands_over.ensures.last c.headline_law.ensures site sites
          (λ (line : ScriptLine). Some line) c.at_each_moment.ensures.headline c.at_each_moment.ensures.stays lines more;
      texts = λ site lines more. in_world c.lines_are_events.ensures
          c.what_a_round_makes_may_come.ensures c.a_start_hands_over.ensures.last c.headline_law.ensures site sites reading
          c.at_each_moment.ensures.headline c.at_each_moment.ensures.stays lines more;
    }
