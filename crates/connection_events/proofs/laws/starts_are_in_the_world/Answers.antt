use Rattle.drill_text.specs.Reading.{reading}
use Rattle.connection_events.proofs.InWorld.{in_world, names_users}
use Rattle.connection_events.proofs.laws.starts_are_in_the_world.Goals as goal

pub returns : goal.returns
returns c =
    in_world reading c.connections_are_sessions.ensures.texts c.progress_is_of_its_door.ensures
    c.what_a_round_makes_may_come.ensures c.each_start_is_the_worlds.ensures
    c.a_script_is_events.ensures.texts (names_users c.script_is_exact.ensures)
