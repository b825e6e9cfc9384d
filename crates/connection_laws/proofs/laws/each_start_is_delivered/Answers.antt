use Rattle.drill_text.specs.Reading.{reading}
use Rattle.connection_laws.proofs.Delivered.{are_delivered}
use Rattle.connection_laws.proofs.laws.each_start_is_delivered.Goals as goal

pub returns : goal.returns
returns c =
    are_delivered reading c.connections_are_sessions.ensures.texts c.archives_grow.ensures
    c.the_book_has_what_is_stored.ensures c.what_a_session_sees_is_published.ensures
    c.each_start_hands_over.ensures c.only_a_started_service_sends.ensures
