use Rattle.session_laws.proofs.Due.{due_buffers}
use Rattle.session_laws.proofs.laws.a_due_buffer_is_offered.Goals as goal

pub returns : goal.returns
returns c =
    due_buffers c.a_service_leaves_its_session.ensures c.what_is_held_fits.ensures
    c.a_step_offers_what_is_due.ensures
