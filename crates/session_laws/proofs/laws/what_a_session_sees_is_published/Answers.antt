use Rattle.session_laws.proofs.Seeing.{sees_published}
use Rattle.session_laws.proofs.laws.what_a_session_sees_is_published.Goals as goal

pub returns : goal.returns
returns c =
    sees_published c.published_entries_grow.ensures.begin
    c.a_wanted_look_is_one_at_its_front.ensures.front
