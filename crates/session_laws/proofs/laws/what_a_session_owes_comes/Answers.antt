use Rattle.session_laws.proofs.Owing.{rounds_are_taken, owed_comes, ready_comes, VisitLaws}
use Rattle.session_laws.proofs.laws.what_a_session_owes_comes.Goals as goal

pub returns-clause-taken : goal.returns-clause-taken
returns-clause-taken c = rounds_are_taken c.a_service_leaves_its_session.ensures
    c.each_visit_stands.ensures c.what_is_held_fits.ensures

laws_of : goal.After-few_buffers_are_left → VisitLaws
laws_of c =
    let law = c.what_is_owed_comes.ensures in
    record {
      still = law.still;
      complete = law.complete;
      timely = law.timely;
      each = law.each;
      some = law.some;
      few = c.few_buffers_are_left.ensures;
    }

pub returns-clause-owed : goal.returns-clause-owed
returns-clause-owed c =
    owed_comes c.a_service_leaves_its_session.ensures c.each_visit_stands.ensures (laws_of c)
    c.what_is_held_fits.ensures

pub returns-clause-ready : goal.returns-clause-ready
returns-clause-ready c =
    ready_comes c.a_service_leaves_its_session.ensures c.each_visit_stands.ensures (laws_of c)
    c.what_is_held_fits.ensures
