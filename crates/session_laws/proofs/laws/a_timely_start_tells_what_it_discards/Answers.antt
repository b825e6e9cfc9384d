use Rattle.session_laws.proofs.Deliveries.{start_stands}
use Rattle.session_laws.specs.Deliveries.{visits_of}
use Rattle.return_core.specs.Visits.{after_visits, rounds_of}
use Rattle.session_laws.proofs.laws.a_timely_start_tells_what_it_discards.Goals as goal

pub returns : goal.returns
returns c = λ entries later site rounds s course t stood d serves are sees mode archive.
    let visits = visits_of site s rounds in
    let stands =
    start_stands c.a_service_leaves_its_session.ensures c.each_visit_stands.ensures entries site
    rounds s course t stood d serves are sees in
    let now = after_visits visits course in
    record {
      shape =
          c.timely_rounds.ensures.shape now t entries later (rounds_of visits) stands mode archive;
      only_after_all =
          c.timely_rounds.ensures.end_of_data now t entries later (rounds_of visits) stands mode
          archive;
    }
