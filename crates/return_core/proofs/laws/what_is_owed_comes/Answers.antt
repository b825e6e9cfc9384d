use Rattle.std.proofs.Common.{ap, sym, ◌∙◌, ◌++◌, map, length, subst, take, not, ◌≡◌}
use Rattle.std.proofs.lemmas.List.Elements.{filter_map-append, filter-append}
use Rattle.std.proofs.lemmas.Grind.{flat_map-append}
use Rattle.archive_terms.specs.Delivery.{started, is_backlog}
use Rattle.archive_terms.specs.Rounds.{handed_buffers, handed_buffer, handed_in, handed_items}
use Rattle.archive_terms.specs.Rounds.{settled_in, settled_items, without_backlog, outcomes}
use Rattle.archive_terms.specs.Rounds.{last_front}
use Rattle.archive_terms.specs.Rounds.{free_round, after_rounds}
use Rattle.archive_terms.specs.Progress.{taken_rounds, ready_at}
use Rattle.return_core.specs.Standing.{handed_over}
use Rattle.return_core.specs.Visits.{rounds_of}
use Rattle.return_core.specs.Coming.{flagged, moments_of}
use Rattle.return_core.proofs.Stands.{rise_from_none}
use Rattle.return_core.proofs.Visits.{Law}
use Rattle.return_core.proofs.Coming.{done_still, last_from_none, free_all_settled, looks_rise}
use Rattle.return_core.proofs.Coming.{looks_from, freed, freed_rise, freed_keep, freed_taken}
use Rattle.return_core.proofs.Coming.{ready_behind_rounds, same_done, freed_by, flagged_done}
use Rattle.return_core.proofs.Coming.{flagged_rise, flagged_keep, flagged_taken, fewer}
use Rattle.return_core.proofs.laws.what_is_owed_comes.Goals as goal

law_of : goal.After-ready_buffers_come → Law
law_of c =
    let law = c.places_are_counts.ensures in
    λ d t entries rounds s. record {
      steps = λ more. law.steps t entries more s.some s.archive s.first;
      told = λ more. law.told t entries more s.some s.archive s.first;
    }

pub returns-clause-still : goal.returns-clause-still
returns-clause-still c =
    λ course t entries rounds visits front s looks behind all taken.
    ap handed_buffers (done_still (law_of c) course t entries rounds visits front s looks all taken)
    ∙ filter_map-append handed_buffer (outcomes t entries rounds started)
    (outcomes t entries (map (free_round front) (moments_of visits))
    (after_rounds t entries rounds started))
    ∙ ap (λ xs. handed_over t entries rounds ++ xs)
    (c.still_rounds.ensures t entries rounds front (moments_of visits) s.some s.archive
    (rise_from_none t.selection.first rounds s.rise)
    (last_from_none t.selection.first rounds front behind))

pub returns-clause-complete : goal.returns-clause-complete
returns-clause-complete c =
    λ course t entries rounds visits front s looks behind all taken mode enough.
    ap handed_items (done_still (law_of c) course t entries rounds visits front s looks all taken)
    ∙ flat_map-append handed_in (outcomes t entries rounds started)
    (outcomes t entries (map (free_round front) (moments_of visits))
    (after_rounds t entries rounds started))
    ∙ c.all_is_handed_over.ensures.complete t entries rounds front (moments_of visits) s.some
    s.archive (rise_from_none t.selection.first rounds s.rise)
    (last_from_none t.selection.first rounds front behind) mode enough

pub returns-clause-timely : goal.returns-clause-timely
returns-clause-timely c =
    λ course t entries rounds visits front s looks behind all taken enough.
    let d = after_rounds t entries rounds started in
    let before = outcomes t entries rounds started in
    let still = outcomes t entries (map (free_round front) (moments_of visits)) d in
    ap (λ done. without_backlog (settled_items done))
    (done_still (law_of c) course t entries rounds visits front s looks all taken)
    ∙ ap without_backlog (flat_map-append settled_in before still)
    ∙ filter-append (λ item. not (is_backlog item)) (settled_items before) (settled_items still)
    ∙ ap (λ xs. without_backlog (settled_items before) ++ without_backlog xs)
    (free_all_settled t entries front (moments_of visits) d)
    ∙ c.all_is_handed_over.ensures.timely t entries rounds front (moments_of visits) s.some
    s.archive (rise_from_none t.selection.first rounds s.rise)
    (last_from_none t.selection.first rounds front behind) enough

pub returns-clause-ready : goal.returns-clause-ready
returns-clause-ready c =
    λ course t entries rounds visits front s behind looks keep told.
    let d = after_rounds t entries rounds started in
    ready_behind_rounds t entries rounds (rounds_of visits)
    (take (taken_rounds (rounds_of visits)) (ready_at t entries front d)) s.going
    (c.ready_buffers_come.ensures t entries rounds (rounds_of visits) front s.some s.archive
    (rise_from_none t.selection.first rounds s.rise)
    (last_from_none t.selection.first rounds front behind)
    (looks_rise entries front course visits looks) keep told)

pub returns-clause-each : goal.returns-clause-each
returns-clause-each c =
    λ course t entries rounds visits front s behind looks taken told.
    let d = after_rounds t entries rounds started in
    let due = take (length visits) (ready_at t entries front d) in
    ready_behind_rounds t entries rounds (rounds_of visits) due s.going
    (subst (λ done. take (length due) (handed_buffers done) ≡ due)
    (sym (same_done (law_of c) t entries course rounds visits s
    (looks_from entries (last_front t.selection.first rounds) front course visits behind looks)
    taken))
    (subst (λ n. take (length (take n (ready_at t entries front d)))
    (handed_buffers (outcomes t entries (map freed visits) d))
    ≡ take n (ready_at t entries front d)) (freed_taken visits)
    (c.ready_buffers_come.ensures t entries rounds (map freed visits) front s.some s.archive
    (rise_from_none t.selection.first rounds s.rise)
    (last_from_none t.selection.first rounds front behind)
    (freed_rise entries front course visits looks) (freed_keep t.mode visits) told)))

pub returns-clause-some : goal.returns-clause-some
returns-clause-some c =
    λ course t entries rounds flags visits front s behind looks taken told.
    let d = after_rounds t entries rounds started in
    let later = freed_by flags visits in
    let due = take (flagged flags) (ready_at t entries front d) in
    ready_behind_rounds t entries rounds (rounds_of visits) due s.going
    (subst (λ done. take (length due) (handed_buffers done) ≡ due)
    (sym (flagged_done (law_of c) t entries course rounds flags visits s
    (looks_from entries (last_front t.selection.first rounds) front course visits behind looks)
    taken))
    (fewer (flagged flags) (taken_rounds later) (ready_at t entries front d)
    (handed_buffers (outcomes t entries later d))
    (flagged_taken t.mode course flags visits taken)
    (c.ready_buffers_come.ensures t entries rounds later front s.some s.archive
    (rise_from_none t.selection.first rounds s.rise)
    (last_from_none t.selection.first rounds front behind)
    (flagged_rise entries front t.mode course flags visits looks taken)
    (flagged_keep t.mode course flags visits taken) told)))
