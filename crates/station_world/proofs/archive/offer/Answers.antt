use Rattle.record_form.specs.Entry.{entry_of}
use Rattle.station_world.proofs.Results.{both_ok}
use Rattle.station_world.proofs.archive.offer.Goals as goal

pub returns-clause-taken : goal.returns-clause-taken
returns-clause-taken g c =
    both_ok c.offer.result (λ order is. c.archive_calls_are_events.ensures.offered
    c.args.archive.now c.offer.new.self (entry_of c.args.entry) c.requires order is
    c.offer.ensures.batch c.offer.ensures.acknowledged) c.offer.ensures.in_order
    c.offer.ensures.taken
