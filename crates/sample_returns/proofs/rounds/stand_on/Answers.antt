use Rattle.sample_returns.proofs.rounds.stand_on.Goals as goal

pub returns : goal.returns
returns c = λ t entries later rounds stood within archive.
    c.a_delivery_stands_as_the_archive_grows.ensures.stands c.args._delivery.now t entries later
    rounds stood within archive
