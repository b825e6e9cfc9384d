use Rattle.station_world.specs.Headline.{Headline}
use Rattle.station_world.specs.Stays.{LivesGoOn}
use Rattle.station_world.proofs.Moments.{at_each_moment}
use Rattle.station_world.proofs.laws.at_each_moment.Goals as goal

pub returns-clause-headline : goal.returns-clause-headline
returns-clause-headline c w events = at_each_moment Headline c.headline_law.ensures w events

pub returns-clause-stays : goal.returns-clause-stays
returns-clause-stays c w events = at_each_moment LivesGoOn c.what_was_done_stays.ensures w events
