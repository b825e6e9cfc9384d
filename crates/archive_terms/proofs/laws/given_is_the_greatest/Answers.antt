use Rattle.archive_terms.proofs.Counts.{given-le, given-open, given-stops, given-is}
use Rattle.archive_terms.proofs.laws.given_is_the_greatest.Goals as goal

pub returns-clause-within : goal.returns-clause-within
returns-clause-within c = given-le

pub returns-clause-open : goal.returns-clause-open
returns-clause-open c = given-open

pub returns-clause-greatest : goal.returns-clause-greatest
returns-clause-greatest c = given-stops

pub returns-clause-alone : goal.returns-clause-alone
returns-clause-alone c = given-is
