use Rattle.archive_terms.proofs.Buffers.{buffer_length-le, buffer_length-open, buffer_length-stops}
use Rattle.archive_terms.proofs.laws.buffer_takes_what_fits.Goals as goal

pub returns-clause-within : goal.returns-clause-within
returns-clause-within c = buffer_length-le

pub returns-clause-open : goal.returns-clause-open
returns-clause-open c = buffer_length-open

pub returns-clause-greatest : goal.returns-clause-greatest
returns-clause-greatest c = buffer_length-stops
