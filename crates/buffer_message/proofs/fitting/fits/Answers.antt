use Rattle.std.proofs.Common.{arith}
use Rattle.std.proofs.lemmas.Bool.Decides.{nat_tests}
use Rattle.buffer_message.proofs.Fit.{fits_by}
use Rattle.buffer_message.proofs.fitting.fits.Goals as goal

pub returns-then-are_in_range : goal.returns-then-are_in_range
returns-then-are_in_range c = fits_by c.args.items.now _ (grind (arith, nat_tests))

pub returns-else-are_in_range : goal.returns-else-are_in_range
returns-else-are_in_range c = fits_by c.args.items.now _ (grind (arith, nat_tests))
