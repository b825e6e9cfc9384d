use Rattle.words.proofs.Parts.{first_place}
use Rattle.words.proofs.split.place_of.Goals as goal

pub returns-clause-place : goal.returns-clause-place
returns-clause-place c = rw c.unwrap_or.ensures
    (first_place c.args.octet c.args.text.now c.memchr.result c.memchr.ensures)
