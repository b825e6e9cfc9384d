use Rattle.script_head.proofs.Parts.{first_place}
use Rattle.script_head.proofs.lines.end_of.Goals as goal

pub returns-clause-place : goal.returns-clause-place
returns-clause-place c = rw c.unwrap_or.ensures
    (first_place 10 c.args.text.now c.memchr.result c.memchr.ensures)
