use Rattle.words.specs.Suffixed.{before_last-yes, before_last-no}
use Rattle.words.proofs.split.before_last.Goals as goal

pub returns-then-last-octet : goal.returns-then-last-octet
returns-then-last-octet c = before_last-yes c.args.octet c.in_ok-last.last.now c.args.word.now
    c.in_ok-last.front.now c.in_ok-last.ensures.cases.0 c.if-last-octet.true

pub returns-else-last-octet : goal.returns-else-last-octet
returns-else-last-octet c = before_last-no c.args.octet c.in_ok-last.last.now c.args.word.now
    c.in_ok-last.front.now c.in_ok-last.ensures.cases.0 c.if-last-octet.false
