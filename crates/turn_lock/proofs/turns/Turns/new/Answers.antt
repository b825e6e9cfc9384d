use Rattle.std.proofs.Common.{rules}
use Rattle.turn_lock.proofs.Keeping.{starts}
use Rattle.turn_lock.proofs.turns.Turns.new.Goals as goal

pub new-requires : goal.new-requires
new-requires g c = starts g.T.StandsFor.origin g.T.StandsFor.stands
    (g.T.StandsFor.origin c.of.result.value) c.args.turns c.push_reserved.new.self.items
    c.args.value (search rules) (search rules) c.requires.empty
