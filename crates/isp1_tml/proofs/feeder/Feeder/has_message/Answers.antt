use Rattle.std.proofs.Common.{arith}
use Rattle.std.proofs.lemmas.Bool.{ltb-true, lt-ltb}
use Rattle.isp1_tml.proofs.Feedings.{holds_message}
use Rattle.isp1_tml.proofs.feeder.Feeder.has_message.Goals as goal

pub returns-then-is_none : goal.returns-then-is_none
returns-then-is_none c =
    let has = holds_message c.self.invariant in
    rw (← c.self.view_is) (
      λ some. (grind (arith, c.if-is_none.ensures), has.0 (ltb-true _ _ some)),
      λ some. lt-ltb _ _ (has.1 some.1),
    )
