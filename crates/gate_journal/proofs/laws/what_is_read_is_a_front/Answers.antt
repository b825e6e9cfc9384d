use Rattle.std.proofs.Common.{drop, ◌∷◌}
use Rattle.gate_journal.specs.File.{joined}
use Rattle.gate_journal.proofs.Again.{behind_led, entries_behind}
use Rattle.gate_journal.proofs.laws.what_is_read_is_a_front.Goals as goal

pub returns : goal.returns
returns c front entries gate place file led stands =
    let follows = behind_led c.read_back.ensures front entries gate place file led stands in (
      joined follows.more,
      entries_behind front entries gate place file (drop gate file) (stands.gate ∷ stands.rest) led
          stands follows,
    )
