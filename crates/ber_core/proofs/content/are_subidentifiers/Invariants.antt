use Rattle.std.proofs.Common.{◌≡◌, true, drop}
use Rattle.ber_core.specs.Reading.{are_subidentifiers}
use Rattle.ber_core.proofs.content.are_subidentifiers.Given as goal

abbrev pub invariant-loop-octet : goal.invariant-loop-octet
invariant-loop-octet l = are_subidentifiers l.begins (drop l.octet-index l.content)
    ≡ are_subidentifiers true l.content
