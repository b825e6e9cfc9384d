use Rattle.std.proofs.Common.{◌≡◌, ◌++◌, take}
use Rattle.picture_page.specs.Escape.{escaped}
use Rattle.picture_page.proofs.escape.put_escaped.Given as goal

abbrev pub invariant-loop-octet : goal.invariant-loop-octet
invariant-loop-octet l = l.into.items
    ≡ l.initial.into.items ++ escaped (take l.octet-index l.octets)
