use Rattle.std.proofs.Common.{◌≡◌, ◌++◌, take, drop, option_map}
use Rattle.ber_core.specs.Tree.{through_last}
use Rattle.ber_core.proofs.reader.number_length.Given as goal

abbrev pub invariant-loop-place : goal.invariant-loop-place
invariant-loop-place l =
    through_last l.octets ≡ option_map (λ rest. take l.place l.octets ++ rest)
    (through_last (drop l.place l.octets))
