use Rattle.std.proofs.Common.{◌≡◌, ◌+◌, ◌*◌, ◌^◌, length, drop}
use Rattle.ber_core.specs.Length.{number_of}
use Rattle.ber_core.proofs.content.number_of.Given as goal

abbrev pub invariant-loop-octet : goal.invariant-loop-octet
invariant-loop-octet l =
    l.number * 256 ^ length (drop l.octet-index l.octets) + number_of (drop l.octet-index l.octets)
    ≡ number_of l.octets
