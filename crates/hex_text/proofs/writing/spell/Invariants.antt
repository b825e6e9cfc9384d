use Rattle.std.proofs.Common.{◌≡◌, ◌*◌, ◌++◌, take, drop}
use Rattle.hex.specs.Hex.{encode_lower}
use Rattle.hex_text.proofs.writing.spell.Given as goal

abbrev pub invariant-loop-b : goal.invariant-loop-b
invariant-loop-b l =
    take (2 * (16 * l.b)) l.digits ++ encode_lower (drop (16 * l.b) l.octets)
    ≡ encode_lower l.octets

abbrev pub invariant-loop-i : goal.invariant-loop-i
invariant-loop-i l =
    take (2 * l.i) l.digits ++ encode_lower (drop l.i l.octets) ≡ encode_lower l.octets
