use Rattle.std.proofs.Common.{◌+◌, ◌-◌, length, drop, subst}
use Rattle.ber_core.specs.Length.{IsOctets}
use Rattle.ber_core.specs.Facts.Found.{IsOctets-take, IsOctets-drop}
use Rattle.ber_core.specs.Facts.Moves.{left-inside}
use Rattle.ber_core.proofs.laws.content_is_octets.Goals as goal

pub returns : goal.returns
returns c = λ view tag content start octets found.
    subst IsOctets (left-inside view tag content start found)
    (IsOctets-take (start + length content - start) (drop start view.octets)
    (IsOctets-drop start view.octets octets))
