use Rattle.std.proofs.Common.{◌≡◌, ◌-◌, ◌≤◌, vec_len, length, take, drop}
use Rattle.std.specs.Option.{option_map, IfSome}
use Rattle.whole_input.proofs.reading.read_input.Given as goal

-- what was read is the front of the input, and what the source has left is the rest
abbrev pub invariant-loop-piece : goal.invariant-loop-piece
invariant-loop-piece g l = record {
  left : g.I.Source.left l.input ≡ option_map (drop (vec_len l.octets))
      (g.I.Source.left l.initial.input);
  octets : IfSome (g.I.Source.left l.initial.input)
      (λ octets. (l.octets.items ≡ take (vec_len l.octets) octets)
      × (vec_len l.octets ≤ length octets));
  faults : g.I.Source.faults l.input ≡ g.I.Source.faults l.initial.input;
}

abbrev pub decreases-loop-piece : goal.decreases-loop-piece
decreases-loop-piece g l = 16777217 - vec_len l.octets
