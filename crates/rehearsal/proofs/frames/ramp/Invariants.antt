use Rattle.std.proofs.Common.{◌≡◌, map}
use Rattle.std.specs.List.{range_with_len}
use Rattle.rehearsal.specs.Frames.{in_circle}
use Rattle.rehearsal.proofs.frames.ramp.Given as goal

abbrev pub invariant-loop-place : goal.invariant-loop-place
invariant-loop-place l = l.ramp.items ≡ map in_circle (range_with_len 0 l.place)
