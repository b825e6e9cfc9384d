use Rattle.std.proofs.Common.{◌≡◌, ◌*◌, ◌≤◌, take}
use Rattle.std.specs.List.{sum_by}
use Rattle.buffer_message.proofs.Fit.{octets_in}
use Rattle.buffer_message.proofs.fitting.octets_of_frames.Given as goal

-- the octets of the frames so far
abbrev pub invariant-loop-item : goal.invariant-loop-item
invariant-loop-item l = record {
  octets : l.octets ≡ sum_by octets_in (take l.item-index l.items);
  small : l.octets ≤ 65536 * l.item-index;
}
