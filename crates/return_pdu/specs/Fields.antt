-- The ranges of a frame's fields (CCSDS 911.1-B, annex A).
use Rattle.std.specs.Prelude.{◌≤◌, pos, negsuc, ◌≤ℤ◌, length}
use Rattle.return_pdu.specs.Items.{Frame}

pub record IsFrame (f : Frame) : Type 0 where
  pub antenna_some : 1 ≤ length f.antenna
  pub antenna_short : length f.antenna ≤ 16
  pub continuity_least : negsuc 0 ≤ℤ f.continuity
  pub continuity_greatest : f.continuity ≤ℤ pos 16777215
  pub quality : f.quality ≤ 2
  pub octets_some : 1 ≤ length f.octets
  pub octets_fit : length f.octets ≤ 65536
