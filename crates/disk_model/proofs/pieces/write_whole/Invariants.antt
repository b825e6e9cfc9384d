use Rattle.std.proofs.Common.{length, ◌-◌, ◌+◌, ◌≤◌, ◌≡◌, max, option_map}
use Rattle.disk_model.specs.Moments.{Elapses}
use Rattle.disk_model.specs.RawFile.{after_first_piece}
use Rattle.disk_model.proofs.pieces.write_whole.Given as goal

abbrev pub invariant-loop-done : goal.invariant-loop-done
invariant-loop-done g l =
    (g.F.RawFile.pending l.file ≡ option_map (after_first_piece l.place l.octets l.done)
    (g.F.RawFile.pending l.fn.file))
    × Elapses (g.F.RawFile.moment l.fn.file) (g.F.RawFile.moment l.file)
    (g.F.RawFile.images_since l.fn.file) (g.F.RawFile.images_since l.file)
    (g.F.RawFile.pending l.file)
    × (g.F.RawFile.asked l.file ≡ g.F.RawFile.asked l.fn.file)
    × (l.size ≡ max l.fn.size (l.place + l.done))
    × (l.done ≤ length l.octets)

abbrev pub decreases-loop-done : goal.decreases-loop-done
decreases-loop-done g l = length l.octets - l.done
