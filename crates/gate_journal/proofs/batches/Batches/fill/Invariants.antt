use Rattle.std.proofs.Common.{◌≡◌, ◌+◌, ◌-◌, ◌≤◌, ◌<◌, ◌^◌, length}
use Rattle.disk_model.specs.Moments.{Reads}
use Rattle.gate_journal.specs.Batches.{HoldsBatch}
use Rattle.gate_journal.proofs.batches.Batches.fill.Given as goal

abbrev pub invariant-loop-self : goal.invariant-loop-self
invariant-loop-self g l =
    (l.self.gate ≡ l.initial.self.gate) × (l.self.times ≡ l.initial.self.times)
    × (l.disk ≡ l.initial.disk)
    × (Reads (g.D.Disk.pending l.initial.disk) l.initial.self.start l.initial.self.room
    → Reads (g.D.Disk.pending l.initial.disk) l.self.start l.self.room)
    × (l.self.gate - l.self.start + l.needed ≤ length l.self.room
    → HoldsBatch l.self.room (l.self.gate - l.self.start))
    × (l.needed < 2 ^ 33)

abbrev pub decreases-loop-self : goal.decreases-loop-self
decreases-loop-self g l = g.D.Disk.extent l.disk - (l.self.start + length l.self.room)
