use Rattle.std.proofs.Common.{◌+◌, [], ◌∷◌, ◌++◌, length, take, rules}
use Rattle.disk_model.specs.Images.{overwritten}
use Rattle.disk_model.specs.declared.call.Call.TheVariants.{Write, Cut, Sync}
use Rattle.disk_model.specs.declared.event.Event.TheVariants.{Made}
use Rattle.disk_model.proofs.Replay.{agrees_as, agrees_write, agrees_cut, agrees_sync}
use Rattle.disk_model.proofs.memory_disk.MemoryDisk.perform.Goals.{in-Write+in_ok-overwrite-in-Write}
use Rattle.disk_model.proofs.memory_disk.MemoryDisk.perform.Goals.{in-Cut, in-Sync}
use Rattle.disk_model.proofs.memory_disk.MemoryDisk.perform.Goals as goal

pub invariant_of-self-2 : goal.invariant_of-self-2
invariant_of-self-2 c = elim c.match-call-3.branch [
  | in-Write+in_ok-overwrite-in-Write w ↦
      agrees_as c.self.inside.start.items _ (c.self.inside.log.items
      ++ Made (Write w.in-Write.place w.in-Write.octets) ∷ []) _
      (overwritten c.self.inside.content.items w.in-Write.place w.in-Write.octets) _
      c.self.inside.base.items _ c.self.inside.based _ c.self.inside.settled _
      (search rules) (search rules) (search rules) (search rules) (search rules) (search rules)
      (agrees_write _ _ _ _ _ _ c.self.invariant w.in-Write.place w.in-Write.octets)
  | in-Cut w ↦
      agrees_as c.self.inside.start.items _ (c.self.inside.log.items ++ Made (Cut w.in-Cut.size)
      ∷ []) _
      (take w.in-Cut.size c.self.inside.content.items) _ c.self.inside.base.items _
      c.self.inside.based _ c.self.inside.settled _
      (search rules) (search rules) (search rules) (search rules) (search rules) (search rules)
      (agrees_cut _ _ _ _ _ _ c.self.invariant w.in-Cut.size)
  | in-Sync w ↦
      agrees_as c.self.inside.start.items _ (c.self.inside.log.items ++ Made Sync ∷ []) _
      c.self.inside.content.items _ c.self.inside.base.items _ c.self.inside.based _
      (length c.self.inside.log.items + 1) _
      (search rules) (search rules) (search rules) (search rules) (search rules) (search rules)
      (agrees_sync _ _ _ _ _ _ c.self.invariant)
]
