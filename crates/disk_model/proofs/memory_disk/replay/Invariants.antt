use Rattle.std.proofs.Common.{◌≡◌, fold, take}
use Rattle.disk_model.specs.MemoryDisk.{replayed}
use Rattle.disk_model.proofs.memory_disk.replay.Given as goal

abbrev pub invariant-loop-event : goal.invariant-loop-event
invariant-loop-event l = l.image.items ≡ fold (replayed l.pick) l.initial.image.items
    (take l.event-index l.events)
