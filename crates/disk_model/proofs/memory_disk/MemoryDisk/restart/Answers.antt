use Rattle.std.proofs.Common.{rules}
use Rattle.disk_model.specs.MemoryDiskLaws.{is_coherent}
use Rattle.disk_model.proofs.Calls.{restarted_image, restart_elapses}
use Rattle.disk_model.proofs.memory_disk.MemoryDisk.restart.Goals as goal

pub returns-in_default-clause-image : goal.returns-in_default-clause-image
returns-in_default-clause-image c = (is_coherent c.args.self.now).content

pub returns-clause-image : goal.returns-clause-image
returns-clause-image c =
    rw (← c.self.view_is)
    (restarted_image c.self.inside.start.items c.self.inside.log.items c.push.new.self.items
    c.in-Some.pick (search rules))

pub returns-clause-time : goal.returns-clause-time
returns-clause-time c =
    rw (← c.self.view_is)
    (restart_elapses c.self.inside.start.items c.self.inside.log.items c.push.new.self.items
    c.in-Some.pick (search rules))
