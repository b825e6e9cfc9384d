use Rattle.disk_model.specs.declared.call.Call.TheVariants.{Write}
use Rattle.disk_model.proofs.Calls.{call_elapses, failed_write}
use Rattle.disk_model.proofs.memory_disk.MemoryDiskDisk.write_at.Goals as goal

pub returns-in-Ok-clause-torn : goal.returns-in-Ok-clause-torn
returns-in-Ok-clause-torn c =
    rw (← c.in-Ok.ensures) (failed_write c.args.self.now c.args.place c.in-Ok.octets c.requires
    c.run.result c.run.new.self c.run.ensures.failed)

pub returns-in-Ok-clause-time : goal.returns-in-Ok-clause-time
returns-in-Ok-clause-time c =
    call_elapses c.run.result c.args.self.now c.run.new.self (Write c.args.place c.in-Ok.octets)
    c.run.ensures.made c.run.ensures.failed
