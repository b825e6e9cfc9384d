use Rattle.std.proofs.Common.{rules}
use Rattle.sample_disk.proofs.Recovery.{none_before}
use Rattle.sample_disk.proofs.gates.Gates.recover.Goals as goal

pub returns-in-Err-clause-no_gate : goal.returns-in-Err-clause-no_gate
returns-in-Err-clause-no_gate g c is =
    none_before (g.D.Disk.pending c.args.disk) (g.D.Disk.pending c.sync.new.self) c.sync.result
    (search rules) c.sync.ensures.synced (search rules)
