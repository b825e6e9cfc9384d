use Rattle.disk_model.specs.Calls.{no_calls, only_both, only_made, only_failed, only_read}
use Rattle.disk_model.proofs.laws.only_calls_join.Goals as goal

pub returns-clause-none : goal.returns-clause-none
returns-clause-none g c = no_calls g.D.Disk.makes g.D.Disk.fails g.D.Disk.fails_to_read

pub returns-clause-read : goal.returns-clause-read
returns-clause-read g c = only_read g.D.Disk.makes g.D.Disk.fails g.D.Disk.fails_to_read

pub returns-clause-made : goal.returns-clause-made
returns-clause-made g c = only_made g.D.Disk.makes g.D.Disk.fails g.D.Disk.fails_to_read

pub returns-clause-failed : goal.returns-clause-failed
returns-clause-failed g c = only_failed g.D.Disk.makes g.D.Disk.fails g.D.Disk.fails_to_read

pub returns-clause-both : goal.returns-clause-both
returns-clause-both g c = only_both g.D.Disk.makes g.D.Disk.fails g.D.Disk.fails_to_read
