use Rattle.disk_model.specs.MemoryDiskLaws.{left_after_stop}
use Rattle.disk_model.proofs.Calls.{synced_is_medium}
use Rattle.disk_model.proofs.laws.a_stop_leaves_an_image.Goals as goal

pub returns-clause-image : goal.returns-clause-image
returns-clause-image c disk pick = left_after_stop pick disk.start disk.log

pub returns-clause-synced : goal.returns-clause-synced
returns-clause-synced c disk octets = synced_is_medium disk octets
