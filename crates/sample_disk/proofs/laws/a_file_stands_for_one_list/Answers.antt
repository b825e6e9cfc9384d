use Rattle.sample_disk.proofs.Files.{stands_for_one}
use Rattle.sample_disk.proofs.laws.a_file_stands_for_one_list.Goals as goal

pub returns : goal.returns
returns c = stands_for_one
