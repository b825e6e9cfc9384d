use Rattle.user_line.proofs.Forms.{reads}
use Rattle.user_line.proofs.laws.clap_reads.Goals as goal

pub returns : goal.returns
returns c = reads
