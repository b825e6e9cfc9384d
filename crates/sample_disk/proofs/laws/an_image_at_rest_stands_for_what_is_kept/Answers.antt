use Rattle.sample_disk.proofs.Adding.{kept_image}
use Rattle.sample_disk.proofs.laws.an_image_at_rest_stands_for_what_is_kept.Goals as goal

pub returns : goal.returns
returns c = kept_image
