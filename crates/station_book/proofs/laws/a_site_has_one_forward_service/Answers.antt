use Rattle.station_book.proofs.Sites.{one_forward}
use Rattle.station_book.proofs.laws.a_site_has_one_forward_service.Goals as goal

pub returns : goal.returns
returns c = λ site valid. one_forward site.instances valid.instances.one_forward
