use Rattle.std.proofs.Common.{refl}
use Rattle.archive_index.proofs.index.Index.take_frame.Goals as goal

pub returns-in-Good : goal.returns-in-Good
returns-in-Good c = rw c.in-Good.is (record {
  frames = c.take_last.ensures;
  good = c.take_good.ensures.good;
  erred = refl;
  channels = c.take_good.ensures.channels;
  seals = refl;
  notices = refl;
})
