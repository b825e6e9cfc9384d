use Rattle.station_law.proofs.Shown.{one_stays, one_stays_at_doors}
use Rattle.station_law.proofs.laws.one_archive_stays.Goals as goal

pub returns : goal.returns
returns c = record {
  lines = λ state line. one_stays c.lines_rest_on.ensures state line;
  doors = λ state line. one_stays_at_doors state line;
}
