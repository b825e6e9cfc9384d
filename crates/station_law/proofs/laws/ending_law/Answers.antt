use Rattle.station_law.specs.State.{start}
use Rattle.station_law.specs.Lines.{step_text}
use Rattle.station_law.specs.Once.{ending_is}
use Rattle.station_law.proofs.laws.ending_law.Goals as goal

pub returns : goal.returns
returns c = λ site lines. ending_is step_text (start site) lines
