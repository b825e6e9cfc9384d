use Rattle.std.proofs.Common.{refl}
use Rattle.station_law.specs.State.{start}
use Rattle.station_law.specs.Lines.{step, step_text}
use Rattle.station_law.specs.LinesFacts.{facts, facts_text}
use Rattle.station_law.specs.Once.{told}
use Rattle.station_law.proofs.laws.transcript_law.Goals as goal

pub returns : goal.returns
returns c = record {
  lines = λ site lines. told step (facts c.lines_rest_on.ensures) (start site) lines
      (record { archive = refl; settled = refl });
  texts = λ site lines. told step_text (facts_text c.lines_rest_on.ensures) (start site) lines
      (record { archive = refl; settled = refl });
}
