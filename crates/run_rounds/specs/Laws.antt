-- The laws of STARTs and of sessions' rounds, and those below, that the law of a run's rounds rests
-- on. This product's own.
use Rattle.line_events.specs.Progress.{ProgressIsOfItsDoor}
use Rattle.session_laws.specs.Deliveries.{SeesPublished}
use Rattle.session_laws.specs.Handing.{StartsHandOver, OnlyStartedSend}
use Rattle.session_events.specs.Rounds.{RoundsMayCome}
use Rattle.session_events.specs.Starts.{StartsAreThere}
use Rattle.run_events.specs.Beside.{StartsStandBeside}
use Rattle.run_events.specs.Laws.{Laws as RunLaws}

pub record Laws : Type 0 where
  pub run : RunLaws
  pub own : ProgressIsOfItsDoor
  pub rounds : RoundsMayCome
  pub there : StartsAreThere
  pub beside : StartsStandBeside
  pub sees : SeesPublished
  pub hands : StartsHandOver
  pub only : OnlyStartedSend
