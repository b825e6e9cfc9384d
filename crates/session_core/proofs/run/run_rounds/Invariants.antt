use Rattle.std.proofs.Common.{◌≡◌, false, take}
use Rattle.session_core.specs.declared.spoken.Spoken.TheVariants.{Going}
use Rattle.session_core.specs.Outcome.{come_to, has_failed, FailsBy, StallsAtMost}
use Rattle.session_core.specs.Serving.{began_of}
use Rattle.session_core.proofs.Serving.{Lasts}
use Rattle.session_core.proofs.run.run_rounds.Given as goal

-- rounds at the readings so far, behind which the session goes on
abbrev pub invariant-loop-reading : goal.invariant-loop-reading
invariant-loop-reading g l = record {
  lasts : Lasts (began_of l.start) (g.L.Link.calls l.fn.link) (g.L.Link.calls l.link) l.fn.book
      l.book (take l.reading-index l.readings) l.session;
  going : come_to l.session ≡ Going;
  faults : FailsBy false (has_failed l.session) (g.L.Link.faults l.fn.link)
      (g.L.Link.faults l.link);
  stalls : StallsAtMost l.reading-index (g.L.Link.stalls l.fn.link) (g.L.Link.stalls l.link);
}
