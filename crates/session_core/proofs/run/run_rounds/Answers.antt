use Rattle.std.proofs.Common.{◌+◌, ◌∙◌, refl, sym, arith}
use Rattle.std.proofs.lemmas.List.{take_more}
use Rattle.session_core.specs.Serving.{began_of}
use Rattle.session_core.proofs.Stalls.{stalls_on, stalls_heard}
use Rattle.session_core.proofs.Truths.{on_err}
use Rattle.session_core.proofs.Serving.{lasts_first, lasts_on, serves_by, breaks_first, breaks_by}
use Rattle.session_core.proofs.run.run_rounds.Goals as goal

pub loop-reading-init : goal.loop-reading-init
loop-reading-init g c = record {
  lasts =
      lasts_first _ _ _ _
      (c.in_ok-session.ensures.lists (began_of c.args.start) refl refl refl);
  going = c.in_ok-session.ensures.going;
  faults = grind arith;
  stalls = grind arith;
}

pub loop-reading-preserved : goal.loop-reading-preserved
loop-reading-preserved g c = record {
  lasts =
      rw (take_more c.args.readings.now c.loop-reading.reading-index 0 (omega arith))
      (lasts_on (began_of c.args.start) _ _ _ _ _ _ _ _ _ _ c.loop-reading.invariant.lasts
      c.loop-reading.invariant.going c.in_ok-end.ensures.lists);
  going = sym c.in_ok-end.ensures.outcome ∙ c.in-Going.is;
  faults = grind arith;
  stalls = stalls_on _ _ _ _ _ c.loop-reading.invariant.stalls c.in_ok-end.ensures.stalls;
}

pub returns-in_default-clause-session : goal.returns-in_default-clause-session
returns-in_default-clause-session g c =
    serves_by (began_of c.args.start) _ _ _ _ c.args.readings.now
    (c.loop-reading.reading-index + 1) _ c.round.new.self
    (rw (take_more c.args.readings.now c.loop-reading.reading-index 0 (omega arith))
    (lasts_on (began_of c.args.start) _ _ _ _ _ _ _ _ _ _ c.loop-reading.invariant.lasts
    c.loop-reading.invariant.going c.in_ok-end.ensures.lists))
    c.in_ok-end.ensures.outcome
    (λ going. absurd (c.in_default.not-Going going))

pub returns-clause-session : goal.returns-clause-session
returns-clause-session g c =
    serves_by (began_of c.args.start) _ _ _ _ c.args.readings.now c.loop-reading.reading-index _
    c.loop-reading.session c.loop-reading.invariant.lasts
    (sym c.loop-reading.invariant.going) (λ going. omega arith)

pub returns-in_err-session-clause-memory : goal.returns-in_err-session-clause-memory
returns-in_err-session-clause-memory g c =
    on_err c.from_residual.result (breaks_first (began_of c.args.start) _ _ _ _)

pub returns-in_err-end-clause-memory : goal.returns-in_err-end-clause-memory
returns-in_err-end-clause-memory g c =
    on_err c.from_residual-in_err-end.result
    (breaks_by (began_of c.args.start) _ _ _ _ _ _ _ _ _ _ _ c.args.readings.now
    c.loop-reading.reading-index c.loop-reading.session c.loop-reading.invariant.lasts
    c.loop-reading.invariant.faults c.in_err-end.ensures.memory.left
    c.in_err-end.ensures.heard)

pub returns-in_err-end-clause-stalls : goal.returns-in_err-end-clause-stalls
returns-in_err-end-clause-stalls g c =
    stalls_heard c.loop-reading.reading-index _ _ _ _ _ (omega arith)
    c.loop-reading.invariant.stalls c.in_err-end.ensures.heard.stalled
