use Rattle.std.proofs.Common.{ℕ, ◌<◌, ◌≤◌, refl, arith}
use Rattle.turn_lock.specs.Own.{mark}
use Rattle.station_book.specs.State.{gone}
use Rattle.station_turns.specs.Turned.{called}
use Rattle.door_turns.specs.Visits.{at_door}
use Rattle.door_turns.proofs.worker.serve_door.Goals as goal

some : (n : ℕ) → 1 ≤ n → 0 < n
some n one = omega (arith, one)

pub returns-clause-works : goal.returns-clause-works
returns-clause-works g c =
    let lock = c.args.station.now in
    let before = c.serve_links-report.new.pass in
    let served = c.serve_links-report.ensures.served in
    let one = c.gains_compose.ensures.one lock (gone c.args.number) before c.gone.new.pass
    c.serve_links-report.ensures.ready (some before.left c.serve_links-report.ensures.left)
    c.gone.ensures in
    record {
      at = at_door c.serve_links-report.new.door c.serve_links-report.new.clock before;
      served = served;
      left = mark c.gone.ensures.before (called lock.origin c.gone.ensures.before
          (gone c.args.number));
      is_gone = refl;
      others = (refl, refl);
      gains = c.gains_compose.ensures.both lock _ 1 _ _ c.args.pass.now before c.gone.new.pass
          served.gains one;
    }
