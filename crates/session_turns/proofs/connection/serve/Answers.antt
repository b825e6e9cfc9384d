use Rattle.std.proofs.Common.{ℕ, ◌<◌, ◌≤◌, refl, arith}
use Rattle.turn_lock.specs.Own.{mark}
use Rattle.station_book.specs.State.{quit}
use Rattle.station_turns.specs.Turned.{called}
use Rattle.session_turns.specs.Rounds.{worker}
use Rattle.session_turns.proofs.connection.serve.Goals as goal

some : (n : ℕ) → 2 ≤ n → 0 < n
some n two = omega (arith, two)

pub returns-clause-serves : goal.returns-clause-serves
returns-clause-serves g c =
    let lock = c.args.station.now in
    let before = c.serve_session-answer.new.pass in
    let served = c.serve_session-answer.ensures.served in
    let one = c.gains_compose.ensures.one lock (quit c.args.door) before c.quit.new.pass
    c.serve_session-answer.ensures.ready (some before.left c.serve_session-answer.ensures.left)
    c.quit.ensures in
    record {
      at = worker c.serve_session-answer.new.link c.serve_session-answer.new.clock before;
      served = served;
      quits = mark c.quit.ensures.before (called lock.origin c.quit.ensures.before
          (quit c.args.door));
      is_quit = refl;
      last = one;
      others = (refl, refl);
      gains = c.gains_compose.ensures.both lock served.spent 1 served.answers _ c.args.pass.now
          before c.quit.new.pass served.gains one;
    }
