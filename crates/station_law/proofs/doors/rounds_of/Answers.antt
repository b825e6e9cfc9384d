use Rattle.std.proofs.Common.{◌≡◌, ℕ, suc, ◌+◌, ◌-◌, arith, subst}
use Rattle.station_law.proofs.Rounds.{Going, begin, done, goes_on, over}
use Rattle.station_law.proofs.doors.rounds_of.Goals as goal

pub loop-init : goal.loop-init
loop-init c = λ d first open_so.
    let all : c.args.rounds ≡ c.args.rounds - 0 = omega arith in
    rw c.new-said.ensures.items (begin c.args.site.now d c.args.reading c.args.rounds
    c.args.book.now first c.args.connection (c.args.rounds - 0) all open_so)

pub returns-in-None : goal.returns-in-None
returns-in-None c = record {
  ran = λ d first open_so.
      let left : c.args.rounds - c.loop.counter ≡ suc (c.args.rounds - (c.loop.counter + 1)) =
      omega (arith, c.loop-test.true) in
      rw c.in_ok-append.ensures.items (over c.args.site.now d c.args.reading c.args.rounds
      c.args.book.now first (c.args.rounds - (c.loop.counter + 1)) c.loop.book c.round.new.book
      c.loop.said.items c.in_ok-turn.turn.said.items c.loop.there c.in_ok-turn.turn.connection
      (subst (λ (n : ℕ). Going c.args.site.now d c.args.reading c.args.rounds c.args.book.now first
      n c.loop.book c.loop.said.items c.loop.there) left (c.loop.invariant d first open_so))
      c.in_ok-turn.ensures.round c.in-None.is);
}

pub loop-preserved : goal.loop-preserved
loop-preserved c = λ d first open_so.
    let left : c.args.rounds - c.loop.counter ≡ suc (c.args.rounds - (c.loop.counter + 1)) =
    omega (arith, c.loop-test.true) in
    rw c.in_ok-append.ensures.items (goes_on c.args.site.now d c.args.reading c.args.rounds
    c.args.book.now first (c.args.rounds - (c.loop.counter + 1)) c.loop.book c.round.new.book
    c.loop.said.items c.in_ok-turn.turn.said.items c.loop.there c.in_ok-turn.turn.connection
    (subst (λ (n : ℕ). Going c.args.site.now d c.args.reading c.args.rounds c.args.book.now first
    n c.loop.book c.loop.said.items c.loop.there) left (c.loop.invariant d first open_so))
    c.in_ok-turn.ensures.round c.in-Some.connection c.in-Some.is)

pub returns : goal.returns
returns c = record {
  ran = λ d first open_so.
      let none : c.args.rounds - c.loop.counter ≡ 0 = omega (arith, c.loop-test.false) in
      done c.args.site.now d c.args.reading c.args.rounds c.args.book.now first c.loop.book
      c.loop.said.items c.loop.there
      (subst (λ (n : ℕ). Going c.args.site.now d c.args.reading c.args.rounds c.args.book.now first
      n c.loop.book c.loop.said.items c.loop.there) none (c.loop.invariant d first open_so));
}
