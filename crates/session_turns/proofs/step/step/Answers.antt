use Rattle.std.proofs.Common.{[], ◌∷◌, ◌++◌, ap, sym, subst, ◌∙◌}
use Rattle.turn_lock.specs.PassState.{PassState}
use Rattle.station_book.specs.State.{Opening, State, Event}
use Rattle.station_book.specs.History.{StandsAs}
use Rattle.session_turns.specs.Stepping.{call_now, StepsBy}
use Rattle.station_turns.specs.Making.{book_is, event_is, pass_by}
use Rattle.session_turns.proofs.step.step.Goals as goal

pub commit_by-requires-clause-origin : goal.commit_by-requires-clause-origin
commit_by-requires-clause-origin g c =
    c.origin_by.ensures
    (call_now c.args.site.now c.args.session.now c.value_mut.result.now c.args.reading)
    c.value_mut.result.now c.step_named.new.book c.in-Ok.asked c.args.station.now.origin
    c.in-Ok.ensures.made
    (ap (λ (b : State). b.opening) c.value_mut.ensures.value ∙ c.enter-turn.ensures.origin)

pub commit_by-requires-clause-value : goal.commit_by-requires-clause-value
commit_by-requires-clause-value g c =
    c.more_by.ensures
    (call_now c.args.site.now c.args.session.now c.value_mut.result.now c.args.reading)
    c.value_mut.result.now c.step_named.new.book c.in-Ok.asked c.enter-turn.result.list
    c.in-Ok.ensures.made
    (subst (λ b. StandsAs b c.enter-turn.result.list) (sym c.value_mut.ensures.value)
    c.enter-turn.ensures.value)

pub returns-in-Ok-clause-made : goal.returns-in-Ok-clause-made
returns-in-Ok-clause-made g c =
    let o = c.args.station.now.origin in
    let h = c.enter-turn.result.list in
    let turn = c.enter-turn.ensures in
    let before = c.value_mut.result.now in
    let call = call_now c.args.site.now c.args.session.now before c.args.reading in
    let is = event_is o h call c.enter-turn.result.value before c.step_named.new.book
    c.in-Ok.asked turn.value turn.origin c.value_mut.ensures.value c.in-Ok.ensures.made in
    let stands = c.more_by.ensures call before c.step_named.new.book c.in-Ok.asked h
    c.in-Ok.ensures.made
    (subst (λ b. StandsAs b h) (sym c.value_mut.ensures.value) turn.value) in
    record {
      call = call;
      makes = record {
        before = h;
        later = turn.seen;
        pass = pass_by c.args.pass.now c.enter-turn.new.pass c.commit_by.new.pass h c.in-Ok.asked
            _ c.requires.ready.1 turn.pass c.commit_by.ensures.pass is;
        sound = record {
          legal = c.legal_by.ensures c.step_named.new.book o (h ++ c.in-Ok.asked ∷ [])
              c.commit_by.new.pass.seen stands
              (c.origin_by.ensures call before c.step_named.new.book c.in-Ok.asked o
              c.in-Ok.ensures.made
              (ap (λ (b : State). b.opening) c.value_mut.ensures.value ∙ turn.origin))
              (ap (λ (p : PassState Event Opening). p.seen) c.commit_by.ensures.pass);
          stand = c.commit_by.ensures.own;
        };
      };
      call_is = ap (λ b. call_now c.args.site.now c.args.session.now b c.args.reading)
          (book_is o h c.enter-turn.result.value before turn.value turn.origin
          c.value_mut.ensures.value);
      steps = subst
          (λ e. StepsBy c.args.site.now e c.args.session.now c.step_named.new.session) is
          c.in-Ok.ensures.stands;
    }
