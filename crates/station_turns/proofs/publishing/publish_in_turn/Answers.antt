use Rattle.std.proofs.Common.{[], ◌∷◌, ◌++◌, ap, sym, subst, ◌∙◌}
use Rattle.turn_lock.specs.PassState.{PassState}
use Rattle.station_book.specs.State.{Opening, State, Event, publish}
use Rattle.station_book.specs.History.{StandsAs}
use Rattle.station_turns.specs.Making.{event_is, pass_by}
use Rattle.station_turns.proofs.publishing.publish_in_turn.Goals as goal

pub commit_by-requires-clause-value : goal.commit_by-requires-clause-value
commit_by-requires-clause-value g c =
    c.more_by.ensures (publish c.args.entries) c.value_mut.result.now c.publish_named.new.book
    c.in-Ok.told.0 c.enter-turn.result.list c.in-Ok.ensures.made
    (subst (λ b. StandsAs b c.enter-turn.result.list) (sym c.value_mut.ensures.value)
    c.enter-turn.ensures.value)

pub returns-in-Ok-clause-ok : goal.returns-in-Ok-clause-ok
returns-in-Ok-clause-ok g c =
    let o = c.args.station.now.origin in
    let h = c.enter-turn.result.list in
    let turn = c.enter-turn.ensures in
    let is = event_is o h (publish c.args.entries) c.enter-turn.result.value
    c.value_mut.result.now c.publish_named.new.book c.in-Ok.told.0 turn.value turn.origin
    c.value_mut.ensures.value c.in-Ok.ensures.made in
    let stands = c.more_by.ensures (publish c.args.entries) c.value_mut.result.now
    c.publish_named.new.book c.in-Ok.told.0 h c.in-Ok.ensures.made (subst (λ b. StandsAs b h) (sym c.value_mut.ensures.value) turn.value) in
    record {
      makes = record {
        before = h;
        later = turn.seen;
        pass = pass_by c.args.pass.now c.enter-turn.new.pass c.commit_by.new.pass h
            c.in-Ok.told.0 _ c.requires.ready.1 turn.pass c.commit_by.ensures.pass is;
        sound = record {
          legal = c.legal_by.ensures c.publish_named.new.book o (h ++ c.in-Ok.told.0 ∷ [])
              c.commit_by.new.pass.seen stands
              (c.origin_by.ensures (publish c.args.entries) c.value_mut.result.now
              c.publish_named.new.book c.in-Ok.told.0 o c.in-Ok.ensures.made
              (ap (λ (b : State). b.opening) c.value_mut.ensures.value ∙ turn.origin))
              (ap (λ (p : PassState Event Opening). p.seen) c.commit_by.ensures.pass);
          stand = c.commit_by.ensures.own;
        };
      };
      replied = ap (λ (e : Event). e.reply) (sym is) ∙ c.in-Ok.ensures.reply;
    }
