use Rattle.std.proofs.Common.{[], ◌∷◌, ◌++◌, ap, sym, subst, ◌∙◌}
use Rattle.turn_lock.specs.PassState.{PassState}
use Rattle.station_book.specs.State.{Opening, State, Event, take}
use Rattle.station_book.specs.History.{StandsAs, all_gone}
use Rattle.station_turns.specs.Making.{book_is, event_is, pass_by}
use Rattle.station_turns.proofs.radiating.take.Goals as goal

pub returns : goal.returns
returns g c =
    let o = c.args.station.now.origin in
    let h = c.enter-turn.result.list in
    let turn = c.enter-turn.ensures in
    let is = event_is o h (take c.args.reading) c.enter-turn.result.value c.value_mut.result.now
    c.take_named-told.new.book c.take_named-told.result.1 turn.value turn.origin
    c.value_mut.ensures.value c.take_named-told.ensures.made in
    let stands = c.more_by.ensures (take c.args.reading) c.value_mut.result.now
    c.take_named-told.new.book c.take_named-told.result.1 h c.take_named-told.ensures.made
    (subst (λ b. StandsAs b h) (sym c.value_mut.ensures.value) turn.value) in
    let legal = c.legal_by.ensures c.take_named-told.new.book o
    (h ++ c.take_named-told.result.1 ∷ []) c.commit_by.new.pass.seen stands
    (c.origin_by.ensures (take c.args.reading) c.value_mut.result.now
    c.take_named-told.new.book c.take_named-told.result.1 o c.take_named-told.ensures.made
    (ap (λ (b : State). b.opening) c.value_mut.ensures.value ∙ turn.origin))
    (ap (λ (p : PassState Event Opening). p.seen) c.commit_by.ensures.pass) in
    record {
      makes = record {
        before = h;
        later = turn.seen;
        pass = pass_by c.args.pass.now c.enter-turn.new.pass c.commit_by.new.pass h
            c.take_named-told.result.1 _ c.requires.ready.1 turn.pass c.commit_by.ensures.pass is;
        sound = record { legal = legal; stand = c.commit_by.ensures.own };
      };
      replied = ap (λ (e : Event). e.reply) (sym is) ∙ c.take_named-told.ensures.taken;
      gone = c.take_named-told.ensures.gone
          ∙ ap all_gone (book_is o h c.enter-turn.result.value c.value_mut.result.now turn.value
          turn.origin c.value_mut.ensures.value);
    }
