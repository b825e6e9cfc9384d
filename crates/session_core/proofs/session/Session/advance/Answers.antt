use Rattle.session_services.specs.Inquiry.{replied_of}
use Rattle.session_core.proofs.Advance.{asked_at, advanced_by, moment_at_put, moment_at_serve}
use Rattle.session_core.proofs.Advance.{room_at_put}
use Rattle.session_core.proofs.session.Session.advance.Goals as goal

pub returns-clause-book : goal.returns-clause-book
returns-clause-book c =
    asked_at c.args.site.now c.args.self.now _ _ c.self.inside.standing c.enter.new.self
    c.args.book.now c.args.reading c.peek.result c.self.view_is c.peek.ensures.exact
    c.enter.ensures c.act.new.book c.in_ok-told.ensures.acts.book

pub returns-clause-kept : goal.returns-clause-kept
returns-clause-kept c =
    advanced_by c.args.site.now c.args.self.now _ _ c.self.inside.standing c.enter.new.self
    c.args.book.now c.args.reading c.peek.result c.self.view_is c.peek.ensures.exact
    c.enter.ensures c.act.new.feeder c.act.new.standing c.look_at_timer.new.self
    c.put_unasked.new.self c.serve.new.self c.is_active-was_active.result
    (replied_of c.in_ok-told.told) c.in_ok-told.ensures.feeder c.is_active-was_active.ensures
    c.in_ok-told.ensures.acts.standing c.in_ok-told.ensures.acts.told_is c.look_at_timer.ensures
    c.put_unasked.ensures c.serve.ensures

pub put_unasked-requires-clause-moment : goal.put_unasked-requires-clause-moment
put_unasked-requires-clause-moment c =
    moment_at_put c.args.site.now c.args.self.now _ _ c.self.inside.standing c.enter.new.self
    c.args.book.now c.args.reading c.peek.result c.self.view_is c.peek.ensures.exact
    c.enter.ensures c.act.new.standing c.look_at_timer.new.self
    c.in_ok-told.ensures.acts.standing c.look_at_timer.ensures
    c.peek.ensures.below

pub put_unasked-requires-clause-room : goal.put_unasked-requires-clause-room
put_unasked-requires-clause-room c =
    room_at_put c.args.site.now c.args.self.now _ _ c.self.inside.standing c.enter.new.self
    c.args.book.now c.args.reading c.peek.result c.self.view_is c.peek.ensures.exact
    c.enter.ensures c.act.new.standing c.look_at_timer.new.self c.is_out_of_turn.result
    c.is_out_of_turn.ensures c.if-is_out_of_turn.false c.in_ok-told.ensures.acts.standing
    c.look_at_timer.ensures c.holds_small_messages.ensures

pub serve-requires-clause-moment : goal.serve-requires-clause-moment
serve-requires-clause-moment c =
    moment_at_serve c.args.site.now c.args.self.now _ _ c.self.inside.standing c.enter.new.self
    c.args.book.now c.args.reading c.peek.result c.self.view_is c.peek.ensures.exact
    c.enter.ensures c.act.new.standing c.look_at_timer.new.self c.put_unasked.new.self
    (replied_of c.in_ok-told.told) c.in_ok-told.ensures.acts.standing c.look_at_timer.ensures
    c.put_unasked.ensures c.peek.ensures.below
