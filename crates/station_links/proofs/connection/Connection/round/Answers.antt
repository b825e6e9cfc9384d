use Rattle.std.proofs.Common.{sym, ap, ◌∙◌, ◌++◌}
use Rattle.link_model.specs.MemoryLink.{LinkState}
use Rattle.station_links.specs.LinkLines.{lines_in, drop_lines, end_lines}
use Rattle.station_links.specs.Rounds.{round_at}
use Rattle.station_links.proofs.Living.{behind}
use Rattle.station_links.proofs.Outcomes.{turned}
use Rattle.station_links.proofs.connection.Connection.round.Goals as goal

pub returns-clause-round : goal.returns-clause-round
returns-clause-round c =
    rw (← c.self.view_is) (λ b l same lives.
    turned b l c.args.book.now c.make_round.new.book c.quit_door.new.book c.args.reading
    c.self.inside.c c.in-Some.calls.items c.make_round.new.session c.take_told.new.self.steering
    (round_at b.site b.door l c.args.book.now c.args.reading) c.put_end.new.lines.items _
    c.in_ok-spoken.spoken c.end_of-end.result
    (behind c.one_round_more.ensures b l _ c.args.site.now c.args.reading c.args.book.now
    c.make_round.new.book c.in_ok-spoken.link.told c.in-Some.calls.items c.make_round.new.session
    c.take_told.new.self.steering same lives c.in_ok-spoken.ensures.lists
    (rw (ap (λ (link : LinkState). link.steering) c.in-Some.ensures.rest)
    c.in_ok-spoken.ensures.leads)
    (sym c.in-Some.ensures.told))
    lives.c_is c.in_ok-spoken.ensures.outcome c.end_of-end.ensures
    (c.in_ok-put_end.ensures
    ∙ ap (λ xs. xs ++ end_lines c.end_of-end.result)
    (c.in_ok-put_drop.ensures
    ∙ ap (λ xs. xs ++ drop_lines c.end_of-end.result c.dropped.result)
    (c.in_ok-said.ensures ∙ ap lines_in c.deref.ensures.value)
    ∙ ap (λ items. lines_in c.in-Some.calls.items ++ drop_lines c.end_of-end.result items)
    c.dropped.ensures))
    c.quit_door.ensures c.left_by-connection.ensures)
