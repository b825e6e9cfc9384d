use Rattle.std.proofs.Common.{refl, ap, ◌∙◌}
use Rattle.link_model.specs.MemoryLink.{LinkState}
use Rattle.link_model.specs.Steering.{unsteered}
use Rattle.station_links.specs.Connected.{began, opened}
use Rattle.station_links.proofs.Living.{begins}
use Rattle.station_links.proofs.connection.Connection.new.Goals as goal

pub returns : goal.returns
returns c = λ site.
    begins c.no_round_yet.ensures (began site c.args.c c.args.now) _
    (opened c.args.c c.args.now) refl
    (ap (λ (link : LinkState). link.steering) c.new-link.ensures
    ∙ ap unsteered c.new-failing.ensures.items)
    refl (c.in_ok-session.ensures.lists (began site c.args.c c.args.now) refl refl refl)
