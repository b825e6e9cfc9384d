use Rattle.std.proofs.Common.{length, take, [], ◌∷◌, refl, subst, arith}
use Rattle.link_model.specs.declared.call.Call.TheVariants.{Polled}
use Rattle.link_model.specs.declared.poll.Poll.{Poll}
use Rattle.link_model.specs.Calls.{Tells, heard_of, IsWithin}
use Rattle.session_core.proofs.Rounds.{heard_some, space_so, piece_so, arrival_so}
use Rattle.session_core.proofs.Streams.{fed}
use Rattle.session_core.proofs.listening.hear.Goals as goal

pub returns-in-Arrived-clause-heard : goal.returns-in-Arrived-clause-heard
returns-in-Arrived-clause-heard g c =
    let space = take c.min-room.result c.args.space.now in
    let filled = c.poll.new.into in
    let count = c.in-Arrived.count in
    let bound = subst (λ (p : Poll). IsWithin p (length space)) c.in-Arrived.is
    c.poll.ensures.within in
    heard_some _ _ _ _ _ _ (length space) (take count filled)
    (space_so c.args.feeder.now c.room.result c.min-room.result c.args.space.now
    c.min-room.ensures c.room.ensures.room c.requires.space)
    (subst
    (λ (p : Poll).
    Tells (g.L.Link.calls c.args.link.now) (g.L.Link.calls c.poll.new.self)
    (Polled (length space) (heard_of p filled) ∷ []))
    c.in-Arrived.is c.poll.ensures.told)
    (arrival_so count (length space) filled (omega (arith, c.poll.auto.into)) bound.0 bound.1
    c.slice.ensures.each)
    refl
    (λ came given h.
    fed c.refused_for_good.ensures c.feed.result _ _ (take count filled) came given
    (piece_so c.args.feeder.now c.room.result c.min-room.result count c.args.space.now filled
    c.min-room.ensures c.room.ensures.room (omega (arith, c.poll.auto.into)) bound.0 bound.1)
    c.feed.ensures.so_far c.feed.ensures.repeated h)
