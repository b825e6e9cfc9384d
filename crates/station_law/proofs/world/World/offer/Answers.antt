use Rattle.std.proofs.Common.{◌≡◌, false, refl, rules}
use Rattle.record_form.specs.Entry.{entry_of}
use Rattle.station_law.specs.Standing.{Seen, Agree}
use Rattle.station_law.proofs.Following.{offer_taken}
use Rattle.station_law.proofs.OneArchive.{agrees, agree_unless, offer_agrees}
use Rattle.station_law.proofs.world.World.offer.Goals as goal

pub returns-clause-steps : goal.returns-clause-steps
returns-clause-steps c =
    let seen : Seen = record {
      recorder = c.self.inside.recorder;
      clock = c.self.inside.clock;
      doors = c.self.inside.doors;
      uplink = c.self.inside.uplink;
    } in
    let new : Seen =
    record seen {
      recorder = c.follow.new.recorder;
      doors = c.follow.new.doors;
      uplink = c.follow_air.new.uplink;
    } in
    let taken = offer_taken (entry_of c.args.entry.now) c.in-Ok.outcome seen new c.offer.new.self
    c.in-Ok.ensures.said c.in-Ok.ensures.done c.in-Ok.ensures.next
    c.in_ok-follow.ensures.followed c.in_ok-follow.ensures.same refl c.follow_air.ensures in
    record { taken = rw (← c.self.view_is) taken; stopped = tt }

pub invariant_of-self-2 : goal.invariant_of-self-2
invariant_of-self-2 c =
    let ready : c.self.inside.recorder.is_spent ≡ false = search rules in
    let agree : Agree c.offer.new.self.state c.follow.new.doors =
    offer_agrees c.one_archive_stays.ensures.lines c.self.inside.recorder.state c.args.entry.now
    c.in-Ok.outcome c.self.inside.doors c.follow.new.doors c.offer.new.self c.requires.valid
    (agrees _ _ _ ready c.self.invariant.1) c.in-Ok.ensures.said c.in-Ok.ensures.next
    c.in_ok-follow.ensures.followed in (
      c.self.invariant.0,
      rw c.in_ok-follow.ensures.same
          (agree_unless c.offer.new.self.is_spent c.offer.new.self.state c.follow.new.doors
          (λ runs. agree)),
    )
