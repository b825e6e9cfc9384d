use Rattle.std.proofs.Common.{refl, sym, subst}
use Rattle.station_config.specs.declared.site.Site.{Site}
use Rattle.station_law.specs.Standing.{DoorsSeen, AreLeft, IsOpen}
use Rattle.station_law.proofs.AtDoors.{put_ran}
use Rattle.station_law.proofs.doors.Doors.go_on.Goals as goal

pub returns : goal.returns
returns c = record {
  gone = λ d l are open_so.
      let left : DoorsSeen = record {
        site = c.self.inside.site;
        book = c.self.inside.book;
        connections = c.self.inside.connections;
      } in
      let out : AreLeft left d c.args.turns.c =
      subst (λ (x : DoorsSeen). AreLeft x d c.args.turns.c) (sym c.self.view_is) are in
      put_ran left c.put_at.new.self d c.args.turns.c c.args.reading c.args.turns.rounds l
      c.in_ok-turn.turn.connection c.rounds_of.new.book
      (record { c = c.args.turns.c; lines = c.in_ok-turn.turn.said }) out
      (c.in_ok-turn.ensures.ran c.args.turns.c l (subst (λ (s : Site). IsOpen s c.args.turns.c
      c.args.connection l) (sym out.site) open_so)) refl c.put_at.ensures.after;
  refused = tt;
}
