use Rattle.std.proofs.Common.{◌≡◌, ◌≤◌}
use Rattle.tcp_link.specs.LinkState.{unsent_now}
use Rattle.tcp_link.proofs.tcp_link.TcpLink.send_all.Given as goal

abbrev pub invariant-loop : goal.invariant-loop
invariant-loop l = (l.self.unsent ≤ l.initial.self.unsent)
    × (l.self ≡ unsent_now l.initial.self l.self.unsent)
