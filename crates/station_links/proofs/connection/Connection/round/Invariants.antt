use Rattle.station_links.proofs.connection.Connection.round.Given as goal

abbrev pub ghosts-make_round : goal.ghosts-make_round
ghosts-make_round a = record { steering = a.link.steering }
