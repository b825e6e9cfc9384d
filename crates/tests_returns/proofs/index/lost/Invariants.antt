use Rattle.tests_returns.proofs.index.lost.Given as goal

abbrev pub ghosts-lost_by : goal.ghosts-lost_by
ghosts-lost_by a = record { name = a.blank.name; parts = a.blank.parts }
