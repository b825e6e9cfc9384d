use Rattle.tests_returns.proofs.index.statuses.Given as goal

abbrev pub ghosts-statuses_by : goal.ghosts-statuses_by
ghosts-statuses_by a = record { name = a.blank.name; parts = a.blank.parts }
