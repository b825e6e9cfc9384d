use Rattle.tests_returns.proofs.index.walked.Given as goal

abbrev pub ghosts-walked_by : goal.ghosts-walked_by
ghosts-walked_by a = record { name = a.blank.name; parts = a.blank.parts }
