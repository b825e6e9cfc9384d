use Rattle.turn_lock.proofs.turns.Turns.commit_as.Given as goal

abbrev pub ghost-commit : goal.ghost-commit
ghost-commit g a = g.event
