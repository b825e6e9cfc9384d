use Rattle.turn_lock.proofs.turns.Turns.commit_by.Given as goal

-- the event that the value names
abbrev pub ghost-commit_as : goal.ghost-commit_as
ghost-commit_as g a = g.N.Names.named a._by.now
