use Rattle.tests_lock.proofs.log.commit_line.Given as goal

abbrev pub ghost-commit : goal.ghost-commit
ghost-commit g a = g.line
