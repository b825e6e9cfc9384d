use Rattle.tests_lock.proofs.log.write_line.Given as goal

-- the line that was written
abbrev pub ghost-commit_line : goal.ghost-commit_line
ghost-commit_line g a = record { by = a.by }
