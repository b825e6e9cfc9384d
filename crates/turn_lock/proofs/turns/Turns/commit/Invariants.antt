use Rattle.std.proofs.Common.{Some}
use Rattle.turn_lock.proofs.turns.Turns.commit.Given as goal

-- the event that the caller named
abbrev pub ghosts-commit_named : goal.ghosts-commit_named
ghosts-commit_named g a = record { event = Some g.event }
