use Rattle.std.proofs.Common.{subst}
use Rattle.std.specs.List.Sorted.{IsStrictlyIncreasing}
use Rattle.archive_terms.proofs.Gaps.{gaps_add_up}
use Rattle.archive_terms.proofs.Runs.{frames_in_run}
use Rattle.archive_terms.proofs.laws.continuities_add_up.Goals as goal

pub returns-clause-of_places : goal.returns-clause-of_places
returns-clause-of_places c = gaps_add_up

pub returns-clause-of_a_run : goal.returns-clause-of_a_run
returns-clause-of_a_run c = λ t entries rounds place places some archive rise are small.
    gaps_add_up entries place places (subst IsStrictlyIncreasing are
    (frames_in_run t entries rounds some archive rise)) small
