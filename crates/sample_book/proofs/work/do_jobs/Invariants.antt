use Rattle.std.proofs.Common.{◌≡◌, ◌≤◌, length, vec_len, vec_capacity}
use Rattle.std.specs.Vec.Iter.{into_iter_items}
use Rattle.sample_book.proofs.Working.{Working}
use Rattle.sample_book.proofs.work.do_jobs.Given as goal

abbrev pub invariant-loop-job : goal.invariant-loop-job
invariant-loop-job g l = Working l.station l.door l.reading l.fn.jobs.items l.yielded
    (into_iter_items l.job-iterator) l.outcomes.items l.initial.pass l.pass
    × (vec_len l.outcomes ≡ length l.yielded) × (length l.fn.jobs.items ≤ vec_capacity l.outcomes)
