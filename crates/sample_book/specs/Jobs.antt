-- The calls of jobs, and what comes of them.
use Rattle.std.specs.Prelude.{ℕ}
use Rattle.archive_terms.specs.Glimpse.{wants_front}
use Rattle.cltu_queue.specs.declared.book_reply.BookReply.TheVariants.{Nothing}
use Rattle.station_book.specs.State.{Call, publish, answer, Reply, accepted, foreign, answered}
use Rattle.sample_book.specs.declared.job.Job as jobs
use Rattle.sample_book.specs.declared.job.Job.TheVariants.{Publish, Ask}
use Rattle.sample_book.specs.declared.job.Outcome.{Outcome}
use Rattle.sample_book.specs.declared.job.Outcome.TheVariants.{Published, Foreign, Replied}

-- the call of a worker's job, by its door and its reading
abbrev pub call_of : ℕ → ℕ → jobs.Job → Call
call_of door reading (Publish entries) = publish entries
call_of door reading (Ask ask) = answer door reading ask wants_front

-- what came of a call with this reply
abbrev pub outcome_of : Reply → Outcome
outcome_of accepted = Published
outcome_of foreign = Foreign
outcome_of (answered a) = Replied a.reply
outcome_of _ = Replied Nothing
