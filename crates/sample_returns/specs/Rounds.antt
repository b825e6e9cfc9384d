-- The visit of a round on a book.
use Rattle.std.specs.Prelude.{ℕ, Some}
use Rattle.archive_terms.specs.Rounds.{Answer}
use Rattle.archive_terms.specs.Glimpse.{glimpse}
use Rattle.frame_select.specs.Glimpse.{as_said}
use Rattle.station_book.specs.State.{State}
use Rattle.return_core.specs.Course.{Course, want_of_course}
use Rattle.return_core.specs.Visits.{Visit, stepped}

-- a step on the look that the delivery wants of the published entries, and this answer
abbrev pub visit_at : State → Course → ℕ → Answer → Visit
visit_at s c now answer =
    stepped (as_said (glimpse s.published (want_of_course c))) now (Some answer)
