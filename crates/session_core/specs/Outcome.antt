-- What a session has come to, and what its calls leave of that. This product's own rule.
use Rattle.std.specs.Prelude.{◌≡◌, ℕ, ◌+◌, ◌≤◌, Bool, not, ◌&&◌, ◌||◌, IsTrue, Option, is_some}
use Rattle.std.specs.Prelude.{List, [], Result, OnErr, is_err, IsErr, IsOk}
use Rattle.link_model.specs.declared.call.Call.{Call}
use Rattle.link_model.specs.Calls.{Tells}
use Rattle.link_model.specs.Counts.{CountsWhere}
use Rattle.station_book.specs.State as book
use Rattle.session_core.specs.declared.spoken.Spoken.{Spoken}
use Rattle.session_core.specs.Course as course
use Rattle.session_core.specs.Steps.{waits}
use Rattle.session_core.specs.ServiceSteps.{has_outgoing}
use Rattle.session_core.specs.Session.{spoken_of, is_fault}
use Rattle.session_core.specs.SessionState.{SessionState}

-- what its latest round came to
abbrev pub come_to : SessionState → Spoken
come_to v = spoken_of v.standing.course

-- it has ended, by its link's failure too
abbrev pub has_ended : SessionState → Bool
has_ended v = course.is_over v.standing.course

-- a poll or an offer of it failed
abbrev pub has_failed : SessionState → Bool
has_failed v = is_fault (come_to v)

-- a step of it wanted memory
abbrev pub is_spent : SessionState → Bool
is_spent v = course.is_spent v.standing.course

-- it has ended, its link fails, or it is spent
abbrev pub is_still : SessionState → Bool
is_still v = not (course.is_live v.standing.course)

-- a block that waited stalled in this round
abbrev pub is_blocked : SessionState → Bool
is_blocked v = course.is_blocked v.standing.arrival

-- a block waits for a link that takes it
abbrev pub has_waiting : SessionState → Bool
has_waiting v = waits v.standing

-- a message of its service waits
abbrev pub has_kept : SessionState → Bool
has_kept v = course.is_going v.standing.course && has_outgoing v.standing

-- a message of its service was dropped in the latest round
abbrev pub has_dropped : SessionState → Bool
has_dropped v = is_some v.standing.dropped

-- what a speak leaves where the block or the message stalled in it
abbrev pub is_left : SessionState → Bool
is_left v = has_waiting v || (has_kept v || has_dropped v)

-- a block or a message of its service stalled in the latest round
abbrev pub stalled_in : SessionState → Bool
stalled_in v = is_blocked v || is_left v

-- how many items were dropped of a message that stalled in the latest round, if one was
abbrev pub dropped_in : SessionState → Option ℕ
dropped_in v = v.standing.dropped

-- A call found the link failed or not, and left it failed or not. The link's count of faults went
-- up by one exactly where the link failed in this call, and one that has failed stays so.
pub record FailsBy (was is : Bool) (before now : ℕ) : Type 0 where
  pub counts : CountsWhere (not was && is) before now
  pub stays : IsTrue was → IsTrue is

-- In so many rounds the link's count of stalls went up by one a round at most.
pub record StallsAtMost (rounds before now : ℕ) : Type 0 where
  pub never_falls : before ≤ now
  pub few : now ≤ before + rounds

-- A session that is still doesn't call its link, and comes to nothing else; one that has ended has
-- ended. Whether a session is spent doesn't change.
pub record Rests (before after : Option (List Call)) (old new : SessionState) : Type 0 where
  pub silent : IsTrue (is_still old) → Tells before after []
  pub same : IsTrue (is_still old) → come_to new ≡ come_to old
  pub over : IsTrue (has_ended old) → IsTrue (has_ended new)
  pub spent : is_spent new ≡ is_spent old

-- A link wasn't called: it tells nothing more, and its counts of faults and of stalls are as they
-- were.
pub record Uncalled (before after : Option (List Call)) (faults faults_now : ℕ)
    (stalls stalls_now : ℕ) : Type 0 where
  pub silent : Tells before after []
  pub no_fault : faults_now ≡ faults
  pub no_stall : stalls_now ≡ stalls

-- A call is refused for want of memory alone, which leaves the book as it was. It is refused
-- exactly where the session is spent behind it, and where it was spent before.
pub record Spends {T E : Type 0} (result : Result T E) (book_before book_after : book.State)
    (old new : SessionState) : Type 0 where
  pub left : OnErr result (book_after ≡ book_before)
  pub spent : is_spent new ≡ is_err result
  pub repeats : IsTrue (is_spent old) → IsErr result

-- A session that has ended leaves the book as it was, wants no memory, and comes to the same end.
pub record Repeats {T E : Type 0} (result : Result T E) (book_before book_after : book.State)
    (old new : SessionState) : Type 0 where
  pub left : book_after ≡ book_before
  pub good : IsOk result
  pub same : come_to new ≡ come_to old
  pub over : IsTrue (has_ended new)
