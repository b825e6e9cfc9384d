-- The turns of a user.
use Rattle.std.specs.Prelude.{ℕ, Bool, List, [], Option, if◌then◌else◌}
use Rattle.isp1_tml.specs.Beat.{Pulse}
use Rattle.user_task.specs.declared.task.Task.{Task}
use Rattle.user_core.specs.declared.course.Course.{Course}
use Rattle.user_core.specs.declared.status.Status.{Status}
use Rattle.user_core.specs.declared.user.Turned.{Turned}
use Rattle.user_core.specs.Course.{is_over}
use Rattle.user_core.specs.Dialogue.{Talk, first_dialogue, begun, opened, asked_to, beating}
use Rattle.user_core.specs.Hearing.{Kept, no_stream, Hearing, heard_in, stream_in}

-- between two turns: where the task stands, the number of the latest credentials, the heartbeat,
-- and the octets that make no message yet
pub record Standing : Type 0 where
  pub task : Task
  pub course : Course
  pub latest : ℕ
  pub beat : Pulse
  pub stream : Kept

-- what a turn offers and prints, and how the user ended, once it has
pub record Answer : Type 0 where
  pub offer : List ℕ
  pub lines : List ℕ
  pub status : Option Status

abbrev pub answer_of : Turned → Answer
answer_of t = record { offer = t.offer.items; lines = t.lines.items; status = t.status }

-- with what is said and printed, which is nothing yet
abbrev pub talk_of : Standing → Talk
talk_of s = record {
  course = s.course;
  latest = s.latest;
  beat = s.beat;
  offer = [];
  lines = [];
}

abbrev pub standing_of : Task → Talk → Kept → Standing
standing_of task d k = record {
  task = task;
  course = d.course;
  latest = d.latest;
  beat = d.beat;
  stream = k;
}

abbrev pub new_user : Task → Standing
new_user task = standing_of task (first_dialogue task.draw) no_stream

-- a turn opens where nothing was said before, closes where the user is asked to end, hears what
-- came, and beats where it is time
abbrev pub talk_in : Task → Bool → Bool → ℕ → Talk → Kept → Hearing → Talk
talk_in task waits asked now d k h =
    beating now
    (heard_in task now k h (asked_to task asked now (opened task now (begun waits now d))))

-- the user behind a turn; one that is over stays as it is
abbrev pub turned : Standing → Bool → Bool → ℕ → Hearing → Standing
turned s waits asked now h =
    if is_over s.course then s
    else standing_of s.task (talk_in s.task waits asked now (talk_of s) s.stream h)
    (stream_in s.stream h)

abbrev pub said_in : Talk → Answer
said_in d = record { offer = d.offer; lines = d.lines; status = d.course.status }

-- and offers and prints nothing
abbrev pub answered : Standing → Bool → Bool → ℕ → Hearing → Answer
answered s waits asked now h =
    if is_over s.course then record { offer = []; lines = []; status = s.course.status }
    else said_in (talk_in s.task waits asked now (talk_of s) s.stream h)
