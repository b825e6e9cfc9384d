-- What a user says and prints in a turn.
use Rattle.std.specs.Prelude.{ℕ, ◌-◌, ◌==◌, nat_le, Bool, true, false, ◌&&◌, not, List, [], ◌∷◌}
use Rattle.std.specs.Prelude.{◌++◌, if◌then◌else◌, Option, Some, None}
use Rattle.isp1_tml.specs.Beat.{Pulse, beat_at, picos}
use Rattle.isp1_tml.specs.Message.{Content, spelling, context, heartbeat}
use Rattle.isp1_auth.specs.Numbers.{first_number, next_number}
use Rattle.user_lines.specs.declared.told.Told.{Told}
use Rattle.user_lines.specs.Told.{told_in}
use Rattle.user_lines.specs.Lines.{lines_of, bad_line}
use Rattle.user_task.specs.declared.task.Task.{Task}
use Rattle.user_task.specs.Invocation.{Said, bind, schedule, invocation_at}
use Rattle.user_task.specs.Message.{message, credentials_of_task}
use Rattle.user_task.specs.Work.{is_show, service_of}
use Rattle.user_core.specs.declared.course.Course.{Course}
use Rattle.user_core.specs.declared.status.Status.{Status}
use Rattle.user_core.specs.declared.status.Status.TheVariants.{Done, BadMessage, PeerEnded}
use Rattle.user_core.specs.Course.{first_course, is_over, rests, ended, after, may_say, invoke_at}
use Rattle.user_core.specs.Course.{said_course, finished, closes, receives}
use Rattle.user_core.specs.Event.{event_of}

-- where the task stands, the number of the latest credentials, the heartbeat, and what the turn
-- said and printed so far
pub record Talk : Type 0 where
  pub course : Course
  pub latest : ℕ
  pub beat : Pulse
  pub offer : List ℕ
  pub lines : List ℕ

-- before the first turn
abbrev pub first_dialogue : ℕ → Talk
first_dialogue draw = record {
  course = first_course;
  latest = first_number draw 0;
  beat = beat_at 30 5 0;
  offer = [];
  lines = [];
}

abbrev pub sent_at : Pulse → ℕ → Pulse
sent_at p now = record p { sent = now }

abbrev pub in_course : Course → Talk → Talk
in_course c d = record d { course = c }

abbrev pub ended_by : Status → Talk → Talk
ended_by status d = in_course (ended status d.course) d

-- ---- what is said

-- before BIND comes the context
abbrev pub front_of : Said → List ℕ
front_of bind = spelling (context 30 5)
front_of _ = []

abbrev pub greeted : Said → Talk → Talk
greeted s d = record d { offer = d.offer ++ front_of s }

-- an invocation at a place, after credentials with this number: with the number of its own and,
-- where the user has a password, the next credentials
abbrev pub message_said : Task → Said → ℕ → ℕ → ℕ → List ℕ
message_said task s place latest now =
    message task s (invoke_at place) (credentials_of_task task (next_number latest) now)

abbrev pub spoken : Task → ℕ → Talk → Said → Talk
spoken task now d s = record {
  course = said_course s d.course;
  latest = next_number d.latest;
  beat = sent_at d.beat now;
  offer = d.offer ++ message_said task s d.course.said d.latest now;
  lines = d.lines;
}

unfoldable pub said_to : Task → ℕ → Talk → Said → Talk
said_to task now d s = spoken task now (greeted s d) s

-- which comes next, where its time has come
abbrev pub next_said : Task → ℕ → Talk → Option Said → Talk
next_said task now d None = in_course (finished task.work d.course) d
next_said task now d (Some s) =
    if may_say task.work d.course s then said_to task now d s else d

-- what asks for reports, where it comes next
abbrev pub reports_by : Task → ℕ → Talk → Option Said → Talk
reports_by task now d (Some (schedule cycle)) = said_to task now d (schedule cycle)
reports_by task now d _ = d

unfoldable pub reporting : Task → ℕ → Talk → Talk
reporting task now d = reports_by task now d (invocation_at task.work d.course.said)

unfoldable pub going_on : Task → ℕ → Talk → Talk
going_on task now d = next_said task now d (invocation_at task.work d.course.said)

-- nothing is awaited after what asks for reports: what comes next is said at once
unfoldable pub went_on : Task → ℕ → Talk → Talk
went_on task now d = if rests d.course then d else going_on task now (reporting task now d)

-- ---- what is heard

-- the lines of what is told, and what it is to the task
unfoldable pub told_to : Task → Talk → Told → Talk
told_to task d t = record d {
  course = after task.work (event_of t) d.course;
  lines = d.lines ++ lines_of t;
}

-- octets at this place of the stream are bad
abbrev pub bad_at : ℕ → Talk → Talk
bad_at place d = record d { course = ended BadMessage d.course; lines = d.lines ++ bad_line place }

abbrev pub heard_by : Task → ℕ → ℕ → Talk → Option Told → Talk
heard_by task now place d None = bad_at place d
heard_by task now place d (Some t) = went_on task now (told_to task d t)

-- a message at a place of the stream; behind the end nothing is heard
unfoldable pub heard : Task → ℕ → ℕ → Talk → Content → Talk
heard task now place d m =
    if is_over d.course then d
    else heard_by task now place d (told_in (service_of task.work) m)

-- behind the last message, octets that can't be one
abbrev pub refused_at : Bool → ℕ → Talk → Talk
refused_at false place d = d
refused_at true place d = if is_over d.course then d else bad_at place d

-- the end of the stream, with octets left over: who only reads wants none
abbrev pub closed_reading : ℕ → List ℕ → Talk → Talk
closed_reading place [] d = ended_by Done d
closed_reading place (octet ∷ rest) d = bad_at place d

abbrev pub closed_by : Bool → ℕ → List ℕ → Talk → Talk
closed_by true place rest d = closed_reading place rest d
closed_by false place rest d = ended_by PeerEnded d

abbrev pub closed_at : Task → ℕ → List ℕ → Talk → Talk
closed_at task place rest d = closed_by (is_show task.work) place rest d

-- ---- a turn's begin and end

-- a block that waits is offered again now
abbrev pub begun : Bool → ℕ → Talk → Talk
begun waits now d =
    record d { beat = if waits then sent_at d.beat now else d.beat; offer = []; lines = [] }

-- a turn before which nothing was said says BIND
unfoldable pub opened : Task → ℕ → Talk → Talk
opened task now d = if d.course.said == 0 then went_on task now d else d

-- who receives frames and is asked to end says STOP as behind the end of the data: once START's
-- return came
unfoldable pub asked_to : Task → Bool → ℕ → Talk → Talk
asked_to task asked now d =
    if asked && receives task.work then went_on task now (in_course (closes true d.course) d) else d

-- nothing was sent for the interval
abbrev pub is_due : Pulse → ℕ → Bool
is_due p now = not (p.interval == 0) && nat_le (picos p.interval) (now - p.sent)

-- a connection that was opened and isn't over has heartbeats
abbrev pub beats : Talk → ℕ → Bool
beats d now = not (d.course.said == 0) && not (is_over d.course) && is_due d.beat now

unfoldable pub beating : ℕ → Talk → Talk
beating now d =
    if beats d now
    then record d { beat = sent_at d.beat now; offer = d.offer ++ spelling heartbeat }
    else d
