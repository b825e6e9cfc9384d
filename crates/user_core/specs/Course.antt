-- How far a user's task has come (CCSDS 911.1-B, 911.2-B and 912.1-B: one invocation at a time).
use Rattle.std.specs.Prelude.{ℕ, ◌+◌, ◌-◌, ◌%◌, ◌==◌, nat_le, Bool, true, false, ◌&&◌, ◌||◌, is_some}
use Rattle.std.specs.Prelude.{Option, Some, None, List, length, slice_get}
use Rattle.user_lines.specs.declared.tag.Tag.{Tag}
use Rattle.user_lines.specs.declared.tag.Tag.TheVariants as tag
use Rattle.user_lines.specs.Tag.{number_of}
use Rattle.user_task.specs.declared.cltus.CltuLine.{CltuLine}
use Rattle.user_task.specs.declared.work.Work.{Work}
use Rattle.user_task.specs.declared.work.Work.TheVariants.{Show, Raf, Rcf, Cltu}
use Rattle.user_task.specs.Invocation.{Said, bind, start, schedule, transfer, stop, unbind, reports}
use Rattle.user_task.specs.Work.{is_show, cltus_of, report_of}
use Rattle.user_core.specs.declared.course.Awaited.{Awaited}
use Rattle.user_core.specs.declared.course.Course.{Course}
use Rattle.user_core.specs.declared.event.Event.{Event}
use Rattle.user_core.specs.declared.event.Event.TheVariants.{Nothing, Returned, Halted, Emptied}
use Rattle.user_core.specs.declared.event.Event.TheVariants.{EndOfData, Aborted}
use Rattle.user_core.specs.declared.status.Status.{Status}
use Rattle.user_core.specs.declared.status.Status.TheVariants.{Done, Refused, PeerEnded}

-- nothing was said
abbrev pub first_course : Course
first_course = record { said = 0; awaited = None; closing = false; status = None }

abbrev pub is_over : Course → Bool
is_over c = is_some c.status

-- it ended, or a return is awaited
abbrev pub rests : Course → Bool
rests c = is_some c.status || is_some c.awaited

abbrev pub ended : Status → Course → Course
ended status c = record c { status = Some status }

-- ---- what is heard

-- returns fit by their tag and the number of their invocation
abbrev pub same_invoke : Option ℕ → Option ℕ → Bool
same_invoke None None = true
same_invoke (Some a) (Some b) = a == b
same_invoke _ _ = false

abbrev pub is_awaited : Option Awaited → Tag → Option ℕ → Bool
is_awaited None t invoke = false
is_awaited (Some a) t invoke = number_of a.tag == number_of t && same_invoke a.invoke invoke

-- a return that doesn't fit changes nothing
abbrev pub answered : Bool → Bool → Course → Course
answered false refused c = c
answered true true c = ended Refused c
answered true false c = record c { awaited = None }

-- START was said
abbrev pub has_begun : ℕ → Bool
has_begun said = nat_le 2 said

abbrev pub ends_by : Option CltuLine → ℕ → Bool
ends_by None id = false
ends_by (Some line) id = line.id == id

abbrev pub ends_in : List CltuLine → ℕ → Bool
ends_in cltus id = ends_by (slice_get cltus (length cltus - 1)) id

-- how many invocations come before the first CLTU: BIND, START and what asks for reports
abbrev pub before_cltus : Work → ℕ
before_cltus work = 2 + length (reports (report_of work))

-- after these all CLTUs were said, the last one with this identification
abbrev pub was_last : Work → ℕ → Option ℕ → Bool
was_last work said None = false
was_last work said (Some id) =
    nat_le (length (cltus_of work)) (said - before_cltus work) && ends_in (cltus_of work) id

abbrev pub closes : Bool → Course → Course
closes false c = c
closes true c = record c { closing = true }

-- who only reads goes on behind a PEER-ABORT
abbrev pub aborted : Bool → Course → Course
aborted true c = c
aborted false c = ended PeerEnded c

unfoldable pub after : Work → Event → Course → Course
after work Nothing c = c
after work (Returned t invoke refused) c = answered (is_awaited c.awaited t invoke) refused c
after work Halted c = closes (has_begun c.said) c
after work EndOfData c = closes (has_begun c.said) c
after work (Emptied last_ok) c = closes (was_last work c.said last_ok) c
after work Aborted c = aborted (is_show work) c

-- it receives frames, and ends once it is asked to
abbrev pub receives : Work → Bool
receives (Show service) = false
receives (Raf from to quality report) = true
receives (Rcf from to channel report) = true
receives (Cltu first cltus report) = false

-- ---- what is said

abbrev pub has_no_cltu : Work → Bool
has_no_cltu (Cltu first cltus report) = length cltus == 0
has_no_cltu _ = false

-- STOP waits for the end of data or for the last notice, where there is anything to wait for
abbrev pub may_say : Work → Course → Said → Bool
may_say work c stop = c.closing || has_no_cltu work
may_say work c _ = true

-- START has 0, and each later invocation the next number
abbrev pub invoke_at : ℕ → ℕ
invoke_at place = (place - 1) % 65536

-- the return that is awaited: BIND and UNBIND have no number, and the return of what asks for
-- reports decides nothing
abbrev pub awaited_of : Said → ℕ → Option Awaited
awaited_of bind invoke = Some (record { tag = tag.BindReturn; invoke = None })
awaited_of start invoke = Some (record { tag = tag.StartReturn; invoke = Some invoke })
awaited_of (schedule cycle) invoke = None
awaited_of (transfer line) invoke = Some (record { tag = tag.TransferReturn; invoke = Some invoke })
awaited_of stop invoke = Some (record { tag = tag.StopReturn; invoke = Some invoke })
awaited_of unbind invoke = Some (record { tag = tag.UnbindReturn; invoke = None })

abbrev pub said_course : Said → Course → Course
said_course s c = record c { said = c.said + 1; awaited = awaited_of s (invoke_at c.said) }

-- behind the last invocation; who only reads invokes nothing and goes on
abbrev pub finished_by : Bool → Course → Course
finished_by true c = c
finished_by false c = ended Done c

abbrev pub finished : Work → Course → Course
finished work c = finished_by (is_show work) c
