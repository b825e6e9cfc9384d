-- The invocations of a task, in order.
use Rattle.std.specs.Prelude.{ℕ, ◌-◌, ◌==◌, true, false, if◌then◌else◌, Option, Some, None}
use Rattle.std.specs.Prelude.{List, [], ◌∷◌, ◌++◌, map, length, slice_get}
use Rattle.user_task.specs.declared.cltus.CltuLine.{CltuLine}
use Rattle.user_task.specs.declared.invocation.Invocation.{Invocation}
use Rattle.user_task.specs.declared.invocation.Invocation.TheVariants.{Bind, Start, Schedule}
use Rattle.user_task.specs.declared.invocation.Invocation.TheVariants.{Transfer, Stop, Unbind}
use Rattle.user_task.specs.declared.work.Work.{Work}
use Rattle.user_task.specs.Work.{is_show, cltus_of, report_of}

-- what is invoked
pub data Said : Type 0 where
  bind : Said
  start : Said
  schedule : ℕ → Said
  transfer : CltuLine → Said
  stop : Said
  unbind : Said

abbrev pub said_of : Invocation → Said
said_of Bind = bind
said_of Start = start
said_of (Schedule cycle) = schedule cycle
said_of (Transfer line) = transfer line.now
said_of Stop = stop
said_of Unbind = unbind

-- behind the last CLTU
abbrev pub closing_at : ℕ → Option Said
closing_at place =
    if place == 0 then Some stop else if place == 1 then Some unbind else None

abbrev pub forward_by : ℕ → Option CltuLine → Option Said
forward_by behind (Some line) = Some (transfer line)
forward_by behind None = closing_at behind

-- after START and what asks for reports: each CLTU, then STOP and UNBIND
abbrev pub forward_at : List CltuLine → ℕ → Option Said
forward_at cltus place = forward_by (place - length cltus) (slice_get cltus place)

-- after START: what asks for status reports at this cycle, where they are wanted
abbrev pub started_at : Option ℕ → List CltuLine → ℕ → Option Said
started_at None cltus place = forward_at cltus place
started_at (Some cycle) cltus place =
    if place == 0 then Some (schedule cycle) else forward_at cltus (place - 1)

-- the invocation at a place, counted from 0; who only reads invokes nothing
abbrev pub invocation_at : Work → ℕ → Option Said
invocation_at work place =
    if is_show work then None
    else if place == 0 then Some bind
    else if place == 1 then Some start
    else started_at (report_of work) (cltus_of work) (place - 2)

-- SCHEDULE-STATUS-REPORT, where status reports are wanted
abbrev pub reports : Option ℕ → List Said
reports None = []
reports (Some cycle) = schedule cycle ∷ []

-- all of them in order: BIND, START, SCHEDULE-STATUS-REPORT where it is wanted, a TRANSFER-DATA for
-- each CLTU, STOP and UNBIND
abbrev pub invocations : Work → List Said
invocations work =
    if is_show work then []
    else bind ∷ start ∷ (reports (report_of work)
    ++ (map transfer (cltus_of work) ++ stop ∷ unbind ∷ []))
