-- The forward service of a session (CCSDS 912.1-B): what it asks the station's book, and what it
-- answers. The parameters and the times of a START are this product's own.
use Rattle.std.specs.Prelude.{ℕ, Bool, false, ◌==◌, if◌then◌else◌, None, Result, Ok}
use Rattle.std.specs.Prelude.{Err}
use Rattle.cds_time.specs.Moment.{in_micros}
use Rattle.sle_numbers.specs.declared.get_parameter_diagnostic.GetParameterDiagnostic.{GetParameterDiagnostic}
use Rattle.sle_numbers.specs.declared.get_parameter_diagnostic.GetParameterDiagnostic.TheVariants.{UnknownParameter}
use Rattle.fcltu_numbers.specs.declared.cltu_delivery_mode.CltuDeliveryMode.TheVariants.{Online}
use Rattle.fcltu_numbers.specs.declared.cltu_throw_event_diagnostic.CltuThrowEventDiagnostic.TheVariants.{OperationNotSupported}
use Rattle.sle_common.specs.declared.report_kind.ReportKind.{ReportKind}
use Rattle.cltu_queue.specs.declared.ask.Ask.{Ask}
use Rattle.cltu_queue.specs.declared.ask.Ask.TheVariants as ask
use Rattle.cltu_queue.specs.declared.book_reply.BookReply.{BookReply}
use Rattle.cltu_queue.specs.declared.book_reply.BookReply.TheVariants.{Started, StartRefused}
use Rattle.cltu_queue.specs.declared.book_reply.BookReply.TheVariants.{Taken, Rejected, Stopped}
use Rattle.report_cycle.specs.declared.schedule.Schedule.{Schedule}
use Rattle.report_cycle.specs.Schedule as cycle
use Rattle.fcltu_service.specs.declared.answer.CltuAnswer.{CltuAnswer}
use Rattle.fcltu_service.specs.declared.answer.CltuAnswer.TheVariants as answer
use Rattle.fcltu_service.specs.declared.answer.CltuParameter.{CltuParameter}
use Rattle.fcltu_service.specs.declared.answer.CltuParameter.TheVariants.{DeliveryMode}
use Rattle.fcltu_service.specs.declared.answer.CltuParameter.TheVariants.{ReportingCycle}
use Rattle.fcltu_service.specs.declared.answer.CltuParameter.TheVariants.{ReturnTimeout}
use Rattle.fcltu_service.specs.Invocation.{Invocation, nothing, start, stop, transfer, throw}
use Rattle.fcltu_service.specs.Invocation.{report, get}

-- the seconds that a return may take, and when status reports are due
pub record Service : Type 0 where
  pub timeout : ℕ
  pub reports : Schedule

-- an instance that was just bound
abbrev pub new_service : ℕ → Service
new_service timeout = record { timeout = timeout; reports = cycle.no_reports }

-- ---- what is asked

abbrev pub ask_of : Invocation → Ask
ask_of (start first) = ask.CltuStart first
ask_of stop = ask.CltuStop
ask_of (transfer cltu) = ask.CltuTransfer cltu
ask_of _ = ask.Nothing

-- ---- what is answered

-- radiation may start at the START's moment, and until no time that is known
abbrev pub start_answer : ℕ → BookReply → CltuAnswer
start_answer now (Started _) = answer.Start (Ok (in_micros now, None))
start_answer now (StartRefused diagnostic) = answer.Start (Err diagnostic)
start_answer now _ = answer.Nothing

abbrev pub stop_answer : BookReply → CltuAnswer
stop_answer Stopped = answer.Stop
stop_answer _ = answer.Nothing

-- with the queue's room behind it, in which a CLTU that is queued has its octets
abbrev pub transfer_answer : BookReply → CltuAnswer
transfer_answer (Taken room) = answer.Transfer room (Ok tt)
transfer_answer (Rejected diagnostic room) = answer.Transfer room (Err diagnostic)
transfer_answer _ = answer.Nothing

-- no event is supported; the number is the invocation's own
abbrev pub throw_answer : ℕ → CltuAnswer
throw_answer number = answer.Throw number (Err OperationNotSupported)

-- a forward service is never offline
abbrev pub report_answer : Service → ReportKind → CltuAnswer
report_answer s kind = answer.Report (cycle.unless (cycle.refusal false s.reports kind))

-- 6 delivery mode, 26 reporting cycle, 29 return timeout
abbrev pub parameter_of : Service → ℕ → Result CltuParameter GetParameterDiagnostic
parameter_of s name =
    if name == 6 then Ok (DeliveryMode Online)
    else if name == 26 then Ok (ReportingCycle s.reports.cycle)
    else if name == 29 then Ok (ReturnTimeout s.timeout)
    else Err UnknownParameter

-- What an invocation is answered in a round of this moment, where the book replied so to its ask. A
-- reply that doesn't fit the ask is answered nothing.
abbrev pub answer_of : Service → Invocation → BookReply → ℕ → CltuAnswer
answer_of s nothing reply now = answer.Nothing
answer_of s (start first) reply now = start_answer now reply
answer_of s stop reply now = stop_answer reply
answer_of s (transfer cltu) reply now = transfer_answer reply
answer_of s (throw number) reply now = throw_answer number
answer_of s (report kind) reply now = report_answer s kind
answer_of s (get name) reply now = answer.Get (parameter_of s name)

-- the service behind an invocation: a SCHEDULE-STATUS-REPORT alone changes it
abbrev pub after : Service → Invocation → ℕ → Service
after s (report kind) now =
    record s { reports = cycle.after_request false kind now s.reports }
after s _ now = s

-- ---- status reports

abbrev pub is_due : Service → ℕ → Bool
is_due s now = cycle.is_due s.reports now

-- the report that is due is given
abbrev pub after_report : Service → ℕ → Service
after_report s now =
    if is_due s now then record s { reports = cycle.with_report now s.reports } else s
