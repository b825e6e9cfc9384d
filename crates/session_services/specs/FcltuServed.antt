-- What a session makes of a bound FCLTU instance (CCSDS 912.1-B): by `fcltu_service` what it asks,
-- answers and tells. It wants nothing of a look, and has no message of its own behind the block.
use Rattle.std.specs.Prelude.{ℕ, if◌then◌else◌, Option, Some, None, Ok, []}
use Rattle.isp1_tml.specs.Message.{Content, pdu}
use Rattle.assoc_core.specs.declared.outcome.Outcome.{Outcome}
use Rattle.assoc_core.specs.declared.outcome.Outcome.TheVariants.{Started, Stopped, Kept}
use Rattle.cltu_queue.specs.declared.notice.Notice.{Notice}
use Rattle.cltu_queue.specs.declared.uplink_view.UplinkView.{UplinkView}
use Rattle.fcltu_pdu.specs.Async.{notice_pdu}
use Rattle.fcltu_pdu.specs.Report.{report_pdu}
use Rattle.fcltu_service.specs.declared.answer.CltuAnswer.{CltuAnswer}
use Rattle.fcltu_service.specs.declared.answer.CltuAnswer.TheVariants as answer
use Rattle.fcltu_service.specs.Invocation.{Invocation as FcltuAsked, nothing, start, stop}
use Rattle.fcltu_service.specs.Invocation.{transfer, throw, report, get, cltu_of}
use Rattle.fcltu_service.specs.Service.{Service as Fcltu, ask_of, is_due}
use Rattle.fcltu_service.specs.Returns.{Return, return_octets, returned}
use Rattle.fcltu_service.specs.Telling.{notice_told, report_told}
use Rattle.session_services.specs.Inquiry.{Inquiry, only_asks}
use Rattle.session_services.specs.Service.{Invocation, cltu_starts, transfers, throws, stops}
use Rattle.session_services.specs.Service.{schedules, gets}
use Rattle.session_services.specs.Returns.{return_content}
use Rattle.session_services.specs.Telling.{Message}

-- what an invocation asks of it
abbrev pub fcltu_asked : Invocation → FcltuAsked
fcltu_asked (cltu_starts s) = start s.first
fcltu_asked (transfers t) = transfer (cltu_of t)
fcltu_asked (throws t) = throw t.number
fcltu_asked (stops s) = stop
fcltu_asked (schedules s) = report s.report
fcltu_asked (gets g) = get g.name
fcltu_asked _ = nothing

-- it wants nothing of a look
abbrev pub fcltu_prepared : Invocation → Inquiry
fcltu_prepared i = only_asks (ask_of (fcltu_asked i))

-- ---- an answer

-- what it makes of the association
abbrev pub fcltu_outcome : CltuAnswer → Outcome
fcltu_outcome (answer.Start (Ok _)) = Started
fcltu_outcome answer.Stop = Stopped
fcltu_outcome _ = Kept

-- a return as a message, without octets where there is none
abbrev pub content_of : Option Return → Content
content_of (Some r) = pdu (return_octets r)
content_of None = pdu []

-- its return, with the number of its invocation
abbrev pub fcltu_returned : CltuAnswer → ℕ → Option Message
fcltu_returned answer.Nothing invoke = None
fcltu_returned a invoke = Some (λ credentials. content_of (returned a credentials invoke))

-- ---- what is told unasked

-- the view of the queue behind the round's ask, where a status report of it is due
abbrev pub view_due : Fcltu → ℕ → UplinkView → Option UplinkView
view_due f now view = if is_due f now then Some view else None

-- a status report of a view
abbrev pub fcltu_told : UplinkView → Message
fcltu_told view = λ credentials. return_content report_pdu (report_told credentials view)

-- a notice of the queue
abbrev pub fcltu_notified : Notice → Message
fcltu_notified notice = λ credentials. return_content notice_pdu (notice_told credentials notice)
