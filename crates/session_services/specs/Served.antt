-- What a bound service keeps, and what comes of each call that a session makes of it: a function
-- each. A session knows no more of a service than these. They are `unfoldable`: no proof of lists
-- or laws looks into one, and each method of `ServiceState` or of a session's that stands on one
-- opens its own.
--
-- They are the return services (`specs/ReturnServed.antt`), and FCLTU (`FcltuServed.antt`).
use Rattle.std.specs.Prelude.{ℕ, Option, Some, None, option_map, List}
use Rattle.octet_core.specs.declared.offer.Offer.{Offer}
use Rattle.archive_terms.specs.Glimpse.{Want, wants_nothing, Glimpse}
use Rattle.isp1_tml.specs.Message.{Content}
use Rattle.sle_common.specs.declared.gvcid.Gvcid.{Gvcid}
use Rattle.station_config.specs.declared.peer.Peer.{Peer}
use Rattle.station_config.specs.declared.service.Service.{Service}
use Rattle.station_config.specs.declared.service.Service.TheVariants as service
use Rattle.station_config.specs.declared.site.Site.{Site}
use Rattle.assoc_core.specs.declared.outcome.Outcome.{Outcome}
use Rattle.assoc_core.specs.declared.outcome.Outcome.TheVariants.{Kept}
use Rattle.cltu_queue.specs.declared.ask.Ask.TheVariants as ask
use Rattle.cltu_queue.specs.declared.notice.Notice.{Notice}
use Rattle.return_core.specs.Course.{want_of_course}
use Rattle.return_core.specs.Mode.{answer_of}
use Rattle.return_pdu.specs.declared.return_answer.ReturnAnswer.{ReturnAnswer}
use Rattle.return_pdu.specs.declared.return_kind.ReturnKind.TheVariants as kind
use Rattle.return_service.specs.Instance.{return_answer, concluded}
use Rattle.return_service.specs.Serving.{reported, stepped, answered}
use Rattle.fcltu_service.specs.Service.{new_service, answer_of as fcltu_answer}
use Rattle.fcltu_service.specs.Service.{after as fcltu_concluded, after_report as fcltu_reported}
use Rattle.fcltu_service.specs.declared.answer.CltuAnswer.{CltuAnswer}
use Rattle.session_services.specs.declared.service_state.ServiceState.{ServiceState}
use Rattle.session_services.specs.declared.service_state.ServiceState.TheVariants.{Nothing, Return}
use Rattle.session_services.specs.declared.service_state.ServiceState.TheVariants.{Fcltu}
use Rattle.session_services.specs.Inquiry.{Inquiry, only_asks, Replied}
use Rattle.session_services.specs.Service.{Invocation, invoke_of}
use Rattle.session_services.specs.ReturnServed.{return_made, return_asked, return_prepared}
use Rattle.session_services.specs.ReturnServed.{return_told_at, outcome_of, returned, buffer_due}
use Rattle.session_services.specs.ReturnServed.{dropped_of}
use Rattle.session_services.specs.FcltuServed.{fcltu_asked, fcltu_prepared, fcltu_outcome}
use Rattle.session_services.specs.FcltuServed.{fcltu_returned, view_due, fcltu_told, fcltu_notified}
pub use Rattle.session_services.specs.Telling.{Message, Fixed}

abbrev pub Served : Type 0
Served = ServiceState

-- where none is bound
abbrev pub unserved : Served
unserved = Nothing

-- made for a BIND, before the book is asked, with the instance's return timeout
unfoldable pub served_at : Service → ℕ → Served
served_at (service.Raf mode size latency) timeout =
    Return (return_made kind.Raf mode size latency timeout)
served_at (service.Rcf mode size latency channels) timeout =
    Return (return_made kind.Rcf mode size latency timeout)
served_at (service.Cltu room longest) timeout = Fcltu (new_service timeout)

-- what a round with an invocation that passes asks of the book and wants of a look
unfoldable pub prepared : Served → Invocation → Inquiry
prepared Nothing i = only_asks ask.Nothing
prepared (Return r) i = return_prepared i r
prepared (Fcltu f) i = fcltu_prepared i

-- what a round without one wants of a look
unfoldable pub want_served : Served → Want
want_served Nothing = wants_nothing
want_served (Return r) = want_of_course r.course
want_served (Fcltu f) = wants_nothing

-- what an invocation that passed led to, by the channels that are permitted, the book's reply and
-- the look at a moment: what the service keeps then, what that makes of the association, and what is
-- answered
pub record Concluded : Type 0 where
  pub served : Served
  pub outcome : Outcome
  pub answer : Option Message

-- what a return service answers
abbrev pub answered_so : Served → ReturnAnswer → Invocation → Concluded
answered_so served answer i = record {
  served = served;
  outcome = outcome_of answer;
  answer = returned answer (invoke_of i);
}

-- what the forward service answers
abbrev pub answered_as : Served → CltuAnswer → Invocation → Concluded
answered_as served answer i = record {
  served = served;
  outcome = fcltu_outcome answer;
  answer = fcltu_returned answer (invoke_of i);
}

unfoldable pub concluded_by : Served → List Gvcid → Invocation → Replied → ℕ → Concluded
concluded_by Nothing channels i r now =
    record { served = Nothing; outcome = Kept; answer = None }
concluded_by (Return s) channels i r now =
    answered_so (Return (concluded channels (return_asked i) r.glimpse now s))
    (return_answer channels (return_asked i) r.glimpse s) i
concluded_by (Fcltu f) channels i r now =
    answered_as (Fcltu (fcltu_concluded f (fcltu_asked i) now))
    (fcltu_answer f (fcltu_asked i) r.reply now) i

-- the status report that is due in a round, if one is, and what the service keeps behind it
pub record Reported : Type 0 where
  pub served : Served
  pub report : Option Message

unfoldable pub reported_by : Served → Replied → ℕ → Reported
reported_by Nothing r now = record { served = Nothing; report = None }
reported_by (Return s) r now =
    record { served = Return (reported now s); report = return_told_at r.glimpse now s }
reported_by (Fcltu f) r now = record {
  served = Fcltu (fcltu_reported f now);
  report = option_map fcltu_told (view_due f now r.view);
}

-- how a notice of the book is told: it comes to the forward service alone
unfoldable pub told_by_service : Served → Notice → Option Message
told_by_service (Fcltu f) notice = Some (fcltu_notified notice)
told_by_service _ notice = None

-- the step of a round, with the look that it wanted, at a moment
unfoldable pub served_step : Glimpse → ℕ → Served → Served
served_step g now Nothing = Nothing
served_step g now (Return r) = Return (stepped g now r)
served_step g now (Fcltu f) = Fcltu f

-- what is to be offered of what the service holds then, to a peer, with the session's latest number,
-- at a moment
unfoldable pub fixed_by : Served → Site → Option Peer → ℕ → ℕ → Fixed
fixed_by Nothing site peer numbers now = record { message = None; numbers = numbers }
fixed_by (Return r) site peer numbers now = buffer_due r.kind r.course site peer numbers now
fixed_by (Fcltu f) site peer numbers now = record { message = None; numbers = numbers }

-- how many items are dropped where that message stalls; none where it is kept, to be offered again
unfoldable pub dropped_by : Served → Option ℕ
dropped_by Nothing = None
dropped_by (Return r) = dropped_of r.course
dropped_by (Fcltu f) = None

-- the link's answer to that message
unfoldable pub served_settled : Offer → Served → Served
served_settled answer Nothing = Nothing
served_settled answer (Return r) = Return (answered (answer_of answer) r)
served_settled answer (Fcltu f) = Fcltu f
