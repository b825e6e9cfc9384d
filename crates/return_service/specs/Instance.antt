-- What an instance of a return service wants of a round's look, what it answers, and what becomes of
-- it (CCSDS 911.1-B and 911.2-B).
use Rattle.std.specs.Prelude.{ℕ, Bool, if◌then◌else◌, List, Result, Ok, Err}
use Rattle.sle_numbers.specs.declared.return_start_diagnostic.ReturnStartDiagnostic.{ReturnStartDiagnostic}
use Rattle.sle_numbers.specs.declared.return_start_diagnostic.ReturnStartDiagnostic.TheVariants.{InvalidGvcId}
use Rattle.sle_numbers.specs.ReturnStartDiagnostic.{number_of as start_number}
use Rattle.sle_numbers.specs.ScheduleDiagnostic.{number_of as schedule_number}
use Rattle.sle_common.specs.declared.gvcid.Gvcid.{Gvcid}
use Rattle.archive_terms.specs.Delivery.{Terms}
use Rattle.archive_terms.specs.Glimpse.{Want, wants_nothing, wants_front, Glimpse}
use Rattle.frame_select.specs.Selection.{filter_of}
use Rattle.return_core.specs.Course.{want_of_course}
use Rattle.return_pdu.specs.declared.return_answer.ReturnAnswer.{ReturnAnswer}
use Rattle.return_pdu.specs.declared.return_answer.ReturnAnswer.TheVariants as reply
use Rattle.report_cycle.specs.Schedule.{refusal as report_refusal, unless}
use Rattle.return_service.specs.declared.invocation.ReturnStart.{ReturnStart}
use Rattle.return_service.specs.declared.invocation.ReturnInvocation.{ReturnInvocation}
use Rattle.return_service.specs.declared.invocation.ReturnInvocation.TheVariants as asked
use Rattle.return_service.specs.declared.span.Span.{Span}
use Rattle.return_service.specs.Answer.{confirmed, known}
use Rattle.return_service.specs.Requested.{may_ask}
use Rattle.return_service.specs.Span.{moments}
use Rattle.return_service.specs.Serving.{Serving, terms_at, started, stopped, is_offline, requested}
use Rattle.return_service.specs.Serving.{parameter_of}

-- what it wants of the look of a round in which this is asked: a START needs the front alone
abbrev pub prepared : ReturnInvocation → Serving → Want
prepared (asked.Start s) r = wants_front
prepared asked.Stop r = wants_nothing
prepared _ r = want_of_course r.course

-- what is asked for is judged behind the times
abbrev pub where_permitted : Bool → Result Span ReturnStartDiagnostic
    → Result Span ReturnStartDiagnostic
where_permitted permitted (Ok span) = if permitted then Ok span else Err InvalidGvcId
where_permitted permitted (Err why) = Err why

-- the moments of a START, or why it is refused, by the round's look and the permitted channels
abbrev pub moments_at : List Gvcid → ReturnStart → Glimpse → Serving
    → Result Span ReturnStartDiagnostic
moments_at channels s g r = where_permitted (may_ask channels s.filter)
    (moments r.course.mode g.production s.start s.stop)

-- what is answered
abbrev pub return_answer : List Gvcid → ReturnInvocation → Glimpse → Serving → ReturnAnswer
return_answer channels asked.Nothing g r = reply.Nothing
return_answer channels (asked.Start s) g r =
    reply.Start (confirmed start_number (moments_at channels s g r))
return_answer channels asked.Stop g r = reply.Stop
return_answer channels (asked.Report kind) g r = reply.Report (confirmed schedule_number
    (unless (report_refusal (is_offline r.course) r.schedule kind)))
return_answer channels (asked.Get name) g r = reply.Get (known (parameter_of r name))

-- a START that has these moments begins a delivery; one that is refused leaves all
abbrev pub with_start : ReturnStart → ℕ → Result Span ReturnStartDiagnostic → Serving → Serving
with_start s front (Ok span) r = started s.filter span front r
with_start s front (Err why) r = r

-- what becomes of it
abbrev pub concluded : List Gvcid → ReturnInvocation → Glimpse → ℕ → Serving → Serving
concluded channels (asked.Start s) g now r = with_start s g.front (moments_at channels s g r) r
concluded channels asked.Stop g now r = stopped r
concluded channels (asked.Report kind) g now r = requested kind now r
concluded channels _ g now r = r

-- the terms of a START that has these moments
abbrev pub terms_of_start : ReturnStart → Span → ℕ → Serving → Terms
terms_of_start s span front r = terms_at r.course (filter_of s.filter) span front
