-- The steps of a round, one after the other. Their order is this product's own.
use Rattle.std.specs.Prelude.{ℕ, ◌-◌, ◌*◌, ◌==◌, nat_le, Bool, true, false, not, ◌&&◌, ◌||◌}
use Rattle.std.specs.Prelude.{if◌then◌else◌, Option, Some, None, Result, Ok, Err, []}
use Rattle.std.specs.Prelude.{length}
use Rattle.octet_core.specs.declared.offer.Offer.{Offer}
use Rattle.octet_core.specs.declared.offer.Offer.TheVariants.{Whole, Stalled, Failed as Refused}
use Rattle.isp1_tml.specs.declared.tml_fault.TmlFault.{TmlFault}
use Rattle.isp1_tml.specs.Beat.{Pulse, picos}
use Rattle.isp1_tml.specs.Message.{Content, heartbeat, spelling}
use Rattle.link_model.specs.declared.call.Heard.{Heard}
use Rattle.link_model.specs.declared.call.Heard.TheVariants.{Arrived, Nothing, Closed, Failed}
use Rattle.sle_numbers.specs.declared.peer_abort_diagnostic.PeerAbortDiagnostic.TheVariants.{CommunicationsFailure}
use Rattle.station_config.specs.declared.site.Site.{Site}
use Rattle.cltu_queue.specs.declared.ask.Ask.{Ask}
use Rattle.cltu_queue.specs.declared.ask.Ask.TheVariants as ask
use Rattle.session_core.specs.declared.arrival.Arrival.TheVariants as arrival
use Rattle.session_core.specs.declared.course.Course.{Course}
use Rattle.session_core.specs.declared.course.Course.TheVariants.{Closing as ClosingWith}
use Rattle.session_core.specs.declared.course.Course.TheVariants.{Over, LinkFailing, LinkFailed}
use Rattle.session_core.specs.declared.ended.Ended.TheVariants.{PeerClosed, Broken}
use Rattle.session_core.specs.declared.standing.Standing.{Standing}
use Rattle.session_core.specs.Course.{is_going, is_live, is_blocked, has_arrived}
use Rattle.session_core.specs.Course.{has_closed}
use Rattle.session_services.specs.Inquiry.{Inquiry, only_asks, Replied}
use Rattle.session_core.specs.Message.{UserContent, heartbeat as heartbeat_said, invocation}
use Rattle.session_core.specs.Message.{said_in, judged}
use Rattle.session_core.specs.Handling.{ended_by, aborted, said_ask, after_message}
use Rattle.session_services.specs.Service.{leaves_running}
use Rattle.session_services.specs.Served.{want_served}
use Rattle.session_core.specs.ServiceSteps.{service_of, with_report, with_notice, is_active, with_service}
use Rattle.session_core.specs.ServiceSteps.{has_outgoing}
use Rattle.archive_terms.specs.Glimpse.{Want, wants_nothing}
use Rattle.assoc_core.specs.declared.step.Step.{Step}
use Rattle.assoc_core.specs.declared.step.Step.TheVariants.{Pass}

-- what comes next of the stream: its next message, none yet, or its fault
abbrev pub Next : Type 0
Next = Result (Option Content) TmlFault

abbrev pub has_message : Next → Bool
has_message (Ok (Some _)) = true
has_message _ = false

-- ---- listen: a waiting block

abbrev pub has_block : Standing → Bool
has_block s = not (length s.block == 0)

-- a round begins with nothing heard
abbrev pub round_begun : Standing → Standing
round_begun s = record s { arrival = arrival.Nothing; relieved = false }

-- a block that waits is offered first
abbrev pub waits : Standing → Bool
waits s = is_live s.course && has_block s

-- taken whole it is gone; where it stalls the round is blocked
abbrev pub after_wait : Standing → Offer → Standing
after_wait s Whole = record s { block = []; relieved = true }
after_wait s Stalled = record s { arrival = arrival.Blocked }
after_wait s Refused = record s { course = LinkFailing }

-- ---- listen: a poll

-- the link is polled where the round isn't blocked, no whole message is held and the session isn't
-- closing
abbrev pub may_poll_by : Standing → Bool → Bool
may_poll_by s is_held = is_going s.course && not (is_blocked s.arrival) && not is_held

abbrev pub may_poll : Standing → Next → Bool
may_poll s next = may_poll_by s (has_message next)

abbrev pub after_poll : Standing → Heard → Standing
after_poll s (Arrived _) = record s { arrival = arrival.Octets }
after_poll s Nothing = s
after_poll s Closed = record s { arrival = arrival.Closed }
after_poll s Failed = record s { course = LinkFailing }

-- ---- step: the moment

-- an arrival sets the moment heard, a block that listen handed over the moment sent
abbrev pub at_moment : Standing → ℕ → Standing
at_moment s now =
    record s {
      moment = now;
      sent = if s.relieved then now else s.sent;
      heard = if has_arrived s.arrival then now else s.heard;
    }

-- ---- step: a fault, a close, or one message

-- a round that is blocked, and one of a session that doesn't go on, handles no message
abbrev pub is_idle : Standing → Bool
is_idle s = is_blocked s.arrival || not (is_going s.course)

abbrev pub handles : Standing → Next → Bool
handles s next = not (is_idle s) && has_message next

-- what an idle round asks: one that is blocked takes no notice
abbrev pub idle_ask : Standing → Inquiry
idle_ask s = only_asks (if is_blocked s.arrival then ask.Quiet else ask.Nothing)

-- ---- step: the timers

abbrev pub pulse_of : Standing → Pulse
pulse_of s = record { interval = s.interval; factor = s.factor; sent = s.sent; heard = s.heard }

-- nothing was heard for the interval times the factor, or longer
abbrev pub is_dead : Pulse → ℕ → Bool
is_dead p now = not (p.interval == 0) && nat_le (picos (p.interval * p.factor)) (now - p.heard)

-- nothing was sent for the interval, or longer
abbrev pub is_due : Pulse → ℕ → Bool
is_due p now = not (p.interval == 0) && nat_le (picos p.interval) (now - p.sent)

-- ---- step: what a running service wants

-- it wants a look unless the dead timer ends the session
abbrev pub running_want : Standing → ℕ → Want
running_want s now =
    if is_dead (pulse_of s) now then wants_nothing else want_served s.service

-- a service that runs before a message that leaves it running wants its look; any other is asked
-- for what the message wants
abbrev pub with_want : Bool → Standing → ℕ → Inquiry → Inquiry
with_want true s now i = record i { want = running_want s now }
with_want false s now i = i

-- whether a message leaves a running service running
abbrev pub stays_running : UserContent → Step → Bool
stays_running heartbeat_said Pass = true
stays_running (invocation i) Pass = leaves_running i
stays_running _ _ = false

-- what a message says to the session
abbrev pub said_to : Site → Standing → Content → UserContent
said_to site s message = said_in (service_of site s) s.association message

abbrev pub message_ask : Site → Standing → Content → ℕ → Inquiry
message_ask site s message now =
    let said = said_to site s message in
    let step = judged site s.association said now in
    with_want (stays_running said step) s now (said_ask site s.service said step)

abbrev pub next_ask : Site → Standing → Next → ℕ → Inquiry
next_ask site s (Ok (Some message)) now = message_ask site s message now
next_ask site s (Ok None) now =
    with_want (not (has_closed s.arrival)) s now (only_asks ask.Nothing)
next_ask site s (Err _) now = only_asks ask.Nothing

-- what a round asks the book, and wants of a look, once it has its moment
abbrev pub inquiry_entered : Site → Standing → Next → Inquiry
inquiry_entered site s next = if is_idle s then idle_ask s else next_ask site s next s.moment

abbrev pub inquiry_at : Site → Standing → Next → ℕ → Inquiry
inquiry_at site s next now = inquiry_entered site (at_moment s now) next

abbrev pub ask_of : Site → Standing → Next → ℕ → Ask
ask_of site s next now = (inquiry_at site s next now).ask

abbrev pub with_message : Site → Standing → Content → Replied → Standing
with_message site s message r =
    let said = said_to site s message in
    after_message site s said (judged site s.association said s.moment) r

-- the stream's fault ends the session; a close ends it once no whole message is held; else at most
-- one message is handled
abbrev pub with_next : Site → Standing → Next → Replied → Standing
with_next site s (Err fault) r = ended_by s (Broken fault)
with_next site s (Ok None) r = if has_closed s.arrival then ended_by s PeerClosed else s
with_next site s (Ok (Some message)) r = with_message site s message r

abbrev pub acted : Site → Standing → Next → Replied → Standing
acted site s next r = if is_idle s then s else with_next site s next r

-- ---- step: the dead timer and the heartbeat

abbrev pub timed : Standing → Standing
timed s =
    if is_live s.course && is_dead (pulse_of s) s.moment
    then aborted s CommunicationsFailure else s

-- a heartbeat, where the block is still empty
abbrev pub with_heartbeat : Standing → Standing
with_heartbeat s =
    if is_live s.course && not (has_block s) && is_due (pulse_of s) s.moment
    then record s { block = spelling heartbeat } else s

-- ---- step: what is told unasked, and the service

-- a report that is due, the book's notice, or else a heartbeat
abbrev pub unasked : Site → Replied → Standing → Standing
unasked site r s = with_heartbeat (with_notice site (with_report site s r) r.notice)

-- what a round leaves in which no message is held
abbrev pub with_none : Standing → Next → Standing
with_none s (Err fault) = ended_by s (Broken fault)
with_none s (Ok next) = if has_closed s.arrival then ended_by s PeerClosed else s

-- the whole step of a session with no service, where no message is held: it asks nothing, and
-- whatever the book replied comes to this
abbrev pub bare_step : Standing → Next → ℕ → Standing
bare_step s next now = with_heartbeat (timed (with_none (at_moment s now) next))

-- the whole step of a session that hasn't ended, at a moment, where the book replied so
abbrev pub after_step : Site → Standing → Next → ℕ → Replied → Standing
after_step site s next now r =
    with_service site (is_active s.association) r.glimpse
    (unasked site r (timed (acted site (at_moment s now) next r)))

-- ---- speak

abbrev pub may_speak : Standing → Bool
may_speak s = is_live s.course && has_block s && not (is_blocked s.arrival)

-- taken whole the block is gone, and sets the moment sent; where it stalls it waits for the next
-- round
abbrev pub after_offer : Standing → Offer → Standing
after_offer s Whole = record s { block = []; sent = s.moment }
after_offer s Stalled = s
after_offer s Refused = record s { course = LinkFailing }

-- behind the block, where none waits, the service's message is offered
abbrev pub may_send : Standing → Bool
may_send s =
    is_going s.course && not (has_block s) && (not (is_blocked s.arrival) && has_outgoing s)

-- a closing session ends once its block was taken whole, and one whose link fails ends with the
-- round
abbrev pub course_at_end : Course → Bool → Course
course_at_end (ClosingWith end) waits = if waits then ClosingWith end else Over end
course_at_end LinkFailing waits = LinkFailed
course_at_end course waits = course

abbrev pub round_ended : Standing → Standing
round_ended s = record s { course = course_at_end s.course (has_block s) }
