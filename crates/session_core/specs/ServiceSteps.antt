-- The steps of a round in which a bound service has a part, each by what the service makes of it.
use Rattle.std.specs.Prelude.{◌≡◌, ℕ, ◌==◌, nat_le, Bool, true, false, not, ◌&&◌}
use Rattle.std.specs.Prelude.{if◌then◌else◌, Option, Some, None, List, [], ◌++◌, length}
use Rattle.std.specs.Prelude.{Result, Ok, Err, option_map, option_and_then, slice_get}
use Rattle.std.specs.Option.{option_map_or}
use Rattle.octet_core.specs.declared.offer.Offer.{Offer}
use Rattle.octet_core.specs.declared.offer.Offer.TheVariants.{Whole, Stalled, Failed as Refused}
use Rattle.archive_terms.specs.Glimpse.{Glimpse}
use Rattle.isp1_tml.specs.Message.{spelling}
use Rattle.sle_numbers.specs.declared.bind_diagnostic.BindDiagnostic.{BindDiagnostic}
use Rattle.sle_common.specs.declared.gvcid.Gvcid.{Gvcid}
use Rattle.station_config.specs.declared.service.Service.{Service}
use Rattle.station_config.specs.declared.site.Site.{Site}
use Rattle.assoc_core.specs.Kind as kind
use Rattle.assoc_core.specs.Kind.{Kind}
use Rattle.assoc_core.specs.State.{moved}
use Rattle.assoc_core.specs.declared.outcome.Outcome.{Outcome}
use Rattle.assoc_core.specs.declared.state.State.{State}
use Rattle.assoc_core.specs.declared.state.State.TheVariants.{Active}
use Rattle.cltu_queue.specs.declared.book_reply.BookReply.{BookReply}
use Rattle.cltu_queue.specs.declared.book_reply.BookReply.TheVariants.{Bound}
use Rattle.cltu_queue.specs.declared.notice.Notice.{Notice}
use Rattle.session_core.specs.declared.course.Course.TheVariants.{LinkFailing}
use Rattle.session_core.specs.declared.standing.Standing.{Standing}
use Rattle.session_core.specs.Course.{is_going, is_blocked, is_plain}
use Rattle.session_services.specs.Inquiry.{Replied}
use Rattle.session_services.specs.Service.{Invocation, invocation_kind}
use Rattle.session_services.specs.ReturnServed.{channels_of}
pub use Rattle.session_services.specs.Telling.{spelled}
use Rattle.session_services.specs.Served.{Served, unserved, Message, served_at, Concluded, concluded_by}
use Rattle.session_services.specs.Served.{Reported, reported_by, told_by_service, served_step, Fixed}
use Rattle.session_services.specs.Served.{fixed_by, dropped_by, served_settled}
use Rattle.session_services.specs.Returns.{own_credentials, number_after}
use Rattle.session_core.specs.Returns.{bound_peer, with_return}

-- ---- a BIND

-- what is made for a BIND that was judged so: the service of the instance that it asks for
abbrev pub service_made : Site → Result ℕ BindDiagnostic → Served
service_made site (Ok place) =
    option_map_or (λ instance. served_at instance.service instance.timeout)
    (slice_get site.instances place) unserved
service_made site (Err why) = unserved

-- it is kept where the book says that the instance is bound
abbrev pub service_bound : Site → Result ℕ BindDiagnostic → BookReply → Served
service_bound site judged Bound = service_made site judged
service_bound site judged _ = unserved

-- ---- an invocation

-- the service of the instance that is bound
abbrev pub service_of : Site → Standing → Option Service
service_of site s =
    option_map (λ instance. instance.service)
    (option_and_then (λ place. slice_get site.instances place) s.bound)

-- the channels for which a START of RCF may ask it
abbrev pub permitted : Site → Standing → List Gvcid
permitted site s = channels_of (service_of site s)

abbrev pub answered_with : Site → Standing → Kind → Option Message → Standing
answered_with site s k None = s
answered_with site s k (Some message) =
    with_return site s k (λ credentials. spelling (message credentials))

abbrev pub is_active : State → Bool
is_active (Active _) = true
is_active _ = false

-- the association goes on by an outcome; a service that isn't started any more offers nothing
abbrev pub led_to : Outcome → Standing → Standing
led_to outcome s =
    record s {
      association = moved s.association outcome;
      outgoing = if is_active (moved s.association outcome) then s.outgoing else [];
    }

abbrev pub with_conclusion : Site → Standing → Kind → Concluded → Standing
with_conclusion site s k c =
    record (led_to c.outcome (answered_with site s k c.answer)) { service = c.served }

-- an invocation that passed leads to this, where the book replies so
abbrev pub with_invocation : Site → Standing → Invocation → Replied → Standing
with_invocation site s i r =
    with_conclusion site s (invocation_kind i)
    (concluded_by s.service (permitted site s) i r s.moment)

-- What a message may make of a session: where that goes on, closes or has ended, it does so too, by
-- no fault of its link and with no want of memory; and what listen came to and the moment stay.
pub record Keeps (s t : Standing) : Type 0 where
  pub plain : is_plain s.course ≡ true → is_plain t.course ≡ true
  pub arrival : t.arrival ≡ s.arrival
  pub moment : t.moment ≡ s.moment

-- What a service's part of a step leaves of a session: whether it goes on, what listen came to, the
-- moment, and the association.
pub record Stays (s t : Standing) : Type 0 where
  pub course : t.course ≡ s.course
  pub arrival : t.arrival ≡ s.arrival
  pub moment : t.moment ≡ s.moment
  pub association : t.association ≡ s.association

-- ---- what is told unasked, behind the return

-- A session that goes on tells of its service, in a round that isn't blocked.
abbrev pub may_tell : Standing → Bool
may_tell s = is_going s.course && not (is_blocked s.arrival)

-- a message more in the block, signed as the return of a report is
abbrev pub told_more : Site → Standing → Option Message → Standing
told_more site s None = s
told_more site s (Some message) =
    record s {
      numbers = number_after (bound_peer site s) kind.report s.numbers;
      block =
          s.block
          ++ spelling
          (message (own_credentials site (bound_peer site s) kind.report s.numbers s.moment));
    }

abbrev pub reported : Site → Standing → Reported → Standing
reported site s r = told_more site (record s { service = r.served }) r.report

-- the status report, where one is due
abbrev pub with_report : Site → Standing → Replied → Standing
with_report site s r =
    if may_tell s then reported site s (reported_by s.service r s.moment) else s

abbrev pub noticed : Site → Standing → Option Notice → Standing
noticed site s None = s
noticed site s (Some notice) = told_more site s (told_by_service s.service notice)

-- the book's notice
abbrev pub with_notice : Site → Standing → Option Notice → Standing
with_notice site s notice = if may_tell s then noticed site s notice else s

-- ---- the service's own step

-- whether the service takes its step, where the session was active before the message or not: where
-- it still is
abbrev pub may_serve : Bool → Standing → Bool
may_serve was s =
    (was && is_active s.association) && (is_going s.course && not (is_blocked s.arrival))

abbrev pub has_outgoing : Standing → Bool
has_outgoing s = not (length s.outgoing == 0)

abbrev pub with_fixed : Standing → Fixed → Standing
with_fixed s f = record s { outgoing = spelled f.message; numbers = f.numbers }

-- one that is kept stays as it is, else the one that is due now is to be offered
abbrev pub fixed : Site → Standing → Standing
fixed site s =
    if has_outgoing s then s
    else with_fixed s (fixed_by s.service site (bound_peer site s) s.numbers s.moment)

abbrev pub stepped_by : Glimpse → Standing → Standing
stepped_by g s = record s { service = served_step g s.moment s.service }

abbrev pub with_service : Site → Bool → Glimpse → Standing → Standing
with_service site was g s = if may_serve was s then fixed site (stepped_by g s) else s

-- ---- the service's message is offered

abbrev pub settled : Offer → Standing → Standing
settled answer s = record s { service = served_settled answer s.service }

-- one that stalls is kept, or dropped with so many items
abbrev pub after_stall : Standing → Option ℕ → Standing
after_stall s None = record s { dropped = None }
after_stall s (Some items) = record s { outgoing = []; dropped = Some items }

-- taken whole it is gone, and sets the moment sent
abbrev pub after_send : Standing → Offer → Standing
after_send s Whole =
    settled Whole (record s { outgoing = []; sent = s.moment; dropped = None })
after_send s Stalled = settled Stalled (after_stall s (dropped_by s.service))
after_send s Refused = record s { course = LinkFailing; dropped = None }
