-- What a message asks the book, and what it leads to once the book has replied.
use Rattle.std.specs.Prelude.{ℕ, Bool, true, false, ◌&&◌, ◌||◌, ◌==◌, nat_le}
use Rattle.std.specs.Prelude.{if◌then◌else◌, Option, Some, None, unwrap_or, [], slice_get}
use Rattle.std.specs.Prelude.{Result, Ok, Err}
use Rattle.std.specs.Option.{option_map_or}
use Rattle.bind_pdu.specs.Binding.{BindContent}
use Rattle.sle_numbers.specs.declared.bind_diagnostic.BindDiagnostic.{BindDiagnostic}
use Rattle.sle_numbers.specs.declared.bind_diagnostic.BindDiagnostic.TheVariants as refused
use Rattle.sle_numbers.specs.declared.peer_abort_diagnostic.PeerAbortDiagnostic.{PeerAbortDiagnostic}
use Rattle.sle_numbers.specs.declared.peer_abort_diagnostic.PeerAbortDiagnostic.TheVariants as why
use Rattle.station_config.specs.Drafts.{place_of}
use Rattle.station_config.specs.Validity.{is_forward}
use Rattle.station_config.specs.declared.peer.Peer.{Peer}
use Rattle.station_config.specs.declared.site.Site.{Site}
use Rattle.assoc_core.specs.declared.outcome.Outcome.{Outcome}
use Rattle.assoc_core.specs.declared.outcome.Outcome.TheVariants as outcome
use Rattle.assoc_core.specs.declared.step.Step.{Step}
use Rattle.assoc_core.specs.declared.step.Step.TheVariants.{Pass, Denied, Abort}
use Rattle.assoc_core.specs.Access.{sender}
use Rattle.assoc_core.specs.Association.{after_step}
use Rattle.assoc_core.specs.Bind.{bind_answer}
use Rattle.assoc_core.specs.Kind as kind
use Rattle.assoc_core.specs.State.{moved}
use Rattle.cltu_queue.specs.declared.ask.Ask.{Ask}
use Rattle.cltu_queue.specs.declared.ask.Ask.TheVariants as ask
use Rattle.cltu_queue.specs.declared.book_reply.BookReply.{BookReply}
use Rattle.cltu_queue.specs.declared.book_reply.BookReply.TheVariants.{Bound, Lost}
use Rattle.session_core.specs.declared.course.Course.TheVariants.{Closing, Over}
use Rattle.session_core.specs.declared.ended.Ended.{Ended}
use Rattle.session_core.specs.declared.ended.Ended.TheVariants as ended
use Rattle.session_core.specs.declared.standing.Standing.{Standing}
use Rattle.session_services.specs.Inquiry.{Inquiry, only_asks, Replied}
use Rattle.session_core.specs.Message.{UserContent, context, bind, unbind, peer_abort, invocation}
use Rattle.session_core.specs.Message.{kind_of}
use Rattle.session_services.specs.Served.{Served, unserved, prepared}
use Rattle.session_core.specs.ServiceSteps.{service_bound, with_invocation}
use Rattle.session_services.specs.Returns.{own_credentials, number_after}
use Rattle.session_core.specs.Returns.{bind_return_message, unbind_return_message, with_return}

-- ---- ends

-- at an end nothing more is offered, and what the service kept is gone
abbrev pub ended_by : Standing → Ended → Standing
ended_by s end =
    record s { course = Over end; block = []; service = unserved; outgoing = [] }

abbrev pub aborted : Standing → PeerAbortDiagnostic → Standing
aborted s diagnostic = ended_by s (ended.Aborted diagnostic)

-- ---- what is asked

-- the place of the instance that a BIND asks for, or why it is refused
abbrev pub bind_judged : Site → BindContent → Result ℕ BindDiagnostic
bind_judged site b =
    bind_answer site
    (record {
      peer = place_of b.initiator site.peers;
      service = b.service;
      version = b.version;
      id = b.instance;
    })

abbrev pub bind_ask : Result ℕ BindDiagnostic → Ask
bind_ask (Ok place) = ask.Bind place
bind_ask (Err fault) = ask.Nothing

-- A BIND that is refused asks nothing, and no more does a message that doesn't pass.
abbrev pub passed_ask : Site → Served → UserContent → Inquiry
passed_ask site served (bind b) = only_asks (bind_ask (bind_judged site b))
passed_ask site served (unbind u) = only_asks ask.Unbind
passed_ask site served (invocation i) = prepared served i
passed_ask site served _ = only_asks ask.Nothing

abbrev pub said_ask : Site → Served → UserContent → Step → Inquiry
said_ask site served said Pass = passed_ask site served said
said_ask site served said _ = only_asks ask.Nothing

-- ---- a context

-- the interval is 0 or in the site's range, and the dead factor in its own
abbrev pub is_from : ℕ → ℕ → ℕ → Bool
is_from least greatest n = nat_le least n && nat_le n greatest

abbrev pub is_agreed : Site → ℕ → ℕ → Bool
is_agreed site interval factor =
    (interval == 0 || is_from site.interval_from site.interval_to interval)
    && is_from site.factor_from site.factor_to factor

abbrev pub with_context : Site → Standing → ℕ → ℕ → Standing
with_context site s interval factor =
    if is_agreed site interval factor
    then record s {
      association = moved s.association outcome.Context;
      interval = interval;
      factor = factor;
    }
    else ended_by s (ended.Range interval factor)

-- ---- a BIND

-- the version, where the book says that the instance is bound
abbrev pub bind_result : BindContent → Result ℕ BindDiagnostic → BookReply
    → Result ℕ BindDiagnostic
bind_result b (Err fault) reply = Err fault
bind_result b (Ok place) Bound = Ok b.version
bind_result b (Ok place) _ = Err refused.AlreadyBound

-- whether the instance at a place of the site is one of a forward service
abbrev pub is_forward_at : Site → ℕ → Bool
is_forward_at site place =
    option_map_or (λ instance. is_forward instance.service) (slice_get site.instances place) false

-- what a BIND of a peer at this place led to
abbrev pub bind_outcome : Site → Option ℕ → Result ℕ BindDiagnostic → BookReply → Outcome
bind_outcome site peer (Ok place) Bound =
    outcome.Bound (unwrap_or peer 0) (is_forward_at site place)
bind_outcome site peer _ _ = outcome.Kept

-- the place of the instance that a BIND bound
abbrev pub place_bound : Result ℕ BindDiagnostic → BookReply → Option ℕ
place_bound (Ok place) Bound = Some place
place_bound _ _ = None

-- the return of a BIND that passed is the round's block
abbrev pub with_bind : Site → Standing → BindContent → BookReply → Standing
with_bind site s b reply =
    let peer : Option Peer = sender site.peers s.association kind.bind b.initiator in
    let judged = bind_judged site b in
    record s {
      association =
          moved s.association
          (bind_outcome site (place_of b.initiator site.peers) judged reply);
      bound = place_bound judged reply;
      service = service_bound site judged reply;
      numbers = number_after peer kind.bind s.numbers;
      block =
          bind_return_message site (own_credentials site peer kind.bind s.numbers s.moment)
          (bind_result b judged reply);
    }

-- a BIND with failing credentials is answered without any, and the session ends once that was taken
abbrev pub with_denial : Site → Standing → Standing
with_denial site s =
    record s {
      course = Closing ended.Denied;
      block = bind_return_message site None (Err refused.AccessDenied);
    }

-- ---- an UNBIND

-- the session ends once the return was taken; what the service kept is gone
abbrev pub with_unbind : Site → Standing → Standing
with_unbind site s =
    record (with_return site s kind.unbind unbind_return_message) {
      association = moved s.association outcome.Unbound;
      course = Closing ended.Unbound;
      service = unserved;
      outgoing = [];
    }

-- ---- what a message leads to

abbrev pub after_passing : Site → Standing → UserContent → Replied → Standing
after_passing site s (context interval factor) r = with_context site s interval factor
after_passing site s (bind b) r = with_bind site s b r.reply
after_passing site s (unbind u) r = with_unbind site s
after_passing site s (peer_abort diagnostic) r = ended_by s (ended.PeerAborted diagnostic)
after_passing site s (invocation i) r = with_invocation site s i r
after_passing site s _ r = s

abbrev pub concluded : Site → Standing → UserContent → Step → Replied → Standing
concluded site s said Pass r = after_passing site s said r
concluded site s said Denied r = with_denial site s
concluded site s said (Abort diagnostic) r = aborted s diagnostic

abbrev pub is_lost : BookReply → Bool
is_lost Lost = true
is_lost _ = false

-- the association once a message was judged
abbrev pub invoked : Standing → UserContent → Step → Standing
invoked s said step =
    record s { association = after_step s.association (kind_of said) step }

-- a message that was judged so leads to this, where the book replied so
abbrev pub after_judged : Site → Standing → UserContent → Step → Replied → Standing
after_judged site s said step r =
    if is_lost r.reply then aborted s why.OtherReason else concluded site s said step r

abbrev pub after_message : Site → Standing → UserContent → Step → Replied → Standing
after_message site s said step r = after_judged site (invoked s said step) said step r
