-- A START that is answered positively begins a delivery.
use Rattle.std.proofs.Common.{◌≡◌, ℕ, ◌≤◌, Bool, true, false, not, ◌==◌, if◌then◌else◌}
use Rattle.std.proofs.Common.{Option, Some, None, Ok, Err, Result, List, [], ◌∷◌, length, refl, sym}
use Rattle.std.proofs.Common.{ap, subst, ◌&&◌}
use Rattle.std.proofs.Common.{◌∙◌, arith}
use Rattle.std.specs.Prelude.{is_some}
use Rattle.std.specs.Option.{option_map}
use Rattle.octet_core.specs.declared.offer.Offer.{Offer}
use Rattle.sle_numbers.specs.declared.bind_diagnostic.BindDiagnostic.{BindDiagnostic}
use Rattle.sle_numbers.specs.declared.return_start_diagnostic.ReturnStartDiagnostic.{ReturnStartDiagnostic}
use Rattle.sle_numbers.specs.declared.peer_abort_diagnostic.PeerAbortDiagnostic.TheVariants.{OtherReason}
use Rattle.archive_terms.specs.Delivery.{Mode, timely, complete, offline, Terms, first_position}
use Rattle.archive_terms.specs.Delivery.{selection_of}
use Rattle.return_core.specs.Course.{Course, run_of}
use Rattle.return_pdu.specs.declared.return_answer.ReturnAnswer.TheVariants as reply
use Rattle.return_pdu.specs.declared.return_kind.ReturnKind.{ReturnKind}
use Rattle.return_service.specs.Answer.{confirmed}
use Rattle.sle_numbers.specs.ReturnStartDiagnostic.{number_of as start_number}
use Rattle.return_service.specs.Span.{span_of, moments, moments_unless, refusal as times_refused}
use Rattle.return_service.specs.declared.span.Span.{Span}
use Rattle.return_service.specs.Serving.{Serving}
use Rattle.return_service.specs.Requested.{may_ask}
use Rattle.return_service.specs.Instance.{with_start as begun, moments_at, where_permitted}
use Rattle.return_service.specs.Instance.{terms_of_start}
use Rattle.sle_common.specs.declared.gvcid.Gvcid.{Gvcid}
use Rattle.frame_select.specs.Selection.{filter_of}
use Rattle.cds_time.specs.declared.cds.Cds.{Cds}
use Rattle.archive_terms.specs.Glimpse.{Glimpse}
use Rattle.isp1_tml.specs.Message.{Content}
use Rattle.station_config.specs.declared.site.Site.{Site}
use Rattle.station_config.specs.Drafts.{place_of}
use Rattle.assoc_core.specs.State.{moved}
use Rattle.assoc_core.specs.declared.outcome.Outcome.{Outcome}
use Rattle.assoc_core.specs.declared.outcome.Outcome.TheVariants as outcome
use Rattle.assoc_core.specs.declared.state.State.{State as Association}
use Rattle.assoc_core.specs.declared.step.Step.{Step}
use Rattle.assoc_core.specs.declared.step.Step.TheVariants.{Pass, Denied, Abort}
use Rattle.cltu_queue.specs.declared.book_reply.BookReply.{BookReply}
use Rattle.session_core.specs.declared.ended.Ended.TheVariants.{PeerClosed, Range}
use Rattle.session_services.specs.declared.service_state.ServiceState.TheVariants as serves
use Rattle.session_core.specs.declared.standing.Standing.{Standing}
use Rattle.session_core.specs.Course.{has_closed}
use Rattle.session_services.specs.Inquiry.{Replied, reply_in}
use Rattle.session_core.specs.Message.{UserContent, context, heartbeat, bind, unbind, peer_abort}
use Rattle.session_core.specs.Message.{invocation, undecoded, out_of_place, judged}
use Rattle.session_services.specs.Service.{Invocation, return_starts, cltu_starts, transfers}
use Rattle.session_services.specs.Service.{throws, stops, schedules, gets}
use Rattle.session_services.specs.Service.{undecoded as no_invocation}
use Rattle.session_services.specs.Service.{invocation_kind}
use Rattle.session_services.specs.Starting.{Starting}
use Rattle.session_services.specs.ReturnServed.{outcome_of}
use Rattle.session_services.specs.Served.{Served, concluded_by}
use Rattle.session_core.specs.ServiceSteps.{answered_with, is_active, has_outgoing, with_service, led_to}
use Rattle.session_core.specs.ServiceSteps.{permitted}
use Rattle.session_core.specs.Handling.{bind_judged, bind_outcome, is_lost, invoked, concluded}
use Rattle.session_core.specs.Handling.{after_passing, aborted, ended_by, is_agreed}
use Rattle.session_core.specs.Steps.{Next, at_moment, is_idle, with_next, acted, timed, unasked}
use Rattle.session_core.specs.Steps.{said_to, after_step, may_send, handles, has_message}
use Rattle.session_core.specs.Laws.{messages_by}
use Rattle.session_core.specs.Session.{State, BookAnswer, next_of, stepped, standing_spoke}
use Rattle.session_core.specs.Session.{standing_sent, spoken_state, before_step}
use Rattle.session_core.specs.Laws.{ServiceLeaves}
use Rattle.session_laws.specs.Deliveries.{return_of, is_serving}
use Rattle.session_laws.specs.Starts.{Wanted, wanted_by, wanted_in, selected, StartsBegin}
use Rattle.session_laws.specs.Starts.{BegunStands}
use Rattle.session_laws.proofs.Deliveries.{kept_so, kept_of, its_course, its_kind}
use Rattle.session_laws.proofs.Deliveries.{DeliversAs, so_delivers}
use Rattle.session_laws.proofs.Deliveries.{serving_active, not_serving, invoked_same}
use Rattle.session_laws.proofs.Deliveries.{answered_association, answered_outgoing, unasked_tells}
use Rattle.session_laws.proofs.Deliveries.{untimed, both_serving, same_listened, same_spoke}
use Rattle.session_laws.proofs.Deliveries.{same_serving, sent_serving, ended_serving, going_back}
use Rattle.session_laws.proofs.Deliveries.{going_asks, sends_some, ended_delivers}

-- ---- what a service makes of a START

record Started (service : ReturnKind) (c : Course) (i : Invocation) (front : ℕ)
    (served : Served) : Type 0 where
  terms : Terms
  wanted : Wanted
  says : wanted_by i ≡ Some wanted
  selects : terms.selection ≡ selected terms.mode wanted front
  mode : terms.mode ≡ c.mode
  size : terms.size ≡ c.size
  latency : terms.latency ≡ c.latency
  first : terms.selection.first ≤ front
  delivery : kept_of served ≡ Some (service, record c { run = Some (run_of terms) })

first_seen : (mode : Mode) (start : Option ℕ) (front : ℕ) → first_position mode start front ≤ front
first_seen timely start front = omega arith
first_seen complete None front = omega arith
first_seen complete (Some start) front = omega arith
first_seen offline None front = omega arith
first_seen offline (Some start) front = omega arith

-- the moments of a START that isn't refused are those of its times
unless_is : (start stop : Option Cds) (o : Option ReturnStartDiagnostic) (span : Span)
    → moments_unless start stop o ≡ Ok span → span ≡ span_of start stop
unless_is start stop None span e = cc
unless_is start stop (Some why) span e = absurd (cc)

moments_are : (mode : Mode) (production : ℕ) (start stop : Option Cds) (span : Span)
    → moments mode production start stop ≡ Ok span → span ≡ span_of start stop
moments_are mode production start stop span e =
    unless_is start stop (times_refused mode production start stop) span e

permitted_are : (is : Bool) (j : Result Span ReturnStartDiagnostic) (span : Span)
    → where_permitted is j ≡ Ok span → j ≡ Ok span
permitted_are true (Ok own) span e = e
permitted_are false (Ok own) span e = absurd (cc)
permitted_are is (Err why) span e = absurd (cc)

-- an instance whose delivery began with a START of this span, from what it was
starts_it : (service : ReturnKind) (channels : List Gvcid) (own : Serving) (c : Course)
    (s : Starting) (g : Glimpse) (j : Result Span ReturnStartDiagnostic)
    → kept_of (serves.Return own) ≡ Some (service, c) → moments_at channels s.asks g own ≡ j
    → outcome_of (reply.Start (confirmed start_number j)) ≡ outcome.Started
    → Started service c (return_starts s) g.front (serves.Return (begun s.asks g.front j own))
unfolding return_of
starts_it service channels own c s g (Ok span) e times is =
    subst (λ (x : Course). Started service x (return_starts s) g.front
    (serves.Return (begun s.asks g.front (Ok span) own)))
    (its_course service own c e) (record {
      terms = terms_of_start s.asks span g.front own;
      wanted = record {
        filter = filter_of s.asks.filter;
        start = s.asks.start;
        stop = s.asks.stop;
      };
      says = refl;
      selects =
          ap (λ (x : Span). selection_of own.course.mode (filter_of s.asks.filter) x.start x.stop
          g.front)
          (moments_are own.course.mode g.production s.asks.start s.asks.stop span
          (permitted_are (may_ask channels s.asks.filter)
          (moments own.course.mode g.production s.asks.start s.asks.stop) span times));
      mode = refl;
      size = refl;
      latency = refl;
      first = first_seen own.course.mode span.start g.front;
      delivery = ap (λ (k : ReturnKind). Some (
        k,
        record own.course {
          run = Some (run_of (terms_of_start s.asks span g.front own));
        },
      )) (its_kind service own c e);
    })
starts_it service channels own c s g (Err why) e times is = absurd (cc)

starts : (service : ReturnKind) (served : Served) (c : Course) (channels : List Gvcid)
    (i : Invocation) (r : Replied)
    (now : ℕ) → kept_of served ≡ Some (service, c)
    → (concluded_by served channels i r now).outcome ≡ outcome.Started
    → Started service c i r.glimpse.front (concluded_by served channels i r now).served
unfolding return_of concluded_by
starts service (serves.Return s) c channels (return_starts i) r now e is =
    starts_it service channels s c i r.glimpse (moments_at channels i.asks r.glimpse s) e refl is
starts service (serves.Return s) c channels (cltu_starts i) r now e is = absurd (cc)
starts service (serves.Return s) c channels (transfers i) r now e is = absurd (cc)
starts service (serves.Return s) c channels (throws i) r now e is = absurd (cc)
starts service (serves.Return s) c channels (stops i) r now e is = absurd (cc)
starts service (serves.Return s) c channels (schedules i) r now e is = absurd (cc)
starts service (serves.Return s) c channels (gets i) r now e is = absurd (cc)
starts service (serves.Return s) c channels no_invocation r now e is = absurd (cc)
starts service _ c channels i r now e is = absurd (cc)

-- ---- a message that starts the service

moves_started : (a : Association) (o : Outcome) → is_active a ≡ false
    → is_active (moved a o) ≡ true → o ≡ outcome.Started
moves_started a o e f = grind arith

bind_starts_none : (site : Site) (peer : Option ℕ) (j : Result ℕ BindDiagnostic)
    (reply : BookReply) → bind_outcome site peer j reply ≡ outcome.Started → ⊥
bind_starts_none site peer j reply e = grind arith

-- a session that serves behind a message, and didn't before it, was started by it
record Begun (service : ReturnKind) (c : Course) (said : UserContent) (front : ℕ)
    (v : Standing) : Type 0 where
  start : Invocation
  so : said ≡ invocation start
  started : Started service c start front v.service
  outgoing : v.outgoing ≡ []

-- so it was by what came next
record NextBegun (service : ReturnKind) (site : Site) (u : Standing) (c : Course) (next : Next)
    (front : ℕ) (v : Standing) : Type 0 where
  message : Content
  is : next ≡ Ok (Some message)
  begun : Begun service c (said_to site u message) front v

-- in a round that isn't idle
record ActedBegun (service : ReturnKind) (site : Site) (u : Standing) (c : Course)
    (next : Next) (front : ℕ) (v : Standing) : Type 0 where
  busy : is_idle u ≡ false
  begins : NextBegun service site u c next front v

pub if_none : (b : Bool) (xs : List ℕ) → xs ≡ [] → (if b then xs else []) ≡ []
if_none true xs e = e
if_none false xs e = refl

module _ (service : ReturnKind) (site : Site) (u : Standing) (c : Course)
    (still : is_active u.association ≡ false)
    (none : u.outgoing ≡ []) (delivery : kept_of u.service ≡ Some (service, c)) where
  -- what leaves the association
  same_not : (v : Standing) → v.association ≡ u.association → is_serving v ≡ true → ⊥
  same_not v same serving =
      absurd (cc (sym still, sym (ap is_active same), serving_active v serving))

  context_not : (interval factor : ℕ) (r : Replied)
      → is_serving
      (after_passing site (invoked u (context interval factor) Pass) (context interval factor) r)
      ≡ true → ⊥
  context_not interval factor r serving = by (is_agreed site interval factor) serving
    where
      by : (b : Bool)
          → is_serving
          (if b then record (invoked u (context interval factor) Pass) {
            association = moved u.association outcome.Context;
            interval = interval;
            factor = factor;
          }
          else ended_by (invoked u (context interval factor) Pass) (Range interval factor)) ≡ true
          → ⊥
      by true e =
          let v : Standing =
          record (invoked u (context interval factor) Pass) {
            association = moved u.association outcome.Context;
            interval = interval;
            factor = factor;
          } in
          let is : outcome.Context ≡ outcome.Started =
          moves_started u.association outcome.Context still (serving_active v e) in
          absurd (cc is)
      by false e =
          not_serving
          (ended_by (invoked u (context interval factor) Pass) (Range interval factor)) refl e

  passing_begins : (said : UserContent) (r : Replied)
      → is_serving (after_passing site (invoked u said Pass) said r) ≡ true
      → Begun service c said r.glimpse.front (after_passing site (invoked u said Pass) said r)
  passing_begins (context interval factor) r serving =
      absurd (context_not interval factor r serving)
  passing_begins heartbeat r serving =
      absurd (same_not (after_passing site (invoked u heartbeat Pass) heartbeat r) refl serving)
  passing_begins (bind b) r serving =
      absurd
      (bind_starts_none site (place_of b.initiator site.peers) (bind_judged site b) r.reply
      (moves_started u.association
      (bind_outcome site (place_of b.initiator site.peers) (bind_judged site b) r.reply) still
      (serving_active (after_passing site (invoked u (bind b) Pass) (bind b) r) serving)))
  passing_begins (unbind x) r serving =
      absurd (not_serving (after_passing site (invoked u (unbind x) Pass) (unbind x) r) refl serving)
  passing_begins (peer_abort diagnostic) r serving =
      absurd
      (not_serving
      (after_passing site (invoked u (peer_abort diagnostic) Pass) (peer_abort diagnostic) r) refl
      serving)
  passing_begins (invocation i) r serving =
      let t = invoked u (invocation i) Pass in
      let k = invocation_kind i in
      let channels = permitted site u in
      let done = concluded_by u.service channels i r u.moment in
      let v = answered_with site t k done.answer in
      let same = answered_association site t k done.answer ∙ invoked_same u.association i in
      let o : done.outcome ≡ outcome.Started =
      moves_started v.association done.outcome (ap is_active same ∙ still)
      (serving_active (record (led_to done.outcome v) { service = done.served }) serving) in
      record {
        start = i;
        so = refl;
        started = starts service u.service c channels i r u.moment delivery o;
        outgoing =
            if_none (is_active (moved v.association done.outcome)) v.outgoing
            (answered_outgoing site t k done.answer ∙ none);
      }
  passing_begins undecoded r serving =
      absurd (same_not (after_passing site (invoked u undecoded Pass) undecoded r) refl serving)
  passing_begins out_of_place r serving =
      absurd (same_not (after_passing site (invoked u out_of_place Pass) out_of_place r) refl serving)

  judged_begins : (said : UserContent) (st : Step) (r : Replied) (lost : Bool)
      → is_serving
      (if lost then aborted (invoked u said st) OtherReason
      else concluded site (invoked u said st) said st r)
      ≡ true
      → Begun service c said r.glimpse.front
      (if lost then aborted (invoked u said st) OtherReason
      else concluded site (invoked u said st) said st r)
  judged_begins said st r true serving =
      absurd (not_serving (aborted (invoked u said st) OtherReason) refl serving)
  judged_begins said Pass r false serving = passing_begins said r serving
  judged_begins said Denied r false serving =
      absurd (not_serving (concluded site (invoked u said Denied) said Denied r) refl serving)
  judged_begins said (Abort d) r false serving =
      absurd (not_serving (concluded site (invoked u said (Abort d)) said (Abort d) r) refl serving)

  next_begins : (next : Next) (r : Replied) → is_serving (with_next site u next r) ≡ true
      → NextBegun service site u c next r.glimpse.front (with_next site u next r)
  next_begins (Err fault) r serving =
      absurd (not_serving (with_next site u (Err fault) r) refl serving)
  next_begins (Ok None) r serving = absurd (by (has_closed u.arrival) serving)
    where
      by : (closed : Bool) → is_serving (if closed then ended_by u PeerClosed else u) ≡ true → ⊥
      by true e = not_serving (ended_by u PeerClosed) refl e
      by false e = same_not u refl e
  next_begins (Ok (Some message)) r serving =
      let said = said_to site u message in
      record {
        message = message;
        is = refl;
        begun =
            judged_begins said (judged site u.association said u.moment) r (is_lost r.reply)
            serving;
      }

  acted_begins : (next : Next) (r : Replied) → is_serving (acted site u next r) ≡ true
      → ActedBegun service site u c next r.glimpse.front (acted site u next r)
  acted_begins next r serving = by (is_idle u) refl serving
    where
      by : (idle : Bool) → is_idle u ≡ idle
          → is_serving (if idle then u else with_next site u next r) ≡ true
          → ActedBegun service site u c next r.glimpse.front
          (if idle then u else with_next site u next r)
      by true is e = absurd (same_not u refl e)
      by false is e = record { busy = is; begins = next_begins next r e }

-- ---- its round

-- the message that a round handles
handled_one : (idle : Bool) (next : Next) (message : Content) → idle ≡ false
    → next ≡ Ok (Some message)
    → messages_by (not idle && has_message next) next ≡ message ∷ []
handled_one idle next message e is =
    ap (λ (b : Bool). messages_by (not b && has_message next) next) e
    ∙ ap (λ (n : Next). messages_by (has_message n) n) is

record StepBegins (service : ReturnKind) (site : Site) (s : Standing) (next : Next)
    (c : Course) (front : ℕ) (t : Standing) : Type 0 where
  message : Content
  handled : messages_by (handles s next) next ≡ message ∷ []
  start : Invocation
  so : said_to site s message ≡ invocation start
  started : Started service c start front t.service
  outgoing : t.outgoing ≡ []

started_on : (service : ReturnKind) (c : Course) (i : Invocation) (front : ℕ)
    (served later : Served) (h : Started service c i front served)
    → kept_of later ≡ Some (service, record c { run = Some (run_of h.terms) })
    → Started service c i front later
started_on service c i front served later h is = record {
  terms = h.terms;
  wanted = h.wanted;
  says = h.says;
  selects = h.selects;
  mode = h.mode;
  size = h.size;
  latency = h.latency;
  first = h.first;
  delivery = is;
}

step_begins : (service : ReturnKind) → ServiceLeaves → (site : Site) (s : Standing)
    (next : Next) (now : ℕ) (r : Replied)
    (c : Course) → is_active s.association ≡ false → s.outgoing ≡ []
    → kept_of s.service ≡ Some (service, c) → is_serving (after_step site s next now r) ≡ true
    → StepBegins service site s next c r.glimpse.front (after_step site s next now r)
step_begins service leaves site s next now r c still none delivery serving =
    let u = at_moment s now in
    let v = acted site u next r in
    let w = timed v in
    let x = unasked site r w in
    let was = is_active s.association in
    let same = leaves site was r.glimpse r w in
    let serving_w = both_serving w (after_step site s next now r) same.course same.association serving in
    let alive = untimed v serving_w in
    let serving_v = subst (λ (y : Standing). is_serving y ≡ true) alive.0 serving_w in
    let all = acted_begins service site u c still none delivery next r serving_v in
    let begun = all.begins.begun in
    let h = begun.started in
    let tells =
    unasked_tells service site r w (record c { run = Some (run_of h.terms) })
    (ap (λ (y : Standing). kept_of y.service) alive.0 ∙ h.delivery) in
    let last : after_step site s next now r ≡ x =
    ap (λ (b : Bool). with_service site b r.glimpse x) still in
    subst (StepBegins service site s next c r.glimpse.front) (sym last) (record {
      message = all.begins.message;
      handled = handled_one (is_idle u) next all.begins.message all.busy all.begins.is;
      start = begun.start;
      so = begun.so;
      started =
          started_on service c begun.start r.glimpse.front v.service x.service h tells.delivery;
      outgoing =
          tells.outgoing ∙ ap (λ (y : Standing). y.outgoing) alive.0 ∙ begun.outgoing;
    })

pub no_message : (s : Standing) → s.outgoing ≡ [] → has_outgoing s ≡ true → ⊥
no_message s e has =
    let no : has_outgoing s ≡ false = ap (λ (x : List ℕ). not (length x == 0)) e in
    absurd (cc (no, has))

empty_delivers : (service : ReturnKind) (s : Standing) (c : Course) → s.outgoing ≡ []
    → kept_of s.service ≡ Some (service, c)
    → DeliversAs service s c
empty_delivers service s c e d = record {
  delivery = d;
  offers = λ has. absurd (no_message s e has);
  message = λ has. absurd (no_message s e has);
}

unsent_delivers : (service : ReturnKind) (s : Standing) (c : Course) (sent : Option Offer)
    → s.outgoing ≡ []
    → DeliversAs service s c → (is_some sent ≡ true → has_outgoing s ≡ true)
    → DeliversAs service (standing_sent s sent) c
unsent_delivers service s c None e d has =
    record { delivery = d.delivery; offers = d.offers; message = d.message }
unsent_delivers service s c (Some said) e d has = absurd (no_message s e (has refl))

record PartBegins (service : ReturnKind) (site : Site) (t : State) (asked_so : Option BookAnswer)
    (spoke sent : Option Offer) (c : Course) : Type 0 where
  told : BookAnswer
  asked : asked_so ≡ Some told
  terms : Terms
  mode : terms.mode ≡ c.mode
  size : terms.size ≡ c.size
  latency : terms.latency ≡ c.latency
  first : terms.selection.first ≤ told.answer.glimpse.front
  message : Content
  handled : messages_by (handles t.standing (next_of t)) (next_of t) ≡ message ∷ []
  wanted : Wanted
  says : wanted_in (said_to site t.standing message) ≡ Some wanted
  selects : terms.selection ≡ selected terms.mode wanted told.answer.glimpse.front
  delivers : DeliversAs service (spoken_state (stepped site t asked_so) spoke sent).standing
      (record c { run = Some (run_of terms) })

told_begins : (service : ReturnKind) → ServiceLeaves → (site : Site) (t : State)
    (told : Option BookAnswer)
    (spoke sent : Option Offer) (c : Course) → is_some told ≡ true
    → is_active t.standing.association ≡ false → t.standing.outgoing ≡ []
    → kept_of t.standing.service ≡ Some (service, c)
    → is_some sent ≡ may_send (standing_spoke (stepped site t told).standing spoke)
    → is_serving (spoken_state (stepped site t told) spoke sent).standing ≡ true
    → PartBegins service site t told spoke sent c
told_begins service leaves site t None spoke sent c some still none delivery sends serving =
    absurd (cc)
told_begins service leaves site t (Some told) spoke sent c some still none delivery sends serving =
    let y = (stepped site t (Some told)).standing in
    let z = standing_spoke y spoke in
    let serving_z = sent_serving z sent (ended_serving (standing_sent z sent) serving) in
    let serving_y = same_serving y z (same_spoke y spoke) serving_z in
    let begun =
    step_begins service leaves site t.standing (next_of t) told.moment (reply_in told.answer) c still none
    delivery serving_y in
    let h = begun.started in
    let k : Course = record c { run = Some (run_of h.terms) } in
    let out : z.outgoing ≡ [] = (same_spoke y spoke).outgoing ∙ begun.outgoing in
    record {
      told = told;
      asked = refl;
      terms = h.terms;
      mode = h.mode;
      size = h.size;
      latency = h.latency;
      first = h.first;
      message = begun.message;
      handled = begun.handled;
      wanted = h.wanted;
      says = ap wanted_in begun.so ∙ h.says;
      selects = h.selects;
      delivers =
          ended_delivers service (standing_sent z sent) k
          (unsent_delivers service z k sent out
          (empty_delivers service z k out
          (ap kept_of (same_spoke y spoke).service ∙ h.delivery))
          (λ some. sends_some z (sym sends ∙ some)));
    }

pub starts_begin : ServiceLeaves → StartsBegin
starts_begin leaves site s r own is still none kept serving =
    let t = before_step s r in
    let service = own.kind in
    let c = own.course in
    let same = same_listened s r.waited r.heard in
    let going = going_back service leaves [] site t r serving in
    let delivery : kept_of s.standing.service ≡ Some (service, c) = ap (option_map kept_so) kept in
    let all =
    told_begins service leaves site t r.told r.spoke r.sent c
    (going_asks t.standing.course r.told is.asks going) (ap is_active same.association ∙ still)
    (same.outgoing ∙ none) (ap kept_of same.service ∙ delivery) is.speaks.sends serving in
    record {
      told = all.told;
      asked = all.asked;
      terms = all.terms;
      mode = all.mode;
      size = all.size;
      latency = all.latency;
      first = all.first;
      asks = record {
        message = all.message;
        handled = all.handled;
        wanted = all.wanted;
        says = all.says;
        selects = all.selects;
      };
      delivers =
          so_delivers service
          (spoken_state (stepped site t r.told) r.spoke r.sent).standing
          (record c { run = Some (run_of all.terms) }) all.delivers;
      kind = refl;
    }

pub begun_stands : BegunStands
begun_stands c t entries run some archive first =
    record { some = some; archive = archive; first = first; rise = tt; going = refl; run = run }
