-- What a session keeps of its instance, step by step of a round.
use Rattle.std.proofs.Common.{◌≡◌, ℕ, Bool, true, false, not, ◌&&◌, if◌then◌else◌, Option, Some}
use Rattle.std.proofs.Common.{None, Ok, Err, Result, List, [], ◌∷◌, slice_get, refl, sym, ap, ◌∙◌}
use Rattle.std.proofs.Common.{arith}
use Rattle.std.specs.Prelude.{is_some, option_and_then}
use Rattle.std.specs.Option.{option_map, option_map_or}
use Rattle.octet_core.specs.declared.offer.Offer.{Offer}
use Rattle.octet_core.specs.declared.offer.Offer.TheVariants.{Whole, Stalled, Failed as Refused}
use Rattle.archive_terms.specs.Glimpse.{Glimpse}
use Rattle.isp1_tml.specs.Message.{spelling, heartbeat as beat}
use Rattle.link_model.specs.declared.call.Heard.{Heard}
use Rattle.link_model.specs.declared.call.Heard.TheVariants.{Arrived, Nothing as HeardNothing}
use Rattle.link_model.specs.declared.call.Heard.TheVariants.{Closed, Failed}
use Rattle.sle_common.specs.declared.gvcid.Gvcid.{Gvcid}
use Rattle.sle_numbers.specs.declared.bind_diagnostic.BindDiagnostic.{BindDiagnostic}
use Rattle.sle_numbers.specs.declared.peer_abort_diagnostic.PeerAbortDiagnostic.TheVariants as why
use Rattle.sle_numbers.specs.declared.return_start_diagnostic.ReturnStartDiagnostic.{ReturnStartDiagnostic}
use Rattle.return_service.specs.declared.span.Span.{Span}
use Rattle.return_service.specs.declared.invocation.ReturnStart.{ReturnStart}
use Rattle.return_service.specs.declared.invocation.ReturnInvocation.{ReturnInvocation}
use Rattle.return_service.specs.declared.invocation.ReturnInvocation.TheVariants as asked
use Rattle.return_service.specs.Serving.{Serving}
use Rattle.return_service.specs.Instance.{concluded as return_concluded, with_start as begun}
use Rattle.return_service.specs.Instance.{moments_at}
use Rattle.station_config.specs.declared.instance.Instance.{Instance}
use Rattle.station_config.specs.declared.service.Service.{Service}
use Rattle.station_config.specs.declared.service.Service.TheVariants as service_of_site
use Rattle.station_config.specs.declared.site.Site.{Site}
use Rattle.assoc_core.specs.Kind as kind
use Rattle.assoc_core.specs.Kind.{Kind}
use Rattle.assoc_core.specs.Access.{is_admitted}
use Rattle.assoc_core.specs.Association.{is_decoded, refusal}
use Rattle.assoc_core.specs.State.{moved}
use Rattle.assoc_core.specs.Table.{follows, active}
use Rattle.assoc_core.specs.declared.outcome.Outcome.TheVariants as outcome
use Rattle.assoc_core.specs.declared.state.Binding.{Binding}
use Rattle.assoc_core.specs.declared.state.State.{State as Association}
use Rattle.assoc_core.specs.declared.state.State.TheVariants as state
use Rattle.assoc_core.specs.declared.step.Step.{Step}
use Rattle.assoc_core.specs.declared.step.Step.TheVariants.{Pass, Denied, Abort}
use Rattle.cltu_queue.specs.declared.book_reply.BookReply.{BookReply}
use Rattle.cltu_queue.specs.declared.book_reply.BookReply.TheVariants.{Bound}
use Rattle.cltu_queue.specs.declared.notice.Notice.{Notice}
use Rattle.session_core.specs.declared.ended.Ended.TheVariants.{PeerClosed, Range}
use Rattle.session_services.specs.declared.service_state.ServiceState.TheVariants as serves
use Rattle.session_core.specs.declared.standing.Standing.{Standing}
use Rattle.session_core.specs.Course.{is_going, is_live, is_blocked, has_closed}
use Rattle.session_core.specs.Handling.{aborted, after_passing, bind_judged, concluded, ended_by}
use Rattle.session_core.specs.Handling.{invoked, is_agreed, is_lost, place_bound}
use Rattle.session_services.specs.Inquiry.{Replied, reply_in}
use Rattle.session_core.specs.Lists.{start_of}
use Rattle.session_core.specs.Message.{UserContent, context, heartbeat, bind, unbind, peer_abort}
use Rattle.session_core.specs.Message.{invocation, undecoded, out_of_place, judged, kind_of}
use Rattle.session_core.specs.Message.{message_of}
use Rattle.session_services.specs.ReturnServed.{return_asked}
use Rattle.session_services.specs.Service.{Invocation, invocation_kind}
use Rattle.session_services.specs.Served.{Served, Message, Fixed, concluded_by, dropped_by, fixed_by}
use Rattle.session_services.specs.Served.{reported_by, served_at, served_settled, served_step}
use Rattle.session_services.specs.Served.{told_by_service, unserved}
use Rattle.session_core.specs.ServiceSteps.{after_stall, answered_with, fixed, has_outgoing}
use Rattle.session_core.specs.ServiceSteps.{is_active, may_serve, may_tell, noticed}
use Rattle.session_core.specs.ServiceSteps.{permitted, reported, service_bound, settled, stepped_by}
use Rattle.session_core.specs.ServiceSteps.{told_more, with_fixed, with_notice, with_report}
use Rattle.session_core.specs.ServiceSteps.{with_service}
use Rattle.session_core.specs.Returns.{bound_peer}
use Rattle.session_core.specs.Session.{State, Round, BookAnswer, after_round, after_rounds}
use Rattle.session_core.specs.Session.{before_step, listened, next_of, standing_heard}
use Rattle.session_core.specs.Session.{standing_sent, standing_spoke, standing_waited, stepped}
use Rattle.session_core.specs.Steps.{Next, acted, after_step, at_moment, has_block, is_dead, is_due}
use Rattle.session_core.specs.Steps.{is_idle, pulse_of, round_begun, said_to, timed}
use Rattle.session_core.specs.Steps.{unasked, with_heartbeat, with_next}
use Rattle.session_laws.specs.Deliveries.{return_of}
use Rattle.session_laws.specs.Instances.{Shape, shape_of, shape_in, shape_by, IsKept}
use Rattle.session_laws.specs.Instances.{SessionsAreKept}
use Rattle.session_laws.proofs.Deliveries.{report_kind, report_leaves, active_is, context_not, bind_not}

-- ---- the shape of what a service keeps stays

steps_shape : (g : Glimpse) (now : ℕ) (served : Served)
    → shape_in (served_step g now served) ≡ shape_in served
unfolding return_of served_step
steps_shape g now (serves.Return r) = refl
steps_shape g now _ = refl

settles_shape : (said : Offer) (served : Served)
    → shape_in (served_settled said served) ≡ shape_in served
unfolding return_of served_settled
settles_shape said (serves.Return r) = refl
settles_shape said _ = refl

reports_shape : (served : Served) (r : Replied) (now : ℕ)
    → shape_in (reported_by served r now).served ≡ shape_in served
unfolding return_of reported_by
reports_shape (serves.Return s) r now = rw (report_kind now s, report_leaves now s) refl
reports_shape _ r now = refl

-- what becomes of an instance has its shape
begins_shape : (s : ReturnStart) (front : ℕ) (j : Result Span ReturnStartDiagnostic)
    (own : Serving) → shape_of (begun s front j own) ≡ shape_of own
begins_shape s front (Ok span) own = refl
begins_shape s front (Err why) own = refl

concluded_shape : (channels : List Gvcid) (a : ReturnInvocation) (g : Glimpse) (now : ℕ)
    (own : Serving) → shape_of (return_concluded channels a g now own) ≡ shape_of own
concluded_shape channels asked.Nothing g now own = refl
concluded_shape channels (asked.Start s) g now own =
    begins_shape s g.front (moments_at channels s g own) own
concluded_shape channels asked.Stop g now own = refl
concluded_shape channels (asked.Report k) g now own = refl
concluded_shape channels (asked.Get name) g now own = refl

concludes_shape : (served : Served) (channels : List Gvcid) (i : Invocation) (r : Replied) (now : ℕ)
    → shape_in (concluded_by served channels i r now).served ≡ shape_in served
unfolding return_of concluded_by
concludes_shape (serves.Return s) channels i r now =
    ap (λ (x : Shape). Some x) (concluded_shape channels (return_asked i) r.glimpse now s)
concludes_shape _ channels i r now = refl

none_kept : shape_in unserved ≡ None
unfolding return_of
none_kept = refl

-- what is made for a BIND has the shape of its instance
made_shape : (s : Service) (timeout : ℕ) → shape_in (served_at s timeout) ≡ shape_by s
unfolding return_of served_at
made_shape (service_of_site.Raf mode size latency) timeout = refl
made_shape (service_of_site.Rcf mode size latency channels) timeout = refl
made_shape (service_of_site.Cltu room longest) timeout = refl

-- that of the instance at a place
abbrev at_bound : Site → Option ℕ → Option Shape
at_bound site bound =
    option_and_then shape_by
    (option_map (λ (instance : Instance). instance.service)
    (option_and_then (λ (place : ℕ). slice_get site.instances place) bound))

no_shape : (shape : Shape) → shape_in unserved ≡ Some shape → ⊥
no_shape shape is = absurd (cc (none_kept, is))

instance_shape : (shape : Shape) (o : Option Instance)
    → shape_in
    (option_map_or (λ (instance : Instance). served_at instance.service instance.timeout) o unserved)
    ≡ Some shape
    → option_and_then shape_by
    (option_map (λ (instance : Instance). instance.service) o)
    ≡ Some shape
instance_shape shape None is = absurd (no_shape shape is)
instance_shape shape (Some instance) is =
    sym (made_shape instance.service instance.timeout) ∙ is

bound_shape : (site : Site) (j : Result ℕ BindDiagnostic) (reply : BookReply) (shape : Shape)
    → shape_in (service_bound site j reply) ≡ Some shape
    → at_bound site (place_bound j reply) ≡ Some shape
bound_shape site (Ok place) Bound shape is =
    instance_shape shape (slice_get site.instances place) is
bound_shape site (Err fault) Bound shape is = absurd (no_shape shape is)
bound_shape site j _ shape is = absurd (no_shape shape is)

-- ---- what leaves it

pub record Leaves (s t : Standing) : Type 0 where
  pub association : t.association ≡ s.association
  pub outgoing : t.outgoing ≡ s.outgoing
  pub bound : t.bound ≡ s.bound
  pub shape : shape_in t.service ≡ shape_in s.service

leaves_on : (s t u : Standing) → Leaves s t → Leaves t u → Leaves s u
leaves_on s t u h k = record {
  association = k.association ∙ h.association;
  outgoing = k.outgoing ∙ h.outgoing;
  bound = k.bound ∙ h.bound;
  shape = k.shape ∙ h.shape;
}

if_leaves : (b : Bool) (s t : Standing) → Leaves s t → Leaves s (if b then t else s)
if_leaves true s t h = h
if_leaves false s t h =
    record { association = refl; outgoing = refl; bound = refl; shape = refl }

module _ (site : Site) where
  stays_kept : (s t : Standing) → Leaves s t → IsKept site s → IsKept site t
  stays_kept s t h k = record {
    still = λ e. h.outgoing ∙ k.still (sym (ap is_active h.association) ∙ e);
    own = λ shape is.
        ap (λ (b : Option ℕ). at_bound site b) h.bound ∙ k.own shape (sym h.shape ∙ is);
  }

  -- where nothing is offered any more
  empty_kept : (s t : Standing) → t.outgoing ≡ [] → t.bound ≡ s.bound
      → shape_in t.service ≡ shape_in s.service
      → IsKept site s → IsKept site t
  empty_kept s t none bound shape k = record {
    still = λ e. none;
    own = λ x is. ap (λ (b : Option ℕ). at_bound site b) bound ∙ k.own x (sym shape ∙ is);
  }

  -- and where nothing is kept any more
  ended_kept : (t : Standing) → t.outgoing ≡ [] → t.service ≡ unserved → IsKept site t
  ended_kept t none gone = record {
    still = λ e. none;
    own = λ shape is. absurd (no_shape shape (sym (ap shape_in gone) ∙ is));
  }

  -- ---- listen and speak

  waited_leaves : (s : Standing) (o : Option Offer) → Leaves s (standing_waited s o)
  waited_leaves s None =
      record { association = refl; outgoing = refl; bound = refl; shape = refl }
  waited_leaves s (Some Whole) =
      record { association = refl; outgoing = refl; bound = refl; shape = refl }
  waited_leaves s (Some Stalled) =
      record { association = refl; outgoing = refl; bound = refl; shape = refl }
  waited_leaves s (Some Refused) =
      record { association = refl; outgoing = refl; bound = refl; shape = refl }

  heard_leaves : (s : Standing) (o : Option Heard) → Leaves s (standing_heard s o)
  heard_leaves s None =
      record { association = refl; outgoing = refl; bound = refl; shape = refl }
  heard_leaves s (Some (Arrived octets)) =
      record { association = refl; outgoing = refl; bound = refl; shape = refl }
  heard_leaves s (Some HeardNothing) =
      record { association = refl; outgoing = refl; bound = refl; shape = refl }
  heard_leaves s (Some Closed) =
      record { association = refl; outgoing = refl; bound = refl; shape = refl }
  heard_leaves s (Some Failed) =
      record { association = refl; outgoing = refl; bound = refl; shape = refl }

  spoke_leaves : (s : Standing) (o : Option Offer) → Leaves s (standing_spoke s o)
  spoke_leaves s None =
      record { association = refl; outgoing = refl; bound = refl; shape = refl }
  spoke_leaves s (Some Whole) =
      record { association = refl; outgoing = refl; bound = refl; shape = refl }
  spoke_leaves s (Some Stalled) =
      record { association = refl; outgoing = refl; bound = refl; shape = refl }
  spoke_leaves s (Some Refused) =
      record { association = refl; outgoing = refl; bound = refl; shape = refl }

  pub listened_kept : (s : State) (waited : Option Offer) (heard : Option Heard)
      → IsKept site s.standing → IsKept site (listened s waited heard).standing
  listened_kept s waited heard k =
      let t = round_begun s.standing in
      let u = standing_waited t waited in
      stays_kept u (standing_heard u heard) (heard_leaves u heard)
      (stays_kept t u (waited_leaves t waited) (record { still = k.still; own = k.own }))

  stalled_kept : (s : Standing) (items : Option ℕ) → IsKept site s
      → IsKept site (settled Stalled (after_stall s items))
  stalled_kept s None k =
      stays_kept s (settled Stalled (after_stall s None)) (record {
        association = refl;
        outgoing = refl;
        bound = refl;
        shape = settles_shape Stalled s.service;
      }) k
  stalled_kept s (Some items) k =
      empty_kept s (settled Stalled (after_stall s (Some items))) refl refl
      (settles_shape Stalled s.service) k

  sent_kept : (s : Standing) (o : Option Offer) → IsKept site s → IsKept site (standing_sent s o)
  sent_kept s None k = record { still = k.still; own = k.own }
  sent_kept s (Some Whole) k =
      empty_kept s (standing_sent s (Some Whole)) refl refl
      (settles_shape Whole s.service) k
  sent_kept s (Some Stalled) k = stalled_kept s (dropped_by s.service) k
  sent_kept s (Some Refused) k = record { still = k.still; own = k.own }

  -- ---- a message

  -- in active no message is denied
  never_denied : (decoded placed admitted : Bool) (k : Kind)
      → (refusal k ≡ Denied → ⊥)
      → (if not decoded then Abort why.EncodingError
      else if not placed then Abort why.ProtocolError
      else if not admitted then refusal k
      else Pass)
      ≡ Denied → ⊥
  never_denied false placed admitted k aborts e = absurd (cc)
  never_denied true false admitted k aborts e = absurd (cc)
  never_denied true true false k aborts e = aborts e
  never_denied true true true k aborts e = absurd (cc)

  bind_misplaced : (decoded admitted : Bool)
      → (if not decoded then Abort why.EncodingError
      else if not (is_some (follows active kind.bind)) then Abort why.ProtocolError
      else if not admitted then refusal kind.bind
      else Pass)
      ≡ Denied → ⊥
  bind_misplaced false admitted e = absurd (cc)
  bind_misplaced true admitted e = absurd (cc)

  kind_denied : (k : Kind) (decoded admitted : Bool)
      → (if not decoded then Abort why.EncodingError
      else if not (is_some (follows active k)) then Abort why.ProtocolError
      else if not admitted then refusal k
      else Pass)
      ≡ Denied → ⊥
  kind_denied kind.bind decoded admitted e = bind_misplaced decoded admitted e
  kind_denied k decoded admitted e =
      never_denied decoded (is_some (follows active k)) admitted k (λ is. absurd (cc is)) e

  denied_not : (b : Binding) (said : UserContent) (now : ℕ)
      → judged site (state.Active b) said now ≡ Denied → ⊥
  denied_not b said now e =
      kind_denied (kind_of said) (is_decoded (state.Active b) (kind_of said))
      (is_admitted site (state.Active b) (message_of said now)) e

  if_not : (b : Bool) (xs : List ℕ) → b ≡ false → (if b then xs else []) ≡ []
  if_not true xs e = absurd (cc)
  if_not false xs e = refl

  answered_bound : (s : Standing) (k : Kind) (message : Option Message)
      → (answered_with site s k message).bound ≡ s.bound
  answered_bound s k None = refl
  answered_bound s k (Some message) = refl

  module _ (u : Standing) (k : IsKept site u) where
    -- where this can't be judged so in active, the service isn't started
    not_active : (said : UserContent) (st : Step)
        → ((b : Binding) → judged site (state.Active b) said u.moment ≡ st → ⊥)
        → judged site u.association said u.moment ≡ st → is_active u.association ≡ false
    not_active said st never is = by (is_active u.association) refl
      where
        by : (b : Bool) → is_active u.association ≡ b → b ≡ false
        by false e = refl
        by true e =
            let at = active_is u.association e in
            absurd
            (never at.binding
            (sym (ap (λ (a : Association). judged site a said u.moment) at.so) ∙ is))

    context_kept : (interval factor : ℕ) (r : Replied) → u.outgoing ≡ []
        → IsKept site
        (after_passing site (invoked u (context interval factor) Pass) (context interval factor) r)
    context_kept interval factor r none = by (is_agreed site interval factor)
      where
        by : (b : Bool)
            → IsKept site
            (if b then record (invoked u (context interval factor) Pass) {
              association = moved u.association outcome.Context;
              interval = interval;
              factor = factor;
            }
            else ended_by (invoked u (context interval factor) Pass) (Range interval factor))
        by true = record { still = λ e. none; own = k.own }
        by false = ended_kept
            (ended_by (invoked u (context interval factor) Pass) (Range interval factor)) refl refl

    invocation_kept : (i : Invocation) (r : Replied)
        → IsKept site (after_passing site (invoked u (invocation i) Pass) (invocation i) r)
    invocation_kept i r =
        let t = invoked u (invocation i) Pass in
        let channels = permitted site u in
        let done = concluded_by u.service channels i r u.moment in
        let v = answered_with site t (invocation_kind i) done.answer in
        record {
          still = λ e. if_not (is_active (moved v.association done.outcome)) v.outgoing e;
          own = λ shape is.
              ap (λ (b : Option ℕ). at_bound site b)
              (answered_bound t (invocation_kind i) done.answer)
              ∙ k.own shape (sym (concludes_shape u.service channels i r u.moment) ∙ is);
        }

    passing_kept : (said : UserContent) (r : Replied)
        → judged site u.association said u.moment ≡ Pass
        → IsKept site (after_passing site (invoked u said Pass) said r)
    passing_kept (context interval factor) r pass =
        context_kept interval factor r
        (k.still (not_active (context interval factor) Pass
        (λ b is. context_not site b interval factor u.moment is) pass))
    passing_kept heartbeat r pass = record { still = k.still; own = k.own }
    passing_kept (bind x) r pass =
        let none = k.still (not_active (bind x) Pass (λ b is. bind_not site b x u.moment is) pass) in
        record {
          still = λ e. none;
          own = λ shape is. bound_shape site (bind_judged site x) r.reply shape is;
        }
    passing_kept (unbind x) r pass =
        ended_kept (after_passing site (invoked u (unbind x) Pass) (unbind x) r) refl refl
    passing_kept (peer_abort d) r pass =
        ended_kept (after_passing site (invoked u (peer_abort d) Pass) (peer_abort d) r) refl refl
    passing_kept (invocation i) r pass = invocation_kept i r
    passing_kept undecoded r pass = record { still = k.still; own = k.own }
    passing_kept out_of_place r pass = record { still = k.still; own = k.own }

    judged_kept : (said : UserContent) (st : Step) (r : Replied) (lost : Bool)
        → judged site u.association said u.moment ≡ st
        → IsKept site
        (if lost then aborted (invoked u said st) why.OtherReason
        else concluded site (invoked u said st) said st r)
    judged_kept said st r true is =
        ended_kept (aborted (invoked u said st) why.OtherReason) refl refl
    judged_kept said Pass r false is = passing_kept said r is
    judged_kept said Denied r false is =
        let none =
        k.still (not_active said Denied (λ b so. denied_not b said u.moment so) is) in
        record { still = λ e. none; own = k.own }
    judged_kept said (Abort d) r false is =
        ended_kept (concluded site (invoked u said (Abort d)) said (Abort d) r) refl refl

    next_kept : (next : Next) (r : Replied) → IsKept site (with_next site u next r)
    next_kept (Err fault) r = ended_kept (with_next site u (Err fault) r) refl refl
    next_kept (Ok None) r = by (has_closed u.arrival)
      where
        by : (closed : Bool) → IsKept site (if closed then ended_by u PeerClosed else u)
        by true = ended_kept (ended_by u PeerClosed) refl refl
        by false = k
    next_kept (Ok (Some message)) r =
        let said = said_to site u message in
        judged_kept said (judged site u.association said u.moment) r (is_lost r.reply) refl

    acted_kept : (next : Next) (r : Replied) → IsKept site (acted site u next r)
    acted_kept next r = by (is_idle u)
      where
        by : (idle : Bool) → IsKept site (if idle then u else with_next site u next r)
        by true = k
        by false = next_kept next r

  -- ---- the rest of a step

  timed_kept : (v : Standing) → IsKept site v → IsKept site (timed v)
  timed_kept v k = by (is_live v.course && is_dead (pulse_of v) v.moment)
    where
      by : (b : Bool) → IsKept site (if b then aborted v why.CommunicationsFailure else v)
      by true = ended_kept (aborted v why.CommunicationsFailure) refl refl
      by false = k

  more_leaves : (s : Standing) (message : Option Message) → Leaves s (told_more site s message)
  more_leaves s None =
      record { association = refl; outgoing = refl; bound = refl; shape = refl }
  more_leaves s (Some message) =
      record { association = refl; outgoing = refl; bound = refl; shape = refl }

  report_leaves_it : (s : Standing) (r : Replied) → Leaves s (with_report site s r)
  report_leaves_it s r =
      let told = reported_by s.service r s.moment in
      let t : Standing = record s { service = told.served } in
      if_leaves (may_tell s) s (reported site s told)
      (leaves_on s t (told_more site t told.report) (record {
        association = refl;
        outgoing = refl;
        bound = refl;
        shape = reports_shape s.service r s.moment;
      }) (more_leaves t told.report))

  noticed_leaves : (s : Standing) (notice : Option Notice) → Leaves s (noticed site s notice)
  noticed_leaves s None =
      record { association = refl; outgoing = refl; bound = refl; shape = refl }
  noticed_leaves s (Some notice) = more_leaves s (told_by_service s.service notice)

  pub unasked_leaves : (r : Replied) (s : Standing) → Leaves s (unasked site r s)
  unasked_leaves r s =
      let t = with_report site s r in
      let u = with_notice site t r.notice in
      leaves_on s t (with_heartbeat u) (report_leaves_it s r)
      (leaves_on t u (with_heartbeat u)
      (if_leaves (may_tell t) t (noticed site t r.notice) (noticed_leaves t r.notice))
      (if_leaves (is_live u.course && not (has_block u) && is_due (pulse_of u) u.moment) u
      (record u { block = spelling beat })
      (record { association = refl; outgoing = refl; bound = refl; shape = refl })))

  -- the service's own step is taken only where it is started
  serves_active : (was started going free : Bool) → ((was && started) && (going && free)) ≡ true
      → started ≡ true
  serves_active was started going free e = grind arith

  fixed_kept : (s : Standing) → is_active s.association ≡ true → IsKept site s
      → IsKept site (fixed site s)
  fixed_kept s started k =
      by (has_outgoing s) (fixed_by s.service site (bound_peer site s) s.numbers s.moment)
    where
      by : (has : Bool) (f : Fixed) → IsKept site (if has then s else with_fixed s f)
      by true f = k
      by false f = record { still = λ e. absurd (cc (started, e)); own = k.own }

  service_kept : (was : Bool) (g : Glimpse) (s : Standing) → IsKept site s
      → IsKept site (with_service site was g s)
  service_kept was g s k = by (may_serve was s) refl
    where
      by : (b : Bool) → may_serve was s ≡ b
          → IsKept site (if b then fixed site (stepped_by g s) else s)
      by false is = k
      by true is =
          fixed_kept (stepped_by g s)
          (serves_active was (is_active s.association) (is_going s.course)
          (not (is_blocked s.arrival)) is)
          (stays_kept s (stepped_by g s) (record {
            association = refl;
            outgoing = refl;
            bound = refl;
            shape = steps_shape g s.moment s.service;
          }) k)

  step_kept : (s : Standing) (next : Next) (now : ℕ) (r : Replied) → IsKept site s
      → IsKept site (after_step site s next now r)
  step_kept s next now r k =
      let u = at_moment s now in
      let v = acted site u next r in
      let w = timed v in
      service_kept (is_active s.association) r.glimpse (unasked site r w)
      (stays_kept w (unasked site r w) (unasked_leaves r w)
      (timed_kept v (acted_kept u (record { still = k.still; own = k.own }) next r)))

  -- ---- rounds

  pub told_kept : (t : State) (told : Option BookAnswer) → IsKept site t.standing
      → IsKept site (stepped site t told).standing
  told_kept t None k = k
  told_kept t (Some told) k = step_kept t.standing (next_of t) told.moment (reply_in told.answer) k

  pub round_kept : (s : State) (r : Round) → IsKept site s.standing
      → IsKept site (after_round site s r).standing
  round_kept s r k =
      let t = before_step s r in
      let y = (stepped site t r.told).standing in
      let z = standing_spoke y r.spoke in
      let last =
      sent_kept z r.sent
      (stays_kept y z (spoke_leaves y r.spoke)
      (told_kept t r.told (listened_kept s r.waited r.heard k))) in
      record { still = last.still; own = last.own }

  rounds_kept : (rounds : List Round) (s : State) → IsKept site s.standing
      → IsKept site (after_rounds site s rounds).standing
  rounds_kept [] s k = k
  rounds_kept (r ∷ rounds) s k = rounds_kept rounds (after_round site s r) (round_kept s r k)

pub sessions_are_kept : SessionsAreKept
sessions_are_kept b rounds =
    rounds_kept b.site rounds (start_of b) (ended_kept b.site (start_of b).standing refl refl)
