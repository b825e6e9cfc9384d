-- Status reports: when they are told, and what they say.
use Rattle.std.proofs.Common.{◌≡◌, ◌⊎◌, inl, inr, ℕ, ◌+◌, ◌*◌, nat_le, Bool, true}
use Rattle.std.proofs.Common.{false, not, ◌&&◌, ◌||◌, ◌==◌, if◌then◌else◌, Option, Some, None}
use Rattle.std.proofs.Common.{Ok, Err, Result, List, [], ◌∷◌, ◌++◌, length, slice_get, refl, sym, ap}
use Rattle.std.proofs.Common.{subst, ◌∙◌, arith, append-nil, append_assoc}
use Rattle.std.specs.Prelude.{is_some, is_none, option_and_then, count_by}
use Rattle.std.specs.List.{list_any}
use Rattle.std.specs.Option.{option_map, option_map_or}
use Rattle.std.proofs.lemmas.Bool.Decides.{nat_tests}
use Rattle.std.proofs.lemmas.List.Recursion.{is_count_by}
use Rattle.octet_core.specs.declared.offer.Offer.{Offer}
use Rattle.octet_core.specs.declared.offer.Offer.TheVariants.{Whole, Stalled, Failed as Refused}
use Rattle.archive_terms.specs.Glimpse.{Glimpse}
use Rattle.archive_terms.specs.Placed.{ToldItem}
use Rattle.archive_terms.specs.Rounds.{whole}
use Rattle.isp1_tml.specs.Message.{Content, pdu, context as link_context, heartbeat as beat, spelling}
use Rattle.sle_common.specs.declared.gvcid.Gvcid.{Gvcid}
use Rattle.sle_common.specs.declared.report_kind.ReportKind.{ReportKind}
use Rattle.sle_common.specs.declared.report_kind.ReportKind.TheVariants.{Now, Cycle, Stop}
use Rattle.sle_numbers.specs.declared.bind_diagnostic.BindDiagnostic.{BindDiagnostic}
use Rattle.sle_numbers.specs.declared.peer_abort_diagnostic.PeerAbortDiagnostic.TheVariants as why
use Rattle.sle_numbers.specs.declared.return_start_diagnostic.ReturnStartDiagnostic.{ReturnStartDiagnostic}
use Rattle.sle_numbers.specs.declared.schedule_diagnostic.ScheduleDiagnostic.{ScheduleDiagnostic}
use Rattle.bind_pdu.specs.Binding.{BindContent}
use Rattle.frame_select.specs.declared.filter.Filter.{Filter}
use Rattle.return_core.specs.Course.{Course, with_step}
use Rattle.return_pdu.specs.Scheduling.{ScheduleContent}
use Rattle.return_pdu.specs.declared.return_kind.ReturnKind.{ReturnKind}
use Rattle.report_cycle.specs.declared.schedule.Schedule.{Schedule}
use Rattle.report_cycle.specs.declared.schedule.TheConstants.{PICOS_A_SECOND}
use Rattle.report_cycle.specs.Schedule.{no_reports, is_stop, refusal, after_request, with_request}
use Rattle.report_cycle.specs.Schedule.{is_due as is_report_due, with_report as schedule_reported}
use Rattle.return_service.specs.declared.counts.Counts.{Counts}
use Rattle.return_service.specs.declared.span.Span.{Span}
use Rattle.return_service.specs.declared.invocation.ReturnStart.{ReturnStart}
use Rattle.return_service.specs.declared.invocation.ReturnInvocation.{ReturnInvocation}
use Rattle.return_service.specs.declared.invocation.ReturnInvocation.TheVariants as asked
use Rattle.return_service.specs.Counts.{no_frames, counted, with_frames_of, is_frame, is_error_free}
use Rattle.return_service.specs.Instance.{concluded as return_concluded, with_start as begun}
use Rattle.return_service.specs.Instance.{moments_at}
use Rattle.return_service.specs.Serving.{Serving, handed_over, is_offline, numbers_of}
use Rattle.fcltu_service.specs.Service.{is_due as is_forward_due}
use Rattle.station_config.specs.declared.instance.Instance.{Instance}
use Rattle.station_config.specs.declared.service.Service.{Service}
use Rattle.station_config.specs.declared.service.Service.TheVariants as service_of_site
use Rattle.station_config.specs.declared.site.Site.{Site}
use Rattle.assoc_core.specs.Kind as kind
use Rattle.assoc_core.specs.Kind.{Kind}
use Rattle.assoc_core.specs.State.{moved}
use Rattle.assoc_core.specs.declared.outcome.Outcome.TheVariants as outcome
use Rattle.assoc_core.specs.declared.step.Step.{Step}
use Rattle.assoc_core.specs.declared.step.Step.TheVariants.{Pass, Denied, Abort}
use Rattle.cltu_queue.specs.declared.book_reply.BookReply.{BookReply}
use Rattle.cltu_queue.specs.declared.book_reply.BookReply.TheVariants.{Bound}
use Rattle.cltu_queue.specs.declared.notice.Notice.{Notice}
use Rattle.session_services.specs.declared.service_state.ServiceState.TheVariants as serves
use Rattle.session_services.specs.FcltuServed.{fcltu_told, fcltu_notified}
use Rattle.session_services.specs.Inquiry.{Replied, reply_in}
use Rattle.session_services.specs.ReturnServed.{return_asked, return_told}
use Rattle.session_services.specs.Served.{Served, Message, Fixed, concluded_by, fixed_by, reported_by}
use Rattle.session_services.specs.Served.{served_at, served_settled, served_step, told_by_service}
use Rattle.session_services.specs.Served.{unserved, dropped_by}
use Rattle.session_services.specs.Service.{Invocation, invocation_kind, return_starts, cltu_starts}
use Rattle.session_services.specs.Service.{transfers, throws, stops, schedules, gets}
use Rattle.session_services.specs.Service.{undecoded as no_invocation}
use Rattle.session_core.specs.declared.ended.Ended.TheVariants.{PeerClosed, Range}
use Rattle.session_core.specs.declared.standing.Standing.{Standing}
use Rattle.session_core.specs.Course.{is_going, is_live, is_blocked, has_closed}
use Rattle.session_core.specs.Handling.{aborted, after_passing, bind_judged, concluded, ended_by}
use Rattle.session_core.specs.Handling.{invoked, is_agreed, is_lost}
use Rattle.session_core.specs.Laws.{messages_by}
use Rattle.session_core.specs.Message.{UserContent, context, heartbeat, bind, unbind, peer_abort}
use Rattle.session_core.specs.Message.{invocation, undecoded, out_of_place, judged}
use Rattle.session_core.specs.ServiceSteps.{after_stall, answered_with, fixed, has_outgoing, is_active}
use Rattle.session_core.specs.ServiceSteps.{may_serve, may_tell, noticed, permitted, reported}
use Rattle.session_core.specs.ServiceSteps.{service_bound, settled, stepped_by, told_more, with_fixed}
use Rattle.session_core.specs.ServiceSteps.{with_notice, with_report, with_service}
use Rattle.session_services.specs.Returns.{own_credentials}
use Rattle.session_core.specs.Returns.{bound_peer}
use Rattle.session_core.specs.Session.{State, Round, BookAnswer, after_round, after_rounds, before_speak}
use Rattle.session_core.specs.Session.{before_step, next_of}
use Rattle.session_core.specs.Session.{standing_sent, standing_spoke, stepped}
use Rattle.session_core.specs.Steps.{Next, acted, after_step, at_moment, handles, has_block}
use Rattle.session_core.specs.Steps.{has_message, is_dead, is_due, is_idle, pulse_of}
use Rattle.session_core.specs.Steps.{said_to, timed, unasked, with_heartbeat, with_next}
use Rattle.session_laws.specs.Deliveries.{return_of, delivery_of}
use Rattle.session_laws.specs.Reports.{acted_on, may_report, report_at, report_in, reports, none_reports}
use Rattle.session_laws.specs.Reports.{IsIn, TellsInBlock, is_forward_in, schedule_of, cycle_of}
use Rattle.session_laws.specs.Reports.{is_schedule, asks_report, has_passed, ReportsComeInTime}
use Rattle.session_laws.specs.Reports.{is_offline_in, RequestsAreTold, is_bind, asks_bind, none_binds}
use Rattle.session_laws.specs.Reports.{was_taken, items_in, items_of, FramesAreCounted, ReportsSay}
use Rattle.session_laws.proofs.Deliveries.{same_listened, same_spoke}

-- ---- the service after a message

-- what a step made of a session's service and of its moment, up to its dead timer
data Acts (site : Site) (u : Standing) (next : Next) (r : Replied) (w : Standing) : Type 0 where
  stays : w.service ≡ u.service → Acts site u next r w
  gone : w.service ≡ unserved → Acts site u next r w
  binds : (message : Content) (b : BindContent) → is_idle u ≡ false → next ≡ Ok (Some message)
      → said_to site u message ≡ bind b
      → w.service ≡ service_bound site (bind_judged site b) r.reply → Acts site u next r w
  concludes : (message : Content) (i : Invocation) → is_idle u ≡ false
      → next ≡ Ok (Some message) → said_to site u message ≡ invocation i
      → may_tell w ≡ true
      → w.service ≡ (concluded_by u.service (permitted site u) i r u.moment).served
      → Acts site u next r w

record ActsAt (site : Site) (u : Standing) (next : Next) (r : Replied) (w : Standing) : Type 0 where
  acts : Acts site u next r w
  moment : w.moment ≡ u.moment

busy_tells : (going blocked : Bool) → (blocked || not going) ≡ false → (going && not blocked) ≡ true
busy_tells going blocked e = grind arith

module _ (site : Site) (u : Standing) where
  answered_stays : (t : Standing) (k : Kind) (message : Option Message)
      → (may_tell (answered_with site t k message) ≡ may_tell t)
      × ((answered_with site t k message).moment ≡ t.moment)
  answered_stays t k None = (refl, refl)
  answered_stays t k (Some message) = (refl, refl)

  context_acts : (next : Next) (r : Replied) (interval factor : ℕ)
      → ActsAt site u next r
      (after_passing site (invoked u (context interval factor) Pass) (context interval factor) r)
  context_acts next r interval factor = by (is_agreed site interval factor)
    where
      by : (b : Bool)
          → ActsAt site u next r
          (if b then record (invoked u (context interval factor) Pass) {
            association = moved u.association outcome.Context;
            interval = interval;
            factor = factor;
          }
          else ended_by (invoked u (context interval factor) Pass) (Range interval factor))
      by true = record { acts = stays refl; moment = refl }
      by false = record { acts = gone refl; moment = refl }

  module _ (message : Content) (next : Next) (busy : is_idle u ≡ false)
      (is : next ≡ Ok (Some message)) (r : Replied) where
    passing_acts : (said : UserContent) → said_to site u message ≡ said
        → ActsAt site u next r (after_passing site (invoked u said Pass) said r)
    passing_acts (context interval factor) so = context_acts next r interval factor
    passing_acts heartbeat so = record { acts = stays refl; moment = refl }
    passing_acts (bind b) so = record { acts = binds message b busy is so refl; moment = refl }
    passing_acts (unbind x) so = record { acts = gone refl; moment = refl }
    passing_acts (peer_abort d) so = record { acts = gone refl; moment = refl }
    passing_acts (invocation i) so =
        let t = invoked u (invocation i) Pass in
        let done = concluded_by u.service (permitted site u) i r u.moment in
        let kept = answered_stays t (invocation_kind i) done.answer in
        record {
          acts = concludes message i busy is so
              (kept.0 ∙ busy_tells (is_going u.course) (is_blocked u.arrival) busy) refl;
          moment = kept.1;
        }
    passing_acts undecoded so = record { acts = stays refl; moment = refl }
    passing_acts out_of_place so = record { acts = stays refl; moment = refl }

    judged_acts : (said : UserContent) → said_to site u message ≡ said → (st : Step) (lost : Bool)
        → ActsAt site u next r
        (if lost then aborted (invoked u said st) why.OtherReason
        else concluded site (invoked u said st) said st r)
    judged_acts said so st true = record { acts = gone refl; moment = refl }
    judged_acts said so Pass false = passing_acts said so
    judged_acts said so Denied false = record { acts = stays refl; moment = refl }
    judged_acts said so (Abort d) false = record { acts = gone refl; moment = refl }

  next_acts : (next own : Next) (r : Replied) → is_idle u ≡ false → own ≡ next
      → ActsAt site u own r (with_next site u next r)
  next_acts (Err fault) own r busy is = record { acts = gone refl; moment = refl }
  next_acts (Ok None) own r busy is = by (has_closed u.arrival)
    where
      by : (closed : Bool) → ActsAt site u own r (if closed then ended_by u PeerClosed else u)
      by true = record { acts = gone refl; moment = refl }
      by false = record { acts = stays refl; moment = refl }
  next_acts (Ok (Some message)) own r busy is =
      judged_acts message own busy is r (said_to site u message) refl
      (judged site u.association (said_to site u message) u.moment) (is_lost r.reply)

  acted_acts : (next : Next) (r : Replied) → ActsAt site u next r (acted site u next r)
  acted_acts next r = by (is_idle u) refl
    where
      by : (idle : Bool) → is_idle u ≡ idle
          → ActsAt site u next r (if idle then u else with_next site u next r)
      by true is = record { acts = stays refl; moment = refl }
      by false is = next_acts next next r is refl

  timed_acts : (next : Next) (r : Replied) → ActsAt site u next r (timed (acted site u next r))
  timed_acts next r = by (is_live v.course && is_dead (pulse_of v) v.moment)
    where
      v : Standing
      v = acted site u next r

      by : (b : Bool)
          → ActsAt site u next r (if b then aborted v why.CommunicationsFailure else v)
      by true = record { acts = gone refl; moment = (acted_acts next r).moment }
      by false = acted_acts next r

-- ---- the rest of a round

if_same : {X : Type 0} (f : Standing → X) (b : Bool) (s t : Standing) → f t ≡ f s
    → f (if b then t else s) ≡ f s
if_same f true s t e = e
if_same f false s t e = refl

more_keeps : (site : Site) (s : Standing) (message : Option Message)
    → (told_more site s message).service ≡ s.service
more_keeps site s None = refl
more_keeps site s (Some message) = refl

noticed_keeps : (site : Site) (s : Standing) (notice : Option Notice)
    → (noticed site s notice).service ≡ s.service
noticed_keeps site s None = refl
noticed_keeps site s (Some notice) = more_keeps site s (told_by_service s.service notice)

unasked_keeps : (site : Site) (r : Replied) (w : Standing)
    → (unasked site r w).service ≡ (with_report site w r).service
unasked_keeps site r w =
    let t = with_report site w r in
    let n = with_notice site t r.notice in
    if_same (λ (x : Standing). x.service)
    (is_live n.course && not (has_block n) && is_due (pulse_of n) n.moment) n
    (record n { block = spelling beat }) refl
    ∙ if_same (λ (x : Standing). x.service) (may_tell t) t (noticed site t r.notice)
    (noticed_keeps site t r.notice)

-- what a service's step leaves
module _ {X : Type 0} (K : Served → X)
    (steps : (g : Glimpse) (now : ℕ) (served : Served) → K (served_step g now served) ≡ K served)
  where
    fixed_keeps : (site : Site) (s : Standing) → K (fixed site s).service ≡ K s.service
    fixed_keeps site s =
        by (has_outgoing s) (fixed_by s.service site (bound_peer site s) s.numbers s.moment)
      where
        by : (has : Bool) (f : Fixed) → K (if has then s else with_fixed s f).service ≡ K s.service
        by true f = refl
        by false f = refl

    service_keeps : (site : Site) (was : Bool) (g : Glimpse) (s : Standing)
        → K (with_service site was g s).service ≡ K s.service
    service_keeps site was g s = by (may_serve was s)
      where
        by : (b : Bool) → K (if b then fixed site (stepped_by g s) else s).service ≡ K s.service
        by true = fixed_keeps site (stepped_by g s) ∙ steps g s.moment s.service
        by false = refl

    -- so a step is as its report left it
    step_keeps : (site : Site) (s : Standing) (next : Next) (now : ℕ) (r : Replied)
        → K (after_step site s next now r).service
        ≡ K (with_report site (timed (acted site (at_moment s now) next r)) r).service
    step_keeps site s next now r =
        let w = timed (acted site (at_moment s now) next r) in
        service_keeps site (is_active s.association) r.glimpse (unasked site r w)
        ∙ ap K (unasked_keeps site r w)

    module _ (settles : (said : Offer) (served : Served) → K (served_settled said served) ≡ K served)
      where
        stalled_keeps : (s : Standing) (items : Option ℕ)
            → K (settled Stalled (after_stall s items)).service ≡ K s.service
        stalled_keeps s None = settles Stalled s.service
        stalled_keeps s (Some items) = settles Stalled s.service

        sent_keeps : (s : Standing) (sent : Option Offer) → K (standing_sent s sent).service ≡ K s.service
        sent_keeps s None = refl
        sent_keeps s (Some Whole) = settles Whole s.service
        sent_keeps s (Some Stalled) = stalled_keeps s (dropped_by s.service)
        sent_keeps s (Some Refused) = refl

        round_keeps : (site : Site) (s : State) (r : Round)
            → K (after_round site s r).standing.service ≡ K (before_speak site s r).standing.service
        round_keeps site s r =
            let y = (before_speak site s r).standing in
            sent_keeps (standing_spoke y r.spoke) r.sent ∙ ap K (same_spoke y r.spoke).service

-- ---- the message that a round handles

handled_one : (idle : Bool) (next : Next) (message : Content) → idle ≡ false
    → next ≡ Ok (Some message)
    → messages_by (not idle && has_message next) next ≡ message ∷ []
handled_one idle next message e is =
    ap (λ (b : Bool). messages_by (not b && has_message next) next) e
    ∙ ap (λ (n : Next). messages_by (has_message n) n) is

one_only : (b : Bool) → (b || false) ≡ false → b ≡ false
one_only b e = grind arith

-- none of the messages is one of these, so that this one isn't
said_not : (f : UserContent → Bool) (site : Site) (t : Standing) (next : Next) (message : Content)
    (said : UserContent) → is_idle t ≡ false → next ≡ Ok (Some message)
    → said_to site t message ≡ said
    → list_any (λ m. f (said_to site t m)) (messages_by (handles t next) next) ≡ false
    → f said ≡ false
said_not f site t next message said busy is so none =
    let here : messages_by (handles t next) next ≡ message ∷ [] =
    handled_one (is_idle t) next message busy is in
    sym (ap f so)
    ∙ one_only (f (said_to site t message))
    (sym (ap (λ ms. list_any (λ m. f (said_to site t m)) ms) here) ∙ none)

-- ---- the schedule

steps_sched : (g : Glimpse) (now : ℕ) (served : Served)
    → schedule_of (served_step g now served) ≡ schedule_of served
unfolding schedule_of served_step
steps_sched g now serves.Nothing = refl
steps_sched g now (serves.Return r) = refl
steps_sched g now (serves.Fcltu f) = refl

settles_sched : (said : Offer) (served : Served)
    → schedule_of (served_settled said served) ≡ schedule_of served
unfolding schedule_of served_settled
settles_sched said serves.Nothing = refl
settles_sched said (serves.Return r) = refl
settles_sched said (serves.Fcltu f) = refl

none_sched : schedule_of unserved ≡ None
unfolding schedule_of
none_sched = refl

-- what becomes of it: it stays, is gone, or begins
data Keeps (old new : Option Schedule) : Type 0 where
  same_left : new ≡ old → Keeps old new
  none_left : new ≡ None → Keeps old new
  fresh_left : new ≡ Some no_reports → Keeps old new

-- or a report is due at this moment
data Becomes (now : ℕ) (old new : Option Schedule) : Type 0 where
  keeps : Keeps old new → Becomes now old new
  due_now : (x : Schedule) → new ≡ Some x → x.due ≡ Some now → Becomes now old new

made_sched : (s : Service) (timeout : ℕ) (old : Option Schedule)
    → Keeps old (schedule_of (served_at s timeout))
unfolding schedule_of served_at
made_sched (service_of_site.Raf mode size latency) timeout old = fresh_left refl
made_sched (service_of_site.Rcf mode size latency channels) timeout old = fresh_left refl
made_sched (service_of_site.Cltu room longest) timeout old = fresh_left refl

instance_sched : (o : Option Instance) (old : Option Schedule)
    → Keeps old (schedule_of
    (option_map_or (λ (instance : Instance). served_at instance.service instance.timeout) o unserved))
instance_sched None old = none_left none_sched
instance_sched (Some instance) old = made_sched instance.service instance.timeout old

bound_sched : (site : Site) (j : Result ℕ BindDiagnostic) (reply : BookReply)
    (old : Option Schedule) → Keeps old (schedule_of (service_bound site j reply))
bound_sched site (Ok place) Bound old = instance_sched (slice_get site.instances place) old
bound_sched site (Err fault) Bound old = none_left none_sched
bound_sched site j _ old = none_left none_sched

requested_sched : (offline : Bool) (kind : ReportKind) (now : ℕ) (x : Schedule)
    → Becomes now (Some x) (Some (after_request offline kind now x))
requested_sched offline kind now x = by (is_none (refusal offline x kind)) kind
  where
    by : (b : Bool) (k : ReportKind)
        → Becomes now (Some x) (Some (if b then with_request k now x else x))
    by true Now = due_now (with_request Now now x) refl refl
    by true (Cycle seconds) = due_now (with_request (Cycle seconds) now x) refl refl
    by true Stop = keeps (fresh_left refl)
    by false k = keeps (same_left refl)

begun_sched : (s : ReturnStart) (front : ℕ) (j : Result Span ReturnStartDiagnostic) (own : Serving)
    → (begun s front j own).schedule ≡ own.schedule
begun_sched s front (Ok span) own = refl
begun_sched s front (Err why) own = refl

return_sched : (channels : List Gvcid) (a : ReturnInvocation) (g : Glimpse) (now : ℕ) (own : Serving)
    → Becomes now (Some own.schedule) (Some (return_concluded channels a g now own).schedule)
return_sched channels asked.Nothing g now own = keeps (same_left refl)
return_sched channels (asked.Start s) g now own =
    keeps (same_left
    (ap (λ (x : Schedule). Some x) (begun_sched s g.front (moments_at channels s g own) own)))
return_sched channels asked.Stop g now own = keeps (same_left refl)
return_sched channels (asked.Report kind) g now own =
    requested_sched (is_offline own.course) kind now own.schedule
return_sched channels (asked.Get name) g now own = keeps (same_left refl)

concluded_sched : (served : Served) (channels : List Gvcid) (i : Invocation) (r : Replied) (now : ℕ)
    → Becomes now (schedule_of served) (schedule_of (concluded_by served channels i r now).served)
unfolding schedule_of concluded_by
concluded_sched serves.Nothing channels i r now = keeps (same_left refl)
concluded_sched (serves.Return s) channels i r now =
    return_sched channels (return_asked i) r.glimpse now s
concluded_sched (serves.Fcltu f) channels (return_starts s) r now = keeps (same_left refl)
concluded_sched (serves.Fcltu f) channels (cltu_starts s) r now = keeps (same_left refl)
concluded_sched (serves.Fcltu f) channels (transfers t) r now = keeps (same_left refl)
concluded_sched (serves.Fcltu f) channels (throws t) r now = keeps (same_left refl)
concluded_sched (serves.Fcltu f) channels (stops s) r now = keeps (same_left refl)
concluded_sched (serves.Fcltu f) channels (schedules s) r now =
    requested_sched false s.report now f.reports
concluded_sched (serves.Fcltu f) channels (gets g) r now = keeps (same_left refl)
concluded_sched (serves.Fcltu f) channels no_invocation r now = keeps (same_left refl)

-- where no report was asked for
kept_sched : (served : Served) (channels : List Gvcid) (i : Invocation) (r : Replied) (now : ℕ)
    → is_schedule (invocation i) ≡ false
    → schedule_of (concluded_by served channels i r now).served ≡ schedule_of served
unfolding schedule_of concluded_by
kept_sched serves.Nothing channels i r now other = refl
kept_sched (serves.Return s) channels (return_starts i) r now other =
    ap (λ (x : Schedule). Some x)
    (begun_sched i.asks r.glimpse.front (moments_at channels i.asks r.glimpse s) s)
kept_sched (serves.Return s) channels (cltu_starts i) r now other = refl
kept_sched (serves.Return s) channels (transfers i) r now other = refl
kept_sched (serves.Return s) channels (throws i) r now other = refl
kept_sched (serves.Return s) channels (stops i) r now other = refl
kept_sched (serves.Return s) channels (schedules i) r now other = absurd (cc)
kept_sched (serves.Return s) channels (gets i) r now other = refl
kept_sched (serves.Return s) channels no_invocation r now other = refl
kept_sched (serves.Fcltu f) channels (return_starts i) r now other = refl
kept_sched (serves.Fcltu f) channels (cltu_starts i) r now other = refl
kept_sched (serves.Fcltu f) channels (transfers i) r now other = refl
kept_sched (serves.Fcltu f) channels (throws i) r now other = refl
kept_sched (serves.Fcltu f) channels (stops i) r now other = refl
kept_sched (serves.Fcltu f) channels (schedules i) r now other = absurd (cc)
kept_sched (serves.Fcltu f) channels (gets i) r now other = refl
kept_sched (serves.Fcltu f) channels no_invocation r now other = refl

-- a report is told where one is due
abbrev due_in : Option Schedule → ℕ → Bool
due_in o now = option_map_or (λ (x : Schedule). is_report_due x now) o false

reports_due : (served : Served) (r : Replied) (now : ℕ)
    → is_some (reported_by served r now).report ≡ due_in (schedule_of served) now
unfolding schedule_of reported_by
reports_due serves.Nothing r now = refl
reports_due (serves.Return s) r now = by (is_report_due s.schedule now)
  where
    by : (b : Bool)
        → is_some (option_map (return_told s.kind)
        (if b then Some (numbers_of s.counts r.glimpse) else None)) ≡ b
    by true = refl
    by false = refl
reports_due (serves.Fcltu f) r now = by (is_forward_due f now)
  where
    by : (b : Bool) → is_some (option_map fcltu_told (if b then Some r.view else None)) ≡ b
    by true = refl
    by false = refl

reported_sched : (served : Served) (r : Replied) (now : ℕ)
    → schedule_of (reported_by served r now).served
    ≡ (if due_in (schedule_of served) now then option_map (schedule_reported now) (schedule_of served)
    else schedule_of served)
unfolding schedule_of reported_by
reported_sched serves.Nothing r now = refl
reported_sched (serves.Return s) r now = by (is_report_due s.schedule now)
  where
    by : (b : Bool)
        → Some (if b then record s { schedule = schedule_reported now s.schedule } else s).schedule
        ≡ (if b then Some (schedule_reported now s.schedule) else Some s.schedule)
    by true = refl
    by false = refl
reported_sched (serves.Fcltu f) r now = by (is_forward_due f now)
  where
    by : (b : Bool)
        → Some (if b then record f { reports = schedule_reported now f.reports } else f).reports
        ≡ (if b then Some (schedule_reported now f.reports) else Some f.reports)
    by true = refl
    by false = refl

-- ---- a round's report

report_is : (w : Standing) (told : BookAnswer)
    → is_some (report_at w told) ≡ (may_tell w && due_in (schedule_of w.service) w.moment)
report_is w told = by (may_tell w)
  where
    by : (b : Bool)
        → is_some (if b then (reported_by w.service (reply_in told.answer) w.moment).report else None)
        ≡ (b && due_in (schedule_of w.service) w.moment)
    by true = reports_due w.service (reply_in told.answer) w.moment
    by false = refl

-- what is left behind it
abbrev left_by : Bool → ℕ → Option Schedule → Option Schedule
left_by told now o = if told then option_map (schedule_reported now) o else o

report_sched : (site : Site) (w : Standing) (r : Replied)
    → schedule_of (with_report site w r).service
    ≡ left_by (may_tell w && due_in (schedule_of w.service) w.moment) w.moment
    (schedule_of w.service)
report_sched site w r = by (may_tell w)
  where
    by : (b : Bool)
        → schedule_of
        (if b then reported site w (reported_by w.service r w.moment) else w).service
        ≡ left_by (b && due_in (schedule_of w.service) w.moment) w.moment (schedule_of w.service)
    by true =
        ap schedule_of
        (more_keeps site (record w { service = (reported_by w.service r w.moment).served })
        (reported_by w.service r w.moment).report)
        ∙ reported_sched w.service r w.moment
    by false = refl

le_itself : (n : ℕ) → nat_le n n ≡ true
le_itself n = grind (arith, nat_tests)

both_true : (a b : Bool) → a ≡ true → b ≡ true → (a && b) ≡ true
both_true a b is so = grind arith

both_false : (a b : Bool) → (a && b) ≡ false → a ≡ true → b ≡ true → ⊥
both_false a b e is so = absurd (cc (sym e, both_true a b is so))

due_at : (o : Option Schedule) (x : Schedule) (now : ℕ) → o ≡ Some x → x.due ≡ Some now
    → due_in o now ≡ true
due_at o x now is at =
    ap (λ (y : Option Schedule). due_in y now) is
    ∙ ap (λ (d : Option ℕ). option_map_or (λ (m : ℕ). nat_le m now) d false) at
    ∙ le_itself now

module _ (site : Site) (s : State) (r : Round) where
  found : (before_step s r).standing.service ≡ s.standing.service
  found = (same_listened s r.waited r.heard).service

  module _ (told : BookAnswer) (asked_it : r.told ≡ Some told) where
    abbrev t : State
    t = before_step s r

    abbrev u : Standing
    u = at_moment t.standing told.moment

    abbrev reply : Replied
    reply = reply_in told.answer

    abbrev w : Standing
    w = acted_on site t told

    acts : ActsAt site u (next_of t) reply w
    acts = timed_acts site u (next_of t) reply

    told_is : reports site s r ≡ (may_tell w && due_in (schedule_of w.service) w.moment)
    told_is =
        ap (λ (o : Option BookAnswer).
        is_some (option_and_then (λ (x : BookAnswer). report_at (acted_on site t x) x) o)) asked_it
        ∙ report_is w told

    may_is : may_report site s r ≡ may_tell w
    may_is =
        ap (λ (o : Option BookAnswer).
        option_map_or (λ (x : BookAnswer). may_tell (acted_on site t x)) o false) asked_it

    spoke_is : {X : Type 0} (K : Served → X)
        → ((g : Glimpse) (now : ℕ) (served : Served) → K (served_step g now served) ≡ K served)
        → K (before_speak site s r).standing.service ≡ K (with_report site w reply).service
    spoke_is K steps =
        ap (λ (o : Option BookAnswer). K (stepped site t o).standing.service) asked_it
        ∙ step_keeps K steps site t.standing (next_of t) told.moment reply

    after_sched : schedule_of (after_round site s r).standing.service
        ≡ left_by (may_tell w && due_in (schedule_of w.service) w.moment) w.moment
        (schedule_of w.service)
    after_sched =
        round_keeps schedule_of steps_sched settles_sched site s r
        ∙ spoke_is schedule_of steps_sched
        ∙ report_sched site w reply

    from_found : (new : Option Schedule) → Keeps (schedule_of u.service) new
        → Keeps (schedule_of s.standing.service) new
    from_found new k = subst (λ (x : Served). Keeps (schedule_of x) new) found k

    -- in a round that tells no report
    quiet : reports site s r ≡ false
        → Keeps (schedule_of s.standing.service) (schedule_of (after_round site s r).standing.service)
    quiet not_told =
        let rep : (may_tell w && due_in (schedule_of w.service) w.moment) ≡ false =
        sym told_is ∙ not_told in
        let left : schedule_of (after_round site s r).standing.service ≡ schedule_of w.service =
        after_sched ∙ ap (λ (b : Bool). left_by b w.moment (schedule_of w.service)) rep in
        subst (Keeps (schedule_of s.standing.service)) (sym left) (by rep acts.acts)
      where
        become : (may_tell w && due_in (schedule_of w.service) w.moment) ≡ false
            → may_tell w ≡ true → (new : Option Schedule) → schedule_of w.service ≡ new
            → Becomes told.moment (schedule_of u.service) new
            → Keeps (schedule_of s.standing.service) (schedule_of w.service)
        become rep may new is (keeps k) =
            subst (Keeps (schedule_of s.standing.service)) (sym is) (from_found new k)
        become rep may new is (due_now x so at) =
            let due : due_in (schedule_of w.service) w.moment ≡ true =
            ap (due_in (schedule_of w.service)) acts.moment
            ∙ due_at (schedule_of w.service) x told.moment (is ∙ so) at in
            absurd (both_false (may_tell w) (due_in (schedule_of w.service) w.moment) rep may due)

        by : (may_tell w && due_in (schedule_of w.service) w.moment) ≡ false
            → Acts site u (next_of t) reply w
            → Keeps (schedule_of s.standing.service) (schedule_of w.service)
        by rep (stays e) = same_left (ap schedule_of (e ∙ found))
        by rep (gone e) = none_left (ap schedule_of e ∙ none_sched)
        by rep (binds message b busy is so e) =
            subst (Keeps (schedule_of s.standing.service)) (sym (ap schedule_of e))
            (bound_sched site (bind_judged site b) reply.reply (schedule_of s.standing.service))
        by rep (concludes message i busy is so may e) =
            become rep may
            (schedule_of (concluded_by u.service (permitted site u) i reply u.moment).served)
            (ap schedule_of e) (concluded_sched u.service (permitted site u) i reply u.moment)

    -- after the message of one that handles no request
    unrequested : asks_report site s r ≡ false
        → Keeps (schedule_of s.standing.service) (schedule_of w.service)
    unrequested not_asked = by acts.acts
      where
        by : Acts site u (next_of t) reply w
            → Keeps (schedule_of s.standing.service) (schedule_of w.service)
        by (stays e) = same_left (ap schedule_of (e ∙ found))
        by (gone e) = none_left (ap schedule_of e ∙ none_sched)
        by (binds message b busy is so e) =
            subst (Keeps (schedule_of s.standing.service)) (sym (ap schedule_of e))
            (bound_sched site (bind_judged site b) reply.reply (schedule_of s.standing.service))
        by (concludes message i busy is so may e) =
            same_left (ap schedule_of e
            ∙ kept_sched u.service (permitted site u) i reply u.moment
            (said_not is_schedule site t.standing (next_of t) message (invocation i) busy is so
            not_asked)
            ∙ ap schedule_of found)

  quiet_round : reports site s r ≡ false
      → Keeps (schedule_of s.standing.service) (schedule_of (after_round site s r).standing.service)
  quiet_round not_told = by r.told refl
    where
      by : (o : Option BookAnswer) → r.told ≡ o
          → Keeps (schedule_of s.standing.service)
          (schedule_of (after_round site s r).standing.service)
      by None is =
          same_left (round_keeps schedule_of steps_sched settles_sched site s r
          ∙ ap (λ (o : Option BookAnswer).
          schedule_of (stepped site (before_step s r) o).standing.service) is
          ∙ ap schedule_of found)
      by (Some told) is = quiet told is not_told

-- what holds of the schedule, where it holds of none and of one that begins
module _ (P : Option Schedule → Type 0) (of_none : P None) (of_fresh : P (Some no_reports))
    (site : Site) where
  keeps_it : (old new : Option Schedule) → Keeps old new → P old → P new
  keeps_it old new (same_left e) p = subst P (sym e) p
  keeps_it old new (none_left e) p = subst P (sym e) of_none
  keeps_it old new (fresh_left e) p = subst P (sym e) of_fresh

  untold : (b rest : Bool) → (not b && rest) ≡ true → (b ≡ false) × (rest ≡ true)
  untold true rest e = absurd (cc e)
  untold false rest e = (refl, e)

  keeps_over : (rounds : List Round) (s : State) → none_reports site s rounds ≡ true
      → P (schedule_of s.standing.service)
      → P (schedule_of (after_rounds site s rounds).standing.service)
  keeps_over [] s none p = p
  keeps_over (r ∷ rounds) s none p =
      let parts =
      untold (reports site s r) (none_reports site (after_round site s r) rounds) none in
      keeps_over rounds (after_round site s r) parts.1
      (keeps_it (schedule_of s.standing.service)
      (schedule_of (after_round site s r).standing.service) (quiet_round site s r parts.0) p)

-- ---- in time

-- the next report is due a cycle after this moment
abbrev Since : ℕ → Option Schedule → Type 0
Since m o =
    (x : Schedule) → o ≡ Some x
    → x.due ≡ option_map (λ (seconds : ℕ). m + seconds * PICOS_A_SECOND) x.cycle

since_none : (m : ℕ) → Since m None
since_none m x is = absurd (cc is)

since_fresh : (m : ℕ) → Since m (Some no_reports)
since_fresh m x is =
    subst (λ (y : Schedule).
    y.due ≡ option_map (λ (seconds : ℕ). m + seconds * PICOS_A_SECOND) y.cycle) (own x is) refl
  where
    own : (x : Schedule) → Some no_reports ≡ Some x → no_reports ≡ x
    own x is = cc

since_told : (m : ℕ) (o : Option Schedule) → Since m (option_map (schedule_reported m) o)
since_told m None x is = absurd (cc is)
since_told m (Some y) x is =
    subst (λ (z : Schedule).
    z.due ≡ option_map (λ (seconds : ℕ). m + seconds * PICOS_A_SECOND) z.cycle) (own is) refl
  where
    own : Some (schedule_reported m y) ≡ Some x → schedule_reported m y ≡ x
    own is = cc

due_since : (m now : ℕ) (o : Option Schedule) → Since m o
    → due_in o now
    ≡ option_map_or (has_passed m now) (option_and_then (λ (x : Schedule). x.cycle) o) false
due_since m now None since = refl
due_since m now (Some x) since =
    ap (λ (d : Option ℕ). option_map_or (λ (n : ℕ). nat_le n now) d false) (since x refl) ∙ by x.cycle
  where
    by : (cycle : Option ℕ)
        → option_map_or (λ (n : ℕ). nat_le n now)
        (option_map (λ (seconds : ℕ). m + seconds * PICOS_A_SECOND) cycle) false
        ≡ option_map_or (has_passed m now) cycle false
    by None = refl
    by (Some seconds) = refl

-- none is due
abbrev Unasked : Option Schedule → Type 0
Unasked o = (x : Schedule) → o ≡ Some x → x.due ≡ None

unasked_none : Unasked None
unasked_none x is = absurd (cc is)

unasked_fresh : Unasked (Some no_reports)
unasked_fresh x is = sym (ap (λ (y : Schedule). y.due) (own is))
  where
    own : Some no_reports ≡ Some x → no_reports ≡ x
    own is = cc

due_unasked : (now : ℕ) (o : Option Schedule) → Unasked o → due_in o now ≡ false
due_unasked now None none = refl
due_unasked now (Some x) none =
    ap (λ (d : Option ℕ). option_map_or (λ (n : ℕ). nat_le n now) d false) (none x refl)

and_none : (a : Bool) → (a && false) ≡ false
and_none a = grind arith

pub reports_come_in_time : ReportsComeInTime
reports_come_in_time = record {
  next = λ site s r q rounds told now asked_r told_r none asked_q not_asked.
      let s_r = after_round site s r in
      let t = after_rounds site s_r rounds in
      let w = acted_on site (before_step s r) told in
      let own : (may_tell w && due_in (schedule_of w.service) w.moment) ≡ true =
      sym (told_is site s r told asked_r) ∙ told_r in
      let moment : w.moment ≡ told.moment = (acts site s r told asked_r).moment in
      let left : schedule_of s_r.standing.service
      ≡ option_map (schedule_reported told.moment) (schedule_of w.service) =
      after_sched site s r told asked_r
      ∙ ap (λ (b : Bool). left_by b w.moment (schedule_of w.service)) own
      ∙ ap (λ (n : ℕ). option_map (schedule_reported n) (schedule_of w.service)) moment in
      let since : Since told.moment (schedule_of t.standing.service) =
      keeps_over (Since told.moment) (since_none told.moment) (since_fresh told.moment) site rounds s_r
      none
      (subst (Since told.moment) (sym left) (since_told told.moment (schedule_of w.service))) in
      let x = acted_on site (before_step t q) now in
      let at_q : Since told.moment (schedule_of x.service) =
      keeps_it (Since told.moment) (since_none told.moment) (since_fresh told.moment) site
      (schedule_of t.standing.service) (schedule_of x.service)
      (unrequested site t q now asked_q not_asked) since in
      told_is site t q now asked_q
      ∙ ap (λ (n : ℕ). may_tell x && due_in (schedule_of x.service) n)
      (acts site t q now asked_q).moment
      ∙ ap (λ (b : Bool). may_tell x && b)
      (due_since told.moment now.moment (schedule_of x.service) at_q)
      ∙ ap (λ (b : Bool).
      b && option_map_or (has_passed told.moment now.moment) (cycle_of x.service) false)
      (sym (may_is site t q now asked_q));
  first = λ site s rounds q unbound none not_asked.
      let t = after_rounds site s rounds in
      first_at site t q
      (keeps_over Unasked unasked_none unasked_fresh site rounds s none
      (subst Unasked (sym unbound) unasked_none)) not_asked;
}
  where
    first_at : (site : Site) (t : State) (q : Round) → Unasked (schedule_of t.standing.service)
        → asks_report site t q ≡ false → reports site t q ≡ false
    first_at site t q none not_asked = by q.told refl
      where
        by : (o : Option BookAnswer) → q.told ≡ o → reports site t q ≡ false
        by None is =
            ap (λ (o : Option BookAnswer).
            is_some (option_and_then
            (λ (x : BookAnswer). report_at (acted_on site (before_step t q) x) x) o)) is
        by (Some now) is =
            let x = acted_on site (before_step t q) now in
            told_is site t q now is
            ∙ ap (λ (b : Bool). may_tell x && b)
            (due_unasked x.moment (schedule_of x.service)
            (keeps_it Unasked unasked_none unasked_fresh site (schedule_of t.standing.service)
            (schedule_of x.service) (unrequested site t q now is not_asked) none))
            ∙ and_none (may_tell x)

-- ---- what was asked for

messages_one : (b : Bool) (next : Next) (message : Content) → messages_by b next ≡ message ∷ []
    → (b ≡ true) × (next ≡ Ok (Some message))
messages_one false next message e = absurd (cc e)
messages_one true (Ok (Some x)) message e =
    let is : x ≡ message = cc e in (refl, ap (λ (y : Content). Ok (Some y)) is)
messages_one true (Ok None) message e = absurd (cc e)
messages_one true (Err fault) message e = absurd (cc e)

busy_of : (idle has : Bool) → (not idle && has) ≡ true → idle ≡ false
busy_of idle has e = grind arith

-- an invocation after which the session goes on was concluded
module _ (site : Site) (u : Standing) (i : Invocation) (r : Replied) where
  abbrev IsConcluded : Standing → Type 0
  IsConcluded v =
      may_tell v ≡ true
      → v.service ≡ (concluded_by u.service (permitted site u) i r u.moment).served

  judged_asks : (said : UserContent) → said ≡ invocation i → (st : Step) (lost : Bool)
      → IsConcluded
      (if lost then aborted (invoked u said st) why.OtherReason
      else concluded site (invoked u said st) said st r)
  judged_asks said so st true may = absurd (cc may)
  judged_asks said so Pass false may =
      ap (λ (x : UserContent). (after_passing site (invoked u x Pass) x r).service) so
  judged_asks said so Denied false may = absurd (cc may)
  judged_asks said so (Abort d) false may = absurd (cc may)

  next_asks : (next : Next) (message : Content) → next ≡ Ok (Some message)
      → said_to site u message ≡ invocation i → IsConcluded (with_next site u next r)
  next_asks next message is so =
      subst (λ (n : Next). IsConcluded (with_next site u n r)) (sym is)
      (judged_asks (said_to site u message) so
      (judged site u.association (said_to site u message) u.moment) (is_lost r.reply))

  acted_asks : (next : Next) (message : Content) → is_idle u ≡ false → next ≡ Ok (Some message)
      → said_to site u message ≡ invocation i → IsConcluded (timed (acted site u next r))
  acted_asks next message busy is so =
      let v : Standing = acted site u next r in
      let own : IsConcluded v =
      subst (λ (b : Bool). IsConcluded (if b then u else with_next site u next r)) (sym busy)
      (next_asks next message is so) in
      by v own (is_live v.course && is_dead (pulse_of v) v.moment)
    where
      by : (v : Standing) → IsConcluded v → (b : Bool)
          → IsConcluded (if b then aborted v why.CommunicationsFailure else v)
      by v own true may = absurd (cc may)
      by v own false may = own may

requested_due : (offline : Bool) (kind : ReportKind) (now : ℕ) (x : Schedule)
    → refusal offline x kind ≡ None → is_stop kind ≡ false
    → is_report_due (after_request offline kind now x) now ≡ true
requested_due offline kind now x taken on =
    ap (λ (o : Option ScheduleDiagnostic).
    is_report_due (if is_none o then with_request kind now x else x) now) taken
    ∙ by kind on
  where
    by : (k : ReportKind) → is_stop k ≡ false → is_report_due (with_request k now x) now ≡ true
    by Now on = le_itself now
    by (Cycle seconds) on = le_itself now
    by Stop on = absurd (cc on)

schedule_due : (served : Served) (channels : List Gvcid) (i : ScheduleContent) (r : Replied) (now : ℕ)
    (own : Schedule) → schedule_of served ≡ Some own
    → refusal (is_offline_in served) own i.report ≡ None → is_stop i.report ≡ false
    → due_in (schedule_of (concluded_by served channels (schedules i) r now).served) now ≡ true
unfolding schedule_of is_offline_in concluded_by
schedule_due serves.Nothing channels i r now own is taken on = absurd (cc is)
schedule_due (serves.Return s) channels i r now own is taken on =
    let same : s.schedule ≡ own = cc is in
    requested_due (is_offline s.course) i.report now s.schedule
    (ap (λ (x : Schedule). refusal (is_offline s.course) x i.report) same ∙ taken) on
schedule_due (serves.Fcltu f) channels i r now own is taken on =
    let same : f.reports ≡ own = cc is in
    requested_due false i.report now f.reports
    (ap (λ (x : Schedule). refusal false x i.report) same ∙ taken) on

pub requests_are_told : RequestsAreTold
requests_are_told site s r told message i own asked_r handled so on is taken may =
    let t = before_step s r in
    let u = at_moment t.standing told.moment in
    let w = acted_on site t told in
    let reply = reply_in told.answer in
    let one =
    messages_one (handles t.standing (next_of t)) (next_of t) message handled in
    let busy : is_idle u ≡ false =
    busy_of (is_idle t.standing) (has_message (next_of t)) one.0 in
    let may_w : may_tell w ≡ true = sym (may_is site s r told asked_r) ∙ may in
    let service = acted_asks site u (schedules i) reply (next_of t) message busy one.1 so may_w in
    let moment : w.moment ≡ told.moment = (acts site s r told asked_r).moment in
    let own_u : schedule_of u.service ≡ Some own = ap schedule_of (found site s r) ∙ is in
    let taken_u : refusal (is_offline_in u.service) own i.report ≡ None =
    ap (λ (x : Served). refusal (is_offline_in x) own i.report) (found site s r) ∙ taken in
    let due : due_in (schedule_of w.service) w.moment ≡ true =
    ap (λ (n : ℕ). due_in (schedule_of w.service) n) moment
    ∙ ap (λ (x : Served). due_in (schedule_of x) told.moment) service
    ∙ schedule_due u.service (permitted site u) i reply told.moment own own_u taken_u on in
    told_is site s r told asked_r
    ∙ ap (λ (b : Bool). b && due_in (schedule_of w.service) w.moment) may_w
    ∙ due

-- ---- what stays of an instance

some_own : {A : Type 0} (a b : A) → Some a ≡ Some b → a ≡ b
some_own a b e = cc e

module _ {X : Type 0} (f : Serving → X)
    (of_schedule : (own : Serving) (x : Schedule) → f (record own { schedule = x }) ≡ f own)
    (of_course : (own : Serving) (c : Course) (kept : Option Filter)
    → f (record own { course = c; kept = kept }) ≡ f own) where
  abbrev own_of : Served → Option X
  own_of served = option_map f (return_of served)

  begun_own : (s : ReturnStart) (front : ℕ) (j : Result Span ReturnStartDiagnostic) (own : Serving)
      → f (begun s front j own) ≡ f own
  begun_own s front (Ok span) own =
      of_course own (begun s front (Ok span) own).course (begun s front (Ok span) own).kept
  begun_own s front (Err why) own = refl

  return_own : (channels : List Gvcid) (a : ReturnInvocation) (g : Glimpse) (now : ℕ) (own : Serving)
      → f (return_concluded channels a g now own) ≡ f own
  return_own channels asked.Nothing g now own = refl
  return_own channels (asked.Start s) g now own =
      begun_own s g.front (moments_at channels s g own) own
  return_own channels asked.Stop g now own =
      of_course own (return_concluded channels asked.Stop g now own).course own.kept
  return_own channels (asked.Report k) g now own =
      of_schedule own (return_concluded channels (asked.Report k) g now own).schedule
  return_own channels (asked.Get name) g now own = refl

  concluded_own : (served : Served) (channels : List Gvcid) (i : Invocation) (r : Replied) (now : ℕ)
      → own_of (concluded_by served channels i r now).served ≡ own_of served
  unfolding return_of concluded_by
  concluded_own serves.Nothing channels i r now = refl
  concluded_own (serves.Return own) channels i r now =
      ap (λ (x : X). Some x) (return_own channels (return_asked i) r.glimpse now own)
  concluded_own (serves.Fcltu own) channels i r now = refl

  steps_own : (g : Glimpse) (now : ℕ) (served : Served)
      → own_of (served_step g now served) ≡ own_of served
  unfolding return_of served_step
  steps_own g now serves.Nothing = refl
  steps_own g now (serves.Return own) =
      ap (λ (x : X). Some x) (of_course own (with_step own.course g now) own.kept)
  steps_own g now (serves.Fcltu own) = refl

  reported_own : (served : Served) (r : Replied) (now : ℕ)
      → own_of (reported_by served r now).served ≡ own_of served
  unfolding return_of reported_by
  reported_own serves.Nothing r now = refl
  reported_own (serves.Return own) r now = by (is_report_due own.schedule now)
    where
      by : (b : Bool)
          → Some (f (if b then record own { schedule = schedule_reported now own.schedule } else own))
          ≡ Some (f own)
      by true = ap (λ (x : X). Some x) (of_schedule own (schedule_reported now own.schedule))
      by false = refl
  reported_own (serves.Fcltu own) r now = refl

  none_own : own_of unserved ≡ None
  unfolding return_of
  none_own = refl

  with_report_own : (site : Site) (w : Standing) (r : Replied)
      → own_of (with_report site w r).service ≡ own_of w.service
  with_report_own site w r = by (may_tell w)
    where
      by : (b : Bool)
          → own_of (if b then reported site w (reported_by w.service r w.moment) else w).service
          ≡ own_of w.service
      by true =
          ap own_of
          (more_keeps site (record w { service = (reported_by w.service r w.moment).served })
          (reported_by w.service r w.moment).report)
          ∙ reported_own w.service r w.moment
      by false = refl

  -- before a round's offers, by what its message left
  spoke_own : (site : Site) (s : State) (r : Round) (told : BookAnswer) → r.told ≡ Some told
      → own_of (before_speak site s r).standing.service
      ≡ own_of (acted_on site (before_step s r) told).service
  spoke_own site s r told asked_r =
      spoke_is site s r told asked_r own_of steps_own
      ∙ with_report_own site (acted_on site (before_step s r) told) (reply_in told.answer)

  -- after the message of a round that handles no BIND
  unbound_own : (site : Site) (s : State) (r : Round) (told : BookAnswer) (is : r.told ≡ Some told)
      → asks_bind site s r ≡ false → let w = acted_on site (before_step s r) told in
      (own_of w.service ≡ None) ⊎ (own_of w.service ≡ own_of s.standing.service)
  unbound_own site s r told is none = by (acts site s r told is).acts
    where
      by : Acts site (at_moment (before_step s r).standing told.moment) (next_of (before_step s r))
          (reply_in told.answer) (acted_on site (before_step s r) told)
          → (own_of (acted_on site (before_step s r) told).service ≡ None)
          ⊎ (own_of (acted_on site (before_step s r) told).service ≡ own_of s.standing.service)
      by (stays e) = inr (ap own_of (e ∙ found site s r))
      by (gone e) = inl (ap own_of e ∙ none_own)
      by (binds message b busy is so e) =
          absurd (cc (said_not is_bind site (before_step s r).standing (next_of (before_step s r))
          message (bind b) busy is so none))
      by (concludes message i busy is so may e) =
          let u = at_moment (before_step s r).standing told.moment in
          inr (ap own_of e
          ∙ concluded_own u.service (permitted site u) i (reply_in told.answer) u.moment
          ∙ ap own_of (found site s r))

-- ---- the counts

-- so many of a list's and of a longer one's
abbrev counting : {A : Type 0} → (A → Bool) → List A → ℕ
counting p [] = 0
counting p (x ∷ xs) = if p x then 1 + counting p xs else counting p xs

counting_both : {A : Type 0} (p : A → Bool) (xs ys : List A)
    → counting p (xs ++ ys) ≡ counting p xs + counting p ys
counting_both p [] ys = omega arith
counting_both p (x ∷ xs) ys = by (p x) (counting_both p xs ys)
  where
    by : (b : Bool) → counting p (xs ++ ys) ≡ counting p xs + counting p ys
        → (if b then 1 + counting p (xs ++ ys) else counting p (xs ++ ys))
        ≡ (if b then 1 + counting p xs else counting p xs) + counting p ys
    by true rest = omega (arith, rest)
    by false rest = rest

is_counting : {A : Type 0} (p : A → Bool) (xs : List A) → counting p xs ≡ count_by p xs
is_counting p xs = is_count_by (counting p) p refl (λ x ys. refl) xs

count_both : {A : Type 0} (p : A → Bool) (xs ys : List A)
    → count_by p (xs ++ ys) ≡ count_by p xs + count_by p ys
count_both p xs ys =
    sym (is_counting p (xs ++ ys)) ∙ counting_both p xs ys
    ∙ ap (λ (n : ℕ). n + counting p ys) (is_counting p xs)
    ∙ ap (λ (n : ℕ). count_by p xs + n) (is_counting p ys)

counted_both : (n m : ℕ) → counted (counted 0 n) m ≡ counted 0 (n + m)
counted_both n m = grind arith

frames_both : (xs ys : List ToldItem)
    → with_frames_of ys (with_frames_of xs no_frames) ≡ with_frames_of (xs ++ ys) no_frames
frames_both xs ys =
    let free : ToldItem → Bool = λ x. is_error_free x.0 in
    let frames : ToldItem → Bool = λ x. is_frame x.0 in
    let last : ℕ = counted (counted 0 (count_by frames xs)) (count_by frames ys) in
    let all : ℕ = counted 0 (count_by free (xs ++ ys)) in
    ap (λ (n : ℕ). let c : Counts = record { error_free = n; delivered = last } in c)
    (counted_both (count_by free xs) (count_by free ys)
    ∙ ap (counted 0) (sym (count_both free xs ys)))
    ∙ ap (λ (n : ℕ). let c : Counts = record { error_free = all; delivered = n } in c)
    (counted_both (count_by frames xs) (count_by frames ys)
    ∙ ap (counted 0) (sym (count_both frames xs ys)))

abbrev counts_of : Served → Option Counts
counts_of served = option_map (λ (own : Serving). own.counts) (return_of served)

-- these items were counted, where an instance is bound
abbrev Counted : List ToldItem → Option Counts → Type 0
Counted items o = (o ≡ None) ⊎ (o ≡ Some (with_frames_of items no_frames))

not_none : (c : Counts) → Some c ≡ None → ⊥
not_none c e = cc e

settle_whole : (served : Served) (items : List ToldItem) → Counted items (counts_of served)
    → Counted
    (items ++ option_map_or (λ (c : Course). handed_over c whole) (delivery_of served) [])
    (counts_of (served_settled Whole served))
unfolding return_of served_settled
settle_whole serves.Nothing items counted_so = inl refl
settle_whole (serves.Fcltu f) items counted_so = inl refl
settle_whole (serves.Return own) items (inl e) = absurd (not_none own.counts e)
settle_whole (serves.Return own) items (inr e) =
    inr (ap (λ (c : Counts). Some (with_frames_of (handed_over own.course whole) c))
    (some_own own.counts (with_frames_of items no_frames) e)
    ∙ ap (λ (c : Counts). Some c) (frames_both items (handed_over own.course whole)))

settle_stalled : (served : Served) (items : List ToldItem) → Counted items (counts_of served)
    → Counted (items ++ []) (counts_of (served_settled Stalled served))
unfolding return_of served_settled
settle_stalled serves.Nothing items counted_so = inl refl
settle_stalled (serves.Fcltu f) items counted_so = inl refl
settle_stalled (serves.Return own) items (inl e) = absurd (not_none own.counts e)
settle_stalled (serves.Return own) items (inr e) =
    inr (ap (λ (c : Counts). Some (with_frames_of [] c))
    (some_own own.counts (with_frames_of items no_frames) e)
    ∙ ap (λ (c : Counts). Some c) (frames_both items []))

-- what an offer hands over
abbrev new_items : Option Offer → Served → List ToldItem
new_items sent served =
    if was_taken sent
    then option_map_or (λ (c : Course). handed_over c whole) (delivery_of served) []
    else []

sent_counts : (z : Standing) (sent : Option Offer) (items : List ToldItem)
    → Counted items (counts_of z.service)
    → Counted (items ++ new_items sent z.service) (counts_of (standing_sent z sent).service)
sent_counts z None items so =
    subst (λ (xs : List ToldItem). Counted xs (counts_of z.service)) (sym (append-nil items)) so
sent_counts z (Some Whole) items so = settle_whole z.service items so
sent_counts z (Some Stalled) items so = by (dropped_by z.service)
  where
    by : (o : Option ℕ)
        → Counted (items ++ []) (counts_of (settled Stalled (after_stall z o)).service)
    by None = settle_stalled z.service items so
    by (Some n) = settle_stalled z.service items so
sent_counts z (Some Refused) items so =
    subst (λ (xs : List ToldItem). Counted xs (counts_of z.service)) (sym (append-nil items)) so

offered_counts : (site : Site) (s : State) (r : Round) (items : List ToldItem)
    → Counted items (counts_of (before_speak site s r).standing.service)
    → Counted (items ++ items_in site s r) (counts_of (after_round site s r).standing.service)
offered_counts site s r items so =
    let y = (before_speak site s r).standing in
    let z = standing_spoke y r.spoke in
    let same : z.service ≡ y.service = (same_spoke y r.spoke).service in
    subst (λ (x : Served).
    Counted (items ++ new_items r.sent x) (counts_of (standing_sent z r.sent).service)) same
    (sent_counts z r.sent items (subst (λ (x : Served). Counted items (counts_of x)) (sym same) so))

round_counts : (site : Site) (s : State) (r : Round) (items : List ToldItem)
    → asks_bind site s r ≡ false → Counted items (counts_of s.standing.service)
    → Counted (items ++ items_in site s r) (counts_of (after_round site s r).standing.service)
round_counts site s r items none so = offered_counts site s r items (by r.told refl)
  where
    by : (o : Option BookAnswer) → r.told ≡ o
        → Counted items (counts_of (before_speak site s r).standing.service)
    by None is =
        subst (Counted items)
        (sym (ap (λ (o : Option BookAnswer).
        counts_of (stepped site (before_step s r) o).standing.service) is
        ∙ ap counts_of (found site s r))) so
    by (Some told) is =
        subst (Counted items)
        (sym (spoke_own (λ (own : Serving). own.counts) (λ own x. refl) (λ own c kept. refl) site s r
        told is))
        (on (unbound_own (λ (own : Serving). own.counts) (λ own x. refl) (λ own c kept. refl) site s r
        told is none))
      where
        on : (counts_of (acted_on site (before_step s r) told).service ≡ None)
            ⊎ (counts_of (acted_on site (before_step s r) told).service
            ≡ counts_of s.standing.service)
            → Counted items (counts_of (acted_on site (before_step s r) told).service)
        on (inl e) = inl e
        on (inr e) = subst (Counted items) (sym e) so

made_counts : (s : Service) (timeout : ℕ) → Counted [] (counts_of (served_at s timeout))
unfolding return_of served_at
made_counts (service_of_site.Raf mode size latency) timeout = inr refl
made_counts (service_of_site.Rcf mode size latency channels) timeout = inr refl
made_counts (service_of_site.Cltu room longest) timeout = inl refl

none_counts : counts_of unserved ≡ None
unfolding return_of
none_counts = refl

instance_counts : (o : Option Instance)
    → Counted [] (counts_of
    (option_map_or (λ (instance : Instance). served_at instance.service instance.timeout) o unserved))
instance_counts None = inl none_counts
instance_counts (Some instance) = made_counts instance.service instance.timeout

bound_counts : (site : Site) (j : Result ℕ BindDiagnostic) (reply : BookReply)
    → Counted [] (counts_of (service_bound site j reply))
bound_counts site (Ok place) Bound = instance_counts (slice_get site.instances place)
bound_counts site (Err fault) Bound = inl none_counts
bound_counts site j _ = inl none_counts

-- the round that binds it
first_counts : (site : Site) (s : State) (r : Round) → return_of s.standing.service ≡ None
    → Counted (items_in site s r) (counts_of (after_round site s r).standing.service)
first_counts site s r unbound = offered_counts site s r [] (by r.told refl)
  where
    before : counts_of s.standing.service ≡ None
    before = ap (option_map (λ (own : Serving). own.counts)) unbound

    by : (o : Option BookAnswer) → r.told ≡ o
        → Counted [] (counts_of (before_speak site s r).standing.service)
    by None is =
        inl (ap (λ (o : Option BookAnswer).
        counts_of (stepped site (before_step s r) o).standing.service) is
        ∙ ap counts_of (found site s r) ∙ before)
    by (Some told) is =
        subst (Counted [])
        (sym (spoke_own (λ (own : Serving). own.counts) (λ own x. refl) (λ own c kept. refl) site s r
        told is)) (on (acts site s r told is).acts)
      where
        on : Acts site (at_moment (before_step s r).standing told.moment) (next_of (before_step s r))
            (reply_in told.answer) (acted_on site (before_step s r) told)
            → Counted [] (counts_of (acted_on site (before_step s r) told).service)
        on (stays e) = inl (ap counts_of (e ∙ found site s r) ∙ before)
        on (gone e) = inl (ap counts_of e ∙ none_counts)
        on (binds message b busy so at e) =
            subst (Counted []) (sym (ap counts_of e))
            (bound_counts site (bind_judged site b) (reply_in told.answer).reply)
        on (concludes message i busy so at may e) =
            let u = at_moment (before_step s r).standing told.moment in
            inl (ap counts_of e
            ∙ concluded_own (λ (own : Serving). own.counts) (λ own x. refl) (λ own c kept. refl)
            u.service (permitted site u) i (reply_in told.answer) u.moment
            ∙ ap counts_of (found site s r) ∙ before)

unbinding : (b rest : Bool) → (not b && rest) ≡ true → (b ≡ false) × (rest ≡ true)
unbinding true rest e = absurd (cc e)
unbinding false rest e = (refl, e)

counts_over : (site : Site) (rounds : List Round) (s : State) (items : List ToldItem)
    → none_binds site s rounds ≡ true → Counted items (counts_of s.standing.service)
    → Counted (items ++ items_of site s rounds)
    (counts_of (after_rounds site s rounds).standing.service)
counts_over site [] s items none so =
    subst (λ (xs : List ToldItem). Counted xs (counts_of s.standing.service))
    (sym (append-nil items)) so
counts_over site (r ∷ rounds) s items none so =
    let t = after_round site s r in
    let parts = unbinding (asks_bind site s r) (none_binds site t rounds) none in
    subst (λ (xs : List ToldItem). Counted xs (counts_of (after_rounds site t rounds).standing.service))
    (append_assoc items (items_in site s r) (items_of site t rounds))
    (counts_over site rounds t (items ++ items_in site s r) parts.1
    (round_counts site s r items parts.0 so))

pub frames_are_counted : FramesAreCounted
frames_are_counted site s r rounds own unbound none is =
    let t = after_rounds site (after_round site s r) rounds in
    by (counts_over site rounds (after_round site s r) (items_in site s r) none
    (first_counts site s r unbound))
    (ap (option_map (λ (x : Serving). x.counts)) is)
  where
    by : Counted (items_in site s r ++ items_of site (after_round site s r) rounds)
        (counts_of (after_rounds site (after_round site s r) rounds).standing.service)
        → counts_of (after_rounds site (after_round site s r) rounds).standing.service
        ≡ Some own.counts
        → own.counts ≡ with_frames_of (items_of site s (r ∷ rounds)) no_frames
    by (inl e) have = absurd (not_none own.counts (sym have ∙ e))
    by (inr e) have =
        some_own own.counts (with_frames_of (items_of site s (r ∷ rounds)) no_frames)
        (sym have ∙ e)

-- ---- what it says

own_says : (served : Served) (r : Replied) (now : ℕ) (message : Message) (k : ReturnKind) (c : Counts)
    → option_map (λ (x : Serving). x.kind) (return_of served) ≡ Some k
    → counts_of served ≡ Some c → (reported_by served r now).report ≡ Some message
    → message ≡ return_told k (numbers_of c r.glimpse)
unfolding return_of reported_by
own_says serves.Nothing r now message k c kind counts e = absurd (cc kind)
own_says (serves.Fcltu f) r now message k c kind counts e = absurd (cc kind)
own_says (serves.Return own) r now message k c kind counts e =
    by (is_report_due own.schedule now) e
    ∙ ap (λ (x : ReturnKind). return_told x (numbers_of own.counts r.glimpse)) (some_own own.kind k kind)
    ∙ ap (λ (x : Counts). return_told k (numbers_of x r.glimpse)) (some_own own.counts c counts)
  where
    by : (b : Bool)
        → option_map (return_told own.kind)
        (if b then Some (numbers_of own.counts r.glimpse) else None) ≡ Some message
        → message ≡ return_told own.kind (numbers_of own.counts r.glimpse)
    by true e =
        sym (some_own (return_told own.kind (numbers_of own.counts r.glimpse)) message e)
    by false e = absurd (cc e)

forward_says : (served : Served) (r : Replied) (now : ℕ) (message : Message)
    → is_forward_in served ≡ true → (reported_by served r now).report ≡ Some message
    → message ≡ fcltu_told r.view
unfolding is_forward_in reported_by
forward_says serves.Nothing r now message is e = absurd (cc is)
forward_says (serves.Return own) r now message is e = absurd (cc is)
forward_says (serves.Fcltu f) r now message is e = by (is_forward_due f now) e
  where
    by : (b : Bool) → option_map fcltu_told (if b then Some r.view else None) ≡ Some message
        → message ≡ fcltu_told r.view
    by true e = sym (some_own (fcltu_told r.view) message e)
    by false e = absurd (cc e)

concluded_forward : (served : Served) (channels : List Gvcid) (i : Invocation) (r : Replied) (now : ℕ)
    → is_forward_in (concluded_by served channels i r now).served ≡ is_forward_in served
unfolding is_forward_in concluded_by
concluded_forward serves.Nothing channels i r now = refl
concluded_forward (serves.Return own) channels i r now = refl
concluded_forward (serves.Fcltu f) channels i r now = refl

if_some : (b : Bool) (o : Option Message) (message : Message)
    → (if b then o else None) ≡ Some message → (b ≡ true) × (o ≡ Some message)
if_some true o message e = (refl, e)
if_some false o message e = absurd (cc e)

-- no report is told of a service of which none is due
undue : (served : Served) (r : Replied) (now : ℕ) (message : Message)
    → Unasked (schedule_of served) → (reported_by served r now).report ≡ Some message → ⊥
undue served r now message none e =
    let due : true ≡ false =
    sym (ap is_some e) ∙ reports_due served r now ∙ due_unasked now (schedule_of served) none in
    cc due

from_none : (new : Option Schedule) → Keeps None new → Unasked new
from_none new (same_left e) = subst Unasked (sym e) unasked_none
from_none new (none_left e) = subst Unasked (sym e) unasked_none
from_none new (fresh_left e) = subst Unasked (sym e) unasked_fresh

module _ (site : Site) (s : State) (r : Round) (told : BookAnswer) (asked_r : r.told ≡ Some told)
    (message : Message) (is : report_in site s r ≡ Some message) where
  abbrev stood : Standing
  stood = acted_on site (before_step s r) told

  told_parts : (may_tell stood ≡ true)
      × ((reported_by stood.service (reply_in told.answer) stood.moment).report ≡ Some message)
  told_parts =
      if_some (may_tell stood)
      ((reported_by stood.service (reply_in told.answer) stood.moment).report) message
      (sym (ap (λ (o : Option BookAnswer).
      option_and_then (λ (x : BookAnswer). report_at (acted_on site (before_step s r) x) x) o)
      asked_r) ∙ is)

  -- what the round's service is, as the round found it
  same_service : {X : Type 0} (K : Served → X)
      → ((served : Served) (channels : List Gvcid) (i : Invocation) (a : Replied) (now : ℕ)
      → K (concluded_by served channels i a now).served ≡ K served)
      → K stood.service ≡ K s.standing.service
  same_service K concluded_so = by (acts site s r told asked_r).acts
    where
      none_told : Unasked (schedule_of stood.service) → ⊥
      none_told none =
          undue stood.service (reply_in told.answer) stood.moment message none told_parts.1

      by : Acts site (at_moment (before_step s r).standing told.moment) (next_of (before_step s r))
          (reply_in told.answer) stood → K stood.service ≡ K s.standing.service
      by (stays e) = ap K (e ∙ found site s r)
      by (gone e) =
          absurd (none_told (subst Unasked (sym (ap schedule_of e ∙ none_sched)) unasked_none))
      by (binds m b busy at so e) =
          absurd (none_told (subst Unasked (sym (ap schedule_of e))
          (from_none (schedule_of (service_bound site (bind_judged site b) (reply_in told.answer).reply))
          (bound_sched site (bind_judged site b) (reply_in told.answer).reply None))))
      by (concludes m i busy at so may e) =
          let u = at_moment (before_step s r).standing told.moment in
          ap K e ∙ concluded_so u.service (permitted site u) i (reply_in told.answer) u.moment
          ∙ ap K (found site s r)

pub reports_say : ReportsSay
reports_say = record {
  of_return = λ site s r told own message asked_r bound is.
      let w = acted_on site (before_step s r) told in
      own_says w.service (reply_in told.answer) w.moment message own.kind own.counts
      (same_service site s r told asked_r message is
      (λ served. option_map (λ (x : Serving). x.kind) (return_of served))
      (concluded_own (λ (x : Serving). x.kind) (λ x y. refl) (λ x c kept. refl))
      ∙ ap (option_map (λ (x : Serving). x.kind)) bound)
      (same_service site s r told asked_r message is counts_of
      (concluded_own (λ (x : Serving). x.counts) (λ x y. refl) (λ x c kept. refl))
      ∙ ap (option_map (λ (x : Serving). x.counts)) bound)
      (told_parts site s r told asked_r message is).1;
  of_forward = λ site s r told message asked_r forward is.
      let w = acted_on site (before_step s r) told in
      forward_says w.service (reply_in told.answer) w.moment message
      (same_service site s r told asked_r message is is_forward_in concluded_forward ∙ forward)
      (told_parts site s r told asked_r message is).1;
}

-- ---- in the block

some_octets : (before after : List ℕ) (c : Content)
    → not (length (before ++ (spelling c ++ after)) == 0) ≡ true
some_octets (x ∷ before) after c = grind arith
some_octets [] after (pdu body) = grind arith
some_octets [] after (link_context interval factor) = grind arith
some_octets [] after beat = grind arith

told_is_in : (site : Site) (s : Standing) (message : Message)
    → IsIn message (told_more site s (Some message)).block
told_is_in site s message =
    let signed = own_credentials site (bound_peer site s) kind.report s.numbers s.moment in
    record {
      credentials = signed;
      before = s.block;
      after = [];
      is = ap (λ (xs : List ℕ). s.block ++ xs) (sym (append-nil (spelling (message signed))));
    }

more_is_in : (site : Site) (s : Standing) (message : Message) (o : Option Message)
    → IsIn message s.block → IsIn message (told_more site s o).block
more_is_in site s message None h = h
more_is_in site s message (Some other) h =
    let signed = own_credentials site (bound_peer site s) kind.report s.numbers s.moment in
    let more = spelling (other signed) in
    record {
      credentials = h.credentials;
      before = h.before;
      after = h.after ++ more;
      is = ap (λ (xs : List ℕ). xs ++ more) h.is
          ∙ append_assoc h.before (spelling (message h.credentials) ++ h.after) more
          ∙ ap (λ (xs : List ℕ). h.before ++ xs)
          (append_assoc (spelling (message h.credentials)) h.after more);
    }

notice_is_in : (site : Site) (s : Standing) (message : Message) (notice : Option Notice)
    → IsIn message s.block → IsIn message (with_notice site s notice).block
notice_is_in site s message notice h = by (may_tell s) notice
  where
    by : (b : Bool) (o : Option Notice) → IsIn message (if b then noticed site s o else s).block
    by false o = h
    by true None = h
    by true (Some n) = more_is_in site s message (told_by_service s.service n) h

no_beat : (live has due : Bool) → has ≡ true → (live && not has && due) ≡ false
no_beat live has due e = grind arith

beat_is_in : (s : Standing) (message : Message) → IsIn message s.block
    → IsIn message (with_heartbeat s).block
beat_is_in s message h =
    let has : has_block s ≡ true =
    ap (λ (xs : List ℕ). not (length xs == 0)) h.is
    ∙ some_octets h.before h.after (message h.credentials) in
    subst (λ (b : Bool). IsIn message (if b then record s { block = spelling beat } else s).block)
    (sym (no_beat (is_live s.course) (has_block s) (is_due (pulse_of s) s.moment) has)) h

service_block : (site : Site) (was : Bool) (g : Glimpse) (s : Standing)
    → (with_service site was g s).block ≡ s.block
service_block site was g s = by (may_serve was s)
  where
    inner : (has : Bool) (x : Standing) (f : Fixed) → (if has then x else with_fixed x f).block ≡ x.block
    inner true x f = refl
    inner false x f = refl

    by : (b : Bool) → (if b then fixed site (stepped_by g s) else s).block ≡ s.block
    by true =
        let x = stepped_by g s in
        inner (has_outgoing x) x (fixed_by x.service site (bound_peer site x) x.numbers x.moment)
    by false = refl

-- what is in the block behind the notice is in the one that is offered
step_block : (site : Site) (s : Standing) (next : Next) (now : ℕ) (r : Replied) (message : Message) →
    let w = timed (acted site (at_moment s now) next r) in
    IsIn message (with_notice site (with_report site w r) r.notice).block
    → IsIn message (after_step site s next now r).block
step_block site s next now r message h =
    let w = timed (acted site (at_moment s now) next r) in
    let n = with_notice site (with_report site w r) r.notice in
    subst (IsIn message)
    (sym (service_block site (is_active s.association) r.glimpse (unasked site r w)))
    (beat_is_in n message h)

spoke_block : (site : Site) (s : State) (r : Round) (told : BookAnswer) (message : Message)
    → r.told ≡ Some told → let w = acted_on site (before_step s r) told in
    let reply = reply_in told.answer in
    IsIn message (with_notice site (with_report site w reply) reply.notice).block
    → IsIn message (before_speak site s r).standing.block
spoke_block site s r told message is h =
    let t = before_step s r in
    subst (λ (o : Option BookAnswer). IsIn message (stepped site t o).standing.block) (sym is)
    (step_block site t.standing (next_of t) told.moment (reply_in told.answer) message h)

report_block : (site : Site) (w : Standing) (r : Replied) (message : Message)
    → may_tell w ≡ true → (reported_by w.service r w.moment).report ≡ Some message
    → IsIn message (with_report site w r).block
report_block site w r message may is =
    let x : Standing = record w { service = (reported_by w.service r w.moment).served } in
    subst (λ (b : Bool). IsIn message
    (if b then reported site w (reported_by w.service r w.moment) else w).block)
    (sym may)
    (subst (λ (o : Option Message). IsIn message (told_more site x o).block) (sym is)
    (told_is_in site x message))

reported_forward : (served : Served) (r : Replied) (now : ℕ)
    → is_forward_in (reported_by served r now).served ≡ is_forward_in served
unfolding is_forward_in reported_by
reported_forward serves.Nothing r now = refl
reported_forward (serves.Return own) r now = refl
reported_forward (serves.Fcltu f) r now = refl

forward_tells : (served : Served) (notice : Notice) → is_forward_in served ≡ true
    → told_by_service served notice ≡ Some (fcltu_notified notice)
unfolding is_forward_in told_by_service
forward_tells serves.Nothing notice is = absurd (cc is)
forward_tells (serves.Return own) notice is = absurd (cc is)
forward_tells (serves.Fcltu f) notice is = refl

more_may : (site : Site) (s : Standing) (o : Option Message)
    → may_tell (told_more site s o) ≡ may_tell s
more_may site s None = refl
more_may site s (Some message) = refl

notice_block : (site : Site) (w : Standing) (r : Replied) (notice : Notice)
    → may_tell w ≡ true → is_forward_in w.service ≡ true → r.notice ≡ Some notice
    → IsIn (fcltu_notified notice) (with_notice site (with_report site w r) r.notice).block
notice_block site w r notice may forward is =
    let told = reported_by w.service r w.moment in
    let x : Standing = record w { service = told.served } in
    let own : with_report site w r ≡ told_more site x told.report =
    ap (λ (b : Bool). if b then reported site w told else w) may in
    let y : Standing = told_more site x told.report in
    let may_y : may_tell y ≡ true = more_may site x told.report ∙ may in
    let forward_y : is_forward_in y.service ≡ true =
    ap is_forward_in (more_keeps site x told.report)
    ∙ reported_forward w.service r w.moment ∙ forward in
    subst (λ (z : Standing). IsIn (fcltu_notified notice) (with_notice site z r.notice).block) (sym own)
    (subst (λ (o : Option Notice). IsIn (fcltu_notified notice) (with_notice site y o).block) (sym is)
    (subst (λ (b : Bool). IsIn (fcltu_notified notice) (if b then noticed site y (Some notice) else y).block)
    (sym may_y)
    (subst (λ (o : Option Message). IsIn (fcltu_notified notice) (told_more site y o).block)
    (sym (forward_tells y.service notice forward_y)) (told_is_in site y (fcltu_notified notice)))))

pub tells_in_block : TellsInBlock
tells_in_block = record {
  report = λ site s r message is. by site s r message is r.told refl;
  notice = λ site s r told notice asked_r is may forward.
      let w = acted_on site (before_step s r) told in
      spoke_block site s r told (fcltu_notified notice) asked_r
      (notice_block site w (reply_in told.answer) notice (sym (may_is site s r told asked_r) ∙ may)
      forward is);
}
  where
    by : (site : Site) (s : State) (r : Round) (message : Message)
        → report_in site s r ≡ Some message → (o : Option BookAnswer) → r.told ≡ o
        → IsIn message (before_speak site s r).standing.block
    by site s r message is None none =
        let nothing : None ≡ Some message =
        sym (ap (λ (o : Option BookAnswer).
        option_and_then (λ (x : BookAnswer). report_at (acted_on site (before_step s r) x) x) o)
        none) ∙ is in
        absurd (cc nothing)
    by site s r message is (Some told) asked_r =
        let w = acted_on site (before_step s r) told in
        let parts = told_parts site s r told asked_r message is in
        spoke_block site s r told message asked_r
        (notice_is_in site (with_report site w (reply_in told.answer)) message
        (reply_in told.answer).notice
        (report_block site w (reply_in told.answer) message parts.0 parts.1))
