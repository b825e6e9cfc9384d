-- The rounds of a session that serves are visits of its delivery.
use Rattle.std.proofs.Common.{◌≡◌, ℕ, ◌≤◌, Bool, true, false, not, ◌&&◌, ◌||◌, ◌==◌, if◌then◌else◌}
use Rattle.std.proofs.Common.{Option, Some, None, Ok, Err, List, [], ◌∷◌, ◌++◌, length, take, refl}
use Rattle.std.proofs.Common.{sym, ap, subst, ◌∙◌, arith}
use Rattle.std.specs.Prelude.{is_some, IsTrue}
use Rattle.std.specs.List.{cons_option}
use Rattle.std.specs.Option.{option_map, option_map_or, option_to_list}
use Rattle.octet_core.specs.declared.offer.Offer.{Offer}
use Rattle.octet_core.specs.declared.offer.Offer.TheVariants.{Whole, Stalled, Failed as Refused}
use Rattle.archive_terms.specs.Archive.{Entry}
use Rattle.archive_terms.specs.Glimpse.{Glimpse, Want, glimpse, wants_nothing}
use Rattle.archive_terms.specs.Placed.{ToldItem}
use Rattle.archive_terms.specs.Delivery.{Terms}
use Rattle.archive_terms.specs.Rounds.{whole, stall, nothing, Round as DeliveryRound, last_front}
use Rattle.frame_select.specs.Glimpse.{as_said}
use Rattle.isp1_tml.specs.Beat.{Pulse}
use Rattle.ber_core.specs.Spelling.{canonical}
use Rattle.buffer_message.specs.Message.{buffer_tree}
use Rattle.isp1_tml.specs.Message.{pdu, spelling, heartbeat as beat}
use Rattle.link_model.specs.declared.call.Heard.{Heard}
use Rattle.link_model.specs.declared.call.Heard.TheVariants.{Arrived, Nothing as HeardNothing}
use Rattle.link_model.specs.declared.call.Heard.TheVariants.{Closed, Failed}
use Rattle.link_model.specs.Calls.{blocks_in}
use Rattle.return_core.specs.Course.{Run, Course, is_offering, held_of, with_step, with_answer}
use Rattle.return_core.specs.Course.{run_answered, run_stepped, want_of_course}
use Rattle.return_core.specs.Mode.{answer_of}
use Rattle.return_core.specs.Visits.{Visit, passed, stepped as visit_stepped, visited, after_visits}
use Rattle.return_core.specs.Visits.{visits_handed, visits_done, handed_in, done_in, discard_told}
use Rattle.return_core.specs.Visits.{discards_told, fate_by, run_fate, answered_by, handed_where}
use Rattle.return_core.specs.Visits.{done_where, front_of, IsLook, AreLooks, round_of, rounds_of}
use Rattle.return_core.specs.Visits.{VisitsStand}
use Rattle.return_core.specs.Standing.{goes_on, all_go_on, StandsFor}
use Rattle.report_cycle.specs.Schedule.{is_due as is_report_due, with_report as schedule_reported}
use Rattle.return_pdu.specs.declared.return_kind.ReturnKind.{ReturnKind}
use Rattle.return_service.specs.Serving.{Serving, reported as report_made}
use Rattle.isp1_auth.specs.Numbers.{next_number}
use Rattle.sle_common.specs.declared.gvcid.Gvcid.{Gvcid}
use Rattle.buffer_message.specs.Signing.{Signing}
use Rattle.buffer_message.specs.Fitting.{fits_message}
use Rattle.sle_numbers.specs.declared.peer_abort_diagnostic.PeerAbortDiagnostic.TheVariants.{CommunicationsFailure, OtherReason}
use Rattle.bind_pdu.specs.Binding.{BindContent}
use Rattle.bind_pdu.specs.Unbinding.{UnbindContent}
use Rattle.station_config.specs.declared.peer.Peer.{Peer}
use Rattle.station_config.specs.declared.site.Site.{Site}
use Rattle.assoc_core.specs.Kind as kind
use Rattle.assoc_core.specs.Association.{after_step as after_judgement}
use Rattle.assoc_core.specs.State.{moved}
use Rattle.assoc_core.specs.declared.state.State.{State as Association}
use Rattle.assoc_core.specs.declared.state.State.TheVariants as state
use Rattle.assoc_core.specs.declared.state.Binding.{Binding}
use Rattle.assoc_core.specs.declared.step.Step.{Step}
use Rattle.assoc_core.specs.declared.step.Step.TheVariants.{Pass, Denied, Abort}
use Rattle.cltu_queue.specs.declared.ask.Ask.TheVariants as ask
use Rattle.cltu_queue.specs.declared.notice.Notice.{Notice}
use Rattle.session_services.specs.declared.service_state.ServiceState.TheVariants as serves
use Rattle.session_core.specs.declared.standing.Standing.{Standing}
use Rattle.session_core.specs.declared.course.Course.{Course as Going}
use Rattle.session_core.specs.declared.ended.Ended.TheVariants.{PeerClosed}
use Rattle.session_core.specs.Course.{is_going, is_live, is_over, is_blocked, has_closed}
use Rattle.session_services.specs.Inquiry.{Inquiry, only_asks, Replied, reply_in}
use Rattle.session_core.specs.Message.{UserContent, context, heartbeat, bind, unbind, peer_abort}
use Rattle.session_core.specs.Message.{invocation, undecoded, out_of_place, judged}
use Rattle.session_services.specs.Service.{Invocation, return_starts, cltu_starts, transfers}
use Rattle.session_services.specs.Service.{throws, stops, schedules, gets}
use Rattle.session_services.specs.Service.{undecoded as no_invocation, invocation_kind, leaves_running}
use Rattle.session_services.specs.Served.{Served, Message, Fixed, concluded_by, want_served}
use Rattle.session_services.specs.Served.{served_step, served_settled, dropped_by, fixed_by, reported_by}
use Rattle.session_services.specs.Served.{told_by_service}
use Rattle.session_services.specs.ReturnServed.{buffer_due, buffer_fixed, item_signing}
use Rattle.session_core.specs.ServiceSteps.{answered_with, after_stall, is_active, has_outgoing}
use Rattle.session_core.specs.ServiceSteps.{spelled, told_more, reported, noticed, with_report}
use Rattle.session_core.specs.ServiceSteps.{with_notice, may_tell, may_serve, fixed}
use Rattle.session_core.specs.ServiceSteps.{stepped_by, with_fixed, led_to, settled, permitted}
use Rattle.session_core.specs.Returns.{bound_peer}
use Rattle.session_core.specs.Handling.{is_lost, invoked, concluded, after_passing, said_ask}
use Rattle.session_core.specs.Handling.{aborted, ended_by}
use Rattle.session_core.specs.Steps.{Next, at_moment, is_idle, idle_ask, next_ask, inquiry_entered}
use Rattle.session_core.specs.Steps.{with_next, acted, timed, unasked, with_want, said_to, stays_running}
use Rattle.session_core.specs.Steps.{running_want, pulse_of, is_dead, round_begun, round_ended}
use Rattle.session_core.specs.Steps.{with_heartbeat, after_step, has_block, may_send, inquiry_at}
use Rattle.session_core.specs.Steps.{is_due}
use Rattle.session_core.specs.Session.{State, Round, BookAnswer, next_of, stepped, standing_waited}
use Rattle.session_core.specs.Session.{standing_heard, standing_spoke, standing_sent, spoken_state}
use Rattle.session_core.specs.Session.{before_step, after_round, after_rounds, AreRounds}
use Rattle.session_core.specs.Session.{send_calls, listened}
use Rattle.session_core.specs.Laws.{ServiceLeaves}
use Rattle.session_laws.specs.Deliveries.{return_of, is_serving, ServesOn, IsMessageOf}
use Rattle.session_laws.specs.Deliveries.{AreMessagesOf, Delivers, visit_by, visits_of, sent_of}
use Rattle.session_laws.specs.Deliveries.{dropped_of, IsLookAt, front_behind, SeeEntries}
use Rattle.session_laws.specs.Deliveries.{AreVisits, StartsDeliver}

-- ---- what each service makes of its delivery

-- which kind of service the bound instance is one of, with its delivery
abbrev pub kept_so : Serving → ReturnKind × Course
kept_so r = (r.kind, r.course)

abbrev pub kept_of : Served → Option (ReturnKind × Course)
kept_of served = option_map kept_so (return_of served)

kept_both : (o : Option Serving) (service : ReturnKind) (c : Course)
    → option_map (λ r. r.kind) o ≡ Some service → option_map (λ r. r.course) o ≡ Some c
    → option_map kept_so o ≡ Some (service, c)
kept_both None service c is e = absurd (cc)
kept_both (Some r) service c is e =
    ap (option_map (λ (k : ReturnKind). (k, r.course))) is
    ∙ ap (option_map (λ (x : Course). (service, x))) e

pub kept_kind : (o : Option Serving) (service : ReturnKind) (c : Course)
    → option_map kept_so o ≡ Some (service, c) → option_map (λ r. r.kind) o ≡ Some service
kept_kind None service c e = absurd (cc)
kept_kind (Some r) service c e = ap (option_map (λ (x : ReturnKind × Course). x.0)) e

pub kept_course : (o : Option Serving) (service : ReturnKind) (c : Course)
    → option_map kept_so o ≡ Some (service, c) → option_map (λ r. r.course) o ≡ Some c
kept_course None service c e = absurd (cc)
kept_course (Some r) service c e = ap (option_map (λ (x : ReturnKind × Course). x.1)) e

-- a session delivers, as an instance of this kind
pub record DeliversAs (service : ReturnKind) (s : Standing) (c : Course) : Type 0 where
  pub delivery : kept_of s.service ≡ Some (service, c)
  pub offers : has_outgoing s ≡ true → IsTrue (is_offering c)
  pub message : has_outgoing s ≡ true → IsMessageOf service s.outgoing (held_of c)

pub delivers_as : (s : Standing) (c : Course) (d : Delivers s c) → DeliversAs d.kind s c
delivers_as s c d = record {
  delivery = kept_both (return_of s.service) d.kind c d.is_kind d.delivery;
  offers = d.offers;
  message = d.message;
}

abbrev pub so_delivers : (service : ReturnKind) (s : Standing) (c : Course) → DeliversAs service s c
    → Delivers s c
so_delivers service s c d = record {
  kind = service;
  is_kind = kept_kind (return_of s.service) service c d.delivery;
  delivery = kept_course (return_of s.service) service c d.delivery;
  offers = d.offers;
  message = d.message;
}

-- what a service's instance makes of its delivery
pub its_course : (service : ReturnKind) (own : Serving) (c : Course)
    → Some (kept_so own) ≡ Some (service, c) → own.course ≡ c
its_course service own c e = cc (ap (option_map (λ (x : ReturnKind × Course). x.1)) e)

pub its_kind : (service : ReturnKind) (own : Serving) (c : Course)
    → Some (kept_so own) ≡ Some (service, c) → own.kind ≡ service
its_kind service own c e = cc (ap (option_map (λ (x : ReturnKind × Course). x.0)) e)

its_after : (f : Course → Course) (service : ReturnKind) (own : Serving) (c : Course)
    → Some (kept_so own) ≡ Some (service, c)
    → Some (kept_so (record own { course = f own.course })) ≡ Some (service, f c)
its_after f service own c e = ap (option_map (λ (x : ReturnKind × Course). (x.0, f x.1))) e

wants : (service : ReturnKind) (served : Served) (c : Course)
    → kept_of served ≡ Some (service, c)
    → want_served served ≡ want_of_course c
unfolding return_of want_served
wants service (serves.Return r) c e = ap want_of_course (its_course service r c e)
wants service _ c e = absurd (cc)

steps : (service : ReturnKind) (served : Served) (c : Course) (g : Glimpse) (now : ℕ)
    → kept_of served ≡ Some (service, c)
    → kept_of (served_step g now served) ≡ Some (service, with_step c g now)
unfolding return_of served_step
steps service (serves.Return r) c g now e =
    its_after (λ (x : Course). with_step x g now) service r c e
steps service _ c g now e = absurd (cc)

settles : (service : ReturnKind) (served : Served) (c : Course) (said : Offer)
    → kept_of served ≡ Some (service, c)
    → kept_of (served_settled said served) ≡ Some (service, with_answer c (answer_of said))
unfolding return_of served_settled
settles service (serves.Return r) c said e =
    its_after (λ (x : Course). with_answer x (answer_of said)) service r c e
settles service _ c said e = absurd (cc)

drops : (service : ReturnKind) (served : Served) (c : Course)
    → kept_of served ≡ Some (service, c)
    → dropped_by served ≡ discard_told (fate_by c stall)
unfolding return_of dropped_by
drops service (serves.Return r) c e =
    ap (λ (x : Course). discard_told (fate_by x stall)) (its_course service r c e)
drops service _ c e = absurd (cc)

pub report_leaves : (now : ℕ) (s : Serving) → (report_made now s).course ≡ s.course
report_leaves now s = by (is_report_due s.schedule now)
  where
    by : (due : Bool)
        → (if due then record s { schedule = schedule_reported now s.schedule } else s).course
        ≡ s.course
    by true = refl
    by false = refl

-- a report leaves which service it is, and its delivery
pub report_kind : (now : ℕ) (s : Serving) → (report_made now s).kind ≡ s.kind
report_kind now s = by (is_report_due s.schedule now)
  where
    by : (due : Bool)
        → (if due then record s { schedule = schedule_reported now s.schedule } else s).kind
        ≡ s.kind
    by true = refl
    by false = refl

reports : (service : ReturnKind) (served : Served) (c : Course) (r : Replied) (now : ℕ)
    → kept_of served ≡ Some (service, c)
    → kept_of (reported_by served r now).served ≡ Some (service, c)
unfolding return_of reported_by
reports service (serves.Return s) c r now e = rw (report_kind now s, report_leaves now s) e
reports service _ c r now e = absurd (cc)

-- the message that is due is that of the buffer that is to be offered
abbrev is_spelled : Fixed → Bool
is_spelled f = not (length (spelled f.message) == 0)

record Fixes (service : ReturnKind) (c : Course) (f : Fixed) : Type 0 where
  offers : is_spelled f ≡ true → IsTrue (is_offering c)
  message : is_spelled f ≡ true → IsMessageOf service (spelled f.message) (held_of c)
  due : is_spelled f ≡ (is_offering c && fits_message (held_of c))

some_octets : (body : List ℕ) → not (length (spelling (pdu body)) == 0) ≡ true
some_octets body = grind arith

and_first : (a b : Bool) → (a && b) ≡ true → a ≡ true
and_first a b e = grind arith

and_second : (a b : Bool) → (a && b) ≡ true → b ≡ true
and_second a b e = grind arith

due_fixes : (service : ReturnKind) (c : Course) (due : Bool) (by : Option Signing) (numbers : ℕ)
    → (is_offering c && fits_message (held_of c)) ≡ due
    → Fixes service c
    (if due then buffer_fixed service by numbers (held_of c)
    else record { message = None; numbers = numbers })
due_fixes service c true None numbers e = record {
  offers = λ h. and_first (is_offering c) (fits_message (held_of c)) e;
  message = λ h. record {
    by = None;
    first = 0;
    octets_are = refl;
    fits = and_second (is_offering c) (fits_message (held_of c)) e;
  };
  due = some_octets (canonical (buffer_tree service None 0 (held_of c))) ∙ sym e;
}
due_fixes service c true (Some by) numbers e = record {
  offers = λ h. and_first (is_offering c) (fits_message (held_of c)) e;
  message = λ h. record {
    by = Some by;
    first = next_number numbers;
    octets_are = refl;
    fits = and_second (is_offering c) (fits_message (held_of c)) e;
  };
  due =
      some_octets (canonical (buffer_tree service (Some by) (next_number numbers) (held_of c)))
      ∙ sym e;
}
due_fixes service c false by numbers e =
    record { offers = λ h. absurd (cc); message = λ h. absurd (cc); due = sym e }

fixes_so : (service : ReturnKind) (own c : Course) (site : Site) (peer : Option Peer)
    (numbers now : ℕ) → own ≡ c → Fixes service c (buffer_due service own site peer numbers now)
fixes_so service own c site peer numbers now e =
    subst (λ (x : Course). Fixes service x (buffer_due service own site peer numbers now)) e
    (due_fixes service own (is_offering own && fits_message (held_of own))
    (item_signing site peer now) numbers refl)

fixes : (service : ReturnKind) (served : Served) (c : Course) (site : Site) (peer : Option Peer)
    (numbers now : ℕ)
    → kept_of served ≡ Some (service, c) → Fixes service c (fixed_by served site peer numbers now)
unfolding return_of fixed_by
fixes service (serves.Return r) c site peer numbers now e =
    subst (λ (x : ReturnKind). Fixes service c (buffer_due x r.course site peer numbers now))
    (sym (its_kind service r c e))
    (fixes_so service r.course c site peer numbers now (its_course service r c e))
fixes service _ c site peer numbers now e = absurd (cc)

-- an invocation that leaves a session serving leaves its delivery
record Invokes (service : ReturnKind) (served : Served) (channels : List Gvcid) (i : Invocation)
    (r : Replied) (now : ℕ)
    (c : Course) : Type 0 where
  runs : leaves_running i ≡ true
  delivery : kept_of (concluded_by served channels i r now).served ≡ Some (service, c)

pub invoked_same : (a : Association) (i : Invocation)
    → after_judgement a (invocation_kind i) Pass ≡ a
invoked_same a i = grind arith

invokes : (service : ReturnKind) (served : Served) (c : Course) (channels : List Gvcid)
    (site : Site) (b : Binding)
    (i : Invocation) (r : Replied) (at now : ℕ) → kept_of served ≡ Some (service, c)
    → judged site (state.Active b) (invocation i) at ≡ Pass
    → is_active (moved (state.Active b) (concluded_by served channels i r now).outcome) ≡ true
    → Invokes service served channels i r now c
unfolding return_of concluded_by
invokes service served c channels site b (return_starts s) r at now e pass still = absurd (cc)
invokes service served c channels site b (cltu_starts s) r at now e pass still = absurd (cc)
invokes service served c channels site b no_invocation r at now e pass still = absurd (cc)
invokes service (serves.Return s) c channels site b (stops i) r at now e pass still = absurd (cc)
invokes service (serves.Return s) c channels site b (transfers i) r at now e pass still =
    record { runs = refl; delivery = e }
invokes service (serves.Return s) c channels site b (throws i) r at now e pass still =
    record { runs = refl; delivery = e }
invokes service (serves.Return s) c channels site b (schedules i) r at now e pass still =
    record { runs = refl; delivery = e }
invokes service (serves.Return s) c channels site b (gets i) r at now e pass still =
    record { runs = refl; delivery = e }
invokes service _ c channels site b i r at now e pass still = absurd (cc)

-- ---- a delivery at the steps of a round

run_fixed : (g : Glimpse) (now : ℕ) (r : Run) → r.placed.fixed ≡ true → run_stepped g now r ≡ r
run_fixed g now r e = grind arith

run_stalled : (r : Run) → r.placed.fixed ≡ true → discard_told (run_fate stall r) ≡ None
    → run_answered stall r ≡ r
run_stalled r e none = grind arith

-- a buffer that is to be offered stays
stays_fixed : (c : Course) (g : Glimpse) (now : ℕ) → IsTrue (is_offering c)
    → with_step c g now ≡ c
stays_fixed c g now e = by c.run refl
  where
    by : (o : Option Run) → c.run ≡ o → with_step c g now ≡ c
    by None is =
        ap (λ (x : Option Run). record c { run = option_map (run_stepped g now) x }) is
        ∙ sym (ap (λ (x : Option Run). record c { run = x }) is)
    by (Some r) is =
        let held : r.placed.fixed ≡ true =
        sym (ap (λ (x : Option Run). option_map_or (λ (y : Run). y.placed.fixed) x false) is) ∙ e in
        ap (λ (x : Option Run). record c { run = option_map (run_stepped g now) x }) is
        ∙ ap (λ (x : Run). record c { run = Some x }) (run_fixed g now r held)
        ∙ sym (ap (λ (x : Option Run). record c { run = x }) is)

-- so it does where the link stalls and nothing is discarded
stays_kept : (c : Course) → IsTrue (is_offering c) → discard_told (fate_by c stall) ≡ None
    → with_answer c stall ≡ c
stays_kept c e none = by c.run refl
  where
    by : (o : Option Run) → c.run ≡ o → with_answer c stall ≡ c
    by None is =
        ap (λ (x : Option Run). record c { run = option_map (run_answered stall) x }) is
        ∙ sym (ap (λ (x : Option Run). record c { run = x }) is)
    by (Some r) is =
        let held : r.placed.fixed ≡ true =
        sym (ap (λ (x : Option Run). option_map_or (λ (y : Run). y.placed.fixed) x false) is) ∙ e in
        let kept : discard_told (run_fate stall r) ≡ None =
        sym (ap (λ (x : Option Run). discard_told (option_map_or (run_fate stall) x nothing)) is)
        ∙ none in
        ap (λ (x : Option Run). record c { run = option_map (run_answered stall) x }) is
        ∙ ap (λ (x : Run). record c { run = Some x }) (run_stalled r held kept)
        ∙ sym (ap (λ (x : Option Run). record c { run = x }) is)

-- ---- what leaves a session's service

has_same : (s t : Standing) → t.outgoing ≡ s.outgoing → has_outgoing t ≡ true
    → has_outgoing s ≡ true
has_same s t e has = sym (ap (λ (x : List ℕ). not (length x == 0)) e) ∙ has

-- its service, what it offers and its association stay, and it goes on only where it did
pub record Same (s t : Standing) : Type 0 where
  pub service : t.service ≡ s.service
  pub outgoing : t.outgoing ≡ s.outgoing
  pub association : t.association ≡ s.association
  pub going : is_going t.course ≡ true → is_going s.course ≡ true

same_on : (s t u : Standing) → Same s t → Same t u → Same s u
same_on s t u h k = record {
  service = k.service ∙ h.service;
  outgoing = k.outgoing ∙ h.outgoing;
  association = k.association ∙ h.association;
  going = λ g. h.going (k.going g);
}

same_waited : (s : Standing) (o : Option Offer) → Same s (standing_waited s o)
same_waited s None =
    record { service = refl; outgoing = refl; association = refl; going = λ g. g }
same_waited s (Some Whole) =
    record { service = refl; outgoing = refl; association = refl; going = λ g. g }
same_waited s (Some Stalled) =
    record { service = refl; outgoing = refl; association = refl; going = λ g. g }
same_waited s (Some Refused) =
    record { service = refl; outgoing = refl; association = refl; going = λ g. absurd (cc) }

same_heard : (s : Standing) (o : Option Heard) → Same s (standing_heard s o)
same_heard s None =
    record { service = refl; outgoing = refl; association = refl; going = λ g. g }
same_heard s (Some (Arrived octets)) =
    record { service = refl; outgoing = refl; association = refl; going = λ g. g }
same_heard s (Some HeardNothing) =
    record { service = refl; outgoing = refl; association = refl; going = λ g. g }
same_heard s (Some Closed) =
    record { service = refl; outgoing = refl; association = refl; going = λ g. g }
same_heard s (Some Failed) =
    record { service = refl; outgoing = refl; association = refl; going = λ g. absurd (cc) }

pub same_spoke : (s : Standing) (o : Option Offer) → Same s (standing_spoke s o)
same_spoke s None =
    record { service = refl; outgoing = refl; association = refl; going = λ g. g }
same_spoke s (Some Whole) =
    record { service = refl; outgoing = refl; association = refl; going = λ g. g }
same_spoke s (Some Stalled) =
    record { service = refl; outgoing = refl; association = refl; going = λ g. g }
same_spoke s (Some Refused) =
    record { service = refl; outgoing = refl; association = refl; going = λ g. absurd (cc) }

pub same_listened : (s : State) (waited : Option Offer) (heard : Option Heard)
    → Same s.standing (listened s waited heard).standing
same_listened s waited heard =
    let t = round_begun s.standing in
    let u = standing_waited t waited in
    same_on s.standing u _
    (same_on s.standing t u
    (record { service = refl; outgoing = refl; association = refl; going = λ g. g })
    (same_waited t waited))
    (same_heard u heard)

pub delivers_same : (service : ReturnKind) (s t : Standing) (c : Course) → Same s t
    → DeliversAs service s c → DeliversAs service t c
delivers_same service s t c h d = record {
  delivery = ap kept_of h.service ∙ d.delivery;
  offers = λ has. d.offers (has_same s t h.outgoing has);
  message = λ has.
      subst (λ (x : List ℕ). IsMessageOf service x (held_of c)) (sym h.outgoing)
      (d.message (has_same s t h.outgoing has));
}

-- ---- a message

-- A message, or none, leaves what a session that serves behind it makes of its delivery; and the
-- round wanted what the delivery wants, unless the dead timer ran out.
record Goes (service : ReturnKind) (u v : Standing) (c : Course) (want : Want) : Type 0 where
  delivery : kept_of v.service ≡ Some (service, c)
  outgoing : v.outgoing ≡ u.outgoing
  pulse : pulse_of v ≡ pulse_of u
  moment : v.moment ≡ u.moment
  arrival : v.arrival ≡ u.arrival
  wants_it : is_blocked u.arrival ≡ false → want ≡ running_want u u.moment

pub serving_going : (s : Standing) → is_serving s ≡ true → is_going s.course ≡ true
serving_going s e = and_first (is_going s.course) (is_active s.association) e

pub serving_active : (s : Standing) → is_serving s ≡ true → is_active s.association ≡ true
serving_active s e = and_second (is_going s.course) (is_active s.association) e

-- what ends the session, or is its last, is followed by no serving
pub not_serving : (v : Standing) → is_going v.course ≡ false → is_serving v ≡ true → ⊥
not_serving v still e = absurd (cc (serving_going v e, still))

stay_goes : (service : ReturnKind) (u v : Standing) (c : Course) (stays : Bool) (i : Inquiry)
    → stays ≡ true
    → kept_of v.service ≡ Some (service, c) → v.outgoing ≡ u.outgoing → pulse_of v ≡ pulse_of u
    → v.moment ≡ u.moment → v.arrival ≡ u.arrival
    → Goes service u v c (with_want stays u u.moment i).want
stay_goes service u v c false i e delivery outgoing pulse moment arrival = absurd (cc)
stay_goes service u v c true i e delivery outgoing pulse moment arrival = record {
  delivery = delivery;
  outgoing = outgoing;
  pulse = pulse;
  moment = moment;
  arrival = arrival;
  wants_it = λ free. refl;
}

answered_pulse : (site : Site) (s : Standing) (k : kind.Kind) (message : Option Message)
    → pulse_of (answered_with site s k message) ≡ pulse_of s
answered_pulse site s k None = refl
answered_pulse site s k (Some message) = refl

answered_moment : (site : Site) (s : Standing) (k : kind.Kind) (message : Option Message)
    → (answered_with site s k message).moment ≡ s.moment
answered_moment site s k None = refl
answered_moment site s k (Some message) = refl

answered_arrival : (site : Site) (s : Standing) (k : kind.Kind) (message : Option Message)
    → (answered_with site s k message).arrival ≡ s.arrival
answered_arrival site s k None = refl
answered_arrival site s k (Some message) = refl

pub answered_outgoing : (site : Site) (s : Standing) (k : kind.Kind) (message : Option Message)
    → (answered_with site s k message).outgoing ≡ s.outgoing
answered_outgoing site s k None = refl
answered_outgoing site s k (Some message) = refl

pub answered_association : (site : Site) (s : Standing) (k : kind.Kind) (message : Option Message)
    → (answered_with site s k message).association ≡ s.association
answered_association site s k None = refl
answered_association site s k (Some message) = refl

idle_not : (blocked going : Bool) → (blocked || not going) ≡ true → blocked ≡ false
    → going ≡ true → ⊥
idle_not blocked going e f g = grind arith

pub record IsActive (a : Association) : Type 0 where
  pub binding : Binding
  pub so : a ≡ state.Active binding

pub active_is : (a : Association) → is_active a ≡ true → IsActive a
active_is (state.Active binding) e = record { binding = binding; so = refl }
active_is state.Opening e = absurd (cc)
active_is state.Unbound e = absurd (cc)
active_is (state.Ready binding) e = absurd (cc)
active_is state.Closing e = absurd (cc)

-- in active neither a context nor a BIND nor an UNBIND passes, and nothing that doesn't decode
pub context_not : (site : Site) (b : Binding) (interval factor now : ℕ)
    → judged site (state.Active b) (context interval factor) now ≡ Pass → ⊥
context_not site b interval factor now e = absurd (cc)

pub bind_not : (site : Site) (b : Binding) (c : BindContent) (now : ℕ)
    → judged site (state.Active b) (bind c) now ≡ Pass → ⊥
bind_not site b c now e = absurd (cc)

unbind_not : (site : Site) (b : Binding) (u : UnbindContent) (now : ℕ)
    → judged site (state.Active b) (unbind u) now ≡ Pass → ⊥
unbind_not site b u now e = absurd (cc)

undecoded_not : (site : Site) (b : Binding) (now : ℕ)
    → judged site (state.Active b) undecoded now ≡ Pass → ⊥
undecoded_not site b now e = absurd (cc)

placeless_not : (site : Site) (b : Binding) (now : ℕ)
    → judged site (state.Active b) out_of_place now ≡ Pass → ⊥
placeless_not site b now e = absurd (cc)

if_active : (b : Bool) (xs ys : List ℕ) → b ≡ true → (if b then xs else ys) ≡ xs
if_active true xs ys e = refl
if_active false xs ys e = absurd (cc)

module _ (service : ReturnKind) (site : Site) (u : Standing) (c : Course) (b : Binding)
    (active : u.association ≡ state.Active b)
    (delivery : kept_of u.service ≡ Some (service, c)) where
  abbrev judged_so : UserContent → Step → Type 0
  judged_so said st = judged site u.association said u.moment ≡ st

  at_active : (said : UserContent) → judged_so said Pass
      → judged site (state.Active b) said u.moment ≡ Pass
  at_active said e = sym (ap (λ (a : Association). judged site a said u.moment) active) ∙ e

  invocation_goes : (i : Invocation) (r : Replied) → judged_so (invocation i) Pass
      → is_serving (after_passing site (invoked u (invocation i) Pass) (invocation i) r) ≡ true
      → Goes service u (after_passing site (invoked u (invocation i) Pass) (invocation i) r) c
      (with_want (leaves_running i) u u.moment (said_ask site u.service (invocation i) Pass)).want
  invocation_goes i r pass serving =
      let t = invoked u (invocation i) Pass in
      let k = invocation_kind i in
      let channels = permitted site u in
      let done = concluded_by u.service channels i r u.moment in
      let v = answered_with site t k done.answer in
      let now = led_to done.outcome v in
      let same : v.association ≡ state.Active b =
      answered_association site t k done.answer ∙ invoked_same u.association i ∙ active in
      let still : is_active (moved v.association done.outcome) ≡ true =
      serving_active (record now { service = done.served }) serving in
      let kept =
      invokes service u.service c channels site b i r u.moment u.moment delivery
      (at_active (invocation i) pass)
      (sym (ap (λ (a : Association). is_active (moved a done.outcome)) same) ∙ still) in
      stay_goes service u (record now { service = done.served }) c (leaves_running i)
      (said_ask site u.service (invocation i) Pass) kept.runs
      kept.delivery
      (if_active (is_active (moved v.association done.outcome)) v.outgoing [] still
      ∙ answered_outgoing site t k done.answer)
      (answered_pulse site t k done.answer) (answered_moment site t k done.answer)
      (answered_arrival site t k done.answer)

  -- a message that passed
  passing_goes : (said : UserContent) (r : Replied) → judged_so said Pass
      → is_serving (after_passing site (invoked u said Pass) said r) ≡ true
      → Goes service u (after_passing site (invoked u said Pass) said r) c
      (with_want (stays_running said Pass) u u.moment (said_ask site u.service said Pass)).want
  passing_goes (context interval factor) r pass serving =
      absurd (context_not site b interval factor u.moment (at_active (context interval factor) pass))
  passing_goes heartbeat r pass serving =
      stay_goes service u (after_passing site (invoked u heartbeat Pass) heartbeat r) c true
      (said_ask site u.service heartbeat Pass) refl delivery refl refl refl refl
  passing_goes (bind x) r pass serving = absurd (bind_not site b x u.moment (at_active (bind x) pass))
  passing_goes (unbind x) r pass serving =
      absurd (unbind_not site b x u.moment (at_active (unbind x) pass))
  passing_goes (peer_abort diagnostic) r pass serving =
      absurd
      (not_serving
      (after_passing site (invoked u (peer_abort diagnostic) Pass) (peer_abort diagnostic) r) refl
      serving)
  passing_goes (invocation i) r pass serving = invocation_goes i r pass serving
  passing_goes undecoded r pass serving =
      absurd (undecoded_not site b u.moment (at_active undecoded pass))
  passing_goes out_of_place r pass serving =
      absurd (placeless_not site b u.moment (at_active out_of_place pass))

  not_aborted : (lost : Bool) (x y : Standing) → is_going x.course ≡ false
      → is_serving (if lost then x else y) ≡ true → lost ≡ false
  not_aborted true x y still serving = absurd (not_serving x still serving)
  not_aborted false x y still serving = refl

  judged_goes : (said : UserContent) (st : Step) (r : Replied) (lost : Bool) → is_lost r.reply ≡ lost
      → judged_so said st
      → is_serving
      (if lost then aborted (invoked u said st) OtherReason
      else concluded site (invoked u said st) said st r)
      ≡ true
      → Goes service u
      (if lost then aborted (invoked u said st) OtherReason
      else concluded site (invoked u said st) said st r) c
      (with_want (stays_running said st) u u.moment (said_ask site u.service said st)).want
  judged_goes said st r true e so serving =
      absurd (not_serving (aborted (invoked u said st) OtherReason) refl serving)
  judged_goes said Pass r false e so serving = passing_goes said r so serving
  judged_goes said Denied r false e so serving =
      absurd (not_serving (concluded site (invoked u said Denied) said Denied r) refl serving)
  judged_goes said (Abort d) r false e so serving =
      absurd (not_serving (concluded site (invoked u said (Abort d)) said (Abort d) r) refl serving)

  next_goes : (next : Next) (r : Replied) → is_serving (with_next site u next r) ≡ true
      → Goes service u (with_next site u next r) c (next_ask site u next u.moment).want
  next_goes (Err fault) r serving =
      absurd (not_serving (with_next site u (Err fault) r) refl serving)
  next_goes (Ok None) r serving = by (has_closed u.arrival) serving
    where
      by : (closed : Bool)
          → is_serving (if closed then ended_by u PeerClosed else u) ≡ true
          → Goes service u (if closed then ended_by u PeerClosed else u) c
          (with_want (not closed) u u.moment (only_asks ask.Nothing)).want
      by true e = absurd (not_serving (ended_by u PeerClosed) refl e)
      by false e = stay_goes service u u c true (only_asks ask.Nothing) refl delivery refl refl refl refl
  next_goes (Ok (Some message)) r serving =
      let said = said_to site u message in
      let st = judged site u.association said u.moment in
      judged_goes said st r (is_lost r.reply) refl refl serving

  acted_goes : (next : Next) (r : Replied) → is_serving u ≡ true
      → is_serving (acted site u next r) ≡ true
      → Goes service u (acted site u next r) c (inquiry_entered site u next).want
  acted_goes next r before serving = by (is_idle u) refl serving
    where
      by : (idle : Bool) → is_idle u ≡ idle
          → is_serving (if idle then u else with_next site u next r) ≡ true
          → Goes service u (if idle then u else with_next site u next r) c
          (if idle then idle_ask u else next_ask site u next u.moment).want
      by true e serving = record {
        delivery = delivery;
        outgoing = refl;
        pulse = refl;
        moment = refl;
        arrival = refl;
        wants_it = λ free. absurd (idle_not (is_blocked u.arrival) (is_going u.course) e free (serving_going u before));
      }
      by false e serving = next_goes next r serving

-- ---- the rest of a step

live_of : (c : Going) → is_going c ≡ true → is_live c ≡ true
live_of c e = grind arith

dead_not : (live dead : Bool) → (live && dead) ≡ false → live ≡ true → dead ≡ false
dead_not live dead e f = grind arith

pub untimed : (v : Standing) → is_serving (timed v) ≡ true
    → (timed v ≡ v) × (is_dead (pulse_of v) v.moment ≡ false)
untimed v serving = by (is_live v.course && is_dead (pulse_of v) v.moment) refl serving
  where
    by : (b : Bool) → (is_live v.course && is_dead (pulse_of v) v.moment) ≡ b
        → is_serving (if b then aborted v CommunicationsFailure else v) ≡ true
        → ((if b then aborted v CommunicationsFailure else v) ≡ v)
        × (is_dead (pulse_of v) v.moment ≡ false)
    by true is e = absurd (not_serving (aborted v CommunicationsFailure) refl e)
    by false is e = (
      refl,
      dead_not (is_live v.course) (is_dead (pulse_of v) v.moment) is
          (live_of v.course (serving_going v e)),
    )

-- ---- what is told unasked

pub record Tells (service : ReturnKind) (s t : Standing) (c : Course) : Type 0 where
  pub delivery : kept_of t.service ≡ Some (service, c)
  pub outgoing : t.outgoing ≡ s.outgoing

more_service : (site : Site) (s : Standing) (message : Option Message)
    → (told_more site s message).service ≡ s.service
more_service site s None = refl
more_service site s (Some message) = refl

more_outgoing : (site : Site) (s : Standing) (message : Option Message)
    → (told_more site s message).outgoing ≡ s.outgoing
more_outgoing site s None = refl
more_outgoing site s (Some message) = refl

if_tells : (service : ReturnKind) (b : Bool) (s t : Standing) (c : Course)
    → kept_of s.service ≡ Some (service, c) → Tells service s t c
    → Tells service s (if b then t else s) c
if_tells service true s t c d h = h
if_tells service false s t c d h = record { delivery = d; outgoing = refl }

report_tells : (service : ReturnKind) (site : Site) (s : Standing) (r : Replied) (c : Course)
    → kept_of s.service ≡ Some (service, c) → Tells service s (with_report site s r) c
report_tells service site s r c d =
    let told = reported_by s.service r s.moment in
    let t : Standing = record s { service = told.served } in
    if_tells service (may_tell s) s (reported site s told) c d (record {
      delivery =
          ap kept_of (more_service site t told.report)
          ∙ reports service s.service c r s.moment d;
      outgoing = more_outgoing site t told.report;
    })

noticed_tells : (service : ReturnKind) (site : Site) (s : Standing) (notice : Option Notice)
    (c : Course)
    → kept_of s.service ≡ Some (service, c) → Tells service s (noticed site s notice) c
noticed_tells service site s None c d = record { delivery = d; outgoing = refl }
noticed_tells service site s (Some notice) c d = record {
  delivery = ap kept_of (more_service site s (told_by_service s.service notice)) ∙ d;
  outgoing = more_outgoing site s (told_by_service s.service notice);
}

notice_tells : (service : ReturnKind) (site : Site) (s : Standing) (notice : Option Notice)
    (c : Course)
    → kept_of s.service ≡ Some (service, c) → Tells service s (with_notice site s notice) c
notice_tells service site s notice c d =
    if_tells service (may_tell s) s (noticed site s notice) c d
    (noticed_tells service site s notice c d)

beat_tells : (service : ReturnKind) (s : Standing) (c : Course)
    → kept_of s.service ≡ Some (service, c)
    → Tells service s (with_heartbeat s) c
beat_tells service s c d =
    if_tells service (is_live s.course && not (has_block s) && is_due (pulse_of s) s.moment) s
    (record s { block = spelling beat }) c d (record { delivery = d; outgoing = refl })

pub unasked_tells : (service : ReturnKind) (site : Site) (r : Replied) (s : Standing)
    (c : Course)
    → kept_of s.service ≡ Some (service, c) → Tells service s (unasked site r s) c
unasked_tells service site r s c d =
    let one = report_tells service site s r c d in
    let t = with_report site s r in
    let two = notice_tells service site t r.notice c one.delivery in
    let three = beat_tells service (with_notice site t r.notice) c two.delivery in
    record {
      delivery = three.delivery;
      outgoing = three.outgoing ∙ two.outgoing ∙ one.outgoing;
    }

-- ---- the service's own step

fixed_delivers : (service : ReturnKind) (site : Site) (s : Standing) (c : Course)
    → DeliversAs service s c
    → DeliversAs service (fixed site s) c
fixed_delivers service site s c d =
    by (has_outgoing s) (fixed_by s.service site (bound_peer site s) s.numbers s.moment)
    (fixes service s.service c site (bound_peer site s) s.numbers s.moment d.delivery)
  where
    by : (has : Bool) (f : Fixed) → Fixes service c f
        → DeliversAs service (if has then s else with_fixed s f) c
    by true f h = d
    by false f h =
        record { delivery = d.delivery; offers = h.offers; message = h.message }

stepped_delivers : (service : ReturnKind) (site : Site) (g : Glimpse) (now : ℕ) (s : Standing)
    (c : Course)
    → s.moment ≡ now → DeliversAs service s c → DeliversAs service (stepped_by g s) (with_step c g now)
stepped_delivers service site g now s c at d = record {
  delivery =
      steps service s.service c g s.moment d.delivery ∙ ap (λ (n : ℕ). Some (service, with_step c g n)) at;
  offers = λ has.
      subst (λ (x : Course). IsTrue (is_offering x)) (sym (stays_fixed c g now (d.offers has)))
      (d.offers has);
  message = λ has.
      subst (λ (x : Course). IsMessageOf service s.outgoing (held_of x))
      (sym (stays_fixed c g now (d.offers has))) (d.message has);
}

-- behind it a message is there exactly where a buffer is due that goes into one
both_true : (a b : Bool) → a ≡ true → b ≡ true → true ≡ (a && b)
both_true a b e f = grind arith

fixed_due : (service : ReturnKind) (site : Site) (s : Standing) (c : Course)
    → DeliversAs service s c
    → has_outgoing (fixed site s) ≡ (is_offering c && fits_message (held_of c))
fixed_due service site s c d =
    by (has_outgoing s) refl (fixed_by s.service site (bound_peer site s) s.numbers s.moment)
    (fixes service s.service c site (bound_peer site s) s.numbers s.moment d.delivery)
  where
    by : (has : Bool) → has_outgoing s ≡ has → (f : Fixed) → Fixes service c f
        → has_outgoing (if has then s else with_fixed s f)
        ≡ (is_offering c && fits_message (held_of c))
    by true e f h =
        e
        ∙ both_true (is_offering c) (fits_message (held_of c)) (d.offers e) ((d.message e).fits)
    by false e f h = h.due

serves_free : (was active going blocked : Bool) → was ≡ true → active ≡ true → going ≡ true
    → blocked ≡ false → ((was && active) && (going && not blocked)) ≡ true
serves_free was active going blocked e f g h = grind arith

serves_blocked : (was active going blocked : Bool) → blocked ≡ true
    → ((was && active) && (going && not blocked)) ≡ false
serves_blocked was active going blocked e = grind arith

if_yes : (b : Bool) (s t : Standing) → b ≡ true → (if b then s else t) ≡ s
if_yes true s t e = refl
if_yes false s t e = absurd (cc)

if_no : (b : Bool) (s t : Standing) → b ≡ false → (if b then s else t) ≡ t
if_no true s t e = absurd (cc)
if_no false s t e = refl

-- the step of a round, by whether a block of an earlier round waits
pub record StepDelivers (service : ReturnKind) (blocked : Bool) (site : Site) (s : Standing)
    (next : Next) (now : ℕ) (r : Replied)
    (c : Course) : Type 0 where
  pub waits : blocked ≡ true → DeliversAs service (after_step site s next now r) c
  pub free : blocked ≡ false
      → DeliversAs service (after_step site s next now r) (with_step c r.glimpse now)
  pub due : blocked ≡ false
      → has_outgoing (after_step site s next now r)
      ≡ (is_offering (with_step c r.glimpse now) && fits_message (held_of (with_step c r.glimpse now)))
  pub wanted : blocked ≡ false → (inquiry_at site s next now).want ≡ want_of_course c
  pub arrival : (after_step site s next now r).arrival ≡ s.arrival

pub both_serving : (s t : Standing) → t.course ≡ s.course → t.association ≡ s.association
    → is_serving t ≡ true → is_serving s ≡ true
both_serving s t e f serving =
    sym
    (ap (λ (x : Going). is_going x && is_active t.association) e
    ∙ ap (λ (x : Association). is_going s.course && is_active x) f)
    ∙ serving

alive_want : (u : Standing) (dead : Bool) (w : Want) → dead ≡ false
    → (if dead then wants_nothing else w) ≡ w
alive_want u true w e = absurd (cc)
alive_want u false w e = refl

pub step_delivers : (service : ReturnKind) → ServiceLeaves → (site : Site) (s : Standing)
    (next : Next) (now : ℕ) (r : Replied)
    (c : Course) → is_serving s ≡ true → DeliversAs service s c
    → is_serving (after_step site s next now r) ≡ true
    → StepDelivers service (is_blocked s.arrival) site s next now r c
step_delivers service leaves site s next now r c before d serving =
    let u = at_moment s now in
    let v = acted site u next r in
    let w = timed v in
    let x = unasked site r w in
    let was = is_active s.association in
    let same = leaves site was r.glimpse r w in
    let told = leaves site false r.glimpse r w in
    let serving_w = both_serving w (after_step site s next now r) same.course same.association serving in
    let alive = untimed v serving_w in
    let serving_v = subst (λ (y : Standing). is_serving y ≡ true) alive.0 serving_w in
    let bound = active_is s.association (serving_active s before) in
    let goes = acted_goes service site u c bound.binding bound.so d.delivery next r before serving_v in
    let tells =
    unasked_tells service site r w c
    (ap (λ (y : Standing). kept_of y.service) alive.0 ∙ goes.delivery)
    in
    let outgoing : x.outgoing ≡ s.outgoing =
    tells.outgoing ∙ ap (λ (y : Standing). y.outgoing) alive.0 ∙ goes.outgoing in
    let moment : x.moment ≡ now =
    told.moment ∙ ap (λ (y : Standing). y.moment) alive.0 ∙ goes.moment in
    let arrival : x.arrival ≡ s.arrival =
    told.arrival ∙ ap (λ (y : Standing). y.arrival) alive.0 ∙ goes.arrival in
    let dx : DeliversAs service x c =
    record {
      delivery = tells.delivery;
      offers = λ has. d.offers (has_same s x outgoing has);
      message = λ has.
          subst (λ (y : List ℕ). IsMessageOf service y (held_of c)) (sym outgoing)
          (d.message (has_same s x outgoing has));
    } in
    let serving_x =
    both_serving x (after_step site s next now r) (same.course ∙ sym told.course) (same.association ∙ sym told.association) serving
    in
    let dz = stepped_delivers service site r.glimpse now x c moment dx in
    record {
      waits = λ blocked.
          subst (λ (y : Standing). DeliversAs service y c)
          (sym
          (if_no (may_serve was x) (fixed site (stepped_by r.glimpse x)) x
          (serves_blocked was (is_active x.association) (is_going x.course) (is_blocked x.arrival)
          (ap is_blocked arrival ∙ blocked)))) dx;
      free = λ clear.
          subst (λ (y : Standing). DeliversAs service y (with_step c r.glimpse now))
          (sym
          (if_yes (may_serve was x) (fixed site (stepped_by r.glimpse x)) x
          (serves_free was (is_active x.association) (is_going x.course) (is_blocked x.arrival)
          (serving_active s before) (serving_active x serving_x) (serving_going x serving_x)
          (ap is_blocked arrival ∙ clear))))
          (fixed_delivers service site (stepped_by r.glimpse x) (with_step c r.glimpse now) dz);
      due = λ clear.
          ap has_outgoing
          (if_yes (may_serve was x) (fixed site (stepped_by r.glimpse x)) x
          (serves_free was (is_active x.association) (is_going x.course) (is_blocked x.arrival)
          (serving_active s before) (serving_active x serving_x) (serving_going x serving_x)
          (ap is_blocked arrival ∙ clear)))
          ∙ fixed_due service site (stepped_by r.glimpse x) (with_step c r.glimpse now) dz;
      wanted = λ clear.
          goes.wants_it clear
          ∙ alive_want u (is_dead (pulse_of u) now) (want_served u.service)
          (sym
          (ap (λ (p : Pulse). is_dead p v.moment) goes.pulse
          ∙ ap (λ (n : ℕ). is_dead (pulse_of u) n) goes.moment)
          ∙ alive.1)
          ∙ wants service u.service c d.delivery;
      arrival = same.arrival ∙ ap (λ (y : Standing). y.arrival) alive.0 ∙ goes.arrival;
    }

-- ---- the offer of its message

record Sends (service : ReturnKind) (s : Standing) (c : Course) (sent : Option Offer)
    (t : Standing) : Type 0 where
  now : DeliversAs service t (answered_by (option_map answer_of sent) c)
  handed : AreMessagesOf service (blocks_in (send_calls s sent))
      (handed_where (option_map answer_of sent) c)
  dropped : t.dropped ≡ discard_told (done_where (option_map answer_of sent) c)

whole_discards : (r : Run) → discard_told (run_fate whole r) ≡ None
whole_discards r = grind arith

none_discarded : (c : Course) → discard_told (fate_by c whole) ≡ None
none_discarded c = by c.run
  where
    by : (o : Option Run) → discard_told (option_map_or (run_fate whole) o nothing) ≡ None
    by None = refl
    by (Some r) = whole_discards r

whole_handed : (service : ReturnKind) (offers : Bool) (octets : List ℕ) (items : List ToldItem)
    → offers ≡ true
    → IsMessageOf service octets items
    → AreMessagesOf service (octets ∷ []) (if offers then items ∷ [] else [])
whole_handed service true octets items e message = (message, tt)
whole_handed service false octets items e message = absurd (cc)

none_handed : (service : ReturnKind) (offers : Bool)
    → AreMessagesOf service [] (if offers then [] else [])
none_handed service true = tt
none_handed service false = tt

stall_sends : (service : ReturnKind) (s : Standing) (c : Course) (items : Option ℕ)
    → items ≡ discard_told (fate_by c stall)
    → has_outgoing s ≡ true → DeliversAs service s c
    → DeliversAs service (settled Stalled (after_stall s items)) (with_answer c stall)
stall_sends service s c None is has d =
    let same : with_answer c stall ≡ c = stays_kept c (d.offers has) (sym is) in
    record {
      delivery = settles service s.service c Stalled d.delivery;
      offers = λ more. subst (λ (x : Course). IsTrue (is_offering x)) (sym same) (d.offers more);
      message = λ more.
          subst (λ (x : Course). IsMessageOf service s.outgoing (held_of x)) (sym same)
          (d.message more);
    }
stall_sends service s c (Some items) is has d = record {
  delivery = settles service s.service c Stalled d.delivery;
  offers = λ more. absurd (cc);
  message = λ more. absurd (cc);
}

stall_dropped : (s : Standing) (items : Option ℕ)
    → (settled Stalled (after_stall s items)).dropped ≡ items
stall_dropped s None = refl
stall_dropped s (Some items) = refl

sends_by : (service : ReturnKind) (s : Standing) (c : Course) (sent : Option Offer)
    → DeliversAs service s c
    → (is_some sent ≡ true → has_outgoing s ≡ true) → is_serving (standing_sent s sent) ≡ true
    → Sends service s c sent (standing_sent s sent)
sends_by service s c None d has serving = record {
  now = record { delivery = d.delivery; offers = d.offers; message = d.message };
  handed = tt;
  dropped = refl;
}
sends_by service s c (Some Whole) d has serving = record {
  now = record {
    delivery = settles service s.service c Whole d.delivery;
    offers = λ more. absurd (cc);
    message = λ more. absurd (cc);
  };
  handed =
      whole_handed service (is_offering c) s.outgoing (held_of c) (d.offers (has refl))
      (d.message (has refl));
  dropped = sym (none_discarded c);
}
sends_by service s c (Some Stalled) d has serving =
    let is = drops service s.service c d.delivery in
    record {
      now = stall_sends service s c (dropped_by s.service) is (has refl) d;
      handed = none_handed service (is_offering c);
      dropped = stall_dropped s (dropped_by s.service) ∙ is;
    }
sends_by service s c (Some Refused) d has serving = absurd (not_serving (standing_sent s (Some Refused)) refl serving)

-- ---- a round

pub ended_serving : (s : Standing) → is_serving (round_ended s) ≡ true → is_serving s ≡ true
ended_serving s e = grind arith

pub sent_serving : (s : Standing) (sent : Option Offer) → is_serving (standing_sent s sent) ≡ true
    → is_serving s ≡ true
sent_serving s None e = e
sent_serving s (Some Whole) e = e
sent_serving s (Some Stalled) e = by (dropped_by s.service) e
  where
    by : (items : Option ℕ) → is_serving (settled Stalled (after_stall s items)) ≡ true
        → is_serving s ≡ true
    by None e = e
    by (Some items) e = e
sent_serving s (Some Refused) e = absurd (not_serving (standing_sent s (Some Refused)) refl e)

-- a link that failed ends the session's serving
sent_goes : (s : Standing) (sent : Option Offer) (g : Glimpse) (now : ℕ)
    → is_serving (standing_sent s sent) ≡ true
    → goes_on (round_of (visit_stepped g now (option_map answer_of sent))).link ≡ true
sent_goes s None g now e = refl
sent_goes s (Some Whole) g now e = refl
sent_goes s (Some Stalled) g now e = refl
sent_goes s (Some Refused) g now e =
    absurd (not_serving (standing_sent s (Some Refused)) refl e)

pub same_serving : (s t : Standing) → Same s t → is_serving t ≡ true → is_serving s ≡ true
same_serving s t h e =
    both (is_going s.course) (is_active s.association) (h.going (serving_going t e))
    (sym (ap is_active h.association) ∙ serving_active t e)
  where
    both : (a b : Bool) → a ≡ true → b ≡ true → (a && b) ≡ true
    both a b e f = grind arith

sends_has : (a b c has : Bool) → ((a && b) && (c && has)) ≡ true → has ≡ true
sends_has a b c has e = grind arith

sends_clear : (a b blocked has : Bool) → blocked ≡ true
    → ((a && b) && (not blocked && has)) ≡ false
sends_clear a b blocked has e = grind arith

-- it is offered only where there is one, and in no round that is blocked
pub sends_some : (s : Standing) → may_send s ≡ true → has_outgoing s ≡ true
sends_some s e =
    sends_has (is_going s.course) (not (has_block s)) (not (is_blocked s.arrival)) (has_outgoing s) e

sends_not : (s : Standing) → is_blocked s.arrival ≡ true → may_send s ≡ false
sends_not s e =
    sends_clear (is_going s.course) (not (has_block s)) (is_blocked s.arrival) (has_outgoing s) e

sends_none : (sent : Option Offer) → is_some sent ≡ false → sent ≡ None
sends_none None e = refl
sends_none (Some said) e = absurd (cc)

pub going_asks : (c : Going) (told : Option BookAnswer) → is_some told ≡ not (is_over c)
    → is_going c ≡ true → is_some told ≡ true
going_asks c told e going = grind arith

spoke_arrival : (s : Standing) (spoke : Option Offer) → (standing_spoke s spoke).arrival ≡ s.arrival
spoke_arrival s None = refl
spoke_arrival s (Some Whole) = refl
spoke_arrival s (Some Stalled) = refl
spoke_arrival s (Some Refused) = refl

pub ended_delivers : (service : ReturnKind) (s : Standing) (c : Course) → DeliversAs service s c
    → DeliversAs service (round_ended s) c
ended_delivers service s c d =
    record { delivery = d.delivery; offers = d.offers; message = d.message }

-- what a round did with a delivery, behind a listen that left it so: a visit
pub record Visits (service : ReturnKind) (entries : List Entry) (from : ℕ) (site : Site) (t : State)
    (told : BookAnswer)
    (spoke sent : Option Offer) (c : Course) (visit : Visit) : Type 0 where
  pub look : IsLook entries c visit
  pub goes : goes_on (round_of visit).link ≡ true
  pub front : told.answer.glimpse.front ≡ front_of visit
  pub now : DeliversAs service (spoken_state (stepped site t (Some told)) spoke sent).standing
      (visited visit c)
  pub handed : AreMessagesOf service
      (blocks_in (send_calls (standing_spoke (stepped site t (Some told)).standing spoke) sent))
      (handed_in visit c)
  pub dropped : (spoken_state (stepped site t (Some told)) spoke sent).standing.dropped
      ≡ discard_told (done_in visit c)

-- a session that goes on behind a step went on before it
busy_going : (s t : Standing) → is_going (if is_idle s then s else t).course ≡ true
    → is_going s.course ≡ true
busy_going s t e = grind arith

timed_going : (s : Standing) → is_going (timed s).course ≡ true → is_going s.course ≡ true
timed_going s e = grind arith

pub listened_serving : (s t : Standing) → Same s t → is_going t.course ≡ true → is_serving s ≡ true
    → is_serving t ≡ true
listened_serving s t h going e =
    both (is_going t.course) (is_active t.association) going
    (ap is_active h.association ∙ serving_active s e)
  where
    both : (a b : Bool) → a ≡ true → b ≡ true → (a && b) ≡ true
    both a b e f = grind arith

module _ (service : ReturnKind) (leaves : ServiceLeaves) (entries : List Entry) (site : Site)
  where
    step_going : (s : Standing) (next : Next) (now : ℕ) (r : Replied)
        → is_going (after_step site s next now r).course ≡ true → is_going s.course ≡ true
    step_going s next now r e =
        let u = at_moment s now in
        let v = acted site u next r in
        let same = leaves site (is_active s.association) r.glimpse r (timed v) in
        busy_going u (with_next site u next r)
        (timed_going v (sym (ap is_going same.course) ∙ e))

    told_going : (t : State) (told : Option BookAnswer)
        → is_going (stepped site t told).standing.course ≡ true → is_going t.standing.course ≡ true
    told_going t None e = e
    told_going t (Some told) e =
        step_going t.standing (next_of t) told.moment (reply_in told.answer) e

    pub going_back : (t : State) (r : Round)
        → is_serving (spoken_state (stepped site t r.told) r.spoke r.sent).standing ≡ true
        → is_going t.standing.course ≡ true
    going_back t r serving =
        let y = (stepped site t r.told).standing in
        let z = standing_spoke y r.spoke in
        told_going t r.told
        (serving_going y
        (same_serving y z (same_spoke y r.spoke)
        (sent_serving z r.sent (ended_serving (standing_sent z r.sent) serving))))

    module _ (from : ℕ) (t : State) (told : BookAnswer) (spoke sent : Option Offer) (c : Course)
        (before : is_serving t.standing ≡ true) (d : DeliversAs service t.standing c)
        (look : IsLookAt entries from site t (Some told))
        (sends : is_some sent
        ≡ may_send (standing_spoke (stepped site t (Some told)).standing spoke))
        (serving : is_serving (spoken_state (stepped site t (Some told)) spoke sent).standing ≡ true)
      where
        after : Standing
        after = (stepped site t (Some told)).standing

        said : Standing
        said = standing_spoke (stepped site t (Some told)).standing spoke

        serving_sent : is_serving
            (standing_sent (standing_spoke (stepped site t (Some told)).standing spoke) sent) ≡ true
        serving_sent =
            ended_serving
            (standing_sent (standing_spoke (stepped site t (Some told)).standing spoke) sent) serving

        serving_after : is_serving (stepped site t (Some told)).standing ≡ true
        serving_after =
            let y = (stepped site t (Some told)).standing in
            same_serving y (standing_spoke y spoke) (same_spoke y spoke)
            (sent_serving (standing_spoke y spoke) sent serving_sent)

        step : StepDelivers service (is_blocked t.standing.arrival) site t.standing (next_of t) told.moment
            (reply_in told.answer) c
        step =
            step_delivers service leaves site t.standing (next_of t) told.moment (reply_in told.answer) c before d
            serving_after

        sent_by : (k : Course) → DeliversAs service (stepped site t (Some told)).standing k
            → Sends service (standing_spoke (stepped site t (Some told)).standing spoke) k sent
            (standing_sent (standing_spoke (stepped site t (Some told)).standing spoke) sent)
        sent_by k dk =
            let y = (stepped site t (Some told)).standing in
            let z = standing_spoke y spoke in
            sends_by service z k sent (delivers_same service y z k (same_spoke y spoke) dk)
            (λ some. sends_some z (sym sends ∙ some))
            serving_sent

        free_visits : is_blocked t.standing.arrival ≡ false
            → Visits service entries from site t told spoke sent c
            (visit_stepped told.answer.glimpse told.moment (option_map answer_of sent))
        free_visits clear =
            let g = told.answer.glimpse in
            let done = sent_by (with_step c g told.moment) (step.free clear) in
            record {
              look =
                  look.1
                  ∙ ap (λ (w : Want). as_said (glimpse (take g.front entries) w)) (step.wanted clear);
              goes =
                  sent_goes (standing_spoke (stepped site t (Some told)).standing spoke) sent g
                  told.moment serving_sent;
              front = refl;
              now =
                  ended_delivers service
                  (standing_sent (standing_spoke (stepped site t (Some told)).standing spoke) sent)
                  (answered_by (option_map answer_of sent) (with_step c g told.moment)) done.now;
              handed = done.handed;
              dropped = done.dropped;
            }

        none_sent : is_blocked t.standing.arrival ≡ true → sent ≡ None
        none_sent blocked =
            let y = (stepped site t (Some told)).standing in
            let z = standing_spoke y spoke in
            sends_none sent
            (sends
            ∙ sends_not z (ap is_blocked (spoke_arrival y spoke ∙ step.arrival) ∙ blocked))

        blocked_visits : is_blocked t.standing.arrival ≡ true → sent ≡ None
            → Visits service entries from site t told spoke sent c
            (passed told.answer.glimpse.front told.moment)
        blocked_visits blocked none =
            let done = sent_by c (step.waits blocked) in
            let z = standing_spoke (stepped site t (Some told)).standing spoke in
            record {
              look = tt;
              goes = refl;
              front = refl;
              now =
                  ended_delivers service (standing_sent z sent) c
                  (subst (λ (o : Option Offer). DeliversAs service (standing_sent z sent) (answered_by (option_map answer_of o) c))
                  none done.now);
              handed =
                  subst
                  (λ (o : Option Offer).
                  AreMessagesOf service (blocks_in (send_calls z sent)) (handed_where (option_map answer_of o) c))
                  none done.handed;
              dropped =
                  done.dropped
                  ∙ ap (λ (o : Option Offer). discard_told (done_where (option_map answer_of o) c)) none;
            }

        pub visits : (blocked : Bool) → is_blocked t.standing.arrival ≡ blocked
            → Visits service entries from site t told spoke sent c (visit_by blocked told sent)
        visits true e = blocked_visits e (none_sent e)
        visits false e = free_visits e

    -- ---- rounds

    both_go : (a b : Bool) → a ≡ true → b ≡ true → (a && b) ≡ true
    both_go a b e f = grind arith

    messages_both : (xs ys : List (List ℕ)) (us vs : List (List ToldItem)) → AreMessagesOf service xs us
        → AreMessagesOf service ys vs → AreMessagesOf service (xs ++ ys) (us ++ vs)
    messages_both [] ys [] vs h k = k
    messages_both (x ∷ xs) ys (u ∷ us) vs h k = (h.0, messages_both xs ys us vs h.1 k)
    messages_both [] ys (u ∷ us) vs h k = absurd h
    messages_both (x ∷ xs) ys [] vs h k = absurd h

    conses : (o : Option ℕ) (xs : List ℕ) → option_to_list o ++ xs ≡ cons_option o xs
    conses None xs = refl
    conses (Some x) xs = refl

    told_both : (o p : Option ℕ) (xs ys : List ℕ) → o ≡ p → xs ≡ ys
        → option_to_list o ++ xs ≡ cons_option p ys
    told_both o p xs ys e f =
        ap (λ (x : Option ℕ). option_to_list x ++ xs) e
        ∙ ap (λ (zs : List ℕ). option_to_list p ++ zs) f
        ∙ conses p ys

    pub serves_now : (s : State) (rounds : List Round) → ServesOn site s rounds
        → is_serving s.standing ≡ true
    serves_now s [] h = h
    serves_now s (r ∷ rounds) h = h.0

    -- what rounds do, with the kind of the instance
    pub record DeliveredAs (s : State) (c : Course) (from : ℕ) (rounds : List Round) : Type 0 where
      pub looks : AreLooks entries from c (visits_of site s rounds)
      pub goes_on : IsTrue (all_go_on (rounds_of (visits_of site s rounds)))
      pub now : DeliversAs service (after_rounds site s rounds).standing
          (after_visits (visits_of site s rounds) c)
      pub handed : AreMessagesOf service (sent_of site s rounds)
          (visits_handed (visits_of site s rounds) c)
      pub dropped : dropped_of site s rounds
          ≡ discards_told (visits_done (visits_of site s rounds) c)

    abbrev Delivered : List Round → Type 0
    Delivered rounds =
        (s : State) (c : Course) (from : ℕ) → DeliversAs service s.standing c → ServesOn site s rounds
        → AreRounds site s rounds → SeeEntries entries from site s rounds
        → DeliveredAs s c from rounds

    -- a round and those behind it, by the state behind its listen
    record Part (t : State) (told : Option BookAnswer) (spoke sent : Option Offer) (c : Course)
        (from : ℕ) (rounds : List Round) : Type 0 where
      looks : AreLooks entries from c
          (option_to_list
          (option_map (λ x. visit_by (is_blocked t.standing.arrival) x sent) told)
          ++ visits_of site (spoken_state (stepped site t told) spoke sent) rounds)
      on : all_go_on
          (rounds_of
          (option_to_list
          (option_map (λ x. visit_by (is_blocked t.standing.arrival) x sent) told)
          ++ visits_of site (spoken_state (stepped site t told) spoke sent) rounds))
          ≡ true
      now : DeliversAs service
          (after_rounds site (spoken_state (stepped site t told) spoke sent) rounds).standing
          (after_visits
          (option_to_list
          (option_map (λ x. visit_by (is_blocked t.standing.arrival) x sent) told)
          ++ visits_of site (spoken_state (stepped site t told) spoke sent) rounds) c)
      handed : AreMessagesOf service
          (blocks_in (send_calls (standing_spoke (stepped site t told).standing spoke) sent)
          ++ sent_of site (spoken_state (stepped site t told) spoke sent) rounds)
          (visits_handed
          (option_to_list
          (option_map (λ x. visit_by (is_blocked t.standing.arrival) x sent) told)
          ++ visits_of site (spoken_state (stepped site t told) spoke sent) rounds) c)
      dropped : option_to_list (spoken_state (stepped site t told) spoke sent).standing.dropped
          ++ dropped_of site (spoken_state (stepped site t told) spoke sent) rounds
          ≡ discards_told
          (visits_done
          (option_to_list
          (option_map (λ x. visit_by (is_blocked t.standing.arrival) x sent) told)
          ++ visits_of site (spoken_state (stepped site t told) spoke sent) rounds) c)

    part : (rounds : List Round) → Delivered rounds → (t : State) (told : Option BookAnswer)
        (spoke sent : Option Offer) (c : Course) (from : ℕ) → is_serving t.standing ≡ true
        → DeliversAs service t.standing c → is_some told ≡ true → IsLookAt entries from site t told
        → is_some sent ≡ may_send (standing_spoke (stepped site t told).standing spoke)
        → ServesOn site (spoken_state (stepped site t told) spoke sent) rounds
        → AreRounds site (spoken_state (stepped site t told) spoke sent) rounds
        → SeeEntries entries (front_behind from told) site
        (spoken_state (stepped site t told) spoke sent) rounds
        → Part t told spoke sent c from rounds
    part rounds more t None spoke sent c from before d some look sends serves are sees = absurd (cc)
    part rounds more t (Some told) spoke sent c from before d some look sends serves are sees =
        let now = spoken_state (stepped site t (Some told)) spoke sent in
        let blocked = is_blocked t.standing.arrival in
        let v = visit_by blocked told sent in
        let one =
        visits from t told spoke sent c before d look sends (serves_now now rounds serves) blocked refl
        in
        let rest = more now (visited v c) told.answer.glimpse.front one.now serves are sees in
        record {
          looks = (
            subst (λ (n : ℕ). from ≤ n) one.front look.0,
            (
              one.look,
              subst
                  (λ (n : ℕ). AreLooks entries n (visited v c) (visits_of site now rounds))
                  one.front rest.looks,
            ),
          );
          on = both_go (goes_on (round_of v).link) _ one.goes rest.goes_on;
          now = rest.now;
          handed =
              messages_both
              (blocks_in
              (send_calls (standing_spoke (stepped site t (Some told)).standing spoke) sent))
              (sent_of site now rounds) (handed_in v c) _ one.handed rest.handed;
          dropped = told_both _ _ _ _ one.dropped rest.dropped;
        }

    pub delivered : (rounds : List Round) → Delivered rounds
    delivered [] s c from d serves are sees =
        record { looks = tt; goes_on = refl; now = d; handed = tt; dropped = refl }
    delivered (r ∷ rounds) s c from d serves are sees =
        let t = before_step s r in
        let same = same_listened s r.waited r.heard in
        let going = going_back t r (serves_now (after_round site s r) rounds serves.1) in
        let before = listened_serving s.standing t.standing same going serves.0 in
        let all =
        part rounds (delivered rounds) t r.told r.spoke r.sent c from before
        (delivers_same service s.standing t.standing c same d)
        (going_asks t.standing.course r.told are.0.asks going) sees.0 are.0.speaks.sends serves.1
        are.1 sees.1 in
        record {
          looks = all.looks;
          goes_on = all.on;
          now = all.now;
          handed = all.handed;
          dropped = all.dropped;
        }

pub a_sessions_rounds : ServiceLeaves → AreVisits
a_sessions_rounds leaves entries site rounds s c from d serves are sees =
    let all =
    delivered d.kind leaves entries site rounds s c from (delivers_as s.standing c d) serves are sees
    in
    record {
      kind = d.kind;
      is_kind = d.is_kind;
      looks = all.looks;
      goes_on = all.goes_on;
      now =
          so_delivers d.kind (after_rounds site s rounds).standing
          (after_visits (visits_of site s rounds) c) all.now;
      handed = all.handed;
      dropped = all.dropped;
    }

-- ---- a buffer that is due

due_sent : (going block blocked has : Bool) → going ≡ true → blocked ≡ false
    → ((going && not block) && (not blocked && has)) ≡ (not block && has)
due_sent going block blocked has e f = grind arith

sent_due : (s : Standing) → is_going s.course ≡ true → is_blocked s.arrival ≡ false
    → may_send s ≡ (not (has_block s) && has_outgoing s)
sent_due s e f =
    due_sent (is_going s.course) (has_block s) (is_blocked s.arrival) (has_outgoing s) e f

-- offered where a buffer is to be offered that goes into one message
pub told_due : (service : ReturnKind) → ServiceLeaves → (site : Site) (t : State)
    (told : BookAnswer)
    (spoke sent : Option Offer) (c : Course) → is_serving t.standing ≡ true
    → DeliversAs service t.standing c
    → is_some sent ≡ may_send (standing_spoke (stepped site t (Some told)).standing spoke)
    → is_serving (spoken_state (stepped site t (Some told)) spoke sent).standing ≡ true
    → is_blocked t.standing.arrival ≡ false → let d = with_step c told.answer.glimpse told.moment in
    is_some sent
    ≡ (not (has_block (standing_spoke (stepped site t (Some told)).standing spoke))
    && (is_offering d && fits_message (held_of d)))
told_due service leaves site t told spoke sent c before d sends serving clear =
    let y = (stepped site t (Some told)).standing in
    let z = standing_spoke y spoke in
    let serving_z = sent_serving z sent (ended_serving (standing_sent z sent) serving) in
    let serving_y = same_serving y z (same_spoke y spoke) serving_z in
    let step =
    step_delivers service leaves site t.standing (next_of t) told.moment (reply_in told.answer) c before d
    serving_y in
    let free : is_blocked z.arrival ≡ false =
    ap is_blocked (spoke_arrival y spoke ∙ step.arrival) ∙ clear in
    sends
    ∙ sent_due z (serving_going z serving_z) free
    ∙ ap (λ (o : List ℕ). not (has_block z) && not (length o == 0)) (same_spoke y spoke).outgoing
    ∙ ap (λ (b : Bool). not (has_block z) && b) (step.due clear)

-- ---- a START

abbrev pub VisitStands : Type 0
VisitStands =
    (c : Course) (t : Terms) (entries : List Entry) (rounds : List DeliveryRound)
    (visits : List Visit) → StandsFor c t entries rounds
    → AreLooks entries (last_front t.selection.first rounds) c visits
    → IsTrue (all_go_on (rounds_of visits)) → VisitsStand c t entries rounds visits

pub starts_deliver : ServiceLeaves → VisitStands → StartsDeliver
starts_deliver leaves stands entries site rounds s c t earlier stood d serves are sees =
    let all =
    a_sessions_rounds leaves entries site rounds s c (last_front t.selection.first earlier) d serves are
    sees in
    record {
      delivered = all;
      stand = stands c t entries earlier (visits_of site s rounds) stood all.looks all.goes_on;
    }

-- what its delivery stands for then
pub start_stands : ServiceLeaves → VisitStands → (entries : List Entry) (site : Site)
    (rounds : List Round) (s : State) (c : Course) (t : Terms) → StandsFor c t entries []
    → Delivers s.standing c → ServesOn site s rounds → AreRounds site s rounds
    → SeeEntries entries t.selection.first site s rounds
    → StandsFor (after_visits (visits_of site s rounds) c) t entries
    (rounds_of (visits_of site s rounds))
start_stands leaves stands entries site rounds s c t stood d serves are sees =
    (starts_deliver leaves stands entries site rounds s c t [] stood d serves are sees).stand.stands
