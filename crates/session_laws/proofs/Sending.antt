-- Only a started service sends.
use Rattle.std.proofs.Common.{◌≡◌, inl, inr, ℕ, Bool, true, false, not, ◌&&◌}
use Rattle.std.proofs.Common.{if◌then◌else◌, Option, Some, None, Ok, Err, [], ◌∷◌, refl}
use Rattle.std.proofs.Common.{sym, ap, subst, ◌∙◌, arith}
use Rattle.std.specs.Prelude.{is_some}
use Rattle.octet_core.specs.declared.offer.Offer.{Offer}
use Rattle.octet_core.specs.declared.offer.Offer.TheVariants.{Whole, Stalled, Failed as Refused}
use Rattle.sle_numbers.specs.declared.peer_abort_diagnostic.PeerAbortDiagnostic.TheVariants as why
use Rattle.link_model.specs.Calls.{blocks_in}
use Rattle.return_pdu.specs.declared.return_kind.ReturnKind.TheVariants as buffer
use Rattle.station_config.specs.declared.site.Site.{Site}
use Rattle.assoc_core.specs.State.{moved}
use Rattle.assoc_core.specs.declared.outcome.Outcome.TheVariants as outcome
use Rattle.assoc_core.specs.declared.step.Step.{Step}
use Rattle.assoc_core.specs.declared.step.Step.TheVariants.{Pass, Denied, Abort}
use Rattle.session_core.specs.declared.course.Course.{Course}
use Rattle.session_core.specs.declared.ended.Ended.TheVariants.{PeerClosed, Range}
use Rattle.session_core.specs.declared.standing.Standing.{Standing}
use Rattle.session_core.specs.Course.{is_going, is_live, is_blocked, has_closed}
use Rattle.session_core.specs.Handling.{aborted, after_passing, concluded, ended_by, invoked}
use Rattle.session_core.specs.Handling.{is_agreed, is_lost}
use Rattle.session_services.specs.Inquiry.{Replied, reply_in}
use Rattle.session_core.specs.Laws.{ServiceLeaves}
use Rattle.session_core.specs.Message.{UserContent, context, heartbeat, bind, unbind, peer_abort}
use Rattle.session_core.specs.Message.{invocation, undecoded, out_of_place, judged}
use Rattle.session_core.specs.Lists.{start_of, state_after}
use Rattle.session_services.specs.Served.{concluded_by, dropped_by}
use Rattle.session_services.specs.Service.{invocation_kind}
use Rattle.session_core.specs.ServiceSteps.{after_stall, answered_with, has_outgoing, is_active}
use Rattle.session_core.specs.ServiceSteps.{permitted, settled, with_service}
use Rattle.session_core.specs.Session.{State, Round, BookAnswer, AreRounds, IsRound, after_round}
use Rattle.session_core.specs.Session.{before_step}
use Rattle.session_core.specs.Session.{next_of, send_calls, standing_sent}
use Rattle.session_core.specs.Session.{standing_spoke, stepped}
use Rattle.session_core.specs.Steps.{Next, acted, after_step, at_moment, course_at_end, has_block}
use Rattle.session_core.specs.Steps.{is_dead, is_idle, may_send, pulse_of, round_ended, said_to, timed}
use Rattle.session_core.specs.Steps.{unasked, with_next}
use Rattle.session_laws.specs.Deliveries.{is_serving}
use Rattle.session_laws.specs.Instances.{IsKept, SessionsAreKept}
use Rattle.session_laws.specs.Handing.{OnlyStartedSend, SendsWhereServed}
use Rattle.session_laws.proofs.Deliveries.{answered_outgoing, going_back, same_listened, same_spoke}
use Rattle.session_laws.proofs.Deliveries.{sends_some, serving_active, serving_going}
use Rattle.session_laws.proofs.Handing.{rounds_behind}
use Rattle.session_laws.proofs.Instances.{unasked_leaves, told_kept, listened_kept}
use Rattle.session_laws.proofs.Starts.{if_none, no_message}

-- ---- what isn't started makes no message

abbrev IsEmpty : Standing → Type 0
IsEmpty s = s.outgoing ≡ []

module _ (site : Site) where
  module _ (u : Standing) (none : u.outgoing ≡ []) where
    context_empty : (interval factor : ℕ) (r : Replied)
        → IsEmpty
        (after_passing site (invoked u (context interval factor) Pass) (context interval factor) r)
    context_empty interval factor r = by (is_agreed site interval factor)
      where
        by : (b : Bool)
            → IsEmpty
            (if b then record (invoked u (context interval factor) Pass) {
              association = moved u.association outcome.Context;
              interval = interval;
              factor = factor;
            }
            else ended_by (invoked u (context interval factor) Pass) (Range interval factor))
        by true = none
        by false = refl

    passing_empty : (said : UserContent) (r : Replied)
        → IsEmpty (after_passing site (invoked u said Pass) said r)
    passing_empty (context interval factor) r = context_empty interval factor r
    passing_empty heartbeat r = none
    passing_empty (bind b) r = none
    passing_empty (unbind x) r = refl
    passing_empty (peer_abort d) r = refl
    passing_empty (invocation i) r =
        let t = invoked u (invocation i) Pass in
        let done = concluded_by u.service (permitted site u) i r u.moment in
        let v = answered_with site t (invocation_kind i) done.answer in
        if_none (is_active (moved v.association done.outcome)) v.outgoing
        (answered_outgoing site t (invocation_kind i) done.answer ∙ none)
    passing_empty undecoded r = none
    passing_empty out_of_place r = none

    judged_empty : (said : UserContent) (st : Step) (r : Replied) (lost : Bool)
        → IsEmpty
        (if lost then aborted (invoked u said st) why.OtherReason
        else concluded site (invoked u said st) said st r)
    judged_empty said st r true = refl
    judged_empty said Pass r false = passing_empty said r
    judged_empty said Denied r false = none
    judged_empty said (Abort d) r false = refl

    next_empty : (next : Next) (r : Replied) → IsEmpty (with_next site u next r)
    next_empty (Err fault) r = refl
    next_empty (Ok None) r = by (has_closed u.arrival)
      where
        by : (closed : Bool) → IsEmpty (if closed then ended_by u PeerClosed else u)
        by true = refl
        by false = none
    next_empty (Ok (Some message)) r =
        let said = said_to site u message in
        judged_empty said (judged site u.association said u.moment) r (is_lost r.reply)

    acted_empty : (next : Next) (r : Replied) → IsEmpty (acted site u next r)
    acted_empty next r = by (is_idle u)
      where
        by : (idle : Bool) → IsEmpty (if idle then u else with_next site u next r)
        by true = none
        by false = next_empty next r

  timed_empty : (v : Standing) → IsEmpty v → IsEmpty (timed v)
  timed_empty v none = by (is_live v.course && is_dead (pulse_of v) v.moment)
    where
      by : (b : Bool) → IsEmpty (if b then aborted v why.CommunicationsFailure else v)
      by true = refl
      by false = none

  step_empty : (s : Standing) (next : Next) (now : ℕ) (r : Replied)
      → is_active s.association ≡ false → IsEmpty s → IsEmpty (after_step site s next now r)
  step_empty s next now r still none =
      let u = at_moment s now in
      let w = timed (acted site u next r) in
      let x = unasked site r w in
      ap (λ (b : Bool). (with_service site b r.glimpse x).outgoing) still
      ∙ (unasked_leaves site r w).outgoing
      ∙ timed_empty (acted site u next r) (acted_empty u none next r)

  told_empty : (t : State) (told : Option BookAnswer) → is_active t.standing.association ≡ false
      → IsEmpty t.standing → IsEmpty (stepped site t told).standing
  told_empty t None still none = none
  told_empty t (Some told) still none =
      step_empty t.standing (next_of t) told.moment (reply_in told.answer) still none

-- ---- a round that sends

active_or : (a : Bool) → (a ≡ false → ⊥) → a ≡ true
active_or true not_it = refl
active_or false not_it = absurd (not_it refl)

both : (a b : Bool) → a ≡ true → b ≡ true → (a && b) ≡ true
both a b e f = grind arith

goes_first : (a b c : Bool) → ((a && b) && c) ≡ true → a ≡ true
goes_first a b c e = grind arith

ends_going : (c : Course) (waits : Bool) → is_going c ≡ true
    → is_going (course_at_end c waits) ≡ true
ends_going c waits e = grind arith

stalls_going : (s : Standing) (said : Offer) → (said ≡ Refused → ⊥) → is_serving s ≡ true
    → is_serving (standing_sent s (Some said)) ≡ true
stalls_going s Whole not_it e = e
stalls_going s Stalled not_it e = by (dropped_by s.service) e
  where
    by : (items : Option ℕ) → is_serving s ≡ true
        → is_serving (settled Stalled (after_stall s items)) ≡ true
    by None e = e
    by (Some items) e = e
stalls_going s Refused not_it e = absurd (not_it refl)

module _ (leaves : ServiceLeaves) (site : Site) (s : State) (r : Round) (k : IsKept site s.standing)
    (is : IsRound site s r) where
  -- an offer that didn't fail was made by a started service
  offer_serves : (said : Offer) → r.sent ≡ Some said → (said ≡ Refused → ⊥)
      → (is_serving s.standing ≡ true) × (is_serving (after_round site s r).standing ≡ true)
  offer_serves said sent whole =
      let t = before_step s r in
      let y = (stepped site t r.told).standing in
      let z = standing_spoke y r.spoke in
      let same = same_listened s r.waited r.heard in
      let spoke = same_spoke y r.spoke in
      let may : may_send z ≡ true = sym is.speaks.sends ∙ ap (λ (o : Option Offer). is_some o) sent in
      let has = sends_some z may in
      let kept_t = listened_kept site s r.waited r.heard k in
      let kept_y = told_kept site t r.told kept_t in
      let active_y =
      active_or (is_active y.association)
      (λ still. no_message z (spoke.outgoing ∙ kept_y.still still) has) in
      let active_t =
      active_or (is_active t.standing.association)
      (λ still.
      no_message z (spoke.outgoing ∙ told_empty site t r.told still (kept_t.still still)) has) in
      let going_z =
      goes_first (is_going z.course) (not (has_block z)) (not (is_blocked z.arrival) && has_outgoing z)
      may in
      let serving_z =
      both (is_going z.course) (is_active z.association) going_z
      (ap is_active spoke.association ∙ active_y) in
      let serving_sent = stalls_going z said whole serving_z in
      let ended =
      both (is_going (round_ended (standing_sent z (Some said))).course)
      (is_active (standing_sent z (Some said)).association)
      (ends_going (standing_sent z (Some said)).course (has_block (standing_sent z (Some said)))
      (serving_going (standing_sent z (Some said)) serving_sent))
      (serving_active (standing_sent z (Some said)) serving_sent) in
      let after : is_serving (after_round site s r).standing ≡ true =
      ap (λ (o : Option Offer). is_serving (round_ended (standing_sent z o))) sent ∙ ended in
      let going = going_back buffer.Raf leaves [] site t r after in (
        both (is_going s.standing.course) (is_active s.standing.association) (same.going going)
            (sym (ap is_active same.association) ∙ active_t),
        after,
      )

  sends_by : (sent : Option Offer) → r.sent ≡ sent → SendsWhereServed site s r
  sends_by None sent =
      let t = before_step s r in
      let z = standing_spoke (stepped site t r.told).standing r.spoke in
      inl (
        ap (λ (o : Option Offer). blocks_in (send_calls z o)) sent,
        ap (λ (o : Option Offer). (standing_sent z o).dropped) sent,
      )
  sends_by (Some Whole) sent = inr (offer_serves Whole sent (λ e. absurd (cc e)))
  sends_by (Some Stalled) sent = inr (offer_serves Stalled sent (λ e. absurd (cc e)))
  sends_by (Some Refused) sent =
      let t = before_step s r in
      let z = standing_spoke (stepped site t r.told).standing r.spoke in
      inl (
        ap (λ (o : Option Offer). blocks_in (send_calls z o)) sent,
        ap (λ (o : Option Offer). (standing_sent z o).dropped) sent,
      )

pub only_started_send : ServiceLeaves → SessionsAreKept → OnlyStartedSend
only_started_send leaves keeps b rounds are = λ earlier later r stands.
    sends_by leaves b.site (state_after b earlier) r (keeps b earlier)
    (rounds_behind b.site earlier (r ∷ later) (start_of b)
    (subst (AreRounds b.site (start_of b)) stands are)).0
    r.sent refl
