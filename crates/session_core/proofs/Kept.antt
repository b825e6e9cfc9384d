-- A service's message that was offered is gone, or it is kept as it is.
use Rattle.std.proofs.Common.{◌≡◌, ℕ, Bool, true, false, not, ◌&&◌, ◌==◌, Option, Some, None, List}
use Rattle.std.proofs.Common.{[], Ok, Err, refl, sym, ap, subst, ◌∙◌, if◌then◌else◌, inl, inr, ◌⊎◌, arith}
use Rattle.std.specs.Prelude.{is_some, length}
use Rattle.octet_core.specs.declared.offer.Offer.{Offer}
use Rattle.octet_core.specs.declared.offer.Offer.TheVariants.{Whole, Stalled, Failed as Refused}
use Rattle.archive_terms.specs.Glimpse.{Glimpse}
use Rattle.link_model.specs.declared.call.Heard.{Heard}
use Rattle.link_model.specs.declared.call.Heard.TheVariants.{Arrived, Nothing, Closed, Failed}
use Rattle.sle_numbers.specs.declared.peer_abort_diagnostic.PeerAbortDiagnostic.TheVariants.{CommunicationsFailure}
use Rattle.station_config.specs.declared.site.Site.{Site}
use Rattle.assoc_core.specs.Kind.{Kind}
use Rattle.assoc_core.specs.State.{moved}
use Rattle.assoc_core.specs.declared.outcome.Outcome.{Outcome}
use Rattle.assoc_core.specs.declared.state.State.{State as Association}
use Rattle.assoc_core.specs.declared.step.Step.{Step}
use Rattle.assoc_core.specs.declared.step.Step.TheVariants.{Pass, Denied, Abort}
use Rattle.cltu_queue.specs.declared.notice.Notice.{Notice}
use Rattle.session_core.specs.declared.course.Course.{Course}
use Rattle.session_core.specs.declared.standing.Standing.{Standing}
use Rattle.session_core.specs.Course.{is_going, is_live, has_closed, is_blocked}
use Rattle.session_services.specs.Inquiry.{Replied, reply_in}
use Rattle.session_core.specs.Message.{UserContent, context, heartbeat as heartbeat_said, bind}
use Rattle.session_core.specs.Message.{unbind, peer_abort, invocation, undecoded, out_of_place}
use Rattle.session_core.specs.Message.{judged}
use Rattle.session_services.specs.Served.{Message, concluded_by, Reported, reported_by, told_by_service}
use Rattle.session_services.specs.Served.{dropped_by, fixed_by}
use Rattle.session_services.specs.Service.{invocation_kind}
use Rattle.session_core.specs.Returns.{bound_peer}
use Rattle.session_core.specs.ServiceSteps.{permitted, answered_with, led_to, told_more, may_tell}
use Rattle.session_core.specs.ServiceSteps.{reported, with_report}
use Rattle.session_core.specs.ServiceSteps.{noticed, with_notice, has_outgoing, fixed, stepped_by}
use Rattle.session_core.specs.ServiceSteps.{with_fixed, may_serve, with_service, after_stall, is_active}
use Rattle.session_core.specs.Handling.{after_passing, is_agreed, concluded, is_lost, after_message}
use Rattle.session_core.specs.Handling.{invoked, aborted, ended_by}
use Rattle.session_core.specs.Steps.{Next, at_moment, is_idle, with_next, acted, timed, unasked}
use Rattle.session_core.specs.Steps.{with_heartbeat, after_step, said_to, round_ended}
use Rattle.session_core.specs.Session.{State, Round, BookAnswer, next_of, listened, cleared}
use Rattle.session_core.specs.Session.{standing_spoke, standing_sent, standing_heard, stepped}
use Rattle.session_core.specs.Session.{before_step, before_speak, after_round, spoken_state}
use Rattle.session_core.specs.Laws.{IsGoneOrKept, StaysOrGoes, MessagesAreOnce}
use Rattle.session_core.proofs.Staying.{stays_unasked}

-- ---- behind its offer

pub spoke_same : (s : Standing) (spoke : Option Offer) → (standing_spoke s spoke).outgoing ≡ s.outgoing
spoke_same s None = refl
spoke_same s (Some Whole) = refl
spoke_same s (Some Stalled) = refl
spoke_same s (Some Refused) = refl

stall_gone : (t : Standing) (items : Option ℕ) (kept : List ℕ) → t.outgoing ≡ kept
    → (after_stall t items).outgoing
    ≡ (if is_some (after_stall t items).dropped then [] else kept)
stall_gone t None kept same = same
stall_gone t (Some items) kept same = refl

gone_whole : (s : State) (spoke sent : Option Offer) → sent ≡ Some Whole
    → (spoken_state s spoke sent).standing.outgoing ≡ []
gone_whole s spoke sent e = rw e refl

gone_stalled : (s : State) (spoke sent : Option Offer) → sent ≡ Some Stalled
    → (spoken_state s spoke sent).standing.outgoing
    ≡ (if is_some (spoken_state s spoke sent).standing.dropped then [] else s.standing.outgoing)
gone_stalled s spoke sent e =
    let t = standing_spoke s.standing spoke in
    rw e
    (stall_gone t (dropped_by t.service) s.standing.outgoing (spoke_same s.standing spoke))

kept_unsent : (s : State) (spoke sent : Option Offer) → sent ≡ None
    → (spoken_state s spoke sent).standing.outgoing ≡ s.standing.outgoing
kept_unsent s spoke sent e = rw e (spoke_same s.standing spoke)

each : (site : Site) (s : State) (r : Round) → IsGoneOrKept site s r
each site s r =
    let u = before_speak site s r in
    record {
      whole = gone_whole u r.spoke r.sent;
      stalled = gone_stalled u r.spoke r.sent;
      unsent = kept_unsent u r.spoke r.sent;
    }

-- ---- to the next one

-- whether its service may offer
abbrev serves : Standing → Bool
serves s = is_going s.course && is_active s.association

-- it stays, or it is gone and the service offers nothing
abbrev Fate : Standing → Standing → Type 0
Fate s t = (t.outgoing ≡ s.outgoing) ⊎ ((t.outgoing ≡ []) × (serves t ≡ false))

if_fate : (b : Bool) (s t u : Standing) → Fate s t → Fate s u → Fate s (if b then t else u)
if_fate true s t u h k = h
if_fate false s t u h k = k

answered_same : (site : Site) (s : Standing) (k : Kind) (answer : Option Message)
    → (answered_with site s k answer).outgoing ≡ s.outgoing
answered_same site s k None = refl
answered_same site s k (Some message) = refl

from_fate : (s t u : Standing) → t.outgoing ≡ s.outgoing → Fate t u → Fate s u
from_fate s t u e (inl same) = inl (same ∙ e)
from_fate s t u e (inr gone) = inr gone

-- where an outcome leaves the service started its message stays
false_behind : (a b : Bool) → b ≡ false → (a && b) ≡ false
false_behind a b e = grind arith

led_fate : (s : Standing) (outcome : Outcome) → Fate s (led_to outcome s)
led_fate s outcome = by_active (is_active now) refl
  where
    now : Association
    now = moved s.association outcome

    by_active : (b : Bool) → is_active now ≡ b → Fate s (led_to outcome s)
    by_active true e = inl (rw e refl)
    by_active false e =
        inr (rw e refl, false_behind (is_going s.course) (is_active now) e)

passing : (site : Site) (s : Standing) (said : UserContent) (r : Replied)
    → Fate s (after_passing site s said r)
passing site s (context interval factor) r =
    if_fate (is_agreed site interval factor) s _ _ (inl refl) (inr (refl, refl))
passing site s (bind b) r = inl refl
passing site s (unbind u) r = inr (refl, refl)
passing site s (peer_abort diagnostic) r = inr (refl, refl)
passing site s (invocation i) r =
    let done = concluded_by s.service (permitted site s) i r s.moment in
    let t = answered_with site s (invocation_kind i) done.answer in
    from_fate s t (led_to done.outcome t)
    (answered_same site s (invocation_kind i) done.answer) (led_fate t done.outcome)
passing site s heartbeat_said r = inl refl
passing site s undecoded r = inl refl
passing site s out_of_place r = inl refl

concludes : (site : Site) (s : Standing) (said : UserContent) (step : Step) (r : Replied)
    → Fate s (concluded site s said step r)
concludes site s said Pass r = passing site s said r
concludes site s said Denied r = inl refl
concludes site s said (Abort diagnostic) r = inr (refl, refl)

next_fate : (site : Site) (s : Standing) (next : Next) (r : Replied)
    → Fate s (with_next site s next r)
next_fate site s (Err fault) r = inr (refl, refl)
next_fate site s (Ok None) r =
    if_fate (has_closed s.arrival) s _ s (inr (refl, refl)) (inl refl)
next_fate site s (Ok (Some message)) r =
    let said = said_to site s message in
    let step = judged site s.association said s.moment in
    let t = invoked s said step in
    if_fate (is_lost r.reply) s _ (concluded site t said step r) (inr (refl, refl))
    (concludes site t said step r)

timed_fate : (s : Standing) → Fate s (timed s)
timed_fate s = if_fate _ s _ s (inr (refl, refl)) (inl refl)

-- what is told unasked leaves it
if_same : (b : Bool) (s t : Standing) → t.outgoing ≡ s.outgoing
    → (if b then t else s).outgoing ≡ s.outgoing
if_same true s t e = e
if_same false s t e = refl

more_same : (site : Site) (s : Standing) (message : Option Message)
    → (told_more site s message).outgoing ≡ s.outgoing
more_same site s None = refl
more_same site s (Some message) = refl

reported_same : (site : Site) (s : Standing) (r : Reported)
    → (reported site s r).outgoing ≡ s.outgoing
reported_same site s r =
    let t : Standing = record s { service = r.served } in more_same site t r.report

noticed_same : (site : Site) (s : Standing) (notice : Option Notice)
    → (noticed site s notice).outgoing ≡ s.outgoing
noticed_same site s None = refl
noticed_same site s (Some notice) = more_same site s (told_by_service s.service notice)

unasked_same : (site : Site) (r : Replied) (s : Standing)
    → (unasked site r s).outgoing ≡ s.outgoing
unasked_same site r s =
    let t = with_report site s r in
    let u = with_notice site t r.notice in
    if_same _ u _ refl
    ∙ if_same (may_tell t) t _ (noticed_same site t r.notice)
    ∙ if_same (may_tell s) s _ (reported_same site s (reported_by s.service r s.moment))

-- the service's step leaves it, and makes none where the service may offer none
if_true : (b : Bool) (s t : Standing) → b ≡ true → (if b then s else t) ≡ s
if_true b s t e = rw e refl

if_false : (b : Bool) (s t : Standing) → b ≡ false → (if b then s else t) ≡ t
if_false b s t e = rw e refl

fixed_same : (site : Site) (s : Standing) → has_outgoing s ≡ true → fixed site s ≡ s
fixed_same site s has =
    if_true (has_outgoing s) s
    (with_fixed s (fixed_by s.service site (bound_peer site s) s.numbers s.moment)) has

served_same : (site : Site) (was : Bool) (g : Glimpse) (s : Standing) → has_outgoing s ≡ true
    → (with_service site was g s).outgoing ≡ s.outgoing
served_same site was g s has =
    if_same (may_serve was s) s _
    (ap (λ (t : Standing). t.outgoing) (fixed_same site (stepped_by g s) has))

not_serves : (was active going free : Bool) → (going && active) ≡ false
    → ((was && active) && (going && free)) ≡ false
not_serves was active going free e = grind arith

served_none : (site : Site) (was : Bool) (g : Glimpse) (s : Standing) → serves s ≡ false
    → with_service site was g s ≡ s
served_none site was g s e =
    if_false (may_serve was s) (fixed site (stepped_by g s)) s
    (not_serves was (is_active s.association) (is_going s.course) (not (is_blocked s.arrival)) e)

abbrev StaysIn : Standing → Standing → Type 0
StaysIn s t = (t.outgoing ≡ s.outgoing) ⊎ (t.outgoing ≡ [])

same_has : (s t : Standing) → t.outgoing ≡ s.outgoing → has_outgoing s ≡ true
    → has_outgoing t ≡ true
same_has s t e has = ap (λ (octets : List ℕ). not (length octets == 0)) e ∙ has

behind : (site : Site) (was : Bool) (g : Glimpse) (s t : Standing) → has_outgoing s ≡ true
    → Fate s t → StaysIn s (with_service site was g t)
behind site was g s t has (inl same) =
    inl (served_same site was g t (same_has s t same has) ∙ same)
behind site was g s t has (inr gone) =
    inr (ap (λ (x : Standing). x.outgoing) (served_none site was g t gone.1) ∙ gone.0)

unasked_fate : (site : Site) (r : Replied) (s t : Standing) → Fate s t
    → Fate s (unasked site r t)
unasked_fate site r s t (inl same) = inl (unasked_same site r t ∙ same)
unasked_fate site r s t (inr gone) =
    let kept = stays_unasked site r t in
    inr (
      unasked_same site r t ∙ gone.0,
      ap (λ (c : Course). is_going c && is_active (unasked site r t).association) kept.course
          ∙ ap (λ (a : Association). is_going t.course && is_active a) kept.association
          ∙ gone.1,
    )

times_fate : (s t : Standing) → Fate s t → Fate s (timed t)
times_fate s t (inl same) = from_fate s t (timed t) same (timed_fate t)
times_fate s t (inr gone) =
    if_fate _ s (aborted t CommunicationsFailure) t (inr (refl, refl)) (inr gone)

step_stays : (site : Site) (s : Standing) (next : Next) (now : ℕ) (r : Replied)
    → has_outgoing s ≡ true → StaysIn s (after_step site s next now r)
step_stays site s next now r has =
    let u = at_moment s now in
    let one : Fate s (acted site u next r) =
    if_fate (is_idle u) s u (with_next site u next r) (inl refl) (next_fate site u next r) in
    behind site (is_active s.association) r.glimpse s (unasked site r (timed (acted site u next r)))
    has (unasked_fate site r s (timed (acted site u next r)) (times_fate s (acted site u next r) one))

-- ---- a round

waited_same : (s : State) (waited : Option Offer)
    → (cleared s waited).outgoing ≡ s.standing.outgoing
waited_same s None = refl
waited_same s (Some Whole) = refl
waited_same s (Some Stalled) = refl
waited_same s (Some Refused) = refl

heard_same : (s : Standing) (heard : Option Heard) → (standing_heard s heard).outgoing ≡ s.outgoing
heard_same s None = refl
heard_same s (Some (Arrived octets)) = refl
heard_same s (Some Nothing) = refl
heard_same s (Some Closed) = refl
heard_same s (Some Failed) = refl

listened_same : (s : State) (waited : Option Offer) (heard : Option Heard)
    → (listened s waited heard).standing.outgoing ≡ s.standing.outgoing
listened_same s waited heard = heard_same (cleared s waited) heard ∙ waited_same s waited

from_same : (s t u : Standing) → t.outgoing ≡ s.outgoing → StaysIn t u → StaysIn s u
from_same s t u e (inl same) = inl (same ∙ e)
from_same s t u e (inr gone) = inr gone

stepped_stays : (site : Site) (s : State) (told : Option BookAnswer)
    → has_outgoing s.standing ≡ true → StaysIn s.standing (stepped site s told).standing
stepped_stays site s None has = inl refl
stepped_stays site s (Some told) has =
    step_stays site s.standing (next_of s) told.moment (reply_in told.answer) has

again : (site : Site) (s : State) (r : Round) → has_outgoing s.standing ≡ true
    → StaysOrGoes site s r
again site s r has =
    let t = before_step s r in
    let same = listened_same s r.waited r.heard in
    from_same s.standing t.standing (before_speak site s r).standing same
    (stepped_stays site t r.told (same_has s.standing t.standing same has))

pub messages_are_once : MessagesAreOnce
messages_are_once = record { each = each; again = again }
