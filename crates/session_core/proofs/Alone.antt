-- The block behind a message is one message alone, or empty.
use Rattle.std.proofs.Common.{◌≡◌, ℕ, ◌≤◌, Bool, true, false, not, ◌&&◌, ◌||◌, ◌==◌, Option, Some}
use Rattle.std.proofs.Common.{None, List, [], ◌∷◌, length, Result, Ok, Err, refl, sym, ap, subst, ◌∙◌}
use Rattle.std.proofs.Common.{if◌then◌else◌, inl, inr, ◌⊎◌, arith}
use Rattle.std.proofs.lemmas.List.{nil_from_length}
use Rattle.isp1_tml.specs.Message.{Content, spelling}
use Rattle.bind_pdu.specs.Binding.{bind_return}
use Rattle.bind_pdu.specs.Unbinding.{unbind_return}
use Rattle.sle_numbers.specs.declared.bind_diagnostic.BindDiagnostic.{BindDiagnostic}
use Rattle.sle_numbers.specs.declared.bind_diagnostic.BindDiagnostic.TheVariants.{AccessDenied}
use Rattle.sle_numbers.specs.declared.peer_abort_diagnostic.PeerAbortDiagnostic.TheVariants.{CommunicationsFailure}
use Rattle.station_config.specs.declared.site.Site.{Site}
use Rattle.assoc_core.specs.Access.{sender}
use Rattle.assoc_core.specs.Kind as kind
use Rattle.assoc_core.specs.Kind.{Kind}
use Rattle.assoc_core.specs.declared.step.Step.{Step}
use Rattle.assoc_core.specs.declared.step.Step.TheVariants.{Pass, Denied, Abort}
use Rattle.session_services.specs.Inquiry.{Replied}
use Rattle.session_services.specs.Returns.{own_credentials, return_content}
use Rattle.session_services.specs.Room.{HasOne}
use Rattle.session_services.specs.Served.{Message, concluded_by}
use Rattle.session_services.specs.Service.{invocation_kind}
use Rattle.session_core.specs.declared.standing.Standing.{Standing}
use Rattle.session_core.specs.Course.{is_going, is_blocked, has_closed}
use Rattle.session_core.specs.Message.{UserContent, context, heartbeat, bind, unbind, peer_abort}
use Rattle.session_core.specs.Message.{invocation, undecoded, out_of_place, judged}
use Rattle.session_core.specs.Returns.{as_integers, bind_return_message, bound_peer}
use Rattle.session_core.specs.ServiceSteps.{permitted, answered_with, may_tell}
use Rattle.session_core.specs.Handling.{bind_judged, bind_result, with_bind, with_denial, is_agreed}
use Rattle.session_core.specs.Handling.{after_passing, concluded, is_lost, invoked, aborted}
use Rattle.session_core.specs.Steps.{Next, has_block, is_idle, said_to, with_next, acted, timed}

abbrev Alone : Standing → Type 0
Alone s = (s.block ≡ []) ⊎ ((message : Content) × (s.block ≡ spelling message))

if_alone : (b : Bool) (s t : Standing) → Alone s → Alone t → Alone (if b then s else t)
if_alone true s t h k = h
if_alone false s t h k = k

answered_alone : (site : Site) (s : Standing) (k : Kind) (answer : Option Message)
    → s.block ≡ [] → Alone (answered_with site s k answer)
answered_alone site s k None e = inl e
answered_alone site s k (Some message) e =
    inr (message (own_credentials site (bound_peer site s) k s.numbers s.moment), refl)

bind_alone : (site : Site) (credentials : Option (List ℕ)) (bound : Result ℕ BindDiagnostic)
    (t : Standing) → t.block ≡ bind_return_message site credentials bound → Alone t
bind_alone site credentials bound t is =
    inr (
      return_content bind_return (record {
        credentials = credentials;
        responder = site.provider;
        result = as_integers bound;
      }),
      is,
    )

passing : (site : Site) (s : Standing) (said : UserContent) (r : Replied) → s.block ≡ []
    → Alone (after_passing site s said r)
passing site s (context interval factor) r e =
    if_alone (is_agreed site interval factor) _ _ (inl e) (inl refl)
passing site s (bind b) r e =
    bind_alone site
    (own_credentials site (sender site.peers s.association kind.bind b.initiator) kind.bind
    s.numbers s.moment)
    (bind_result b (bind_judged site b) r.reply) (with_bind site s b r.reply) refl
passing site s (unbind u) r e =
    inr (
      return_content unbind_return (record {
        credentials =
            own_credentials site (bound_peer site s) kind.unbind s.numbers s.moment;
      }),
      refl,
    )
passing site s (peer_abort diagnostic) r e = inl refl
passing site s (invocation i) r e =
    answered_alone site s (invocation_kind i)
    (concluded_by s.service (permitted site s) i r s.moment).answer e
passing site s heartbeat r e = inl e
passing site s undecoded r e = inl e
passing site s out_of_place r e = inl e

concludes : (site : Site) (s : Standing) (said : UserContent) (step : Step) (r : Replied)
    → s.block ≡ [] → Alone (concluded site s said step r)
concludes site s said Pass r e = passing site s said r e
concludes site s said Denied r e =
    bind_alone site None (Err AccessDenied) (with_denial site s) refl
concludes site s said (Abort diagnostic) r e = inl refl

next_alone : (site : Site) (s : Standing) (next : Next) (r : Replied) → s.block ≡ []
    → Alone (with_next site s next r)
next_alone site s (Err fault) r e = inl refl
next_alone site s (Ok None) r e = if_alone (has_closed s.arrival) _ s (inl refl) (inl e)
next_alone site s (Ok (Some message)) r e =
    let said = said_to site s message in
    let step = judged site s.association said s.moment in
    let t = invoked s said step in
    if_alone (is_lost r.reply) _ (concluded site t said step r) (inl refl)
    (concludes site t said step r e)

timed_alone : (t : Standing) → Alone t → Alone (timed t)
timed_alone t h = if_alone _ (aborted t CommunicationsFailure) t (inl refl) h

-- ---- a round that handles no message tells nothing

if_quiet : (b : Bool) (s t : Standing) → may_tell s ≡ false → may_tell t ≡ false
    → may_tell (if b then s else t) ≡ false
if_quiet true s t h k = h
if_quiet false s t h k = k

idle_quiet : (blocked going : Bool) → (blocked || not going) ≡ true
    → (going && not blocked) ≡ false
idle_quiet blocked going e = grind arith

timed_quiet : (s : Standing) → may_tell s ≡ false → may_tell (timed s) ≡ false
timed_quiet s h = if_quiet _ (aborted s CommunicationsFailure) s refl h

no_octet : (n : ℕ) → not (n == 0) ≡ false → n ≡ 0
no_octet n h = grind arith

empty_block : (octets : List ℕ) → not (length octets == 0) ≡ false → octets ≡ []
empty_block octets h = nil_from_length octets (no_octet (length octets) h)

acted_alone : (site : Site) (s : Standing) (next : Next) (r : Replied)
    → (not (is_idle s) && has_block s) ≡ false → may_tell (timed (acted site s next r)) ≡ true
    → Alone (timed (acted site s next r))
acted_alone site s next r turn told = by_idle (is_idle s) refl
  where
    by_idle : (idle : Bool) → is_idle s ≡ idle → Alone (timed (acted site s next r))
    by_idle true e =
        let quiet : may_tell (timed (acted site s next r)) ≡ false =
        ap (λ (b : Bool). may_tell (timed (if b then s else with_next site s next r))) e
        ∙ timed_quiet s (idle_quiet (is_blocked s.arrival) (is_going s.course) e) in
        absurd (cc)
    by_idle false e =
        let empty : s.block ≡ [] =
        empty_block s.block (ap (λ (b : Bool). not b && has_block s) (sym e) ∙ turn) in
        subst (λ (b : Bool). Alone (timed (if b then s else with_next site s next r))) (sym e)
        (timed_alone (with_next site s next r) (next_alone site s next r empty))

small_room : (u : Standing) → Alone u
    → ((message : Content) → u.block ≡ spelling message → HasOne u.block) → HasOne u.block
small_room u (inl e) small = omega (arith, ap length e)
small_room u (inr one) small = small one.0 one.1

-- where it tells, a block whose message is small if it is alone has room for more
pub room_told : (site : Site) (s t u : Standing) (next : Next) (r : Replied)
    → (not (is_idle s) && has_block s) ≡ false → t ≡ acted site s next r → u ≡ timed t
    → ((message : Content) → u.block ≡ spelling message → HasOne u.block)
    → may_tell u ≡ true → HasOne u.block
room_told site s t u next r turn t_so u_so small told =
    let all : u ≡ timed (acted site s next r) = u_so ∙ ap timed t_so in
    small_room u
    (subst Alone (sym all)
    (acted_alone site s next r turn (ap may_tell (sym all) ∙ told))) small
