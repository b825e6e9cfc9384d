-- What a message that passes shows.
use Rattle.std.proofs.Common.{◌≡◌, ◌⊎◌, inl, inr, Bool, true, false, not, ◌||◌}
use Rattle.std.proofs.Common.{if◌then◌else◌, Option, Some, None, Result, Ok, Err, refl, sym}
use Rattle.std.proofs.Common.{◌∙◌, ap, subst}
use Rattle.std.specs.Prelude.{IsSomeAnd, is_some, is_ok}
use Rattle.isp1_auth.specs.declared.auth_fault.AuthFault.{AuthFault}
use Rattle.isp1_auth.specs.Auth.{auth}
use Rattle.sle_numbers.specs.declared.peer_abort_diagnostic.PeerAbortDiagnostic.{PeerAbortDiagnostic}
use Rattle.sle_numbers.specs.declared.peer_abort_diagnostic.PeerAbortDiagnostic.TheVariants as why
use Rattle.station_config.specs.declared.level.Level.{Level}
use Rattle.station_config.specs.declared.level.Level.TheVariants as level
use Rattle.station_config.specs.declared.peer.Peer.{Peer}
use Rattle.station_config.specs.declared.site.Site.{Site}
use Rattle.assoc_core.specs.declared.outcome.Outcome.{Outcome}
use Rattle.assoc_core.specs.declared.outcome.Outcome.TheVariants.{Context, Bound, Denied}
use Rattle.assoc_core.specs.declared.outcome.Outcome.TheVariants.{Unbound}
use Rattle.assoc_core.specs.declared.state.Binding.{Binding}
use Rattle.assoc_core.specs.declared.state.State.{State}
use Rattle.assoc_core.specs.declared.state.State.TheVariants as state
use Rattle.assoc_core.specs.declared.step.Step.{Step}
use Rattle.assoc_core.specs.declared.step.Step.TheVariants as step
use Rattle.assoc_core.specs.Kind.{Kind, context, heartbeat, bind, peer_abort, Message}
use Rattle.assoc_core.specs.Table.{next}
use Rattle.assoc_core.specs.State.{phase_of, binding_of, moved}
use Rattle.assoc_core.specs.Access.{sender, has_credentials, is_asked, secret_of, is_authentic}
use Rattle.assoc_core.specs.Access.{may_send, is_admitted}
use Rattle.assoc_core.specs.Association.{is_decoded, is_in_place, refusal, step as step_of}
use Rattle.assoc_core.specs.Run.{is_of_bound}
use Rattle.assoc_core.specs.Laws.{HasSender}
use Rattle.assoc_core.proofs.Tests.{differ}

-- what becomes of a message by the three tests
abbrev judged : Bool → Bool → Bool → Kind → Step
judged decoded placed admitted k =
    if not decoded then step.Abort why.EncodingError
    else if not placed then step.Abort why.ProtocolError
    else if not admitted then refusal k
    else step.Pass

abbrev pub is_step_pass : Step → Bool
is_step_pass step.Pass = true
is_step_pass _ = false

no_pass : (diagnostic : PeerAbortDiagnostic) → step.Abort diagnostic ≡ step.Pass → ⊥
no_pass diagnostic e = differ (sym (ap is_step_pass e))

refused : (k : Kind) → is_step_pass (refusal k) ≡ false
refused bind = refl
refused _ = refl

pub record Passes (decoded placed admitted : Bool) : Type 0 where
  pub is_decoded : decoded ≡ true
  pub is_placed : placed ≡ true
  pub is_admitted : admitted ≡ true

by_tests : (decoded placed admitted : Bool) (k : Kind)
    → judged decoded placed admitted k ≡ step.Pass
    → Passes decoded placed admitted
by_tests true true true k e = record { is_decoded = refl; is_placed = refl; is_admitted = refl }
by_tests false placed admitted k e = absurd (no_pass why.EncodingError e)
by_tests true false admitted k e = absurd (no_pass why.ProtocolError e)
by_tests true true false k e = absurd (differ (sym (ap is_step_pass e) ∙ refused k))

-- a message that passes decodes, is in place and is admitted
pub passes : (site : Site) (s : State) (m : Message) → step_of site s m ≡ step.Pass
    → Passes (is_decoded s m.kind) (is_in_place s m.kind) (is_admitted site s m)
passes site s m e =
    by_tests (is_decoded s m.kind) (is_in_place s m.kind) (is_admitted site s m) m.kind e

-- ---- the table

pub opens : (k : Kind) → is_in_place state.Opening k ≡ true → k ≡ context
opens context e = refl
opens _ e = absurd (differ (sym e))

nothing_in_closing : (k : Kind) → is_in_place state.Closing k ≡ false
nothing_in_closing context = refl
nothing_in_closing _ = refl

pub closed : (site : Site) (m : Message) → step_of site state.Closing m ≡ step.Pass → ⊥
closed site m e =
    differ (sym (passes site state.Closing m e).is_placed ∙ nothing_in_closing m.kind)

-- a context is in place in opening alone
pub record IsOpened (s : State) : Type 0 where
  pub out_of_place : is_in_place s context ≡ false

pub opened_stays : (s : State) (outcome : Outcome) → IsOpened s → IsOpened (moved s outcome)
opened_stays state.Opening outcome is = absurd (differ is.out_of_place)
opened_stays state.Unbound outcome is =
    elim outcome as (λ o. IsOpened (moved state.Unbound o))
    [ Context ↦ record { out_of_place = refl } | _ ↦ record { out_of_place = refl } ]
opened_stays (state.Ready binding) outcome is =
    elim outcome as (λ o. IsOpened (moved (state.Ready binding) o))
    [ Context ↦ record { out_of_place = refl } | _ ↦ record { out_of_place = refl } ]
opened_stays (state.Active binding) outcome is =
    elim outcome as (λ o. IsOpened (moved (state.Active binding) o))
    [ Context ↦ record { out_of_place = refl } | _ ↦ record { out_of_place = refl } ]
opened_stays state.Closing outcome is =
    elim outcome as (λ o. IsOpened (moved state.Closing o))
    [ Context ↦ record { out_of_place = refl } | _ ↦ record { out_of_place = refl } ]

pub closing_stays : (outcome : Outcome) → moved state.Closing outcome ≡ state.Closing
closing_stays Context = refl
closing_stays _ = refl

pub by_the_table : (s : State) (outcome : Outcome)
    → phase_of (moved s outcome) ≡ next (phase_of s) outcome
by_the_table state.Opening outcome =
    elim outcome as (λ o. phase_of (moved state.Opening o) ≡ next (phase_of state.Opening) o)
    [ Context ↦ refl | _ ↦ refl ]
by_the_table state.Unbound outcome =
    elim outcome as (λ o. phase_of (moved state.Unbound o) ≡ next (phase_of state.Unbound) o)
    [ Context ↦ refl | _ ↦ refl ]
by_the_table (state.Ready binding) outcome =
    elim outcome as (λ o. phase_of (moved (state.Ready binding) o)
    ≡ next (phase_of (state.Ready binding)) o) [ Context ↦ refl | _ ↦ refl ]
by_the_table (state.Active binding) outcome =
    elim outcome as (λ o. phase_of (moved (state.Active binding) o)
    ≡ next (phase_of (state.Active binding)) o) [ Context ↦ refl | _ ↦ refl ]
by_the_table state.Closing outcome =
    elim outcome as (λ o. phase_of (moved state.Closing o) ≡ next (phase_of state.Closing) o)
    [ Context ↦ refl | _ ↦ refl ]

-- ---- who is bound

abbrev Stays : State → Binding → Type 0
Stays s binding = (binding_of s ≡ Some binding) ⊎ (s ≡ state.Closing)

ready_stays : (binding : Binding) (outcome : Outcome)
    → Stays (moved (state.Ready binding) outcome) binding
ready_stays binding Denied = inr refl
ready_stays binding Unbound = inr refl
ready_stays binding _ = inl refl

active_stays : (binding : Binding) (outcome : Outcome)
    → Stays (moved (state.Active binding) outcome) binding
active_stays binding Denied = inr refl
active_stays binding _ = inl refl

pub nobody : {P : Type 0} (binding : Binding) → ◌≡◌ {A = Option Binding} None (Some binding) → P
nobody binding e = absurd (differ (sym (ap is_some e)))

pub stays_bound : (s : State) (outcome : Outcome) (binding : Binding) → binding_of s ≡ Some binding
    → Stays (moved s outcome) binding
stays_bound state.Opening outcome binding e = nobody binding e
stays_bound state.Unbound outcome binding e = nobody binding e
stays_bound (state.Ready other) outcome binding e =
    subst (λ b. Stays (moved (state.Ready other) outcome) b) (cc) (ready_stays other outcome)
stays_bound (state.Active other) outcome binding e =
    subst (λ b. Stays (moved (state.Active other) outcome) b) (cc) (active_stays other outcome)
stays_bound state.Closing outcome binding e = nobody binding e

-- who is bound after an outcome was so before, or was told by it in unbound
abbrev pub WasBound : State → Outcome → Binding → Type 0
WasBound s outcome binding =
    (binding_of s ≡ Some binding) ⊎ ((s ≡ state.Unbound)
    × (outcome ≡ Bound binding.peer binding.forward))

told_in_unbound : (outcome : Outcome) (binding : Binding)
    → binding_of (moved state.Unbound outcome) ≡ Some binding
    → WasBound state.Unbound outcome binding
told_in_unbound (Bound peer forward) binding e =
    let own : Binding = record { peer = peer; forward = forward } in
    let same : own ≡ binding = cc in
    inr (refl, ap (λ (b : Binding). Bound b.peer b.forward) same)
told_in_unbound _ binding e = nobody binding e

told_in_opening : (outcome : Outcome) (binding : Binding)
    → binding_of (moved state.Opening outcome) ≡ Some binding
    → WasBound state.Opening outcome binding
told_in_opening Context binding e = nobody binding e
told_in_opening _ binding e = nobody binding e

from_ready : (own : Binding) (outcome : Outcome) (binding : Binding)
    → binding_of (moved (state.Ready own) outcome) ≡ Some binding
    → ◌≡◌ {A = Option Binding} (Some own) (Some binding)
from_ready own Denied binding e = nobody binding e
from_ready own Unbound binding e = nobody binding e
from_ready own _ binding e = e

from_active : (own : Binding) (outcome : Outcome) (binding : Binding)
    → binding_of (moved (state.Active own) outcome) ≡ Some binding
    → ◌≡◌ {A = Option Binding} (Some own) (Some binding)
from_active own Denied binding e = nobody binding e
from_active own _ binding e = e

pub was_bound : (s : State) (outcome : Outcome) (binding : Binding)
    → binding_of (moved s outcome) ≡ Some binding
    → WasBound s outcome binding
was_bound state.Opening outcome binding e = told_in_opening outcome binding e
was_bound state.Unbound outcome binding e = told_in_unbound outcome binding e
was_bound (state.Ready own) outcome binding e = inl (from_ready own outcome binding e)
was_bound (state.Active own) outcome binding e = inl (from_active own outcome binding e)
was_bound state.Closing outcome binding e =
    nobody binding (ap binding_of (sym (closing_stays outcome)) ∙ e)

unbound_serves : (k : Kind) → is_in_place state.Unbound k ≡ true → is_of_bound k ≡ true → ⊥
unbound_serves bind placed served = differ (sym served)
unbound_serves heartbeat placed served = differ (sym served)
unbound_serves peer_abort placed served = differ (sym served)
unbound_serves _ placed served = differ (sym placed)

-- a message of a service is in place only where somebody is bound
pub somebody : (s : State) (k : Kind) → is_in_place s k ≡ true → is_of_bound k ≡ true
    → (binding : Binding) × (binding_of s ≡ Some binding)
somebody (state.Ready binding) k placed served = (binding, refl)
somebody (state.Active binding) k placed served = (binding, refl)
somebody state.Opening k placed served =
    absurd (differ (sym served ∙ ap is_of_bound (opens k placed)))
somebody state.Unbound k placed served = absurd (unbound_serves k placed served)
somebody state.Closing k placed served = absurd (differ (sym placed ∙ nothing_in_closing k))

-- ---- credentials

accepted : (r : Result (Unit {0}) AuthFault) → is_ok r ≡ true → r ≡ Ok tt
accepted (Ok tt) e = refl
accepted (Err fault) e = absurd (differ (sym e))

authentic : (peer : Peer) (m : Message) (asked : Bool) → asked ≡ true
    → (not asked || is_authentic peer m.credentials m.now) ≡ true
    → auth (secret_of peer) m.credentials m.now ≡ Ok tt
authentic peer m true is e = accepted (auth (secret_of peer) m.credentials m.now) e
authentic peer m false is e = absurd (differ (sym is))

-- the sender of a message that is admitted, with its credentials where they are asked for
pub by_sender : (p : Option Peer) (m : Message) → may_send p m ≡ true
    → IsSomeAnd p (λ peer. is_asked peer.level m.kind ≡ true
    → auth (secret_of peer) m.credentials m.now ≡ Ok tt)
by_sender None m e = absurd (differ (sym e))
by_sender (Some peer) m e = λ asked. authentic peer m (is_asked peer.level m.kind) asked e

or_second : (a b : Bool) → a ≡ true → (not a || b) ≡ true → b ≡ true
or_second true b is e = e
or_second false b is e = absurd (differ (sym is))

weaker : {X : Type 0} {P Q : X → Type 0} (o : Option X) → ((x : X) → P x → Q x) → IsSomeAnd o P
    → IsSomeAnd o Q
weaker None f h = h
weaker (Some x) f h = f x h

pub credentials_hold : (site : Site) (s : State) (m : Message) → step_of site s m ≡ step.Pass
    → has_credentials m.kind ≡ true → HasSender site s m
credentials_hold site s m pass has =
    let sent =
    by_sender (sender site.peers s m.kind m.initiator) m
    (or_second (has_credentials m.kind) (may_send (sender site.peers s m.kind m.initiator) m) has
    (passes site s m pass).is_admitted) in
    record {
      all =
          weaker (sender site.peers s m.kind m.initiator)
          (λ peer right of_all. right (ap (λ (l : Level). is_asked l m.kind) of_all ∙ has)) sent;
      binds =
          weaker (sender site.peers s m.kind m.initiator)
          (λ peer right of_bind same. right (ap (λ (l : Level). is_asked l m.kind) of_bind
          ∙ ap (λ k. is_asked level.Bind k) same)) sent;
    }
