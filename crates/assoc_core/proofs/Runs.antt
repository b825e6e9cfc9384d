-- Lists of messages: what passes in them.
use Rattle.std.proofs.Common.{◌≡◌, ◌≢◌, ◌⊎◌, inl, inr, ℕ, Bool, true, false, if◌then◌else◌}
use Rattle.std.proofs.Common.{Some, None, List, [], ◌∷◌, refl, sym, ◌∙◌, ap, subst}
use Rattle.std.specs.List.{cons_option, AllByRecursion}
use Rattle.station_config.specs.declared.site.Site.{Site}
use Rattle.assoc_core.specs.declared.outcome.Outcome.{Outcome}
use Rattle.assoc_core.specs.declared.outcome.Outcome.TheVariants as outcome
use Rattle.assoc_core.specs.declared.state.Binding.{Binding}
use Rattle.assoc_core.specs.declared.state.State.{State}
use Rattle.assoc_core.specs.declared.state.State.TheVariants as state
use Rattle.assoc_core.specs.declared.step.Step.{Step}
use Rattle.assoc_core.specs.declared.step.Step.TheVariants as step
use Rattle.assoc_core.specs.Kind.{Kind, context, bind, peer_abort, Message}
use Rattle.assoc_core.specs.State.{binding_of}
use Rattle.assoc_core.specs.Association.{is_in_place, goes_on, after_step, step as step_of}
use Rattle.assoc_core.specs.Run.{Turn, after_turn, after, Played, plays, is_pass, passed_kind}
use Rattle.assoc_core.specs.Run.{passed, is_of_bound, MayLead, AreLed}
use Rattle.assoc_core.specs.Laws.{IsContextFirst, IsBindOf, AnyByRecursion, IsBoundBy}
use Rattle.assoc_core.proofs.Tests.{differ, is_false}
use Rattle.assoc_core.proofs.Steps.{passes, opens, closed, IsOpened, opened_stays, closing_stays}
use Rattle.assoc_core.proofs.Steps.{was_bound, somebody, nobody}

abbrev one : Site → State → Turn → Played
one site s turn = record { turn = turn; step = step_of site s turn.message }

is_passed : (r : Step) → is_pass r ≡ true → r ≡ step.Pass
is_passed step.Pass e = refl
is_passed step.Denied e = absurd (differ (sym e))
is_passed (step.Abort diagnostic) e = absurd (differ (sym e))

-- ---- closing

shut_either : (going : Bool) → (if going then state.Closing else state.Closing) ≡ state.Closing
shut_either true = refl
shut_either false = refl

stays_closing : (site : Site) (turn : Turn) → after_turn site state.Closing turn ≡ state.Closing
stays_closing site turn =
    rw (shut_either (goes_on turn.message.kind (step_of site state.Closing turn.message)))
    (closing_stays turn.outcome)

not_passed : (site : Site) (m : Message) → is_pass (step_of site state.Closing m) ≡ false
not_passed site m =
    is_false (is_pass (step_of site state.Closing m))
    (λ e. closed site m (is_passed (step_of site state.Closing m) e))

-- nothing passes at a turn of a message that doesn't
skipped : (p : Played) (others : List Kind) → is_pass p.step ≡ false
    → cons_option (passed_kind p) others ≡ others
skipped p others e = rw e refl

pub nothing_passes : (site : Site) (turns : List Turn)
    → passed (plays site state.Closing turns) ≡ []
nothing_passes site [] = refl
nothing_passes site (turn ∷ turns) =
    skipped (one site state.Closing turn) (passed
    (plays site (after_turn site state.Closing turn) turns)) (not_passed site turn.message)
    ∙ ap (λ (s : State). passed (plays site s turns)) (stays_closing site turn)
    ∙ nothing_passes site turns

ends_closed : (site : Site) (s : State) (turn : Turn)
    → goes_on turn.message.kind (step_of site s turn.message) ≡ false
    → after_turn site s turn ≡ state.Closing
ends_closed site s turn e = rw e (closing_stays turn.outcome)

pub nothing_after_the_end : (site : Site) (s : State) (turn : Turn) (turns : List Turn)
    → goes_on turn.message.kind (step_of site s turn.message) ≡ false
    → passed (plays site (after_turn site s turn) turns) ≡ []
nothing_after_the_end site s turn turns e =
    rw (ends_closed site s turn e) (nothing_passes site turns)

-- ---- opening

-- a message that doesn't pass ends the association
ends : (k : Kind) (r : Step) → is_pass r ≡ false → goes_on k r ≡ false
ends peer_abort r e = refl
ends _ step.Pass e = absurd (differ e)
ends _ step.Denied e = refl
ends _ (step.Abort diagnostic) e = refl

all_of : (P : Kind → Type 0) (p : Played) (others : List Kind)
    → (is_pass p.step ≡ true → P p.turn.message.kind)
    → AllByRecursion P others → AllByRecursion P (cons_option (passed_kind p) others)
all_of P p others first rest =
    elim (is_pass p.step) as (λ b. is_pass p.step ≡ b
    → AllByRecursion P (cons_option (if b then Some p.turn.message.kind else None) others))
    [ true ↦ λ e. (first e, rest) | false ↦ λ e. rest ] refl

opened_or_closed : (going : Bool) (s : State) → IsOpened s
    → IsOpened (if going then s else state.Closing)
opened_or_closed true s is = is
opened_or_closed false s is = record { out_of_place = refl }

no_context : (site : Site) (s : State) (turns : List Turn) → IsOpened s
    → AllByRecursion (λ k. k ≢ context) (passed (plays site s turns))
no_context site s [] is = tt
no_context site s (turn ∷ turns) is =
    all_of (λ k. k ≢ context) (one site s turn) (passed (plays site (after_turn site s turn) turns))
    (λ e same. differ
    (sym (subst (λ k. is_in_place s k ≡ true) same
    (passes site s turn.message (is_passed (step_of site s turn.message) e)).is_placed)
    ∙ is.out_of_place))
    (no_context site (after_turn site s turn) turns
    (opened_stays (after_step s turn.message.kind (step_of site s turn.message)) turn.outcome
    (opened_or_closed (goes_on turn.message.kind (step_of site s turn.message)) s is)))

led_context : (o : Outcome) → MayLead context o → o ≡ outcome.Context
led_context outcome.Context may = refl
led_context _ may = absurd may

goes_on_context : (k : Kind) (r : Step) → k ≡ context → r ≡ step.Pass → goes_on k r ≡ true
goes_on_context k r same pass = rw (same, pass)

-- after a context the state is unbound
unbound_after : (site : Site) (turn : Turn) → MayLead turn.message.kind turn.outcome
    → step_of site state.Opening turn.message ≡ step.Pass → turn.message.kind ≡ context
    → after_turn site state.Opening turn ≡ state.Unbound
unbound_after site turn may pass same =
    rw (
      goes_on_context turn.message.kind (step_of site state.Opening turn.message) same pass,
      led_context turn.outcome (subst (λ k. MayLead k turn.outcome) same may),
    )

first_passes : (site : Site) (turn : Turn) (turns : List Turn)
    → MayLead turn.message.kind turn.outcome
    → step_of site state.Opening turn.message ≡ step.Pass
    → IsContextFirst (turn.message.kind ∷ passed
    (plays site (after_turn site state.Opening turn) turns))
first_passes site turn turns may pass =
    let same = opens turn.message.kind (passes site state.Opening turn.message pass).is_placed in (
      same,
      no_context site (after_turn site state.Opening turn) turns
          (rw (unbound_after site turn may pass same) (record { out_of_place = refl })),
    )

first_fails : (site : Site) (turn : Turn) (turns : List Turn)
    → is_pass (step_of site state.Opening turn.message) ≡ false
    → IsContextFirst (passed (plays site (after_turn site state.Opening turn) turns))
first_fails site turn turns e =
    rw (nothing_after_the_end site state.Opening turn turns
    (ends turn.message.kind (step_of site state.Opening turn.message) e)) tt

pub context_first : (site : Site) (turns : List Turn) → AreLed turns
    → IsContextFirst (passed (plays site state.Opening turns))
context_first site [] led = tt
context_first site (turn ∷ turns) led =
    elim (is_pass (step_of site state.Opening turn.message))
    as (λ b. is_pass (step_of site state.Opening turn.message) ≡ b
    → IsContextFirst (cons_option (if b then Some turn.message.kind else None)
    (passed (plays site (after_turn site state.Opening turn) turns)))) [
      | true ↦ λ e. first_passes site turn turns led.0
          (is_passed (step_of site state.Opening turn.message) e)
      | false ↦ λ e. first_fails site turn turns e
    ] refl

-- ---- bound

led_bound : (k : Kind) (peer : ℕ) (forward : Bool) → MayLead k (outcome.Bound peer forward)
    → k ≡ bind
led_bound bind peer forward may = refl
led_bound _ peer forward may = absurd may

on : (k : Kind) (r : Step) → goes_on k r ≡ true → r ≡ step.Pass
on peer_abort r e = absurd (differ (sym e))
on _ step.Pass e = refl
on _ step.Denied e = absurd (differ (sym e))
on _ (step.Abort diagnostic) e = absurd (differ (sym e))

left_open : (going : Bool) (s : State) (binding : Binding)
    → binding_of (if going then s else state.Closing) ≡ Some binding
    → binding_of s ≡ Some binding
left_open true s binding e = e
left_open false s binding e = nobody binding e

went_on : (going : Bool) (s : State) → (if going then s else state.Closing) ≡ state.Unbound
    → going ≡ true
went_on true s e = refl
went_on false s e = cc

one_turn : (site : Site) (s : State) (turn : Turn) (binding : Binding)
    → MayLead turn.message.kind turn.outcome
    → binding_of (after_turn site s turn) ≡ Some binding
    → (binding_of s ≡ Some binding) ⊎ IsBindOf binding (one site s turn)
one_turn site s turn binding may e =
    elim (was_bound (after_step s turn.message.kind (step_of site s turn.message)) turn.outcome
    binding e) [
      | inl kept ↦ inl (left_open (goes_on turn.message.kind (step_of site s turn.message)) s
          binding kept)
      | inr told ↦ inr (record {
        passes = on turn.message.kind (step_of site s turn.message)
            (went_on (goes_on turn.message.kind (step_of site s turn.message)) s told.0);
        kind = led_bound turn.message.kind binding.peer binding.forward
            (subst (λ (o : Outcome). MayLead turn.message.kind o) told.1 may);
        outcome = told.1;
      })
    ]

bound_in : (site : Site) (s : State) (turns : List Turn) (binding : Binding) → AreLed turns
    → binding_of (after site s turns) ≡ Some binding
    → (binding_of s ≡ Some binding) ⊎ AnyByRecursion (IsBindOf binding) (plays site s turns)
bound_in site s [] binding led e = inl e
bound_in site s (turn ∷ turns) binding led e =
    elim (bound_in site (after_turn site s turn) turns binding led.1 e) [
      | inl before ↦ elim (one_turn site s turn binding led.0 before)
          [ inl old ↦ inl old | inr now ↦ inr (inl now) ]
      | inr later ↦ inr (inr later)
    ]

pub service_after_bind : (site : Site) (turns : List Turn) (m : Message) → AreLed turns
    → is_of_bound m.kind ≡ true
    → step_of site (after site state.Opening turns) m ≡ step.Pass
    → (binding : Binding) × IsBoundBy site turns binding
service_after_bind site turns m led served pass =
    let who = somebody (after site state.Opening turns) m.kind
    (passes site (after site state.Opening turns) m pass).is_placed served in (
      who.0,
      record {
        bound = who.1;
        by_bind = elim (bound_in site state.Opening turns who.0 led who.1)
            [ inl e ↦ nobody who.0 e | inr any ↦ any ];
      },
    )
