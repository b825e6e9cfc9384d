-- What the steering of a link fixes stays fixed with each call.
use Rattle.std.proofs.Common.{◌≡◌, ℕ, Option, Some, None, List, [], ◌∷◌, ◌++◌, refl, sym, ap, subst}
use Rattle.std.proofs.Common.{◌∙◌}
use Rattle.octet_core.specs.declared.offer.Offer.{Offer}
use Rattle.link_model.specs.declared.call.Call.{Call}
use Rattle.link_model.specs.declared.call.Call.TheVariants.{Polled, Offered}
use Rattle.link_model.specs.declared.call.Heard.{Heard}
use Rattle.link_model.specs.Calls.{Tells}
use Rattle.link_model.specs.Steering.{Steering, heard_by, after_poll, answer_to_offer, after_offer}
use Rattle.station_links.specs.Connected.{after_call, after_calls, IsLed, AreLed, Leads}

pub calls_after : (s : Steering) (calls others : List Call)
    → after_calls s (calls ++ others) ≡ after_calls (after_calls s calls) others
calls_after s [] others = refl
calls_after s (call ∷ calls) others = calls_after (after_call s call) calls others

pub led_both : (s : Steering) (calls others : List Call) → AreLed s calls
    → AreLed (after_calls s calls) others → AreLed s (calls ++ others)
led_both s [] others led behind = behind
led_both s (call ∷ calls) others led behind =
    (led.0, led_both (after_call s call) calls others led.1 behind)

pub led_first : (s : Steering) (calls others : List Call) → AreLed s (calls ++ others)
    → AreLed s calls × AreLed (after_calls s calls) others
led_first s [] others led = (tt, led)
led_first s (call ∷ calls) others led =
    let rest = led_first (after_call s call) calls others led.1 in ((led.0, rest.0), rest.1)

-- one call more
leads_one : (s before now : Steering) (earlier later : Option (List Call)) (call : Call)
    → Leads s earlier before → Tells earlier later (call ∷ []) → IsLed before call
    → now ≡ after_call before call → Leads s later now
leads_one s before now earlier None call leads told led so = tt
leads_one s before now None (Some later) call leads told led so = absurd told
leads_one s before now (Some earlier) (Some later) call leads told led so =
    subst (λ calls. AreLed s calls × (now ≡ after_calls s calls)) (sym told) (
      led_both s earlier (call ∷ []) leads.0
          (subst (λ t. AreLed t (call ∷ [])) leads.1 (led, tt)),
      so ∙ ap (λ t. after_call t call) leads.1 ∙ sym (calls_after s earlier (call ∷ [])),
    )

pub leads_polled : (s before now : Steering) (earlier later : Option (List Call)) (space : ℕ)
    (heard : Heard) → Leads s earlier before → Tells earlier later (Polled space heard ∷ [])
    → heard ≡ heard_by before space → now ≡ after_poll before space → Leads s later now
leads_polled s before now earlier later space heard leads told led so =
    leads_one s before now earlier later (Polled space heard) leads told led so

pub leads_offered : (s before now : Steering) (earlier later : Option (List Call))
    (octets : List ℕ) (answer : Offer) → Leads s earlier before
    → Tells earlier later (Offered octets answer ∷ []) → answer ≡ answer_to_offer before
    → now ≡ after_offer before → Leads s later now
leads_offered s before now earlier later octets answer leads told led so =
    leads_one s before now earlier later (Offered octets answer) leads told led so
