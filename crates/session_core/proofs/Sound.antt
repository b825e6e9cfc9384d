-- Where a round begins and the session goes on, its stream has no fault.
use Rattle.std.proofs.Common.{◌≡◌, ℕ, true, false, List, [], ◌∷◌, Option, Some, None, refl, ap}
use Rattle.std.proofs.Common.{sym, ◌∙◌, arith, if◌then◌else◌, Bool}
use Rattle.octet_core.specs.declared.offer.Offer.{Offer}
use Rattle.isp1_tml.specs.declared.tml_fault.TmlFault.{TmlFault}
use Rattle.isp1_tml.specs.Message.{Content}
use Rattle.isp1_tml.specs.Reading.{Reading, reading}
use Rattle.isp1_tml.specs.Feeding.{StandsFor, fresh}
use Rattle.link_model.specs.declared.call.Heard.{Heard}
use Rattle.link_model.specs.declared.call.Heard.TheVariants.{Arrived}
use Rattle.station_config.specs.declared.site.Site.{Site}
use Rattle.session_core.specs.declared.standing.Standing.{Standing}
use Rattle.session_core.specs.Course.{is_going, is_blocked}
use Rattle.session_services.specs.Inquiry.{Replied, reply_in}
use Rattle.session_core.specs.ServiceSteps.{with_service, is_active}
use Rattle.session_core.specs.Steps.{Next, at_moment, acted, timed, unasked, is_idle, with_next}
use Rattle.session_core.specs.Session.{State, Round, BookAnswer, at_first, next_by, next_of}
use Rattle.session_core.specs.Session.{listened}
use Rattle.session_core.specs.Session.{stepped, Asks, spoken_state, before_step, before_speak}
use Rattle.session_core.specs.Session.{after_round, after_rounds, IsRound, AreRounds}
use Rattle.session_core.specs.SessionState.{IsSound}
use Rattle.session_core.proofs.Staying.{stays_behind}
use Rattle.session_core.proofs.Streams.{WorkedOut}

-- ---- a session that goes on has gone on before

timed_going : (s : Standing) → is_going (timed s).course ≡ true → is_going s.course ≡ true
timed_going s e = grind arith

behind_going : (site : Site) (was : Bool) (s : Standing) (next : Next) (r : Replied)
    → is_going (with_service site was r.glimpse
    (unasked site r (timed (acted site s next r)))).course ≡ true
    → is_going (acted site s next r).course ≡ true
behind_going site was s next r e =
    timed_going (acted site s next r)
    (sym (ap is_going (stays_behind site was s next r).course) ∙ e)

busy_going : (s t : Standing) → is_going (if is_idle s then s else t).course ≡ true
    → is_going s.course ≡ true
busy_going s t e = grind arith

step_going : (site : Site) (s : State) (told : Option BookAnswer)
    → is_going (stepped site s told).standing.course ≡ true → is_going s.standing.course ≡ true
step_going site s None e = e
step_going site s (Some told) e =
    let u = at_moment s.standing told.moment in
    busy_going u (with_next site u (next_of s) (reply_in told.answer))
    (behind_going site (is_active s.standing.association) u (next_of s) (reply_in told.answer) e)

listen_going : (s : State) (waited : Option Offer) (heard : Option Heard)
    → is_going (listened s waited heard).standing.course ≡ true → is_going s.standing.course ≡ true
listen_going s waited heard e = grind arith

speak_going : (s : State) (spoke sent : Option Offer)
    → is_going (spoken_state s spoke sent).standing.course ≡ true
    → is_going s.standing.course ≡ true
speak_going s spoke sent e = grind arith

-- a fault ends the session
no_fault : (site : Site) (s : Standing) (o : Option TmlFault) (m : Option Content)
    (reply : Replied) → is_blocked s.arrival ≡ false
    → is_going (acted site s (next_by o m) reply).course ≡ true → o ≡ None
no_fault site s o m reply free e = grind arith

told_sound : (site : Site) (s : State) (told : Option BookAnswer) → is_blocked s.standing.arrival
    ≡ false → Asks s told → is_going (stepped site s told).standing.course ≡ true
    → (reading 0 s.came).fault ≡ None
told_sound site s None free asks e = grind arith
told_sound site s (Some told) free asks e =
    let u = at_moment s.standing told.moment in
    no_fault site u (reading 0 s.came).fault _ (reply_in told.answer) free
    (behind_going site (is_active s.standing.association) u (next_of s) (reply_in told.answer) e)

-- the stream has no fault, whether octets came or not
heard_sound : (site : Site) (s : State) (waited : Option Offer) (heard : Option Heard)
    (told : Option BookAnswer) → IsSound s → Asks (listened s waited heard) told
    → is_going (stepped site (listened s waited heard) told).standing.course ≡ true
    → (reading 0 (listened s waited heard).came).fault ≡ None
heard_sound site s waited (Some (Arrived octets)) told sound asks e =
    told_sound site (listened s waited (Some (Arrived octets))) told refl asks e
heard_sound site s waited None told sound asks e =
    sound (listen_going s waited None (step_going site (listened s waited None) told e))
heard_sound site s waited (Some heard) told sound asks e =
    sound
    (listen_going s waited (Some heard) (step_going site (listened s waited (Some heard)) told e))

pub same_came : (site : Site) (s : State) (r : Round)
    → (after_round site s r).came ≡ (before_step s r).came
same_came site s r = grind arith

sound_round : (site : Site) (s : State) (r : Round) → IsRound site s r → IsSound s
    → IsSound (after_round site s r)
sound_round site s r is sound e =
    rw (same_came site s r)
    (heard_sound site s r.waited r.heard r.told sound is.asks
    (speak_going (before_speak site s r) r.spoke r.sent e))

pub sound_rounds : (site : Site) (s : State) (rounds : List Round) → AreRounds site s rounds
    → IsSound s → IsSound (after_rounds site s rounds)
sound_rounds site s [] h sound = sound
sound_rounds site s (r ∷ rounds) h sound =
    sound_rounds site (after_round site s r) rounds h.1 (sound_round site s r h.0 sound)

-- a session begins with a stream that has no fault
pub sound_first : WorkedOut → StandsFor fresh [] [] → (door draw entered : ℕ)
    → IsSound (at_first door draw entered)
sound_first law begins door draw entered going =
    ap (λ (r : Reading). r.fault) (law 0 [] [] [] None begins.stream)
