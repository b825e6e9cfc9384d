-- A session without a link calls it no more, and one that has ended repeats its end.
use Rattle.std.proofs.Common.{◌≡◌, ℕ, Bool, true, false, Option, Some, None, List, [], ◌∷◌}
use Rattle.std.proofs.Common.{refl, ap, ◌∙◌, arith}
use Rattle.octet_core.specs.declared.offer.Offer.{Offer}
use Rattle.link_model.specs.declared.call.Heard.{Heard}
use Rattle.station_config.specs.declared.site.Site.{Site}
use Rattle.session_core.specs.declared.course.Course.{Course}
use Rattle.session_core.specs.Course.{is_live, is_over}
use Rattle.session_core.specs.Session.{State, Round, after_round, IsRound, round_calls}
use Rattle.session_core.specs.Session.{round_events, session_calls, AreRounds, spoken_of}
use Rattle.session_core.specs.Session.{BookAnswer, Listens, listened, listen_calls, stepped, next_of}
use Rattle.session_core.specs.Session.{Speaks, speak_calls, spoken_state, before_step, before_speak}
use Rattle.session_core.specs.Session.{Asks, step_events}
use Rattle.session_services.specs.Inquiry.{reply_in}
use Rattle.session_core.specs.Steps.{has_block, course_at_end}
use Rattle.session_core.specs.Laws.{EndsRepeat}
use Rattle.session_core.proofs.Staying.{still_step}

-- a session that is neither going on nor closing
abbrev pub IsStill : Course → Type 0
IsStill c = is_live c ≡ false

-- its rounds call no link, and leave it so
listen_still : (s : State) (waited : Option Offer) (heard : Option Heard)
    → IsStill s.standing.course → Listens s waited heard → listen_calls s waited heard ≡ []
listen_still s waited heard still is = grind arith

listened_still : (s : State) (waited : Option Offer) (heard : Option Heard)
    → IsStill s.standing.course → Listens s waited heard
    → (listened s waited heard).standing.course ≡ s.standing.course
listened_still s waited heard still is = grind arith

stepped_still : (site : Site) (s : State) (told : Option BookAnswer) → IsStill s.standing.course
    → (stepped site s told).standing.course ≡ s.standing.course
stepped_still site s None still = refl
stepped_still site s (Some told) still =
    still_step site s.standing (next_of s) told.moment (reply_in told.answer) still

speak_still : (s : State) (spoke sent : Option Offer) → IsStill s.standing.course
    → Speaks s spoke sent → speak_calls s spoke sent ≡ []
speak_still s spoke sent still is = grind arith

spoken_still : (s : State) (spoke sent : Option Offer) → IsStill s.standing.course
    → Speaks s spoke sent
    → (spoken_state s spoke sent).standing.course
    ≡ course_at_end s.standing.course (has_block s.standing)
spoken_still s spoke sent still is = grind arith

still_course : (c d : Course) → d ≡ c → IsStill c → IsStill d
still_course c d e still = rw e still

before_still : (site : Site) (s : State) (r : Round) → IsStill s.standing.course
    → IsRound site s r → (before_speak site s r).standing.course ≡ s.standing.course
before_still site s r still is =
    let heard = listened_still s r.waited r.heard still is.listens in
    stepped_still site (before_step s r) r.told (still_course _ _ heard still) ∙ heard

ended_still : (c : Course) (waits : Bool) → IsStill c → IsStill (course_at_end c waits)
ended_still c waits still = grind arith

still_calls : (site : Site) (s : State) (r : Round) → IsStill s.standing.course → IsRound site s r
    → round_calls site s r ≡ []
still_calls site s r still is =
    rw (
      listen_still s r.waited r.heard still is.listens,
      speak_still (before_speak site s r) r.spoke r.sent
          (still_course _ _ (before_still site s r still is) still) is.speaks,
    ) refl

still_after : (site : Site) (s : State) (r : Round) → IsStill s.standing.course → IsRound site s r
    → IsStill (after_round site s r).standing.course
still_after site s r still is =
    let here = still_course _ _ (before_still site s r still is) still in
    still_course _ _ (spoken_still (before_speak site s r) r.spoke r.sent here is.speaks)
    (ended_still (before_speak site s r).standing.course _ here)

pub still_calls_none : (site : Site) (s : State) (rounds : List Round)
    → IsStill s.standing.course → AreRounds site s rounds → session_calls site s rounds ≡ []
still_calls_none site s [] still h = refl
still_calls_none site s (r ∷ rounds) still h =
    rw (still_calls site s r still h.0)
    (still_calls_none site (after_round site s r) rounds (still_after site s r still h.0) h.1)

-- ---- after an end

over_still : (c : Course) → is_over c ≡ true → IsStill c
over_still c over = grind arith

over_ends : (c : Course) (waits : Bool) → is_over c ≡ true → course_at_end c waits ≡ c
over_ends c waits over = grind arith

over_course : (site : Site) (s : State) (r : Round) → is_over s.standing.course ≡ true
    → IsRound site s r → (after_round site s r).standing.course ≡ s.standing.course
over_course site s r over is =
    let still = over_still s.standing.course over in
    let same = before_still site s r still is in
    spoken_still (before_speak site s r) r.spoke r.sent (still_course _ _ same still) is.speaks
    ∙ ap (λ (c : Course). course_at_end c (has_block (before_speak site s r).standing)) same
    ∙ over_ends s.standing.course _ over

asks_none : (site : Site) (door : ℕ) (s : State) (told : Option BookAnswer)
    → is_over s.standing.course ≡ true → Asks s told → step_events site door s told ≡ []
asks_none site door s told over is = grind arith

no_events : (site : Site) (door : ℕ) (s : State) (r : Round) → is_over s.standing.course ≡ true
    → IsRound site s r → round_events site door s r ≡ []
no_events site door s r over is =
    let still = over_still s.standing.course over in
    let heard = listened_still s r.waited r.heard still is.listens in
    asks_none site door (before_step s r) r.told (ap is_over heard ∙ over) is.asks

pub ends_repeat : EndsRepeat
ends_repeat site door s [] over h = record { calls = refl; events = refl; same = refl }
ends_repeat site door s (r ∷ rounds) over h =
    let course = over_course site s r over h.0 in
    let rest = ends_repeat site door (after_round site s r) rounds (ap is_over course ∙ over) h.1 in
    record {
      calls = still_calls_none site s (r ∷ rounds) (over_still s.standing.course over) h;
      events = rw (no_events site door s r over h.0) rest.events;
      same = rest.same ∙ ap spoken_of course;
    }
