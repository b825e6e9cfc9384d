-- What a round's calls leave of what a session has come to.
use Rattle.std.proofs.Common.{◌≡◌, ℕ, Bool, false, Option, Some, None, List, Ok, refl, ap, ◌∙◌}
use Rattle.std.proofs.Common.{arith}
use Rattle.isp1_tml.specs.Feeding.{next_of as next_held}
use Rattle.link_model.specs.declared.call.Call.{Call}
use Rattle.station_config.specs.declared.site.Site.{Site}
use Rattle.assoc_core.specs.declared.step.Step.{Step}
use Rattle.session_core.specs.declared.course.Course.{Course}
use Rattle.session_core.specs.declared.course.Course.TheVariants.{Going, Closing as ClosingWith}
use Rattle.session_core.specs.declared.course.Course.TheVariants.{Over, LinkFailing, LinkFailed}
use Rattle.session_core.specs.declared.ended.Ended.{Ended}
use Rattle.session_core.specs.declared.standing.Standing.{Standing}
use Rattle.session_core.specs.Course.{is_spent, is_blocked}
use Rattle.session_services.specs.Inquiry.{Replied, reply_in}
use Rattle.session_core.specs.Message.{UserContent, judged}
use Rattle.session_core.specs.Handling.{after_passing, invoked, after_judged}
use Rattle.session_core.specs.Steps.{Next, at_moment, said_to, with_next, acted, after_step, timed}
use Rattle.session_core.specs.Steps.{round_ended}
use Rattle.session_core.specs.ServiceSteps.{Keeps, is_active}
use Rattle.session_core.specs.Session.{BookAnswer, spoken_of, is_fault}
use Rattle.session_core.specs.SessionState.{SessionState, Waited, PolledOnce, kept_after}
use Rattle.session_core.specs.SessionState.{IsSpoken, IsSent}
use Rattle.session_core.specs.Outcome.{FailsBy, Rests, has_failed}
use Rattle.session_core.proofs.Staying.{stays_behind, stays_stalled}
use Rattle.session_core.proofs.Invocations.{keeps_invocation}
use Rattle.session_core.proofs.Rounds.{tells-tells}

-- a test that fails of each plain course, and tells the same of a link that fails and of one that
-- has failed
pub record Rare (P : Course → Bool) : Type 0 where
  going : P Going ≡ false
  closing : (end : Ended) → P (ClosingWith end) ≡ false
  over : (end : Ended) → P (Over end) ≡ false
  failed : P LinkFailed ≡ P LinkFailing

abbrev pub faulty : Course → Bool
faulty c = is_fault (spoken_of c)

pub faulty_rare : Rare faulty
faulty_rare =
    record { going = refl; closing = λ end. refl; over = λ end. refl; failed = refl }

pub spent_rare : Rare is_spent
spent_rare =
    record { going = refl; closing = λ end. refl; over = λ end. refl; failed = refl }

-- ---- a step

keeps_passing : (site : Site) (s : Standing) (said : UserContent) (reply : Replied)
    → Keeps s (after_passing site s said reply)
keeps_passing site s said reply = grind (arith, keeps_invocation)

keeps_judged : (site : Site) (s : Standing) (said : UserContent) (step : Step) (reply : Replied)
    → Keeps s (after_judged site s said step reply)
keeps_judged site s said step reply = grind (arith, keeps_passing site s said reply)

keeps_next : (site : Site) (s : Standing) (next : Next) (reply : Replied)
    → Keeps s (with_next site s next reply)
keeps_next site s (Ok (Some message)) reply =
    let said = said_to site s message in
    let step = judged site s.association said s.moment in
    let h = keeps_judged site (invoked s said step) said step reply in
    record { plain = h.plain; arrival = h.arrival; moment = h.moment }
keeps_next site s _ reply = grind arith

acted_keeps : (P : Course → Bool) → Rare P → (site : Site) (s : Standing) (next : Next)
    (reply : Replied) → P (acted site s next reply).course ≡ P s.course
acted_keeps P rare site s next reply = grind (arith, keeps_next site s next reply)

timed_keeps : (P : Course → Bool) → Rare P → (s : Standing)
    → P (timed s).course ≡ P s.course
timed_keeps P rare s = grind arith

pub step_keeps : (P : Course → Bool) → Rare P → (site : Site) (s : Standing) (next : Next)
    (now : ℕ) (reply : Replied) → P (after_step site s next now reply).course ≡ P s.course
step_keeps P rare site s next now reply =
    let u = at_moment s now in
    ap P (stays_behind site (is_active s.association) u next reply).course
    ∙ timed_keeps P rare (acted site u next reply)
    ∙ acted_keeps P rare site u next reply

acted_arrives : (site : Site) (s : Standing) (next : Next) (reply : Replied)
    → (acted site s next reply).arrival ≡ s.arrival
acted_arrives site s next reply = grind (arith, keeps_next site s next reply)

pub acted_moment : (site : Site) (s : Standing) (next : Next) (reply : Replied)
    → (acted site s next reply).moment ≡ s.moment
acted_moment site s next reply = grind (arith, keeps_next site s next reply)

pub timed_moment : (s : Standing) → (timed s).moment ≡ s.moment
timed_moment s = grind arith

timed_arrives : (s : Standing) → (timed s).arrival ≡ s.arrival
timed_arrives s = grind arith

-- what listen came to stays over a step
step_arrives : (site : Site) (s : Standing) (next : Next) (now : ℕ) (reply : Replied)
    → (after_step site s next now reply).arrival ≡ s.arrival
step_arrives site s next now reply =
    let u = at_moment s now in
    (stays_behind site (is_active s.association) u next reply).arrival
    ∙ timed_arrives (acted site u next reply)
    ∙ acted_arrives site u next reply

pub told_blocks : (site : Site) (v : SessionState) (told : Option BookAnswer)
    → is_blocked (kept_after site v told).standing.arrival ≡ is_blocked v.standing.arrival
told_blocks site v None = refl
told_blocks site v (Some told) =
    ap is_blocked
    (step_arrives site v.standing (next_held v.feeder) told.moment (reply_in told.answer))

pub told_keeps : (P : Course → Bool) → Rare P → (site : Site) (v : SessionState)
    (told : Option BookAnswer) → P (kept_after site v told).standing.course ≡ P v.standing.course
told_keeps P rare site v told = grind (arith, step_keeps P rare)

-- ---- counts of faults

-- one call behind another
pub both_count : (x y z : Bool) (l m n : ℕ) → FailsBy x y l m → FailsBy y z m n → FailsBy x z l n
both_count x y z l m n h k = grind arith

-- ---- a session that is still

pub rests_listened : (a b c : Option (List Call)) (old between new : SessionState)
    → Waited a b old between → PolledOnce b c between new → Rests a c old new
rests_listened a b c old between new w p = grind (arith, tells-tells)

pub rests_spoken : (a b c : Option (List Call)) (old between mid new : SessionState)
    → IsSpoken a b old between → IsSent b c between mid
    → new ≡ record mid { standing = round_ended mid.standing } → Rests a c old new
rests_spoken a b c old between mid new w p is = grind (arith, tells-tells, stays_stalled)

-- a round's end leaves whether a link failed
pub ended_fails : (mid new : SessionState) → new ≡ record mid { standing = round_ended mid.standing }
    → has_failed new ≡ has_failed mid
ended_fails mid new is = grind arith
