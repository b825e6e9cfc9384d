-- A session tells a fault of its link exactly where a call of it was refused, and that call is the
use Rattle.std.proofs.Common.{◌≡◌, Bool, true, ◌||◌, Option, List, [], ◌∷◌, ◌++◌, ◌∙◌, arith}
use Rattle.session_core.specs.declared.course.Course.{Course}
use Rattle.std.specs.List.{list_any}
use Rattle.std.proofs.lemmas.List.Folds.{list_any-append}
use Rattle.octet_core.specs.declared.offer.Offer.{Offer}
use Rattle.link_model.specs.declared.call.Call.{Call}
use Rattle.link_model.specs.declared.call.Heard.{Heard}
use Rattle.station_config.specs.declared.site.Site.{Site}
use Rattle.session_core.specs.Session.{State, Round, BookAnswer, at_first, listened, listen_calls}
use Rattle.session_core.specs.Session.{stepped, spoken_state, speak_calls, before_step}
use Rattle.session_core.specs.Session.{before_speak, after_round, round_calls, session_calls}
use Rattle.session_core.specs.Session.{session_end, is_fault, Listens, Speaks, IsRound, AreRounds}
use Rattle.session_core.specs.Laws.{was_refused, FaultsAreOfCalls, FailsLast, FaultsAreLast}
use Rattle.session_core.proofs.Ends.{IsStill, still_calls_none}
use Rattle.session_core.proofs.Staying.{stays_stalled}
use Rattle.session_core.proofs.Fates.{faulty, faulty_rare, step_keeps}

abbrev refused : List Call → Bool
refused calls = list_any was_refused calls

listen_refused : (s : State) (waited : Option Offer) (heard : Option Heard)
    → faulty (listened s waited heard).standing.course
    ≡ (faulty s.standing.course || refused (listen_calls s waited heard))
listen_refused s waited heard = grind arith

step_refused : (site : Site) (s : State) (told : Option BookAnswer)
    → faulty (stepped site s told).standing.course ≡ faulty s.standing.course
step_refused site s told = grind (arith, step_keeps faulty faulty_rare)

speak_refused : (s : State) (spoke sent : Option Offer)
    → faulty (spoken_state s spoke sent).standing.course
    ≡ (faulty s.standing.course || refused (speak_calls s spoke sent))
speak_refused s spoke sent = grind (arith, stays_stalled)

round_refused : (site : Site) (s : State) (r : Round)
    → faulty (after_round site s r).standing.course
    ≡ (faulty s.standing.course || refused (round_calls site s r))
round_refused site s r = grind (
  arith,
  step_refused site (before_step s r) r.told,
  listen_refused s r.waited r.heard,
  speak_refused (before_speak site s r) r.spoke r.sent,
  list_any-append was_refused (listen_calls s r.waited r.heard)
      (speak_calls (before_speak site s r) r.spoke r.sent),
)

or_or : (a b c : Bool) → ((a || b) || c) ≡ (a || (b || c))
or_or a b c = grind arith

rounds_refused : (site : Site) (s : State) (rounds : List Round)
    → is_fault (session_end site s rounds)
    ≡ (faulty s.standing.course || refused (session_calls site s rounds))
rounds_refused site s [] = grind arith
rounds_refused site s (r ∷ rounds) =
    rw (list_any-append, rounds_refused site (after_round site s r) rounds, round_refused site s r)
    (or_or (faulty s.standing.course) (refused (round_calls site s r)) _)

pub faults_are_of_calls : FaultsAreOfCalls
faults_are_of_calls site door draw entered rounds =
    rounds_refused site (at_first door draw entered) rounds

-- ---- a refused call is the last one

last_both : (xs ys : List Call) → FailsLast xs → (refused xs ≡ true → ys ≡ []) → FailsLast ys
    → FailsLast (xs ++ ys)
last_both [] ys h none k = k
last_both (call ∷ xs) ys h none k =
    (λ e. grind arith, last_both xs ys h.1 (λ e. none (grind arith)) k)

listen_last : (s : State) (waited : Option Offer) (heard : Option Heard) → Listens s waited heard
    → FailsLast (listen_calls s waited heard)
listen_last s waited heard is = grind arith

-- a session whose link fails offers nothing
failing_none : (s : State) (spoke sent : Option Offer) → Speaks s spoke sent
    → faulty s.standing.course ≡ true → speak_calls s spoke sent ≡ []
failing_none s spoke sent is e = grind arith

speak_last : (s : State) (spoke sent : Option Offer) → Speaks s spoke sent
    → FailsLast (speak_calls s spoke sent)
speak_last s spoke sent is = grind arith

behind_none : (site : Site) (s : State) (r : Round) → IsRound site s r
    → refused (listen_calls s r.waited r.heard) ≡ true
    → speak_calls (before_speak site s r) r.spoke r.sent ≡ []
behind_none site s r is e =
    failing_none (before_speak site s r) r.spoke r.sent is.speaks
    (grind (arith, step_refused site (before_step s r) r.told, listen_refused s r.waited r.heard))

round_last : (site : Site) (s : State) (r : Round) → IsRound site s r
    → FailsLast (round_calls site s r)
round_last site s r is =
    last_both (listen_calls s r.waited r.heard) (speak_calls (before_speak site s r) r.spoke r.sent)
    (listen_last s r.waited r.heard is.listens) (behind_none site s r is)
    (speak_last (before_speak site s r) r.spoke r.sent is.speaks)

faulty_still : (c : Course) → faulty c ≡ true → IsStill c
faulty_still c e = grind arith

or_true : (a b : Bool) → b ≡ true → (a || b) ≡ true
or_true a b e = grind arith

still_behind : (site : Site) (s : State) (r : Round) → refused (round_calls site s r) ≡ true
    → IsStill (after_round site s r).standing.course
still_behind site s r e =
    faulty_still (after_round site s r).standing.course
    (round_refused site s r ∙ or_true (faulty s.standing.course) (refused (round_calls site s r)) e)

rounds_last : (site : Site) (s : State) (rounds : List Round) → AreRounds site s rounds
    → FailsLast (session_calls site s rounds)
rounds_last site s [] h = tt
rounds_last site s (r ∷ rounds) h =
    let now = after_round site s r in
    last_both (round_calls site s r) (session_calls site now rounds) (round_last site s r h.0)
    (λ e. still_calls_none site now rounds (still_behind site s r e) h.1)
    (rounds_last site now rounds h.1)

pub faults_are_last : FaultsAreLast
faults_are_last site door draw entered rounds =
    rounds_last site (at_first door draw entered) rounds
