-- Which connection a value stands for: as it is opened, and behind a round.
use Rattle.std.proofs.Common.{◌≡◌, ℕ, false, Option, Some, List, [], ◌++◌}
use Rattle.std.proofs.Common.{refl, sym, ap, subst, ◌∙◌}
use Rattle.link_model.specs.declared.call.Call.{Call}
use Rattle.link_model.specs.Calls.{Tells}
use Rattle.link_model.specs.Steering.{Steering}
use Rattle.station_config.specs.declared.site.Site.{Site}
use Rattle.station_book.specs.State.{Event}
use Rattle.station_book.specs.State as book
use Rattle.station_book.specs.History.{IsLegal, replay}
use Rattle.session_core.specs.declared.course.Course.{Course}
use Rattle.session_core.specs.declared.course.Course.TheVariants as course
use Rattle.session_core.specs.declared.spoken.Spoken.TheVariants.{Going}
use Rattle.session_core.specs.Course.{is_over}
use Rattle.session_core.specs.declared.standing.Standing.{Standing}
use Rattle.session_core.specs.SessionState.{SessionState}
use Rattle.session_core.specs.Outcome.{come_to}
use Rattle.session_core.specs.Session.{State, Round, IsRound, after_round, round_calls}
use Rattle.session_core.specs.Session.{round_events, spoken_of}
use Rattle.session_core.specs.Lists.{Began, StandsAt, to_listen, start_of, state_after, GoesRound}
use Rattle.session_core.specs.Laws.{NoRoundYet, OneRoundMore}
use Rattle.station_links.specs.Connected.{Connected, after_calls, AreLed, Leads}
use Rattle.station_links.specs.Rounds.{round_at, stands_after}
use Rattle.station_links.specs.Lives.{ConnectionState, Lives}
use Rattle.station_links.proofs.Turning.{round_is}

-- ---- as it is opened

pub begins : NoRoundYet → (b : Began) (v : ConnectionState) (l : Connected) → v.c ≡ b.door
    → v.steering ≡ l.steering → l.state ≡ start_of b → StandsAt to_listen b v.session [] []
    → Lives b v l
begins law b v l c_is steering state stands =
    record {
      c_is = c_is;
      steering = steering;
      calls = [];
      events = [];
      stands = stands;
      state =
          state ∙ ap (λ (rounds : List Round). state_after b rounds)
          (sym (law b v.session [] stands));
      here = ap (λ (s : State). is_over s.standing.course) state;
    }

-- ---- behind a round

-- A round made these calls, and left the session and the steering so.
pub record Behind (b : Began) (l : Connected) (before after : book.State) (reading c : ℕ)
    (calls : List Call) (new : SessionState) (now : Steering) (r : Round) : Type 0 where
  pub calls_are : calls ≡ round_calls b.site l.state r
  pub legal : IsLegal before (round_events b.site b.door l.state r)
  pub book_is : after ≡ replay before (round_events b.site b.door l.state r)
  pub come : come_to new ≡ spoken_of (after_round b.site l.state r).standing.course
  pub dropped : come_to new ≡ Going
      → new.standing.dropped ≡ (after_round b.site l.state r).standing.dropped
  pub goes : come_to new ≡ Going
      → Lives b (record { c = c; session = new; steering = now }) (stands_after b.site l r)

told_own : (told : Option (List Call)) (calls own : List Call) → told ≡ Some calls
    → Tells (Some []) told own → calls ≡ own
told_own told calls own so tells =
    subst (λ (t : Option (List Call)). Tells (Some []) t own) so tells

led_own : (s : Steering) (told : Option (List Call)) (now : Steering) (calls : List Call)
    → told ≡ Some calls → Leads s told now → AreLed s calls × (now ≡ after_calls s calls)
led_own s told now calls so leads = subst (λ (t : Option (List Call)). Leads s t now) so leads

going_is_here : (c : Course) → spoken_of c ≡ Going → is_over c ≡ false
going_is_here course.Going e = refl
going_is_here (course.Closing end) e = refl
going_is_here (course.Over end) e = absurd (cc)
going_is_here course.LinkFailing e = refl
going_is_here course.LinkFailed e = absurd (cc)
going_is_here course.Spent e = refl

pub behind : (law : OneRoundMore) (b : Began) (l : Connected) (v : ConnectionState) (site : Site)
    (reading : ℕ) (before after : book.State) (told : Option (List Call)) (calls : List Call)
    (new : SessionState) (now : Steering) → b.site ≡ site → Lives b v l
    → GoesRound site reading (Some []) told before after v.session new
    → Leads v.steering told now → told ≡ Some calls
    → Behind b l before after reading v.c calls new now
    (round_at b.site b.door l before reading)
behind law b l v site reading before after told calls new now same lives goes leads so =
    let stands = goes.stands b lives.calls lives.events same lives.stands in
    let here : state_after b lives.stands.rounds ≡ l.state = sym lives.state in
    let more = law b site reading (Some []) told before after v.session new lives.calls
    lives.events same goes lives.stands
    (ap (λ (s : State). is_over s.standing.course) here ∙ lives.here) in
    let led = led_own v.steering told now calls so leads in
    let calls_first : calls ≡ round_calls b.site l.state more.round =
    told_own told calls goes.own so goes.told ∙ more.calls_are
    ∙ ap (λ (s : State). round_calls b.site s more.round) here in
    let events_first : goes.gained ≡ round_events b.site b.door l.state more.round =
    more.events_are ∙ ap (λ (s : State). round_events b.site b.door s more.round) here in
    let led_first : AreLed l.steering (round_calls b.site l.state more.round) =
    subst (λ (s : Steering). AreLed s (round_calls b.site l.state more.round)) lives.steering
    (subst (λ (xs : List Call). AreLed v.steering xs) calls_first led.0) in
    let r = round_at b.site b.door l before reading in
    let made : more.round ≡ r =
    round_is b.site b.door l before reading more.round more.told
    (subst (λ (s : State). IsRound b.site s more.round) here more.right) more.asked more.reads
    led_first (subst (λ (xs : List Event). IsLegal before xs) events_first goes.legal) in
    let calls_are : calls ≡ round_calls b.site l.state r =
    calls_first ∙ ap (λ (x : Round). round_calls b.site l.state x) made in
    let gained : goes.gained ≡ round_events b.site b.door l.state r =
    events_first ∙ ap (λ (x : Round). round_events b.site b.door l.state x) made in
    let come : come_to new ≡ spoken_of (after_round b.site l.state r).standing.course =
    more.come
    ∙ ap (λ (s : State). spoken_of (after_round b.site s more.round).standing.course) here
    ∙ ap (λ (x : Round). spoken_of (after_round b.site l.state x).standing.course) made in
    record {
      calls_are = calls_are;
      legal = subst (λ (xs : List Event). IsLegal before xs) gained goes.legal;
      book_is = goes.book_is ∙ ap (λ (xs : List Event). replay before xs) gained;
      come = come;
      dropped = λ going.
          ap (λ (s : Standing). s.dropped) (more.stands going)
          ∙ ap (λ (s : State). (after_round b.site s more.round).standing.dropped) here
          ∙ ap (λ (x : Round). (after_round b.site l.state x).standing.dropped) made;
      goes = λ going. record {
        c_is = lives.c_is;
        steering =
            led.1 ∙ ap (λ (s : Steering). after_calls s calls) lives.steering
            ∙ ap (λ (xs : List Call). after_calls l.steering xs) calls_are;
        calls = lives.calls ++ goes.own;
        events = lives.events ++ goes.gained;
        stands = stands;
        state =
            sym
            (more.state going ∙ ap (λ (s : State). after_round b.site s more.round) here
            ∙ ap (λ (x : Round). after_round b.site l.state x) made);
        here = going_is_here (after_round b.site l.state r).standing.course (sym come ∙ going);
      };
    }
