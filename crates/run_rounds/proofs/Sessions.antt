-- What a door's sessions make of STARTs is fit, and leaves what their rounds do.
use Rattle.std.proofs.Common.{◌≡◌, ℕ, Bool, true, false, not, Option, Some, None, List, []}
use Rattle.std.proofs.Common.{◌∷◌, ◌++◌, refl, sym, ap, subst, ◌∙◌, append_assoc}
use Rattle.std.specs.Prelude.{is_some}
use Rattle.std.specs.List.{AllByRecursion}
use Rattle.std.specs.Option.{option_map}
use Rattle.std.proofs.lemmas.Bool.{and_parts}
use Rattle.octet_core.specs.declared.offer.Offer.{Offer}
use Rattle.octet_core.specs.declared.offer.Offer.TheVariants.{Whole, Stalled, Failed as Refused}
use Rattle.link_model.specs.declared.call.Heard.{Heard}
use Rattle.link_model.specs.declared.call.Heard.TheVariants.{Arrived, Nothing, Closed, Failed}
use Rattle.archive_terms.specs.Rounds.{Round as DeliveryRound}
use Rattle.return_core.specs.Visits.{round_of}
use Rattle.station_config.specs.declared.site.Site.{Site}
use Rattle.station_book.specs.Publishing.{front_of}
use Rattle.station_book.specs.State.{quit, Event as Answered}
use Rattle.session_core.specs.Course.{is_going, is_over, is_blocked}
use Rattle.session_core.specs.ServiceSteps.{is_active}
use Rattle.session_core.specs.Session.{State, Round, BookAnswer, IsRound, AreRounds, after_round}
use Rattle.session_core.specs.Session.{before_step, step_events, round_events, session_events}
use Rattle.session_core.specs.Session.{standing_waited, standing_heard}
use Rattle.session_core.specs.declared.course.Course.{Course}
use Rattle.session_core.specs.declared.course.Course.TheVariants as course
use Rattle.session_core.specs.declared.standing.Standing.{Standing}
use Rattle.session_laws.specs.Deliveries.{is_serving, visit_by}
use Rattle.session_laws.specs.Instances.{shape_at}
use Rattle.station_world.specs.Life.{Start, Asked}
use Rattle.station_world.proofs.Lists.{all_join}
use Rattle.line_events.specs.Progress.{Progress, ended_now, progressed}
use Rattle.session_events.specs.Asked.{asked_in, asked_where, asked_of as asks_of, wanted_at}
use Rattle.session_events.specs.Rounds.{progress_of, progress_by, made_in, SawFront, front_in}
use Rattle.session_events.specs.Rounds.{RoundsMayCome}
use Rattle.session_events.specs.Starts.{starts_over}
use Rattle.run_laws.proofs.Calls.{owner, AreOf, of_both}
use Rattle.run_rounds.specs.Doors.{FitsAt, AllFit, made_of}
use Rattle.run_rounds.specs.Sessions.{Session, first_of, IsSession, AreAsked, answer_makes}
use Rattle.run_rounds.specs.Sessions.{rounds_make, sessions_make, starts_of}
use Rattle.run_rounds.specs.Links.{HasCalls}

-- ---- lists, one behind the other

fit_both : (d : ℕ) (xs ys : List Answered) (ps qs : List Progress) → AllFit d xs ps
    → AllFit d ys qs → AllFit d (xs ++ ys) (ps ++ qs)
fit_both d [] ys [] qs first second = second
fit_both d [] ys (p ∷ ps) qs first second = absurd first
fit_both d (x ∷ xs) ys [] qs first second = absurd first
fit_both d (x ∷ xs) ys (p ∷ ps) qs first second =
    (first.0, fit_both d xs ys ps qs first.1 second)

made_both : (d : ℕ) (xs ys : List Answered) (ps qs : List Progress) (all : List Start)
    → AllFit d xs ps
    → made_of d (xs ++ ys) (ps ++ qs) all ≡ made_of d ys qs (made_of d xs ps all)
made_both d [] ys [] qs all first = refl
made_both d [] ys (p ∷ ps) qs all first = absurd first
made_both d (x ∷ xs) ys [] qs all first = absurd first
made_both d (x ∷ xs) ys (p ∷ ps) qs all first = made_both d xs ys ps qs _ first.1

ended_fits : (d : ℕ) (saw : Option ℕ) → FitsAt d saw ended_now
ended_fits d None = tt
ended_fits d (Some front) = tt

-- ---- a session that serves asks the book

not_over : (c : Course) → is_going c ≡ true → is_over c ≡ false
not_over course.Going going = refl
not_over (course.Closing end) going = refl
not_over (course.Over end) going = absurd (cc going)
not_over course.LinkFailing going = refl
not_over course.LinkFailed going = absurd (cc going)
not_over course.Spent going = refl

waited_on : (s : Standing) (waited : Option Offer) → is_over s.course ≡ false
    → is_over (standing_waited s waited).course ≡ false
waited_on s None on = on
waited_on s (Some Whole) on = on
waited_on s (Some Stalled) on = on
waited_on s (Some Refused) on = refl

heard_on : (s : Standing) (heard : Option Heard) → is_over s.course ≡ false
    → is_over (standing_heard s heard).course ≡ false
heard_on s None on = on
heard_on s (Some (Arrived octets)) on = on
heard_on s (Some Nothing) on = on
heard_on s (Some Closed) on = on
heard_on s (Some Failed) on = refl

serving_asks : (site : Site) (s : State) (r : Round) → IsRound site s r
    → is_serving s.standing ≡ true → r.told ≡ None → ⊥
serving_asks site s r is serves none =
    let going = (and_parts (is_going s.standing.course) (is_active s.standing.association)
    serves).0 in
    let on : is_over (before_step s r).standing.course ≡ false =
    heard_on _ r.heard (waited_on _ r.waited (not_over s.standing.course going)) in
    let asks : is_some r.told ≡ true = is.asks ∙ ap not on in
    let not_so : is_some r.told ≡ false = ap is_some none in
    absurd (cc (sym not_so ∙ asks))

module _ (site : Site) (door : ℕ) where
  -- a round that asks nothing makes nothing
  nothing_made : (s : State) (r : Round) → IsRound site s r → r.told ≡ None → (all : List Start)
      → all ≡ progressed door 0 (progress_of door site s r) all
  nothing_made s r is none all = by (is_serving s.standing) refl
    where
      behind : Bool
      behind = is_serving (after_round site s r).standing

      asked : asked_in door site s r ≡ None
      asked = ap (λ (told : Option BookAnswer). asked_where told
          (asks_of door (shape_at site s.standing) (wanted_at site s r))) none

      made : made_in s r ≡ None
      made = ap (λ (told : Option BookAnswer).
          option_map round_of (option_map
          (λ t. visit_by (is_blocked (before_step s r).standing.arrival) t r.sent) told)) none

      not_serving : (b : Bool)
          → all ≡ progressed door 0 (progress_by false b None None) all
      not_serving true = refl
      not_serving false = refl

      by : (b : Bool) → is_serving s.standing ≡ b
          → all ≡ progressed door 0 (progress_of door site s r) all
      by true serves = absurd (serving_asks site s r is serves none)
      by false idle =
          not_serving behind
          ∙ (ap (λ (a : Option Asked). progressed door 0 (progress_by false behind a None) all)
          (sym asked)
          ∙ (ap (λ (m : Option DeliveryRound).
          progressed door 0 (progress_by false behind (asked_in door site s r) m) all) (sym made)
          ∙ ap (λ (b : Bool).
          progressed door 0 (progress_by b behind (asked_in door site s r) (made_in s r)) all)
          (sym idle)))

  module _ (law : RoundsMayCome) where
    -- ---- a round

    one_fits : (s : State) (r : Round) (told : Option BookAnswer) → r.told ≡ told
        → AllFit door (step_events site door (before_step s r) told)
        (answer_makes told (progress_of door site s r))
    one_fits s r None is = tt
    one_fits s r (Some t) is =
        let front : ℕ = t.answer.glimpse.front in
        (law.fits door front site s r (subst (SawFront front) (sym is) refl), tt)

    one_made : (s : State) (r : Round) (told : Option BookAnswer) → r.told ≡ told
        → IsRound site s r → (all : List Start)
        → made_of door (step_events site door (before_step s r) told)
        (answer_makes told (progress_of door site s r)) all
        ≡ progressed door (front_in told) (progress_of door site s r) all
    one_made s r None is round all = nothing_made s r round is all
    one_made s r (Some t) is round all = refl

    -- ---- rounds

    rounds_fit : (rounds : List Round) (s : State)
        → AllFit door (session_events site door s rounds) (rounds_make door site s rounds)
    rounds_fit [] s = tt
    rounds_fit (r ∷ rounds) s =
        let next : State = after_round site s r in
        fit_both door (round_events site door s r) (session_events site door next rounds)
        (answer_makes r.told (progress_of door site s r)) (rounds_make door site next rounds)
        (one_fits s r r.told refl) (rounds_fit rounds next)

    rounds_made : (rounds : List Round) (s : State) → AreRounds site s rounds
        → (all : List Start)
        → made_of door (session_events site door s rounds) (rounds_make door site s rounds) all
        ≡ starts_over door site s rounds all
    rounds_made [] s are all = refl
    rounds_made (r ∷ rounds) s are all =
        let next : State = after_round site s r in
        let events = session_events site door next rounds in
        let makes = rounds_make door site next rounds in
        made_both door (round_events site door s r) events
        (answer_makes r.told (progress_of door site s r)) makes all (one_fits s r r.told refl)
        ∙ (ap (made_of door events makes) (one_made s r r.told refl are.0 all)
        ∙ rounds_made rounds next are.1
        (progressed door (front_in r.told) (progress_of door site s r) all))

    -- ---- sessions

    pub sessions_fit : (sessions : List Session) (es : List Answered)
        → AreAsked site door es sessions → AllFit door es (sessions_make site door sessions)
    sessions_fit [] es asked = subst (λ (xs : List Answered). AllFit door xs []) (sym asked) tt
    sessions_fit (a ∷ sessions) es (left, rest, is, quits, later) =
        let s = first_of site door a in
        subst (λ (xs : List Answered). AllFit door xs (sessions_make site door (a ∷ sessions)))
        (sym is)
        (fit_both door (session_events site door s a.rounds) (left ∷ rest)
        (rounds_make door site s a.rounds) (ended_now ∷ sessions_make site door sessions)
        (rounds_fit a.rounds s)
        (ended_fits door (front_of left.reply), sessions_fit sessions rest later))

    pub sessions_made : (sessions : List Session) (es : List Answered)
        → AreAsked site door es sessions → AllByRecursion (IsSession site door) sessions
        → (all : List Start)
        → made_of door es (sessions_make site door sessions) all
        ≡ starts_of site door sessions all
    sessions_made [] es asked right all =
        ap (λ (xs : List Answered). made_of door xs [] all) asked
    sessions_made (a ∷ sessions) es (left, rest, is, quits, later) right all =
        let s = first_of site door a in
        let events = session_events site door s a.rounds in
        let makes = rounds_make door site s a.rounds in
        let more = sessions_make site door sessions in
        ap (λ (xs : List Answered). made_of door xs (sessions_make site door (a ∷ sessions)) all) is
        ∙ (made_both door events (left ∷ rest) makes (ended_now ∷ more) all (rounds_fit a.rounds s)
        ∙ (ap (λ (xs : List Start). made_of door rest more (progressed door 0 ended_now xs))
        (rounds_made a.rounds s right.0 all)
        ∙ sessions_made sessions rest later right.1
        (progressed door 0 ended_now (starts_over door site s a.rounds all))))

  -- ---- the sessions of a door's events

  asked_more : (sessions : List Session) (es : List Answered) → AreAsked site door es sessions
      → (a : Session) (answers : List Answered) (left : Answered)
      → answers ≡ session_events site door (first_of site door a) a.rounds
      → left.call ≡ quit door
      → AreAsked site door (es ++ (answers ++ left ∷ [])) (sessions ++ a ∷ [])
  asked_more [] es asked a answers left is quits = (
    left,
    [],
    ap (λ (xs : List Answered). xs ++ (answers ++ left ∷ [])) asked
        ∙ ap (λ (xs : List Answered). xs ++ left ∷ []) is,
    quits,
    refl,
  )
  asked_more (b ∷ sessions) es (first, rest, was, quit_first, later) a answers left is quits =
      let more : List Answered = answers ++ left ∷ [] in (
        first,
        rest ++ more,
        ap (λ (xs : List Answered). xs ++ more) was
            ∙ append_assoc (session_events site door (first_of site door b) b.rounds) (first ∷ rest)
            more,
        quit_first,
        asked_more sessions rest later a answers left is quits,
      )

  -- Events are those of these sessions.
  pub record AreTheirs (es : List Answered) (sessions : List Session) : Type 0 where
    pub right : AllByRecursion (IsSession site door) sessions
    pub calls : AllByRecursion (HasCalls site door) sessions
    pub asked : AreAsked site door es sessions

  pub none_are : AreTheirs [] []
  none_are = record { right = tt; calls = tt; asked = refl }

  pub theirs_more : (es : List Answered) (sessions : List Session) → AreTheirs es sessions
      → (a : Session) (answers : List Answered) (left : Answered) → IsSession site door a
      → HasCalls site door a
      → answers ≡ session_events site door (first_of site door a) a.rounds
      → left.call ≡ quit door
      → AreTheirs (es ++ (answers ++ left ∷ [])) (sessions ++ a ∷ [])
  theirs_more es sessions was a answers left right calls is quits = record {
    right = all_join (IsSession site door) sessions (a ∷ []) was.right (right, tt);
    calls = all_join (HasCalls site door) sessions (a ∷ []) was.calls (calls, tt);
    asked = asked_more sessions es was.asked a answers left is quits;
  }

  -- ---- they are the door's

  step_of : (s : State) (told : Option BookAnswer) → AreOf door (step_events site door s told)
  step_of s None = tt
  step_of s (Some told) = (refl, tt)

  rounds_of : (rounds : List Round) (s : State) → AreOf door (session_events site door s rounds)
  rounds_of [] s = tt
  rounds_of (r ∷ rounds) s =
      of_both door (round_events site door s r)
      (session_events site door (after_round site s r) rounds)
      (step_of (before_step s r) r.told) (rounds_of rounds (after_round site s r))

  pub asked_of : (sessions : List Session) (es : List Answered) → AreAsked site door es sessions
      → AreOf door es
  asked_of [] es asked = subst (AreOf door) (sym asked) tt
  asked_of (a ∷ sessions) es (left, rest, is, quits, later) =
      let s = first_of site door a in
      subst (AreOf door) (sym is)
      (of_both door (session_events site door s a.rounds) (left ∷ rest) (rounds_of a.rounds s)
      (ap owner quits, asked_of sessions rest later))
