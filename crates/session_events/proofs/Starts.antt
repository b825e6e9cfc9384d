-- Each START of a session is one of those that its rounds leave.
use Rattle.std.proofs.Common.{◌≡◌, ◌⊎◌, inl, inr, ℕ, Bool, true, false, ◌&&◌, ◌==◌, Option, Some}
use Rattle.std.proofs.Common.{None, List, [], ◌∷◌, ◌++◌, length, slice_get, refl, sym, ap, subst}
use Rattle.std.proofs.Common.{◌∙◌, append_assoc, append-nil, arith}
use Rattle.std.proofs.lemmas.List.{map-append}
use Rattle.std.specs.Prelude.{is_some}
use Rattle.std.specs.Option.{option_map, option_to_list}
use Rattle.archive_terms.specs.Delivery.{Terms}
use Rattle.archive_terms.specs.Rounds.{Round as DeliveryRound}
use Rattle.return_core.specs.Visits.{Visit, round_of, rounds_of}
use Rattle.return_service.specs.Serving.{Serving}
use Rattle.station_config.specs.declared.site.Site.{Site}
use Rattle.session_core.specs.Course.{is_going as goes_on}
use Rattle.session_core.specs.Lists.{start_of}
use Rattle.session_core.specs.Session.{State, Round, AreRounds, after_round, after_rounds}
use Rattle.session_laws.specs.Deliveries.{return_of, is_serving, ServesOn, visit_in, visits_of}
use Rattle.session_laws.specs.Handing.{found_by, begun_by}
use Rattle.session_laws.specs.Instances.{Shape, shape_of, shape_of_terms, shape_at, SessionsAreKept}
use Rattle.session_laws.specs.Starts.{StartsBegin, Asks}
use Rattle.station_world.specs.Life.{Start, Asked, begun, with_round, with_end}
use Rattle.line_events.specs.Progress.{Progress, taken_now, ended_now, is_going, change_going}
use Rattle.line_events.specs.Progress.{progressed}
use Rattle.session_events.specs.Asked.{asked_so, asked_in}
use Rattle.session_events.specs.Rounds.{made_in, made_by, taken_by, progress_by, front_in}
use Rattle.session_events.specs.Rounds.{progress_of}
use Rattle.session_events.specs.Starts.{starts_over, ServesNoMore, ServesThese, HasIt, LeavesIt}
use Rattle.session_events.specs.Starts.{StartsAreThere}
use Rattle.session_events.proofs.Asking.{asks_so}
use Rattle.session_events.proofs.Kept.{changes_last, over_stays, over_both, last_there, none_and}
use Rattle.session_events.proofs.Kept.{one_at, progress_leaves, over_leaves, serves_last}

module _ (door : ℕ) (site : Site) where
  -- ---- what a round makes of it, by whether the session serves

  by_serving : (s : State) (r : Round) (before behind : Bool) → is_serving s.standing ≡ before
      → is_serving (after_round site s r).standing ≡ behind
      → progress_of door site s r
      ≡ progress_by before behind (asked_in door site s r) (made_in s r)
  by_serving s r before behind was is =
      let asked = asked_in door site s r in
      let made = made_in s r in
      let served : Bool = is_serving (after_round site s r).standing in
      ap (λ (b : Bool). progress_by b served asked made) was
      ∙ ap (λ (b : Bool). progress_by before b asked made) is

  -- ---- the rounds that it serves

  one_goes : (front : ℕ) (xs : List Start) (g : Start) (v : Option Visit)
      → is_going door g ≡ true
      → progressed door front (made_by (option_map round_of v)) (xs ++ g ∷ [])
      ≡ xs ++ record g { rounds = g.rounds ++ rounds_of (option_to_list v) } ∷ []
  one_goes front xs g None goes =
      ap (λ (rs : List DeliveryRound). xs ++ record g { rounds = rs } ∷ [])
      (sym (append-nil g.rounds))
  one_goes front xs g (Some v) goes = changes_last door (with_round (round_of v)) xs g goes

  serves_first : (s : State) (rounds : List Round) → ServesOn site s rounds
      → is_serving s.standing ≡ true
  serves_first s [] serves = serves
  serves_first s (r ∷ rounds) serves = serves.0

  serving_over : (rounds : List Round) (s : State) (xs : List Start) (g : Start)
      → is_going door g ≡ true → ServesOn site s rounds
      → starts_over door site s rounds (xs ++ g ∷ [])
      ≡ xs ++ record g { rounds = g.rounds ++ rounds_of (visits_of site s rounds) } ∷ []
  serving_over [] s xs g goes serves =
      ap (λ (rs : List DeliveryRound). xs ++ record g { rounds = rs } ∷ [])
      (sym (append-nil g.rounds))
  serving_over (r ∷ rounds) s xs g goes serves =
      let t : State = after_round site s r in
      let front : ℕ = front_in r.told in
      let v : Option Visit = visit_in s r in
      let later : List Visit = visits_of site t rounds in
      let next : Start = record g { rounds = g.rounds ++ rounds_of (option_to_list v) } in
      ap (λ (p : Progress). starts_over door site t rounds (progressed door front p (xs ++ g ∷ [])))
      (by_serving s r true true serves.0 (serves_first t rounds serves.1))
      ∙ ap (λ (all : List Start). starts_over door site t rounds all) (one_goes front xs g v goes)
      ∙ serving_over rounds t xs next goes serves.1
      ∙ ap (λ (rs : List DeliveryRound). xs ++ record g { rounds = rs } ∷ [])
      (append_assoc g.rounds (rounds_of (option_to_list v)) (rounds_of later)
      ∙ ap (λ (rs : List DeliveryRound). g.rounds ++ rs)
      (sym (map-append round_of (option_to_list v) later)))

  -- ---- the rounds behind them, where it serves no more

  -- where the START is left: with its rounds; and ended, where a round followed, or by what ends it
  record Ended (later : List Round) (g : Start) (all : List Start) (place : ℕ) : Type 0 where
    start : Start
    there : slice_get all place ≡ Some start
    rounds : start.rounds ≡ g.rounds
    over : (later ≡ []) ⊎ (start.ended ≡ true)
    ends : slice_get (progressed door 0 ended_now all) place ≡ Some (with_end start)

  ends_last : (xs : List Start) (g : Start) → is_going door g ≡ true
      → slice_get (change_going door with_end (xs ++ g ∷ [])) (length xs) ≡ Some (with_end g)
  ends_last xs g goes =
      ap (λ (all : List Start). slice_get all (length xs)) (changes_last door with_end xs g goes)
      ∙ last_there xs (with_end g)

  ended_over : (rounds : List Round) (t : State) (xs : List Start) (g : Start)
      → is_going door g ≡ true → is_serving t.standing ≡ true → ServesNoMore site t rounds
      → Ended rounds g (starts_over door site t rounds (xs ++ g ∷ [])) (length xs)
  ended_over [] t xs g goes serves none = record {
    start = g;
    there = last_there xs g;
    rounds = refl;
    over = inl refl;
    ends = ends_last xs g goes;
  }
  ended_over (r ∷ rounds) t xs g goes serves none =
      let front = front_in r.told in
      let all = xs ++ g ∷ [] in
      let next = progressed door front (progress_of door site t r) all in
      let here : slice_get next (length xs) ≡ Some (with_end g) =
      ap (λ (p : Progress). slice_get (progressed door front p all) (length xs))
      (by_serving t r true false serves none) ∙ ends_last xs g goes in
      let left =
      over_leaves (with_end g) refl door site rounds (after_round site t r) next (length xs) here in
      record {
        start = with_end g;
        there = left;
        rounds = refl;
        over = inr refl;
        ends = progress_leaves (with_end g) refl door 0 ended_now
            (starts_over door site (after_round site t r) rounds next) (length xs) left;
      }

-- ---- a START

-- the laws that this one rests on
pub record Rests : Type 0 where
  pub keeps : SessionsAreKept
  pub begins : StartsBegin

rounds_behind : (site : Site) (rounds more : List Round) (s : State)
    → AreRounds site s (rounds ++ more) → AreRounds site (after_rounds site s rounds) more
rounds_behind site [] more s are = are
rounds_behind site (r ∷ rounds) more s are =
    rounds_behind site rounds more (after_round site s r) are.1

some_of : (o : Option Serving) → is_some o ≡ true → (own : Serving) × (o ≡ Some own)
some_of None is = absurd (cc is)
some_of (Some own) is = (own, refl)

itself : (door : ℕ) → (door == door) ≡ true
itself door = grind arith

pub starts_are_there : Rests → StartsAreThere
starts_are_there laws b rounds before valid are = λ a is.
    let site = b.site in
    let door = b.door in
    let s = found_by b a in
    let t = begun_by b a in
    let kept = laws.keeps b a.earlier in
    let had = some_of (return_of s.standing.service) is.bound in
    let own = had.0 in
    let others = a.serving ++ a.later in
    let here =
    rounds_behind site a.earlier (a.own ∷ others) (start_of b)
    (subst (AreRounds site (start_of b)) is.stands are) in
    let serves : is_serving t.standing ≡ true = serves_first door site t a.serving is.serves in
    let begins = laws.begins site s a.own own here.0 is.still (kept.still is.still) had.1 serves in
    let shape : Shape = shape_of own in
    let has = kept.own shape (ap (option_map shape_of) had.1) in
    let front : ℕ = begins.told.answer.glimpse.front in
    let asked : Asked = asked_so door shape begins.asks.wanted in
    let asks : asked_in door site s a.own ≡ Some asked =
    asks_so door site s a.own shape begins.asks.wanted begins.asks.message begins.told valid
    has begins.asked begins.asks.handled begins.asks.says in
    let still : is_serving s.standing ≡ false =
    ap (λ (x : Bool). goes_on s.standing.course && x) is.still ∙ none_and (goes_on s.standing.course)
    in
    let takes : progress_of door site s a.own ≡ taken_now asked =
    by_serving door site s a.own false true still serves
    ∙ ap (λ (x : Option Asked). taken_by x) asks in
    let first : List Start = starts_over door site (start_of b) a.earlier before in
    let new : Start = begun asked front in
    let at : front_in a.own.told ≡ front = ap front_in begins.asked in
    let goes : is_going door new ≡ true = ap (λ (x : Bool). x && true) (itself door) in
    let served : Start =
    record new { rounds = new.rounds ++ rounds_of (visits_of site t a.serving) } in
    let last : State = after_rounds site t a.serving in
    let whole : starts_over door site (start_of b) rounds before
    ≡ starts_over door site last a.later (first ++ served ∷ []) =
    ap (λ (rs : List Round). starts_over door site (start_of b) rs before) is.stands
    ∙ over_both door site a.earlier (a.own ∷ others) (start_of b) before
    ∙ ap (λ (p : Progress). starts_over door site t others
    (progressed door (front_in a.own.told) p first)) takes
    ∙ ap (λ (n : ℕ). starts_over door site t others (first ++ begun asked n ∷ [])) at
    ∙ over_both door site a.serving a.later t (first ++ new ∷ [])
    ∙ ap (λ (all : List Start). starts_over door site last a.later all)
    (serving_over door site a.serving t first new goes is.serves) in
    let now : List Start = starts_over door site last a.later (first ++ served ∷ []) in
    let left =
    over_stays door site a.later last served (first ++ served ∷ []) (length first)
    (last_there first served) in
    let ended : ServesThese b a → Ended door site a.later served now (length first) =
    λ these. ended_over door site a.later last first served goes
    (serves_last site t a.serving is.serves) these in
    let same : (these : ServesThese b a) → (ended these).start ≡ left.start =
    λ these. one_at (slice_get now (length first)) (ended these).start left.start (ended these).there
    left.there in
    let has : HasIt b a now =
    record {
      place = length first;
      start = left.start;
      there = left.there;
      is = record {
        kind = own.kind;
        door = left.door;
        told = begins.told;
        asked = begins.asked;
        asks = subst (λ (x : Terms). Asks site s a.own front x) (sym left.terms) (record {
          message = begins.asks.message;
          handled = begins.asks.handled;
          wanted = begins.asks.wanted;
          says = begins.asks.says;
          selects = refl;
        });
        shape = subst (λ (x : Terms). shape_at site s.standing ≡ Some (shape_of_terms own.kind x))
            (sym left.terms) has;
        rounds = left.begins;
        all = λ these. ap (λ (x : Start). x.rounds) (sym (same these)) ∙ (ended these).rounds;
      };
    } in
    subst (LeavesIt b a) (sym whole) (record {
      has = has;
      over = λ these. subst (λ (x : Start). (a.later ≡ []) ⊎ (x.ended ≡ true)) (same these)
          (ended these).over;
      ends = λ these. (ended these).ends ∙ ap (λ (x : Start). Some (with_end x)) (same these);
    })
