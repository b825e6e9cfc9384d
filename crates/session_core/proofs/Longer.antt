-- A round of a session that hasn't ended is one round more.
use Rattle.std.proofs.Common.{◌≡◌, ℕ, true, false, Option, Some, None, List, [], ◌∷◌, ◌++◌, map}
use Rattle.std.proofs.Common.{refl, sym, ap, ◌∙◌, append_assoc, arith}
use Rattle.std.specs.Prelude.{is_some}
use Rattle.std.proofs.lemmas.List.{append-nil, append_cancel_left}
use Rattle.link_model.specs.declared.call.Call.{Call}
use Rattle.link_model.specs.declared.call.Call.TheVariants.{Polled, Offered}
use Rattle.station_config.specs.declared.site.Site.{Site}
use Rattle.station_book.specs.State.{Event}
use Rattle.session_core.specs.declared.course.Course.{Course}
use Rattle.session_core.specs.declared.spoken.Spoken.TheVariants.{Going}
use Rattle.session_core.specs.declared.standing.Standing.{Standing}
use Rattle.session_core.specs.Course.{is_over}
use Rattle.session_core.specs.SessionState.{SessionState}
use Rattle.session_core.specs.Outcome.{come_to}
use Rattle.session_core.specs.Session.{State, Round, BookAnswer, before_step, after_round}
use Rattle.session_core.specs.Session.{after_rounds}
use Rattle.session_core.specs.Session.{IsRound, AreRounds, step_events, round_calls, round_events}
use Rattle.session_core.specs.Session.{session_calls, session_events, spoken_of}
use Rattle.session_core.specs.Lists.{Began, StandsAt, to_listen, start_of, state_after, readings_in}
use Rattle.session_core.specs.Laws.{LinkAnswer, to_poll, to_offer, offer_answers, poll_answers}
use Rattle.session_core.specs.Laws.{NoRoundYet, OneRoundMore, RepeatEnd}
use Rattle.session_core.proofs.Ends.{ends_repeat}
use Rattle.session_core.proofs.One.{over_before, same_round}
use Rattle.session_core.proofs.Listed.{none_yet}

-- ---- the answers in calls

abbrev answer_in : Call → LinkAnswer
answer_in (Polled space heard) = to_poll heard
answer_in (Offered octets said) = to_offer said

round_told : (site : Site) (s : State) (r : Round) (later : List Call)
    → map answer_in (round_calls site s r ++ later)
    ≡ offer_answers r.waited
    ++ (poll_answers r.heard
    ++ (offer_answers r.spoke ++ (offer_answers r.sent ++ map answer_in later)))
round_told site s r later = grind arith

-- two rounds with the same calls and events, and what is behind them
record Same (r q : Round) (later more : List Call) (es fs : List Event) : Type 0 where
  round : r ≡ q
  calls : later ≡ more
  events : es ≡ fs

same_by_calls : (site : Site) (door : ℕ) (s : State) (r q : Round) (later more : List Call)
    (es fs : List Event) → IsRound site s r → IsRound site s q
    → round_calls site s r ++ later ≡ round_calls site s q ++ more
    → round_events site door s r ++ es ≡ round_events site door s q ++ fs
    → Same r q later more es fs
same_by_calls site door s r q later more es fs is was h e =
    let same = same_round site door s r q (map answer_in later) (map answer_in more) es fs is was
    (sym (round_told site s r later) ∙ ap (map answer_in) h ∙ round_told site s q more) e in
    record {
      round = same.round;
      calls = append_cancel_left (round_calls site s q) later more (rw same.round at h);
      events = same.events;
    }

-- ---- rounds behind others

-- rounds behind these, with these calls and events, lead where the others do
record Rest (site : Site) (door : ℕ) (s : State) (rounds others : List Round) (own : List Call)
    (gained : List Event) : Type 0 where
  rest : List Round
  right : AreRounds site (after_rounds site s rounds) rest
  calls : session_calls site (after_rounds site s rounds) rest ≡ own
  events : session_events site door (after_rounds site s rounds) rest ≡ gained
  state : after_rounds site s others ≡ after_rounds site (after_rounds site s rounds) rest

none_longer : (xs gained : List Event) → [] ≡ xs ++ gained → gained ≡ []
none_longer [] gained h = sym h
none_longer (x ∷ xs) gained h = absurd (cc)

longer : (site : Site) (door : ℕ) (s : State) (rounds others : List Round) (own : List Call)
    (gained : List Event) (n : ℕ) → readings_in gained ≡ n ∷ [] → AreRounds site s rounds
    → AreRounds site s others → session_calls site s others ≡ session_calls site s rounds ++ own
    → session_events site door s others ≡ session_events site door s rounds ++ gained
    → Rest site door s rounds others own gained
longer site door s [] others own gained n reads is was h k =
    record { rest = others; right = was; calls = h; events = k; state = refl }
longer site door s (r ∷ rounds) [] own gained n reads is was h k =
    let none = none_longer (session_events site door s (r ∷ rounds)) gained k in absurd (cc)
longer site door s (r ∷ rounds) (q ∷ others) own gained n reads is was h k =
    let now = after_round site s r in
    let same = same_by_calls site door s q r _ (session_calls site now rounds ++ own) _
    (session_events site door now rounds ++ gained) was.0 is.0
    (h ∙ append_assoc (round_calls site s r) (session_calls site now rounds) own)
    (k ∙ append_assoc (round_events site door s r) (session_events site door now rounds) gained) in
    let rest = longer site door now rounds others own gained n reads is.1
    (rw same.round at was.1) (rw same.round at same.calls) (rw same.round at same.events) in
    record {
      rest = rest.rest;
      right = rest.right;
      calls = rest.calls;
      events = rest.events;
      state =
          ap (λ (x : Round). after_rounds site (after_round site s x) others) same.round
          ∙ rest.state;
    }

-- ---- a session that hasn't ended asks, so an event of its round has a reading

record ToldAt (told : Option BookAnswer) (n : ℕ) (later : List ℕ) : Type 0 where
  what : BookAnswer
  so : told ≡ Some what
  reads : what.reading ≡ n
  rest : later ≡ []

told_at : (site : Site) (door : ℕ) (s : State) (told : Option BookAnswer) (later : List Event)
    (n : ℕ) → is_some told ≡ true → readings_in (step_events site door s told ++ later) ≡ n ∷ []
    → ToldAt told n (readings_in later)
told_at site door s None later n e reads = absurd (cc)
told_at site door s (Some what) later n e reads =
    record { what = what; so = refl; reads = cc; rest = cc }

asked_once : (site : Site) (s : State) (r : Round) → IsRound site s r
    → is_over s.standing.course ≡ false → is_some r.told ≡ true
asked_once site s r is here = grind (arith, over_before site s r is)

-- ---- rounds without a reading

pub going_on : (c : Course) → spoken_of c ≡ Going → is_over c ≡ false
going_on c e = grind arith

record Idle (site : Site) (door : ℕ) (s : State) (rounds : List Round) : Type 0 where
  same : RepeatEnd site door s rounds
  goes : spoken_of s.standing.course ≡ Going → after_rounds site s rounds ≡ s

unread_over : (site : Site) (door : ℕ) (s : State) (q : Round) (idle : List Round)
    → IsRound site s q → readings_in (session_events site door s (q ∷ idle)) ≡ []
    → is_over s.standing.course ≡ true
unread_over site door s q idle is e = grind (arith, over_before site s q is)

are_idle : (site : Site) (door : ℕ) (s : State) (rounds : List Round) → AreRounds site s rounds
    → readings_in (session_events site door s rounds) ≡ [] → Idle site door s rounds
are_idle site door s [] is e =
    record { same = record { calls = refl; events = refl; same = refl }; goes = λ so. refl }
are_idle site door s (q ∷ idle) is e =
    let over = unread_over site door s q idle is.0 e in
    record {
      same = ends_repeat site door s (q ∷ idle) over is;
      goes = λ so. let on = going_on s.standing.course so in absurd (cc);
    }

-- ---- of rounds with one reading the first one does all

record First (site : Site) (door : ℕ) (s : State) (rounds : List Round) (n : ℕ) : Type 0 where
  round : Round
  right : IsRound site s round
  told : BookAnswer
  asked : round.told ≡ Some told
  reads : told.reading ≡ n
  calls : session_calls site s rounds ≡ round_calls site s round
  events : session_events site door s rounds ≡ round_events site door s round
  end : spoken_of (after_rounds site s rounds).standing.course
      ≡ spoken_of (after_round site s round).standing.course
  goes : spoken_of (after_rounds site s rounds).standing.course ≡ Going
      → after_rounds site s rounds ≡ after_round site s round

first_of : (site : Site) (door : ℕ) (s : State) (rounds : List Round) (n : ℕ)
    → readings_in (session_events site door s rounds) ≡ n ∷ []
    → is_over s.standing.course ≡ false → AreRounds site s rounds → First site door s rounds n
first_of site door s [] n reads here is = absurd (cc)
first_of site door s (r ∷ rounds) n reads here is =
    let told = told_at site door (before_step s r) r.told _ n (asked_once site s r is.0 here)
    reads in
    let rest = are_idle site door (after_round site s r) rounds is.1 told.rest in
    record {
      round = r;
      right = is.0;
      told = told.what;
      asked = told.so;
      reads = told.reads;
      calls = rw rest.same.calls (append-nil (round_calls site s r));
      events = rw rest.same.events (append-nil (round_events site door s r));
      end = rest.same.same;
      goes = λ so. rest.goes (sym rest.same.same ∙ so);
    }

-- ---- between two rounds a session stands for whole rounds

pub record Whole (b : Began) (v : SessionState) (calls : List Call) (events : List Event)
    (rounds : List Round) : Type 0 where
  pub right : AreRounds b.site (start_of b) rounds
  pub calls_are : calls ≡ session_calls b.site (start_of b) rounds
  pub events_are : events ≡ session_events b.site b.door (start_of b) rounds
  pub standing : v.standing ≡ (state_after b rounds).standing

pub whole : (b : Began) (v : SessionState) (calls : List Call) (events : List Event)
    (h : StandsAt to_listen b v calls events) → Whole b v calls events h.rounds
whole b v calls events h =
    let none = none_yet h.part h.stage_is in
    record {
      right = h.right;
      calls_are = (rw none at h.calls_are) ∙ append-nil _;
      events_are = (rw none at h.events_are) ∙ append-nil _;
      standing = (rw none at h.shows).standing;
    }

-- ---- no round yet

no_rounds : (b : Began) (rounds : List Round) → AreRounds b.site (start_of b) rounds
    → session_events b.site b.door (start_of b) rounds ≡ [] → rounds ≡ []
no_rounds b [] is e = refl
no_rounds b (r ∷ rounds) is e =
    let over = unread_over b.site b.door (start_of b) r rounds is.0 (ap readings_in e) in
    absurd (cc)

pub no_round_yet : NoRoundYet
no_round_yet b v calls h =
    let are = whole b v calls [] h in no_rounds b h.rounds are.right (sym are.events_are)

-- ---- one round more

pub one_round_more : OneRoundMore
one_round_more b site reading before after was is v new calls events same goes h here =
    let stands = goes.stands b calls events same h in
    let old = whole b v calls events h in
    let now = whole b new (calls ++ goes.own) (events ++ goes.gained) stands in
    let reads : readings_in goes.gained ≡ reading ∷ [] =
    rw (ap (λ (s : Standing). is_over s.course) old.standing ∙ here) at goes.reads in
    let rest = longer b.site b.door (start_of b) h.rounds stands.rounds goes.own goes.gained reading
    reads old.right now.right
    (sym now.calls_are ∙ ap (λ (xs : List Call). xs ++ goes.own) old.calls_are)
    (sym now.events_are ∙ ap (λ (xs : List Event). xs ++ goes.gained) old.events_are) in
    let first = first_of b.site b.door (state_after b h.rounds) rest.rest reading
    (ap readings_in rest.events ∙ reads) here rest.right in
    let come : come_to new
    ≡ spoken_of (after_rounds b.site (state_after b h.rounds) rest.rest).standing.course =
    ap (λ (s : Standing). spoken_of s.course) now.standing
    ∙ ap (λ (s : State). spoken_of s.standing.course) rest.state in
    record {
      round = first.round;
      right = first.right;
      told = first.told;
      asked = first.asked;
      reads = first.reads;
      calls_are = sym rest.calls ∙ first.calls;
      events_are = sym rest.events ∙ first.events;
      come = come ∙ first.end;
      state = λ going. rest.state ∙ first.goes (sym come ∙ going);
      stands = λ going.
          now.standing
          ∙ ap (λ (s : State). s.standing) (rest.state ∙ first.goes (sym come ∙ going));
    }
