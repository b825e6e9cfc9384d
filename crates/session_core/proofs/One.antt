-- The answers of the link and the events of the book fix what a session does.
use Rattle.std.proofs.Common.{◌≡◌, ℕ, true, Option, List, [], ◌∷◌, ◌++◌, refl, sym, ap, ◌∙◌, arith}
use Rattle.std.specs.Prelude.{is_some}
use Rattle.octet_core.specs.declared.offer.Offer.{Offer}
use Rattle.link_model.specs.declared.call.Call.{Call}
use Rattle.link_model.specs.declared.call.Heard.{Heard}
use Rattle.station_config.specs.declared.site.Site.{Site}
use Rattle.station_book.specs.State.{Event}
use Rattle.session_core.specs.Course.{is_over}
use Rattle.session_core.specs.Session.{State, Round, BookAnswer, before_step, after_round, IsRound}
use Rattle.session_core.specs.Session.{AreRounds, step_events, round_calls, round_events}
use Rattle.session_core.specs.Session.{session_events}
use Rattle.session_core.specs.Laws.{LinkAnswer, offer_answers, poll_answers, session_answers}
use Rattle.session_core.specs.Laws.{RepeatEnd, OneSession}
use Rattle.session_core.proofs.Ends.{ends_repeat}

-- a listen leaves whether a session has ended
pub over_before : (site : Site) (s : State) (r : Round) → IsRound site s r
    → is_over (before_step s r).standing.course ≡ is_over s.standing.course
over_before site s r is = grind arith

over_unasked : (site : Site) (door : ℕ) (s : State) (r : Round) (later : List Event)
    → IsRound site s r → round_events site door s r ++ later ≡ [] → is_over s.standing.course ≡ true
over_unasked site door s r later is e = grind (arith, over_before site s r is)

-- rounds without an event are those of a session that has ended
silent : (site : Site) (door : ℕ) (s : State) (rounds : List Round) (r : Round)
    → AreRounds site s (r ∷ rounds) → session_events site door s (r ∷ rounds) ≡ []
    → RepeatEnd site door s (r ∷ rounds)
silent site door s rounds r h e =
    ends_repeat site door s (r ∷ rounds) (over_unasked site door s r _ h.0 e) h

-- ---- equal answers

same_offer : (a b : Option Offer) (xs ys : List LinkAnswer) → is_some a ≡ is_some b
    → offer_answers a ++ xs ≡ offer_answers b ++ ys → (a ≡ b) × (xs ≡ ys)
same_offer a b xs ys e h = grind arith

same_poll : (a b : Option Heard) (xs ys : List LinkAnswer) → is_some a ≡ is_some b
    → poll_answers a ++ xs ≡ poll_answers b ++ ys → (a ≡ b) × (xs ≡ ys)
same_poll a b xs ys e h = grind arith

-- ---- equal events

same_told : (site : Site) (door : ℕ) (s : State) (a b : Option BookAnswer) (xs ys : List Event)
    → is_some a ≡ is_some b
    → step_events site door s a ++ xs ≡ step_events site door s b ++ ys → (a ≡ b) × (xs ≡ ys)
same_told site door s a b xs ys e h = grind arith

-- ---- equal rounds

pub record Same (r q : Round) (xs ys : List LinkAnswer) (es fs : List Event) : Type 0 where
  pub round : r ≡ q
  pub answers : xs ≡ ys
  pub events : es ≡ fs

round_is : (r q : Round) → r.waited ≡ q.waited → r.heard ≡ q.heard → r.told ≡ q.told
    → r.spoke ≡ q.spoke → r.sent ≡ q.sent → r ≡ q
round_is r q w h t s o = grind arith

pub same_round : (site : Site) (door : ℕ) (s : State) (r q : Round) (xs ys : List LinkAnswer)
    (es fs : List Event) → IsRound site s r → IsRound site s q
    → offer_answers r.waited
    ++ (poll_answers r.heard ++ (offer_answers r.spoke ++ (offer_answers r.sent ++ xs)))
    ≡ offer_answers q.waited
    ++ (poll_answers q.heard ++ (offer_answers q.spoke ++ (offer_answers q.sent ++ ys)))
    → round_events site door s r ++ es ≡ round_events site door s q ++ fs
    → Same r q xs ys es fs
same_round site door s r q xs ys es fs is was h e =
    let one = same_offer r.waited q.waited _ _ (is.listens.offers ∙ sym was.listens.offers) h in
    let two = same_poll r.heard q.heard _ _
    ((rw one.0 at is.listens.polls) ∙ sym was.listens.polls) one.1 in
    let three = same_told site door (before_step s q) r.told q.told es fs
    ((rw (one.0, two.0) at is.asks) ∙ sym was.asks) (rw (one.0, two.0) at e) in
    let four = same_offer r.spoke q.spoke _ _
    ((rw (one.0, two.0, three.0) at is.speaks.offers) ∙ sym was.speaks.offers) two.1 in
    let five = same_offer r.sent q.sent xs ys
    ((rw (one.0, two.0, three.0, four.0) at is.speaks.sends) ∙ sym was.speaks.sends) four.1 in
    record {
      round = round_is r q one.0 two.0 three.0 four.0 five.0;
      answers = five.1;
      events = three.1;
    }

-- ---- all rounds

pub one_session : OneSession
one_session site door s [] [] is was h e = record { calls = refl; end = refl }
one_session site door s [] (q ∷ others) is was h e =
    let over = silent site door s others q was (sym e) in
    record { calls = sym over.calls; end = sym over.same }
one_session site door s (r ∷ rounds) [] is was h e =
    let over = silent site door s rounds r is e in
    record { calls = over.calls; end = over.same }
one_session site door s (r ∷ rounds) (q ∷ others) is was h e =
    let now = after_round site s q in
    let same = same_round site door s r q (session_answers rounds) (session_answers others)
    (session_events site door (after_round site s r) rounds) (session_events site door now others)
    is.0 was.0 h e in
    let rest = one_session site door now rounds others (rw same.round at is.1) was.1 same.answers
    (rw same.round at same.events) in
    record {
      calls = rw same.round (ap (λ (x : List Call). round_calls site s q ++ x) rest.calls);
      end = rw same.round rest.end;
    }
