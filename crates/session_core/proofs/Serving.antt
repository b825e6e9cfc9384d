-- Rounds from a session's beginning, over whole lists.
use Rattle.std.proofs.Common.{◌≡◌, ℕ, false, List, [], ◌∷◌, ◌++◌, length, take, Option, refl, ap}
use Rattle.std.proofs.Common.{subst, ◌∙◌, arith}
use Rattle.std.proofs.lemmas.List.{append-nil}
use Rattle.std.proofs.lemmas.List.Elements.{filter_map-append}
use Rattle.link_model.specs.declared.call.Call.{Call}
use Rattle.link_model.specs.Calls.{Tells, octets_handed}
use Rattle.station_book.specs.State.{Event}
use Rattle.station_book.specs.State as book
use Rattle.station_book.specs.History.{IsLegal, then_after, replay}
use Rattle.session_core.specs.declared.spoken.Spoken.{Spoken}
use Rattle.session_core.specs.declared.spoken.Spoken.TheVariants.{Going}
use Rattle.session_core.specs.declared.standing.Standing.{Standing}
use Rattle.session_core.specs.Session.{Round, AreRounds, session_events, spoken_of}
use Rattle.session_core.specs.SessionState.{SessionState}
use Rattle.session_core.specs.Outcome.{come_to, has_failed, FailsBy}
use Rattle.session_core.specs.Lists.{Began, start_of, StandsAt, to_listen, none_made, readings_in}
use Rattle.session_core.specs.Lists.{GoesRound, OnlyListens}
use Rattle.session_core.specs.Serving.{Made, Serves, Breaks}
use Rattle.session_services.specs.Whole.{AreWhole, whole_none}
use Rattle.session_core.proofs.Whole.{whole_calls}
use Rattle.session_core.specs.Laws.{EndsAsItStands}
use Rattle.session_core.proofs.Listed.{has_heard}
use Rattle.session_core.proofs.Longer.{going_on, whole}
use Rattle.session_core.proofs.Rounds.{tells-nil, tells-tells}
use Rattle.session_core.proofs.Fates.{both_count}
use Rattle.std.proofs.lemmas.Grind.{fold-append}

-- ---- histories

legal_both : (s : book.State) (h k : List Event) → IsLegal s h → IsLegal (replay s h) k
    → IsLegal s (h ++ k)
legal_both s [] k is more = more
legal_both s (e ∷ h) k is more = (is.0, legal_both (then_after s e) h k is.1 more)

-- ---- the end of rounds

pub ends_as_it_stands : EndsAsItStands
ends_as_it_stands b v calls events h =
    ap (λ (s : Standing). spoken_of s.course) (whole b v calls events h).standing

-- ---- rounds so far

-- from a session's beginning, rounds at these readings made calls of a link and events of a book,
-- and the session, which goes on, stands for them
pub record Lasts (b : Began) (before after : Option (List Call)) (book_before
    book_after : book.State) (readings : List ℕ) (v : SessionState) : Type 0 where
  pub calls : List Call
  pub events : List Event
  pub told : Tells before after calls
  pub whole : AreWhole (octets_handed calls)
  pub legal : IsLegal book_before events
  pub book_is : book_after ≡ replay book_before events
  pub reads : readings_in events ≡ readings
  pub stands : StandsAt to_listen b v calls events

pub lasts_first : (b : Began) (before : Option (List Call)) (bk : book.State) (v : SessionState)
    → StandsAt to_listen b v [] [] → Lasts b before before bk bk [] v
lasts_first b before bk v stands = record {
  calls = [];
  events = [];
  told = tells-nil before;
  whole = whole_none;
  legal = tt;
  book_is = refl;
  reads = refl;
  stands = stands;
}

-- one round more
pub lasts_on : (b : Began) (a c d : Option (List Call)) (bk mid now : book.State)
    (readings : List ℕ) (reading : ℕ) (v w : SessionState) → Lasts b a c bk mid readings v
    → come_to v ≡ Going → GoesRound b.site reading c d mid now v w
    → Lasts b a d bk now (readings ++ reading ∷ []) w
lasts_on b a c d bk mid now readings reading v w h came r = record {
  calls = h.calls ++ r.own;
  events = h.events ++ r.gained;
  told = tells-tells a c d h.calls r.own h.told r.told;
  whole = whole_calls h.calls r.own h.whole r.whole;
  legal = legal_both bk h.events r.gained h.legal (rw h.book_is at r.legal);
  book_is = rw fold-append (rw h.book_is at r.book_is);
  reads =
      rw (filter_map-append, h.reads)
      (ap (λ (x : List ℕ). readings ++ x) (rw (going_on v.standing.course came) at r.reads));
  stands = r.stands b h.calls h.events refl h.stands;
}

-- ---- rounds at an end

-- the events of a session's rounds
abbrev made_so : (b : Began) (bk now : book.State) (readings : List ℕ) (made : ℕ)
    (events : List Event) (rounds : List Round) → AreRounds b.site (start_of b) rounds
    → events ≡ session_events b.site b.door (start_of b) rounds → IsLegal bk events
    → now ≡ replay bk events → readings_in events ≡ take made readings
    → Made b rounds bk now readings
made_so b bk now readings made events rounds right is legal book_is reads = record {
  right = right;
  legal = rw is at legal;
  book_is = rw is at book_is;
  made = made;
  reads = rw is at reads;
}

pub serves_by : (b : Began) (a d : Option (List Call)) (bk now : book.State)
    (readings : List ℕ) (made : ℕ) (end : Spoken) (v : SessionState)
    → Lasts b a d bk now (take made readings) v → end ≡ come_to v
    → (end ≡ Going → made ≡ length readings) → Serves b a d bk now readings end
serves_by b a d bk now readings made end v h ends all =
    let are = whole b v h.calls h.events h.stands in
    record {
      rounds = h.stands.rounds;
      so = made_so b bk now readings made h.events h.stands.rounds are.right are.events_are h.legal
          h.book_is h.reads;
      told = rw are.calls_are at h.told;
      whole = subst (λ (calls : List Call). AreWhole (octets_handed calls)) are.calls_are h.whole;
      ends = ends ∙ ends_as_it_stands b v h.calls h.events h.stands;
      all = all;
    }

-- ---- rounds until memory was wanted

-- of a session that couldn't begin
pub breaks_first : (b : Began) (before : Option (List Call)) (faults : ℕ) (bk : book.State)
    (readings : List ℕ) → Breaks b before before faults faults bk bk readings
breaks_first b before faults bk readings = record {
  rounds = [];
  so = record { right = tt; legal = tt; book_is = refl; made = 0; reads = refl };
  part = none_made;
  part_right = tt;
  unasked = refl;
  told = tells-nil before;
  whole = whole_none;
  fails = grind arith;
}

-- of one that goes on
pub breaks_by : (b : Began) (a c d : Option (List Call)) (k m n x y : ℕ) (bk mid now : book.State)
    (readings : List ℕ) (made : ℕ) (v : SessionState) → Lasts b a c bk mid (take made readings) v
    → FailsBy false (has_failed v) k m → now ≡ mid → OnlyListens c d m n x y v
    → Breaks b a d k n bk now readings
breaks_by b a c d k m n x y bk mid now readings made v h faults same l =
    let stands = l.goes.stands b h.calls h.events h.stands in
    let p = has_heard stands.part stands.stage_is in
    let told = tells-tells a c d h.calls l.goes.own h.told l.goes.told in
    record {
      rounds = stands.rounds;
      so = made_so b bk now readings made h.events stands.rounds stands.right
          ((rw p.so at stands.events_are) ∙ append-nil _) h.legal (same ∙ h.book_is) h.reads;
      part = stands.part;
      part_right = stands.part_right;
      unasked = rw p.so refl;
      told = rw stands.calls_are at told;
      whole =
          subst (λ (calls : List Call). AreWhole (octets_handed calls)) stands.calls_are
          (whole_calls h.calls l.goes.own h.whole l.goes.whole);
      fails =
          rw stands.shows.standing at
          (both_count false (has_failed v) (has_failed l.heard) k m n faults l.fails).counts;
    }
