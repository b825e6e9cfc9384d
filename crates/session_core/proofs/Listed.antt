-- A round's calls, over whole lists.
use Rattle.std.proofs.Common.{◌≡◌, ℕ, List, [], ◌∷◌, ◌++◌, Option, refl, sym, ap, subst, ◌∙◌}
use Rattle.std.proofs.Common.{append_assoc, arith}
use Rattle.std.proofs.lemmas.List.{append-nil}
use Rattle.isp1_tml.specs.Feeding.{StandsFor, fresh}
use Rattle.link_model.specs.declared.call.Call.{Call}
use Rattle.station_config.specs.declared.site.Site.{Site}
use Rattle.station_book.specs.State.{Event}
use Rattle.station_book.specs.State as book
use Rattle.session_core.specs.Session.{State, Round, BookAnswer, IsRound, after_rounds, begun}
use Rattle.session_core.specs.Session.{AreRounds}
use Rattle.session_core.specs.Session.{session_calls, session_events, listened, stepped}
use Rattle.session_core.specs.Session.{round_calls, round_events, after_round, step_events}
use Rattle.session_core.specs.SessionState.{SessionState, Shows, IsSound, Listened, told_by}
use Rattle.session_core.specs.SessionState.{own_events, IsSpoken, IsSent}
use Rattle.session_core.specs.SessionState.{kept_after}
use Rattle.session_core.specs.Steps.{round_ended}
use Rattle.session_core.specs.Lists.{to_listen, to_step, to_speak, Part, none_made, made_listen}
use Rattle.session_core.specs.Lists.{made_step, stage_of, IsPart, Began, start_of, state_after}
use Rattle.session_core.specs.Lists.{StandsAt, Goes, GoesStep, GoesRound}
use Rattle.session_core.specs.Outcome.{has_ended}
use Rattle.session_core.proofs.Streams.{WorkedOut, Gives}
use Rattle.session_core.proofs.Rounds.{asks_by, stands_told, events_by, spoke_by, tells-tells}
use Rattle.session_core.proofs.Sound.{sound_first, sound_rounds}
use Rattle.session_core.proofs.Whole.{whole_calls}
use Rattle.session_services.specs.Whole.{AreWhole}
use Rattle.octet_core.specs.declared.offer.Offer.{Offer}
use Rattle.link_model.specs.declared.call.Heard.{Heard}

-- ---- one round more

rounds_more : (site : Site) (s : State) (rounds : List Round) (r : Round)
    → after_rounds site s (rounds ++ r ∷ []) ≡ after_round site (after_rounds site s rounds) r
rounds_more site s [] r = refl
rounds_more site s (q ∷ rounds) r = rounds_more site (after_round site s q) rounds r

calls_more : (site : Site) (s : State) (rounds : List Round) (r : Round)
    → session_calls site s (rounds ++ r ∷ [])
    ≡ session_calls site s rounds ++ round_calls site (after_rounds site s rounds) r
calls_more site s [] r = append-nil (round_calls site s r)
calls_more site s (q ∷ rounds) r =
    ap (λ (x : List Call). round_calls site s q ++ x)
    (calls_more site (after_round site s q) rounds r)
    ∙ sym (append_assoc (round_calls site s q) _ _)

events_more : (site : Site) (door : ℕ) (s : State) (rounds : List Round) (r : Round)
    → session_events site door s (rounds ++ r ∷ [])
    ≡ session_events site door s rounds ++ round_events site door (after_rounds site s rounds) r
events_more site door s [] r = append-nil (round_events site door s r)
events_more site door s (q ∷ rounds) r =
    ap (λ (x : List Event). round_events site door s q ++ x)
    (events_more site door (after_round site s q) rounds r)
    ∙ sym (append_assoc (round_events site door s q) _ _)

are_more : (site : Site) (s : State) (rounds : List Round) (r : Round)
    → AreRounds site s rounds → IsRound site (after_rounds site s rounds) r
    → AreRounds site s (rounds ++ r ∷ [])
are_more site s [] r h is = (is, tt)
are_more site s (q ∷ rounds) r h is = (h.0, are_more site (after_round site s q) rounds r h.1 is)

appended : {X : Type 0} (a b c d e : List X) → a ≡ b ++ c → d ≡ e → a ++ d ≡ b ++ (c ++ e)
appended a b c d e f g = cc (append_assoc b c e)

-- ---- the part of a round that was made, by its stage

pub none_yet : (part : Part) → stage_of part ≡ to_listen → part ≡ none_made
none_yet part e = grind arith

pub record HasHeard (part : Part) : Type 0 where
  pub waited : Option Offer
  pub heard : Option Heard
  pub so : part ≡ made_listen waited heard

pub has_heard : (part : Part) → stage_of part ≡ to_step → HasHeard part
has_heard (made_listen waited heard) e = record { waited = waited; heard = heard; so = refl }
has_heard _ e = absurd (cc)

record HasActed (part : Part) : Type 0 where
  waited : Option Offer
  heard : Option Heard
  told : Option BookAnswer
  so : part ≡ made_step waited heard told

has_acted : (part : Part) → stage_of part ≡ to_speak → HasActed part
has_acted (made_step waited heard told) e =
    record { waited = waited; heard = heard; told = told; so = refl }
has_acted _ e = absurd (cc)

-- ---- a new session

pub first_shown : (b : Began) (v : SessionState) (door draw entered : ℕ) → v.door ≡ door
    → v.feeder ≡ fresh → v.standing ≡ begun door draw entered → StandsFor fresh [] []
    → b.door ≡ door → b.draw ≡ draw → b.entered ≡ entered → StandsAt to_listen b v [] []
first_shown b v door draw entered v_door v_feeder v_standing begins b_door b_draw b_entered =
    record {
      rounds = [];
      part = none_made;
      stage_is = refl;
      door_is = v_door ∙ sym b_door;
      right = tt;
      part_right = tt;
      calls_are = refl;
      events_are = refl;
      shows = record {
        standing = rw (b_door, b_draw, b_entered) v_standing;
        given = [];
        count = refl;
        stands = rw v_feeder begins;
      };
    }

-- ---- listen

pub goes_listen : WorkedOut → StandsFor fresh [] [] → (a c : Option (List Call))
    (old new : SessionState) → AreWhole old.standing.block → Listened a c old new
    → Goes to_listen to_step a c old new
goes_listen law begins a c old new block l = record {
  own = l.own;
  told = l.told;
  whole = l.whole block;
  stands = λ b calls events h.
      let none = none_yet h.part h.stage_is in
      let s = state_after b h.rounds in
      let shows : Shows old s = rw none at h.shows in
      let sound : IsSound s =
      sound_rounds b.site (start_of b) h.rounds h.right
      (sound_first law begins b.door b.draw b.entered) in
      record {
        rounds = h.rounds;
        part = made_listen l.waited l.heard;
        stage_is = refl;
        door_is = l.door ∙ h.door_is;
        right = h.right;
        part_right = l.listens s shows sound;
        calls_are =
            appended calls (session_calls b.site (start_of b) h.rounds) [] l.own _
            (rw none at h.calls_are) (l.own_is s shows sound);
        events_are = rw none at h.events_are;
        shows = l.stands s shows;
      };
}

-- ---- step

door_after : (site : Site) (v : SessionState) (told : Option BookAnswer) →
    (kept_after site v told).door ≡ v.door
door_after site v told = grind arith

pub goes_step : WorkedOut → Gives → (site : Site) (old new : SessionState) (bk : book.State)
    (reading : ℕ) → new ≡ kept_after site old (told_by site old bk reading) → (b : Began)
    (calls : List Call) (events : List Event) → b.site ≡ site
    → StandsAt to_step b old calls events
    → StandsAt to_speak b new calls (events ++ own_events site old bk reading)
goes_step law gives site old new bk reading is b calls events same h =
    let p = has_heard h.part h.stage_is in
    let s = listened (state_after b h.rounds) p.waited p.heard in
    let told = told_by site old bk reading in
    let shows : Shows old s = rw p.so at h.shows in
    let events_so : own_events site old bk reading ≡ step_events b.site b.door s told =
    events_by law site old bk reading s shows
    ∙ ap (λ (door : ℕ). step_events site door s told) h.door_is
    ∙ ap (λ (x : Site). step_events x b.door s told) (sym same) in
    record {
      rounds = h.rounds;
      part = made_step p.waited p.heard told;
      stage_is = refl;
      door_is = rw is (door_after site old told ∙ h.door_is);
      right = h.right;
      part_right = (rw p.so at h.part_right, asks_by site old bk reading s shows);
      calls_are = rw p.so at h.calls_are;
      events_are =
          appended events (session_events b.site b.door (start_of b) h.rounds) [] _ _
          (rw p.so at h.events_are) events_so;
      shows =
          rw is
          (subst (λ (x : Site). Shows (kept_after site old told) (stepped x s told)) (sym same)
          (stands_told law gives site old told s shows));
    }

-- ---- speak

pub goes_speak : (a b c : Option (List Call)) (old between mid new : SessionState)
    → AreWhole old.standing.block → AreWhole old.standing.outgoing → IsSpoken a b old between → IsSent b c between mid
    → new ≡ record mid { standing = round_ended mid.standing }
    → Goes to_speak to_listen a c old new
goes_speak a b c old between mid new block outgoing said sent is =
    let l = spoke_by a b c old between mid new said sent is in
    record {
      own = l.own;
      told = l.told;
      whole = l.whole block outgoing;
      stands = λ b calls events h.
          let p = has_acted h.part h.stage_is in
          let start = start_of b in
          let s = state_after b h.rounds in
          let t = stepped b.site (listened s p.waited p.heard) p.told in
          let shows : Shows old t = rw p.so at h.shows in
          let right : IsPart s (made_step p.waited p.heard p.told) = rw p.so at h.part_right in
          let r : Round =
          record {
            waited = p.waited;
            heard = p.heard;
            told = p.told;
            spoke = l.spoke;
            sent = l.sent;
          } in
          record {
            rounds = h.rounds ++ r ∷ [];
            part = none_made;
            stage_is = refl;
            door_is = l.door ∙ h.door_is;
            right = are_more b.site start h.rounds r h.right
                (record { listens = right.0; asks = right.1; speaks = l.speaks t shows });
            part_right = tt;
            calls_are =
                appended calls (session_calls b.site start h.rounds) _ l.own _
                (rw p.so at h.calls_are) (l.own_is t shows)
                ∙ sym (calls_more b.site start h.rounds r)
                ∙ sym (append-nil _);
            events_are =
                (rw p.so at h.events_are)
                ∙ sym (events_more b.site b.door start h.rounds r)
                ∙ sym (append-nil _);
            shows = rw (rounds_more b.site start h.rounds r) (l.stands t shows);
          };
    }

-- ---- a whole round

pub goes_round : (site : Site) (a c d : Option (List Call)) (bk now : book.State) (reading : ℕ)
    (old heard acted new : SessionState) → Goes to_listen to_step a c old heard
    → has_ended heard ≡ has_ended old
    → GoesStep site reading bk now heard acted → Goes to_speak to_listen c d acted new
    → GoesRound site reading a d bk now old new
goes_round site a c d bk now reading old heard acted new l ended step p = record {
  own = l.own ++ p.own;
  told = tells-tells a c d l.own p.own l.told p.told;
  whole = whole_calls l.own p.own l.whole p.whole;
  gained = own_events site heard bk reading;
  reads = grind arith;
  legal = grind arith;
  book_is = step.book_is;
  stands = λ b calls events same h.
      rw append_assoc at
      (p.stands b (calls ++ l.own) (events ++ own_events site heard bk reading)
      (step.stands b (calls ++ l.own) events same (l.stands b calls events h)));
}
