-- The doors of a run: each worker's own events are those of sessions, one behind the other, and the
-- turn in which it says that it is gone.
use mathlib.Core.List.{map-append}
use Rattle.std.proofs.Common.{◌≡◌, ◌==◌, ℕ, suc, ◌+◌, ◌<◌, ◌≤◌, Bool, true, false, ◌||◌, List, []}
use Rattle.std.proofs.Common.{◌∷◌, ◌++◌, cond}
use Rattle.std.proofs.Common.{Option, Result, Ok, Err, All, filter, inl, inr, refl, sym}
use Rattle.std.proofs.Common.{ap, subst, ◌∙◌, append_assoc, append-nil, arith}
use Rattle.std.proofs.lemmas.Bool.Decides.{nat_tests}
use Rattle.std.proofs.lemmas.List.Elements.{filter-append}
use Rattle.std.specs.List.{list_any}
use Rattle.cds_time.specs.declared.cds.Cds.{Cds}
use Rattle.link_model.specs.declared.call.Call.{Call as LinkCall}
use Rattle.door_model.specs.Shown.{Shown}
use Rattle.turn_lock.specs.PassState.{Lock}
use Rattle.turn_lock.specs.Own.{MakeUp}
use Rattle.turn_lock.specs.declared.view.Mark.{Mark}
use Rattle.archive_terms.specs.Archive.{Entry}
use Rattle.station_config.specs.declared.site.Site.{Site}
use Rattle.station_book.specs.State.{Opening, Event, gone}
use Rattle.station_book.specs.History.{IsLegal}
use Rattle.station_book.specs.Doors.{is_by, HasOneForward}
use Rattle.station_book.specs.Origin.{kinds_of}
use Rattle.station_seats.specs.Seats.{IsFresh, owns_of}
use Rattle.station_seats.specs.declared.seat.DoorSeat.{DoorSeat}
use Rattle.station_seats.specs.declared.report.DoorReport.{DoorReport}
use Rattle.session_core.specs.SessionState.{SessionState}
use Rattle.session_core.specs.declared.ended.Ended.{Ended}
use Rattle.session_core.specs.Session.{State as Session, session_events}
use Rattle.session_core.specs.Lists.{Stage, Part, to_listen, to_step, to_speak, none_made}
use Rattle.session_core.specs.Lists.{made_listen}
use Rattle.session_core.specs.Lists.{made_step, stage_of, part_events, start_of, state_after}
use Rattle.session_turns.specs.Serving.{began_at, Stood, ServedTo}
use Rattle.session_turns.specs.declared.serve_fault.ServeFault.{ServeFault}
use Rattle.session_turns.specs.declared.serve_fault.ServeFault.TheVariants.{LinkFault, TurnsSpent}
use Rattle.session_turns.specs.declared.serve_fault.ServeFault.TheVariants.{Memory}
use Rattle.door_turns.specs.Visits.{WorkerState, ServesLink, at_door}
use Rattle.door_turns.specs.Working.{Visits, none, more, Ends, all_links, no_more, failed, too_few}
use Rattle.door_turns.specs.Working.{spent, memory, Works, events_of_link}
use Rattle.door_turns.specs.Doors.{EachWorks}
use Rattle.door_turns.specs.declared.visit.Visit.{Visit}
use Rattle.session_laws.specs.Losing.{loses, own_in}
use Rattle.run_laws.specs.Laws.{Laws}
use Rattle.run_laws.proofs.Among.{events, Without, only_there, stands_in}
use Rattle.run_laws.proofs.Calls.{AreGiven, all_by, none_by_another, none_published, or_none}
use Rattle.run_laws.proofs.Calls.{is_answer, is_publish, kept, given_first, given_last, given_marks}
use Rattle.run_laws.proofs.Sessions.{IsSession, AreSessions, no_session, one_more, sessions_of}
use Rattle.run_laws.proofs.Sessions.{new_book, sessions_keep}

-- A door's events: those of sessions, each with its quit, and behind them that its worker is gone.
pub record IsDoor (site : Site) (door : ℕ) (es : List Event) : Type 0 where
  pub asked : List Event
  pub sessions : AreSessions site door asked
  pub last : Event
  pub is_gone : last.call ≡ gone door
  pub own : es ≡ asked ++ last ∷ []

no_events : (site : Site) (door : ℕ) (s : Session) (stage : Stage) (part : Part)
    → stage_of part ≡ stage → (stage ≡ to_speak → ⊥) → part_events site door s part ≡ []
no_events site door s stage none_made is before = refl
no_events site door s stage (made_listen waited heard) is before = refl
no_events site door s stage (made_step waited heard told) is before = absurd (before (sym is))

module _ {G L C : Type 0} (shown : G → Option Shown) (faults : G → ℕ)
    (calls : L → Option (List LinkCall)) (link_faults : L → ℕ) (readings : C → Option (List Cds))
    (lock : Lock Opening) (site : Site) (door draw : ℕ) where
  stood : (stage : Stage) (entered : ℕ) (w : SessionState) (answers : List Event)
      (link link_now : L) → (stage ≡ to_speak → ⊥)
      → Stood calls link_faults stage (began_at site door draw entered) w answers link link_now
      → IsSession site door answers
  stood stage entered w answers link link_now before s =
      let began = began_at site door draw entered in
      let asked = session_events site door (start_of began) s.stands.rounds in record {
        draw = draw;
        entered = entered;
        rounds = s.stands.rounds;
        right = s.stands.right;
        events =
            s.stands.events_are
            ∙ (ap (λ (xs : List Event). asked ++ xs)
            (no_events site door (state_after began s.stands.rounds) stage s.stands.part
            s.stands.stage_is before)
            ∙ append-nil asked);
      }

  served : (result : Result Ended ServeFault) (entered : ℕ) (answers : List Event)
      (unused : List ℕ) (turns left : ℕ) (link link_now : L)
      → ServedTo calls link_faults result (began_at site door draw entered) answers unused turns
      left link link_now
      → IsSession site door answers
  served (Err Memory) entered answers unused turns left link link_now (inl never) = record {
    draw = draw;
    entered = entered;
    rounds = [];
    right = tt;
    events = never.no_answers;
  }
  served (Err Memory) entered answers unused turns left link link_now (inr wanted) =
      stood to_step entered wanted.heard answers link link_now (λ e. cc e) wanted.stood
  served (Err LinkFault) entered answers unused turns left link link_now ran =
      stood to_listen entered ran.session answers link link_now (λ e. cc e) ran.stood
  served (Err TurnsSpent) entered answers unused turns left link link_now ran =
      stood to_listen entered ran.session answers link link_now (λ e. cc e) ran.stood
  served (Ok end) entered answers unused turns left link link_now ran =
      stood to_listen entered ran.session answers link link_now (λ e. cc e) ran.stood

  abbrev Link : Visit → WorkerState G C → WorkerState G C → Type 0
  Link said a b =
      ServesLink shown faults calls link_faults readings lock site door draw said a b

  abbrev gains : (said : Visit) (a b : WorkerState G C) → Link said a b → List (Mark Event)
  gains said a b s =
      events_of_link shown faults calls link_faults readings lock site door draw said a b s

  abbrev Asked : List (Mark Event) → Type 0
  Asked ms = AreSessions site door (events ms)

  link_asks : (said : Visit) (a b : WorkerState G C) (s : Link said a b)
      (earlier : List (Mark Event)) → Asked earlier → Asked (earlier ++ gains said a b s)
  link_asks said a b s earlier before =
      let serves = s.given.serves in
      let answers = serves.served.answers in
      let left = serves.quits in
      let whole : events (earlier ++ gains said a b s)
      ≡ events earlier ++ (events answers ++ left.event ∷ []) =
      map-append (λ (m : Mark Event). m.event) earlier (answers ++ left ∷ [])
      ∙ ap (λ (xs : List Event). events earlier ++ xs)
      (map-append (λ (m : Mark Event). m.event) answers (left ∷ [])) in
      subst (AreSessions site door) (sym whole)
      (one_more (events earlier) (events answers) left.event before
      (served s.given.result serves.served.entered (events answers) serves.served.unused
      serves.served.spent serves.at.pass.left s.link serves.at.link serves.served.served)
      serves.is_quit)

  visits_ask : (count turns : ℕ) (gained : List (Mark Event)) (a b : WorkerState G C)
      → Visits shown faults calls link_faults readings lock site door draw count turns gained a b
      → Asked gained
  visits_ask _ _ _ _ _ (none at) = no_session
  visits_ask _ _ _ _ _ (more count turns gained a b c before s) =
      link_asks _ b c s gained (visits_ask count turns gained a b before)

  nothing_more : (earlier : List (Mark Event)) → Asked earlier → Asked (earlier ++ [])
  nothing_more earlier before = subst Asked (sym (append-nil earlier)) before

  end_asks : (links : ℕ) (said : DoorReport) (count turns : ℕ) (last : List (Mark Event))
      (met new : WorkerState G C)
      → Ends shown faults calls link_faults readings lock site door draw links said count turns last
      met new
      → (earlier : List (Mark Event)) → Asked earlier → Asked (earlier ++ last)
  end_asks links _ _ _ _ _ _ (all_links at) earlier before = nothing_more earlier before
  end_asks links _ _ _ _ _ _ (no_more count met at few came) earlier before =
      nothing_more earlier before
  end_asks links _ _ _ _ _ _ (failed count met at few came) earlier before =
      nothing_more earlier before
  end_asks links _ _ _ _ _ _ (too_few count at few left) earlier before =
      nothing_more earlier before
  end_asks links _ _ _ _ _ _ (spent count met at few s) earlier before =
      link_asks _ met at s earlier before
  end_asks links _ _ _ _ _ _ (memory count met at few s) earlier before =
      link_asks _ met at s earlier before

  -- a worker that had no events
  pub door_is : (links : ℕ) (said : DoorReport) (old new : WorkerState G C)
      → Works shown faults calls link_faults readings lock site door draw links said old new
      → old.pass.own ≡ [] → IsDoor site door (events new.pass.own)
  door_is links said old new w fresh =
      let s = w.served in
      let all = s.gained ++ s.last in record {
        asked = events all;
        sessions =
            end_asks links said s.count s.last_spent s.last s.met w.at s.ends s.gained
            (visits_ask s.count s.spent s.gained old s.met s.visits);
        last = w.left.event;
        is_gone = w.is_gone;
        own =
            ap events w.gains.own
            ∙ (ap (λ (ms : List (Mark Event)). events (ms ++ (all ++ w.left ∷ []))) fresh
            ∙ map-append (λ (m : Mark Event). m.event) all (w.left ∷ []));
      }

-- doors from this number on
abbrev pub AreDoors : Site → ℕ → List (List (Mark Event)) → Type 0
AreDoors site n [] = Unit {0}
AreDoors site n (ms ∷ lists) = IsDoor site n (events ms) × AreDoors site (n + 1) lists

tail_of : {A : Type 0} (P : A → Type 0) (x : A) (xs : List A) → All P (x ∷ xs) → All P xs
tail_of P x xs all k d lt = all (suc k) d (omega (arith, lt))

module _ {G L C : Type 0} (shown : G → Option Shown) (faults : G → ℕ)
    (calls : L → Option (List LinkCall)) (link_faults : L → ℕ) (readings : C → Option (List Cds))
    (lock : Lock Opening) (site : Site) (draw links turns : ℕ) where
  abbrev Each : ℕ → List DoorSeat → List DoorSeat → List G → List G → List C → List C → Type 0
  Each n ss ss' gs gs' cs cs' =
      EachWorks shown faults calls link_faults readings lock site draw links n ss ss' gs gs' cs cs'

  pub doors_are : (n : ℕ) (ss ss' : List DoorSeat) (gs gs' : List G) (cs cs' : List C)
      → All (λ s. IsFresh lock turns s.pass) ss → Each n ss ss' gs gs' cs cs'
      → AreDoors site n (owns_of ss')
  doors_are n [] [] [] [] [] [] all a = tt
  doors_are n [] [] [] [] [] (c' ∷ cs') all a = absurd a
  doors_are n [] [] [] [] (c ∷ cs) _ all a = absurd a
  doors_are n [] [] [] (g' ∷ gs') _ _ all a = absurd a
  doors_are n [] [] (g ∷ gs) _ _ _ all a = absurd a
  doors_are n [] (s' ∷ ss') _ _ _ _ all a = absurd a
  doors_are n (s ∷ ss) [] _ _ _ _ all a = absurd a
  doors_are n (s ∷ ss) (s' ∷ ss') [] _ _ _ all a = absurd a
  doors_are n (s ∷ ss) (s' ∷ ss') (g ∷ gs) [] _ _ all a = absurd a
  doors_are n (s ∷ ss) (s' ∷ ss') (g ∷ gs) (g' ∷ gs') [] _ all a = absurd a
  doors_are n (s ∷ ss) (s' ∷ ss') (g ∷ gs) (g' ∷ gs') (c ∷ cs) [] all a = absurd a
  doors_are n (s ∷ ss) (s' ∷ ss') (g ∷ gs) (g' ∷ gs') (c ∷ cs) (c' ∷ cs') all a =
      let fresh : IsFresh lock turns s.pass = all 0 s (omega arith) in (
        door_is shown faults calls link_faults readings lock site n draw links s'.report
            (at_door g c s.pass) (at_door g' c' s'.pass) a.0 fresh.own,
        doors_are (n + 1) ss ss' gs gs' cs cs'
            (tail_of (λ (x : DoorSeat). IsFresh lock turns x.pass) s ss all) a.1,
      )

-- ---- what doors don't do

below_is : (other door : ℕ) → door < other → (other == door) ≡ false
below_is other door less = grind (arith, nat_tests)

above_is : (n door : ℕ) → n + 1 ≤ door → (n == door) ≡ false
above_is n door le = grind (arith, nat_tests)

none_both : (p : Event → Bool) (xs : List Event) (y : Event) → list_any p xs ≡ false
    → p y ≡ false → list_any p (xs ++ y ∷ []) ≡ false
none_both p [] y first second = or_none (p y) false second refl
none_both p (x ∷ xs) y first second = by (p x) refl (none_both p xs y)
  where
    by : (b : Bool) → p x ≡ b
        → (list_any p xs ≡ false → p y ≡ false → list_any p (xs ++ y ∷ []) ≡ false)
        → list_any p (x ∷ (xs ++ y ∷ [])) ≡ false
    by true is goes =
        absurd (cc (sym (ap (λ (b : Bool). b || list_any p xs) is) ∙ first))
    by false is goes =
        or_none (p x) _ is
        (goes (sym (ap (λ (b : Bool). b || list_any p xs) is) ∙ first) second)

-- no event of a door is another's, and none publishes
door_without : (site : Site) (door other : ℕ) (es : List Event) → (door == other) ≡ false
    → IsDoor site door es → list_any (λ e. is_by other e.call) es ≡ false
door_without site door other es apart d =
    let p = λ (e : Event). is_by other e.call in
    ap (list_any p) d.own
    ∙ none_both p d.asked d.last
    (none_by_another door other d.asked apart (sessions_of site door d.asked d.sessions))
    (ap (is_by other) d.is_gone)

door_publishes_none : (site : Site) (door : ℕ) (es : List Event) → IsDoor site door es
    → list_any (λ e. is_publish e.call) es ≡ false
door_publishes_none site door es d =
    let p = λ (e : Event). is_publish e.call in
    ap (list_any p) d.own
    ∙ none_both p d.asked d.last
    (none_published door d.asked (sessions_of site door d.asked d.sessions))
    (ap is_publish d.is_gone)

pub doors_without : (site : Site) (other n : ℕ) (lists : List (List (Mark Event))) → other < n
    → AreDoors site n lists → Without (λ e. is_by other e.call) lists
doors_without site other n [] less are = tt
doors_without site other n (ms ∷ lists) less are = (
  door_without site n other (events ms) (below_is n other less) are.0,
  doors_without site other (n + 1) lists (omega (arith, less)) are.1,
)

pub doors_publish_none : (site : Site) (n : ℕ) (lists : List (List (Mark Event)))
    → AreDoors site n lists → Without (λ e. is_publish e.call) lists
doors_publish_none site n [] are = tt
doors_publish_none site n (ms ∷ lists) are =
    (door_publishes_none site n (events ms) are.0, doors_publish_none site (n + 1) lists are.1)

-- ---- nothing that they ask is lost

without_one : (p : Event → Bool) (front : List (List (Mark Event))) (ms : List (Mark Event))
    → Without p front → list_any p (events ms) ≡ false → Without p (front ++ ms ∷ [])
without_one p [] ms before here = (here, tt)
without_one p (other ∷ front) ms before here =
    (before.0, without_one p front ms before.1 here)

module _ (laws : Laws) (site : Site) (entries : List Entry) (workers : ℕ)
    (one : HasOneForward (kinds_of site.instances)) (h : List Event)
    (legal : IsLegal (new_book laws site entries workers) h) where
  abbrev by_door : ℕ → Event → Bool
  by_door door e = is_by door e.call

  -- where no other list has events that are by it
  door_keeps : (front : List (List (Mark Event))) (ms : List (Mark Event))
      (back : List (List (Mark Event))) (door : ℕ) → MakeUp h (front ++ ms ∷ back)
      → Without (by_door door) front → Without (by_door door) back
      → IsDoor site door (events ms) → list_any (λ e. loses e.reply) (events ms) ≡ false
  door_keeps front ms back door made before later d =
      let are = sessions_of site door d.asked d.sessions in
      let given = given_marks (new_book laws site entries workers) h 0 ms legal
      (stands_in h front ms back made.stand) in
      let given_own : AreGiven (d.asked ++ d.last ∷ []) = subst AreGiven d.own given in
      let last : by_door door d.last ≡ false = ap (is_by door) d.is_gone in
      let own : own_in door h ≡ d.asked =
      only_there (by_door door) h front ms back laws.weighs made before later
      ∙ (ap (filter (by_door door)) d.own
      ∙ (filter-append (by_door door) d.asked (d.last ∷ [])
      ∙ (ap (λ (xs : List Event). xs ++ filter (by_door door) (d.last ∷ []))
      (all_by door d.asked are)
      ∙ (ap (λ (b : Bool). d.asked ++ cond b (d.last ∷ []) []) last ∙ append-nil d.asked)))) in
      ap (list_any (λ (e : Event). loses e.reply)) d.own
      ∙ none_both (λ (e : Event). loses e.reply) d.asked d.last
      (sessions_keep laws site entries workers one door h legal d.asked d.sessions own
      (given_first d.asked (d.last ∷ []) given_own))
      (kept d.last (given_last d.asked (d.last ∷ []) given_own).0 (ap is_answer d.is_gone))

  pub doors_keep : (lists front : List (List (Mark Event))) (n : ℕ) → MakeUp h (front ++ lists)
      → ((door : ℕ) → n ≤ door → Without (by_door door) front) → AreDoors site n lists
      → Without (λ e. loses e.reply) lists
  doors_keep [] front n made before are = tt
  doors_keep (ms ∷ lists) front n made before are = (
    door_keeps front ms lists n made (before n (omega arith))
        (doors_without site n (n + 1) lists (omega arith) are.1) are.0,
    doors_keep lists (front ++ ms ∷ []) (n + 1)
        (subst (MakeUp h) (sym (append_assoc front (ms ∷ []) lists)) made)
        (λ door le. without_one (by_door door) front ms (before door (omega (arith, le)))
        (door_without site n door (events ms) (above_is n door le) are.0)) are.1,
  )
