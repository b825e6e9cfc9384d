-- The events of a door's worker are those of the sessions that it served.
use mathlib.Core.List.{map-append}
use Rattle.std.proofs.Common.{◌≡◌, ℕ, suc, ◌+◌, inl, inr, Option, Result, Ok, Err, All, List, []}
use Rattle.std.proofs.Common.{◌∷◌, ◌++◌, refl, sym, ap, subst, ◌∙◌, append-nil, arith}
use Rattle.cds_time.specs.declared.cds.Cds.{Cds}
use Rattle.link_model.specs.declared.call.Call.{Call as LinkCall}
use Rattle.door_model.specs.Shown.{Shown}
use Rattle.turn_lock.specs.PassState.{Lock}
use Rattle.turn_lock.specs.declared.view.Mark.{Mark}
use Rattle.station_config.specs.declared.site.Site.{Site}
use Rattle.station_book.specs.State.{Opening, Event, gone}
use Rattle.station_seats.specs.Seats.{IsFresh, owns_of}
use Rattle.station_seats.specs.declared.report.DoorReport.{DoorReport}
use Rattle.station_seats.specs.declared.seat.DoorSeat.{DoorSeat}
use Rattle.session_core.specs.SessionState.{SessionState}
use Rattle.session_core.specs.Session.{State, session_events}
use Rattle.session_core.specs.Lists.{Stage, Part, to_listen, to_step, to_speak, none_made}
use Rattle.session_core.specs.Lists.{made_listen, made_step, stage_of, part_events, start_of}
use Rattle.session_core.specs.Lists.{state_after}
use Rattle.session_core.specs.declared.ended.Ended.{Ended}
use Rattle.session_turns.specs.Serving.{began_at, Stood, ServedTo}
use Rattle.session_turns.specs.declared.serve_fault.ServeFault.{ServeFault}
use Rattle.session_turns.specs.declared.serve_fault.ServeFault.TheVariants.{LinkFault, TurnsSpent}
use Rattle.session_turns.specs.declared.serve_fault.ServeFault.TheVariants.{Memory}
use Rattle.door_turns.specs.Visits.{WorkerState, ServesLink, at_door}
use Rattle.door_turns.specs.Working.{Visits, none, more, Ends, all_links, no_more, failed, too_few}
use Rattle.door_turns.specs.Working.{spent, memory, Works, events_of_link}
use Rattle.door_turns.specs.Doors.{EachWorks}
use Rattle.door_turns.specs.declared.visit.Visit.{Visit}
use Rattle.door_turns.specs.declared.visit.Visit.TheVariants as visit
use Rattle.run_laws.proofs.Among.{events}
use Rattle.run_rounds.specs.Sessions.{Session, first_of, IsSession}
use Rattle.run_rounds.specs.Links.{HasCalls}
use Rattle.run_rounds.specs.Workers.{Made, made_by, made_served, session_with, session_of}
use Rattle.run_rounds.specs.Workers.{sessions_of_visits, sessions_of_end}
use Rattle.run_rounds.specs.Workers.{sessions_of_worker, sessions_of_each}
use Rattle.run_rounds.proofs.Sessions.{AreTheirs, none_are, theirs_more}

-- A door's events: those of these sessions, and behind them that its worker is gone.
pub record DoorHas (site : Site) (door : ℕ) (sessions : List Session) (es : List Event) : Type 0
  where
    pub asked : List Event
    pub theirs : AreTheirs site door asked sessions
    pub last : Event
    pub is_gone : last.call ≡ gone door
    pub own : es ≡ asked ++ last ∷ []

-- doors from this number on
abbrev pub DoorsHave : Site → ℕ → List (List Session) → List (List (Mark Event)) → Type 0
DoorsHave site n [] [] = Unit {0}
DoorsHave site n (ss ∷ sessions) (ms ∷ lists) =
    DoorHas site n ss (events ms) × DoorsHave site (n + 1) sessions lists
DoorsHave site n _ _ = ⊥

no_events : (site : Site) (door : ℕ) (s : State) (stage : Stage) (part : Part)
    → stage_of part ≡ stage → (stage ≡ to_speak → ⊥) → part_events site door s part ≡ []
no_events site door s stage none_made is before = refl
no_events site door s stage (made_listen waited heard) is before = refl
no_events site door s stage (made_step waited heard told) is before = absurd (before (sym is))

module _ {G L C : Type 0} (shown : G → Option Shown) (faults : G → ℕ)
    (calls : L → Option (List LinkCall)) (link_faults : L → ℕ) (readings : C → Option (List Cds))
    (lock : Lock Opening) (site : Site) (draw : ℕ) where
  module _ (door : ℕ) where
    -- events are those of a session that began so
    record IsOne (a : Session) (answers : List Event) : Type 0 where
      right : IsSession site door a
      has : HasCalls site door a
      events_are : answers ≡ session_events site door (first_of site door a) a.rounds

    abbrev from : ℕ → Made → Session
    from entered made = session_with draw entered made

    stood : (stage : Stage) (entered : ℕ) (w : SessionState) (answers : List Event)
        (link link_now : L) → (stage ≡ to_speak → ⊥)
        → (s : Stood calls link_faults stage (began_at site door draw entered) w answers link
        link_now)
        → IsOne (from entered (made_by s.own s.stands)) answers
    stood stage entered w answers link link_now before s =
        let began = began_at site door draw entered in
        let asked = session_events site door (start_of began) s.stands.rounds in
        let unasked : part_events site door (state_after began s.stands.rounds) s.stands.part ≡ [] =
        no_events site door (state_after began s.stands.rounds) stage s.stands.part
        s.stands.stage_is before in record {
          right = s.stands.right;
          has = record {
            part_right = s.stands.part_right;
            unasked = unasked;
            calls_are = s.stands.calls_are;
          };
          events_are =
              s.stands.events_are
              ∙ (ap (λ (xs : List Event). asked ++ xs) unasked ∙ append-nil asked);
        }

    served : (result : Result Ended ServeFault) (entered : ℕ) (answers : List Event)
        (unused : List ℕ) (turns left : ℕ) (link link_now : L)
        → (to : ServedTo calls link_faults result (began_at site door draw entered) answers unused
        turns left link link_now)
        → IsOne (from entered (made_served shown faults calls link_faults readings lock site draw
        result (began_at site door draw entered) answers unused turns left link link_now to))
        answers
    served (Err Memory) entered answers unused turns left link link_now (inl never) =
        record {
          right = tt;
          has = record { part_right = tt; unasked = refl; calls_are = refl };
          events_are = never.no_answers;
        }
    served (Err Memory) entered answers unused turns left link link_now (inr wanted) =
        stood to_step entered wanted.heard answers link link_now (λ e. cc e) wanted.stood
    served (Err LinkFault) entered answers unused turns left link link_now ran =
        stood to_listen entered ran.session answers link link_now (λ e. cc e) ran.stood
    served (Err TurnsSpent) entered answers unused turns left link link_now ran =
        stood to_listen entered ran.session answers link link_now (λ e. cc e) ran.stood
    served (Ok end) entered answers unused turns left link link_now ran =
        stood to_listen entered ran.session answers link link_now (λ e. cc e) ran.stood

    abbrev Link : Visit → WorkerState G C → WorkerState G C → Type 0
    Link said a b =
        ServesLink shown faults calls link_faults readings lock site door draw said a b

    abbrev gains : (said : Visit) (a b : WorkerState G C) → Link said a b → List (Mark Event)
    gains said a b s =
        events_of_link shown faults calls link_faults readings lock site door draw said a b s

    abbrev its : (said : Visit) (a b : WorkerState G C) → Link said a b → Session
    its said a b s =
        session_of shown faults calls link_faults readings lock site draw door said a b s

    abbrev Theirs : List (Mark Event) → List Session → Type 0
    Theirs ms sessions = AreTheirs site door (events ms) sessions

    link_more : (said : Visit) (a b : WorkerState G C) (s : Link said a b)
        (earlier : List (Mark Event)) (sessions : List Session) → Theirs earlier sessions
        → Theirs (earlier ++ gains said a b s) (sessions ++ its said a b s ∷ [])
    link_more said a b s earlier sessions before =
        let serves = s.given.serves in
        let answers = serves.served.answers in
        let left = serves.quits in
        let whole : events (earlier ++ gains said a b s)
        ≡ events earlier ++ (events answers ++ left.event ∷ []) =
        map-append (λ (m : Mark Event). m.event) earlier (answers ++ left ∷ [])
        ∙ ap (λ (xs : List Event). events earlier ++ xs)
        (map-append (λ (m : Mark Event). m.event) answers (left ∷ [])) in
        let one = served s.given.result serves.served.entered (events answers) serves.served.unused
        serves.served.spent serves.at.pass.left s.link serves.at.link serves.served.served in
        subst (λ (es : List Event). AreTheirs site door es (sessions ++ its said a b s ∷ []))
        (sym whole)
        (theirs_more site door (events earlier) sessions before (its said a b s) (events answers)
        left.event one.right one.has one.events_are serves.is_quit)

    visits_are : (count turns : ℕ) (gained : List (Mark Event)) (a b : WorkerState G C)
        → (v : Visits shown faults calls link_faults readings lock site door draw count turns gained
        a b)
        → Theirs gained (sessions_of_visits shown faults calls link_faults readings lock site draw
        door count turns gained a b v)
    visits_are _ _ _ _ _ (none at) = none_are site door
    visits_are _ _ _ _ _ (more count turns gained a b c before s) =
        link_more visit.Served b c s gained
        (sessions_of_visits shown faults calls link_faults readings lock site draw door count turns
        gained a b before)
        (visits_are count turns gained a b before)

    nothing_more : (earlier : List (Mark Event)) (sessions : List Session)
        → Theirs earlier sessions → Theirs (earlier ++ []) (sessions ++ [])
    nothing_more earlier sessions before =
        subst (λ (ms : List (Mark Event)). Theirs ms (sessions ++ [])) (sym (append-nil earlier))
        (subst (Theirs earlier) (sym (append-nil sessions)) before)

    end_is : (links : ℕ) (said : DoorReport) (count turns : ℕ) (last : List (Mark Event))
        (met new : WorkerState G C)
        → (e : Ends shown faults calls link_faults readings lock site door draw links said count
        turns last met new)
        → (earlier : List (Mark Event)) (sessions : List Session) → Theirs earlier sessions
        → Theirs (earlier ++ last) (sessions ++ sessions_of_end shown faults calls link_faults
        readings lock site draw door links said count turns last met new e)
    end_is links _ _ _ _ _ _ (all_links at) earlier sessions before =
        nothing_more earlier sessions before
    end_is links _ _ _ _ _ _ (no_more count met at few came) earlier sessions before =
        nothing_more earlier sessions before
    end_is links _ _ _ _ _ _ (failed count met at few came) earlier sessions before =
        nothing_more earlier sessions before
    end_is links _ _ _ _ _ _ (too_few count at few left) earlier sessions before =
        nothing_more earlier sessions before
    end_is links _ _ _ _ _ _ (spent count met at few s) earlier sessions before =
        link_more visit.Spent met at s earlier sessions before
    end_is links _ _ _ _ _ _ (memory count met at few s) earlier sessions before =
        link_more visit.Memory met at s earlier sessions before

    door_has : (links : ℕ) (said : DoorReport) (old new : WorkerState G C)
        → (w : Works shown faults calls link_faults readings lock site door draw links said old new)
        → old.pass.own ≡ []
        → DoorHas site door (sessions_of_worker shown faults calls link_faults readings lock site
        draw door links said old new w) (events new.pass.own)
    door_has links said old new w fresh =
        let s = w.served in
        let all = s.gained ++ s.last in record {
          asked = events all;
          theirs = end_is links said s.count s.last_spent s.last s.met w.at s.ends s.gained
              (sessions_of_visits shown faults calls link_faults readings lock site draw door
              s.count s.spent s.gained old s.met s.visits)
              (visits_are s.count s.spent s.gained old s.met s.visits);
          last = w.left.event;
          is_gone = w.is_gone;
          own =
              ap events w.gains.own
              ∙ (ap (λ (ms : List (Mark Event)). events (ms ++ (all ++ w.left ∷ []))) fresh
              ∙ map-append (λ (m : Mark Event). m.event) all (w.left ∷ []));
        }

  tail_of : {A : Type 0} (P : A → Type 0) (x : A) (xs : List A) → All P (x ∷ xs) → All P xs
  tail_of P x xs all k d lt = all (suc k) d (omega (arith, lt))

  pub doors_have : (turns links n : ℕ) (ss ss' : List DoorSeat) (gs gs' : List G)
      (cs cs' : List C) → All (λ s. IsFresh lock turns s.pass) ss
      → (each : EachWorks shown faults calls link_faults readings lock site draw links n ss ss' gs
      gs' cs cs')
      → DoorsHave site n (sessions_of_each shown faults calls link_faults readings lock site draw
      links n ss ss' gs gs' cs cs' each) (owns_of ss')
  doors_have turns links n [] [] [] [] [] [] all a = tt
  doors_have turns links n [] [] [] [] [] (c' ∷ cs') all a = absurd a
  doors_have turns links n [] [] [] [] (c ∷ cs) _ all a = absurd a
  doors_have turns links n [] [] [] (g' ∷ gs') _ _ all a = absurd a
  doors_have turns links n [] [] (g ∷ gs) _ _ _ all a = absurd a
  doors_have turns links n [] (s' ∷ ss') _ _ _ _ all a = absurd a
  doors_have turns links n (s ∷ ss) [] _ _ _ _ all a = absurd a
  doors_have turns links n (s ∷ ss) (s' ∷ ss') [] _ _ _ all a = absurd a
  doors_have turns links n (s ∷ ss) (s' ∷ ss') (g ∷ gs) [] _ _ all a = absurd a
  doors_have turns links n (s ∷ ss) (s' ∷ ss') (g ∷ gs) (g' ∷ gs') [] _ all a = absurd a
  doors_have turns links n (s ∷ ss) (s' ∷ ss') (g ∷ gs) (g' ∷ gs') (c ∷ cs) [] all a = absurd a
  doors_have turns links n (s ∷ ss) (s' ∷ ss') (g ∷ gs) (g' ∷ gs') (c ∷ cs) (c' ∷ cs') all a =
      let fresh : IsFresh lock turns s.pass = all 0 s (omega arith) in (
        door_has n links s'.report (at_door g c s.pass) (at_door g' c' s'.pass) a.0 fresh.own,
        doors_have turns links (n + 1) ss ss' gs gs' cs cs'
            (tail_of (λ (x : DoorSeat). IsFresh lock turns x.pass) s ss all) a.1,
      )
