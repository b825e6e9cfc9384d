-- The links that a door shows as given back are those of the sessions that its worker served.
use Rattle.std.proofs.Common.{◌≡◌, ℕ, ◌+◌, inl, inr, Option, Some, None, IfSome, Result, Ok, Err, List}
use Rattle.std.proofs.Common.{[], ◌∷◌, ◌++◌, sym, ap, subst, ◌∙◌, append-nil, append_assoc}
use Rattle.cds_time.specs.declared.cds.Cds.{Cds}
use Rattle.link_model.specs.declared.call.Call.{Call as LinkCall}
use Rattle.link_model.specs.Calls.{Tells}
use Rattle.door_model.specs.Shown.{Shown, LinkBack, Shows, answered, given_back, IsFresh}
use Rattle.door_model.specs.declared.answer.Answer.{Answer}
use Rattle.door_model.specs.declared.answer.Answer.TheVariants as answer
use Rattle.turn_lock.specs.PassState.{Lock}
use Rattle.turn_lock.specs.declared.view.Mark.{Mark}
use Rattle.station_config.specs.declared.site.Site.{Site}
use Rattle.station_book.specs.State.{Opening, Event}
use Rattle.station_turns.specs.Gained.{events_of}
use Rattle.station_seats.specs.declared.report.DoorReport.{DoorReport}
use Rattle.station_seats.specs.declared.seat.DoorSeat.{DoorSeat}
use Rattle.session_core.specs.Lists.{Began}
use Rattle.session_core.specs.declared.ended.Ended.{Ended}
use Rattle.session_turns.specs.Serving.{began_at, ServedTo}
use Rattle.session_turns.specs.declared.serve_fault.ServeFault.{ServeFault}
use Rattle.session_turns.specs.declared.serve_fault.ServeFault.TheVariants.{LinkFault, TurnsSpent}
use Rattle.session_turns.specs.declared.serve_fault.ServeFault.TheVariants.{Memory}
use Rattle.door_turns.specs.Visits.{WorkerState, ServesLink, at_door}
use Rattle.door_turns.specs.Working.{Visits, none, more, Ends, all_links, no_more, failed, too_few}
use Rattle.door_turns.specs.Working.{spent, memory, Works}
use Rattle.door_turns.specs.Doors.{EachWorks}
use Rattle.door_turns.specs.declared.visit.Visit.{Visit}
use Rattle.door_turns.specs.declared.visit.Visit.TheVariants as visit
use Rattle.run_rounds.specs.Sessions.{Session}
use Rattle.run_rounds.specs.Links.{AreTheirLinks, GivesBack, EachGivesBack}
use Rattle.run_rounds.specs.Workers.{made_served, session_of, sessions_of_visits, sessions_of_end}
use Rattle.run_rounds.specs.Workers.{sessions_of_worker, sessions_of_each}

-- ---- what a door shows, one call after the other

links_both : (xs ys : List Session) (first later : List LinkBack) → AreTheirLinks xs first
    → AreTheirLinks ys later → AreTheirLinks (xs ++ ys) (first ++ later)
links_both [] ys [] later a b = b
links_both [] ys (link ∷ first) later a b = absurd a
links_both (x ∷ xs) ys [] later a b = absurd a
links_both (x ∷ xs) ys (link ∷ first) later a b = (a.0, links_both xs ys first later a.1 b)

no_link : (x : Option Shown) → GivesBack x x []
no_link None = tt
no_link (Some s) = ([], sym (append-nil s.back), tt)

-- it answered, and no link was given back
only_answered : (x y : Option Shown) (said : Answer) → Shows x y (answered said) → GivesBack x y []
only_answered x None said shows = tt
only_answered None (Some y) said shows = absurd shows
only_answered (Some x) (Some y) said shows =
    ([], ap (λ (s : Shown). s.back) shows ∙ sym (append-nil x.back), tt)

one_link : (x y : Option Shown) (link : LinkBack) (a : Session) → Shows x y (given_back link)
    → IfSome link.calls (λ told. told ≡ a.calls) → GivesBack x y (a ∷ [])
one_link x None link a shows told = tt
one_link None (Some y) link a shows told = absurd shows
one_link (Some x) (Some y) link a shows told =
    (link ∷ [], ap (λ (s : Shown). s.back) shows, (told, tt))

then_back : (x y z : Option Shown) (xs ys : List Session) → GivesBack x y xs → GivesBack y z ys
    → GivesBack x z (xs ++ ys)
then_back x y None xs ys first second = tt
then_back x None (Some z) xs ys first second = absurd second
then_back None (Some y) (Some z) xs ys first second = absurd first
then_back (Some x) (Some y) (Some z) xs ys first second = (
  first.0 ++ second.0,
  second.1
      ∙ ap (λ (links : List LinkBack). links ++ second.0) first.1
      ∙ append_assoc x.back first.0 second.0,
  links_both xs ys first.0 second.0 first.2 second.2,
)

-- a fresh link that tells tells what was called since then
fresh_tells : (before after : Option (List LinkCall)) (own : List LinkCall) → IsFresh before
    → Tells before after own → IfSome after (λ told. told ≡ own)
fresh_tells before None own fresh tells = tt
fresh_tells None (Some told) own fresh tells = absurd tells
fresh_tells (Some earlier) (Some told) own fresh tells =
    tells ∙ ap (λ (xs : List LinkCall). xs ++ own) fresh

module _ {G L C : Type 0} (shown : G → Option Shown) (faults : G → ℕ)
    (calls : L → Option (List LinkCall)) (link_faults : L → ℕ) (readings : C → Option (List Cds))
    (lock : Lock Opening) (site : Site) (draw : ℕ) where
  -- the calls of a link that was served, where it tells them, are its session's
  told_calls : (result : Result Ended ServeFault) (b : Began) (answers : List Event)
      (unused : List ℕ) (turns left : ℕ) (link link_now : L)
      → (to : ServedTo calls link_faults result b answers unused turns left link link_now)
      → IsFresh (calls link)
      → IfSome (calls link_now) (λ told. told ≡ (made_served shown faults calls link_faults readings
      lock site draw result b answers unused turns left link link_now to).calls)
  told_calls (Err Memory) b answers unused turns left link link_now (inl never) fresh =
      subst (λ (l : L). IfSome (calls l) (λ told. told ≡ [])) (sym never.no_calls) fresh
  told_calls (Err Memory) b answers unused turns left link link_now (inr wanted) fresh =
      fresh_tells (calls link) (calls link_now) wanted.stood.own fresh wanted.stood.told
  told_calls (Err LinkFault) b answers unused turns left link link_now ran fresh =
      fresh_tells (calls link) (calls link_now) ran.stood.own fresh ran.stood.told
  told_calls (Err TurnsSpent) b answers unused turns left link link_now ran fresh =
      fresh_tells (calls link) (calls link_now) ran.stood.own fresh ran.stood.told
  told_calls (Ok end) b answers unused turns left link link_now ran fresh =
      fresh_tells (calls link) (calls link_now) ran.stood.own fresh ran.stood.told

  module _ (door : ℕ) where
    abbrev Link : Visit → WorkerState G C → WorkerState G C → Type 0
    Link said a b =
        ServesLink shown faults calls link_faults readings lock site door draw said a b

    abbrev its : (said : Visit) (a b : WorkerState G C) → Link said a b → Session
    its said a b s =
        session_of shown faults calls link_faults readings lock site draw door said a b s

    link_shown : (said : Visit) (a b : WorkerState G C) (s : Link said a b)
        → GivesBack (shown a.door) (shown b.door) (its said a b s ∷ [])
    link_shown said a b s =
        let serves = s.given.serves in
        let served = serves.served in
        then_back (shown a.door) (shown s.between) (shown b.door) [] (its said a b s ∷ [])
        (only_answered (shown a.door) (shown s.between) answer.Link s.shows)
        (one_link (shown s.between) (shown b.door) _ (its said a b s) s.given.shows
        (subst (λ (l : L). IfSome (calls l) (λ told. told ≡ (its said a b s).calls))
        (sym serves.others.0)
        (told_calls s.given.result (began_at site door draw served.entered)
        (events_of served.answers) served.unused served.spent serves.at.pass.left s.link
        serves.at.link served.served s.fresh)))

    visits_shown : (count turns : ℕ) (gained : List (Mark Event)) (a b : WorkerState G C)
        → (v : Visits shown faults calls link_faults readings lock site door draw count turns gained
        a b)
        → GivesBack (shown a.door) (shown b.door) (sessions_of_visits shown faults calls link_faults
        readings lock site draw door count turns gained a b v)
    visits_shown _ _ _ _ _ (none at) = no_link (shown at.door)
    visits_shown _ _ _ _ _ (more count turns gained a b c before s) =
        then_back (shown a.door) (shown b.door) (shown c.door)
        (sessions_of_visits shown faults calls link_faults readings lock site draw door count turns
        gained a b before)
        (its visit.Served b c s ∷ [])
        (visits_shown count turns gained a b before) (link_shown visit.Served b c s)

    end_shown : (links : ℕ) (said : DoorReport) (count turns : ℕ) (last : List (Mark Event))
        (met new : WorkerState G C)
        → (e : Ends shown faults calls link_faults readings lock site door draw links said count
        turns last met new)
        → GivesBack (shown met.door) (shown new.door) (sessions_of_end shown faults calls
        link_faults readings lock site draw door links said count turns last met new e)
    end_shown links _ _ _ _ _ _ (all_links at) = no_link (shown at.door)
    end_shown links _ _ _ _ _ _ (no_more count met at few came) =
        only_answered (shown met.door) (shown at.door) answer.NoMore came.0.shows
    end_shown links _ _ _ _ _ _ (failed count met at few came) =
        only_answered (shown met.door) (shown at.door) answer.Failed came.0.shows
    end_shown links _ _ _ _ _ _ (too_few count at few left) = no_link (shown at.door)
    end_shown links _ _ _ _ _ _ (spent count met at few s) = link_shown visit.Spent met at s
    end_shown links _ _ _ _ _ _ (memory count met at few s) = link_shown visit.Memory met at s

    worker_shown : (links : ℕ) (said : DoorReport) (old new : WorkerState G C)
        → (w : Works shown faults calls link_faults readings lock site door draw links said old new)
        → GivesBack (shown old.door) (shown new.door) (sessions_of_worker shown faults calls
        link_faults readings lock site draw door links said old new w)
    worker_shown links said old new w =
        let s = w.served in
        subst (λ (g : G). GivesBack (shown old.door) (shown g) (sessions_of_worker shown faults
        calls link_faults readings lock site draw door links said old new w)) (sym w.others.0)
        (then_back (shown old.door) (shown s.met.door) (shown w.at.door)
        (sessions_of_visits shown faults calls link_faults readings lock site draw door s.count
        s.spent s.gained old s.met s.visits)
        (sessions_of_end shown faults calls link_faults readings lock site draw door links said
        s.count s.last_spent s.last s.met w.at s.ends)
        (visits_shown s.count s.spent s.gained old s.met s.visits)
        (end_shown links said s.count s.last_spent s.last s.met w.at s.ends))

  pub doors_show : (links n : ℕ) (ss ss' : List DoorSeat) (gs gs' : List G) (cs cs' : List C)
      → (each : EachWorks shown faults calls link_faults readings lock site draw links n ss ss' gs
      gs' cs cs')
      → EachGivesBack shown gs gs' (sessions_of_each shown faults calls link_faults readings lock
      site draw links n ss ss' gs gs' cs cs' each)
  doors_show links n [] [] [] [] [] [] a = tt
  doors_show links n [] [] [] [] [] (c' ∷ cs') a = absurd a
  doors_show links n [] [] [] [] (c ∷ cs) _ a = absurd a
  doors_show links n [] [] [] (g' ∷ gs') _ _ a = absurd a
  doors_show links n [] [] (g ∷ gs) _ _ _ a = absurd a
  doors_show links n [] (s' ∷ ss') _ _ _ _ a = absurd a
  doors_show links n (s ∷ ss) [] _ _ _ _ a = absurd a
  doors_show links n (s ∷ ss) (s' ∷ ss') [] _ _ _ a = absurd a
  doors_show links n (s ∷ ss) (s' ∷ ss') (g ∷ gs) [] _ _ a = absurd a
  doors_show links n (s ∷ ss) (s' ∷ ss') (g ∷ gs) (g' ∷ gs') [] _ a = absurd a
  doors_show links n (s ∷ ss) (s' ∷ ss') (g ∷ gs) (g' ∷ gs') (c ∷ cs) [] a = absurd a
  doors_show links n (s ∷ ss) (s' ∷ ss') (g ∷ gs) (g' ∷ gs') (c ∷ cs) (c' ∷ cs') a = (
    worker_shown n links s'.report (at_door g c s.pass) (at_door g' c' s'.pass) a.0,
    doors_show links (n + 1) ss ss' gs gs' cs cs' a.1,
  )
