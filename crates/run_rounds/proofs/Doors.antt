-- The events of each door in a run's history are those of its sessions.
use Rattle.std.proofs.Common.{◌≡◌, ◌==◌, ℕ, ◌+◌, Bool, true, false, cond, if◌then◌else◌, List, []}
use Rattle.std.proofs.Common.{◌∷◌, ◌++◌, filter, refl, sym, ap, subst, ◌∙◌, append_assoc}
use Rattle.std.proofs.Common.{append-nil, arith}
use Rattle.std.proofs.lemmas.Bool.Decides.{nat_tests}
use Rattle.std.proofs.lemmas.List.Elements.{filter-append}
use Rattle.std.proofs.lemmas.List.Folds.{list_any-append}
use Rattle.std.specs.List.{list_any, sum_by}
use Rattle.turn_lock.specs.Own.{MakeUp, weight_of}
use Rattle.turn_lock.specs.declared.view.Mark.{Mark}
use Rattle.station_config.specs.declared.site.Site.{Site}
use Rattle.station_book.specs.Doors.{is_by}
use Rattle.station_book.specs.State.{Event}
use Rattle.run_laws.proofs.Among.{events, Without, only_there, none_in}
use Rattle.run_laws.proofs.Calls.{all_by, none_by_another, filtered_none, or_none}
use Rattle.run_laws.proofs.Sessions.{sessions_of}
use Rattle.run_laws.proofs.Doors.{IsDoor, AreDoors, doors_without}
use Rattle.run_rounds.specs.Doors.{events_by}
use Rattle.run_rounds.specs.Sessions.{Session}
use Rattle.run_rounds.specs.Workers.{sessions_from}
use Rattle.run_rounds.proofs.Sessions.{AreTheirs, none_are, asked_of}
use Rattle.run_rounds.proofs.Working.{DoorHas, DoorsHave}

abbrev pub by_door : ℕ → Event → Bool
by_door door e = is_by door e.call

same_number : (a b : ℕ) → (a == b) ≡ true → a ≡ b
same_number a b is = grind (arith, nat_tests, is)

-- a door's events have none of another's
door_without : (site : Site) (door other : ℕ) (es : List Event) → (door == other) ≡ false
    → IsDoor site door es → list_any (by_door other) es ≡ false
door_without site door other es apart d =
    ap (list_any (by_door other)) d.own
    ∙ (list_any-append (by_door other) d.asked (d.last ∷ [])
    ∙ or_none (list_any (by_door other) d.asked) (list_any (by_door other) (d.last ∷ []))
    (none_by_another door other d.asked apart (sessions_of site door d.asked d.sessions))
    (or_none (by_door other d.last) false (ap (is_by other) d.is_gone) refl))

without_more : (p : Event → Bool) (front : List (List (Mark Event))) (ms : List (Mark Event))
    → Without p front → list_any p (events ms) ≡ false → Without p (front ++ ms ∷ [])
without_more p [] ms before here = (here, tt)
without_more p (other ∷ front) ms before here =
    (before.0, without_more p front ms before.1 here)

-- all that it asked
own_asked : (site : Site) (door : ℕ) (sessions : List Session) (es : List Event)
    → (d : DoorHas site door sessions es) → filter (by_door door) es ≡ d.asked
own_asked site door sessions es d =
    let p = by_door door in
    let last : p d.last ≡ false = ap (is_by door) d.is_gone in
    ap (filter p) d.own
    ∙ (filter-append p d.asked (d.last ∷ [])
    ∙ (ap (λ (xs : List Event). xs ++ filter p (d.last ∷ []))
    (all_by door d.asked (asked_of site door sessions d.asked d.theirs.asked))
    ∙ (ap (λ (b : Bool). d.asked ++ cond b (d.last ∷ []) []) last ∙ append-nil d.asked)))

module _ (site : Site) (h : List Event)
    (weighs : (f : Event → ℕ) (h : List Event) (lists : List (List (Mark Event)))
    → MakeUp h lists → weight_of f lists ≡ sum_by f h) where
  abbrev Theirs : ℕ → List Session → Type 0
  Theirs door sessions = AreTheirs site door (events_by door h) sessions

  -- a door of which no list has events
  nobody : (door : ℕ) (lists : List (List (Mark Event))) → MakeUp h lists
      → Without (by_door door) lists → Theirs door []
  nobody door lists made none =
      subst (λ (es : List Event). AreTheirs site door es [])
      (sym (filtered_none (by_door door) h (none_in (by_door door) h lists weighs made none)))
      (none_are site door)

  pub find : (lists front : List (List (Mark Event))) (all : List (List Session)) (n door : ℕ)
      → MakeUp h (front ++ lists) → Without (by_door door) front → AreDoors site n lists
      → DoorsHave site n all lists → Theirs door (sessions_from n all door)
  find [] front [] n door made before are has =
      nobody door front (subst (MakeUp h) (append-nil front) made) before
  find [] front (ss ∷ all) n door made before are has = absurd has
  find (ms ∷ lists) front [] n door made before are has = absurd has
  find (ms ∷ lists) front (ss ∷ all) n door made before are has =
      by (n == door) refl (find lists)
    where
      by : (b : Bool) → (n == door) ≡ b
          → ((front : List (List (Mark Event))) (all : List (List Session)) (n door : ℕ)
          → MakeUp h (front ++ lists) → Without (by_door door) front → AreDoors site n lists
          → DoorsHave site n all lists → Theirs door (sessions_from n all door))
          → Theirs door (if n == door then ss else sessions_from (n + 1) all door)
      by true is goes =
          let same : n ≡ door = same_number n door is in
          let d : DoorHas site door ss (events ms) =
          subst (λ m. DoorHas site m ss (events ms)) same has.0 in
          let later : Without (by_door door) lists =
          doors_without site door (n + 1) lists (omega (arith, same)) are.1 in
          let own : events_by door h ≡ d.asked =
          only_there (by_door door) h front ms lists weighs made before later
          ∙ own_asked site door ss (events ms) d in
          subst (λ (b : Bool). Theirs door (if b then ss else sessions_from (n + 1) all door))
          (sym is)
          (subst (λ (es : List Event). AreTheirs site door es ss) (sym own) d.theirs)
      by false is goes =
          subst (λ (b : Bool). Theirs door (if b then ss else sessions_from (n + 1) all door))
          (sym is)
          (goes (front ++ ms ∷ []) all (n + 1) door
          (subst (MakeUp h) (sym (append_assoc front (ms ∷ []) lists)) made)
          (without_more (by_door door) front ms before
          (door_without site n door (events ms) is are.0)) are.1 has.1)
