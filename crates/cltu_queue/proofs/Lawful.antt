-- A run radiates lawfully, whatever its events.
use Rattle.std.proofs.Common.{◌≡◌, ℕ, ◌+◌, Bool, true, false, not, ◌||◌, ◌==◌, Option, Some, None}
use Rattle.std.proofs.Common.{Ok, List, [], ◌∷◌, ◌++◌, length, refl, sym, ◌∙◌, ap, subst}
use Rattle.std.proofs.Common.{append_assoc}
use Rattle.std.proofs.lemmas.Bool.{true≢false}
use Rattle.std.specs.List.{cons_option}
use Rattle.cltu_queue.specs.declared.cltu.Cltu.{Cltu}
use Rattle.cltu_queue.specs.Machine.{Machine, behind}
use Rattle.cltu_queue.specs.Forward.{Event, start, Reply, started, forward}
use Rattle.cltu_queue.specs.Run.{steps, after, begins_run_by, are_of_one_run, accepted_by, accepted}
use Rattle.cltu_queue.specs.Run.{radiation_by, Radiation, radiations, count_up, ids_of}
use Rattle.cltu_queue.specs.Run.{RadiateInOrder, IsLawful}
use Rattle.cltu_queue.proofs.Cases.{choose, start_by}
use Rattle.cltu_queue.proofs.Turns.{IsOver, IsQuiet, Turn, keeps, queues, radiates, ends, begins}
use Rattle.cltu_queue.proofs.Turns.{turn}

-- no run begins in the first of some steps, nor in the others
none_begins : (b : Bool) (bs : Bool) → not (b || bs) ≡ true → (b ≡ false) × (not bs ≡ true)
none_begins true bs h = cc
none_begins false bs h = (refl, h)

-- the steps of a list in which no run begins
record OneRun (m : Machine) (event : Event) (events : List Event) : Type 0 where
  pub here : begins_run_by event (forward m event).1 ≡ false
  pub behind_it : are_of_one_run (steps (forward m event).0 events) ≡ true

one_run_parts : (m : Machine) (event : Event) (events : List Event)
    → are_of_one_run (steps m (event ∷ events)) ≡ true
    → OneRun m event events
one_run_parts m event events h =
    let parts = none_begins (begins_run_by event (forward m event).1) _ h in
    record { here = parts.0; behind_it = parts.1 }

-- an event keeps a run over
over_stays : (m n : Machine) (event : Event) (reply : Reply) → IsOver m
    → begins_run_by event reply ≡ false
    → Turn m event n reply → IsOver n × IsQuiet event reply
over_stays m n event reply over none (keeps s quiet) =
    (record { empty = s.waiting ∙ over.empty; shut = rw (s.blocked, s.started) over.shut }, quiet)
over_stays m n event reply over none (queues cltu q takes radiates_none) =
    absurd (true≢false (sym over.shut ∙ q.is_open))
over_stays m n event reply over none (radiates cltu others radiation r takes_none is) =
    absurd (let f : [] ≡ cltu ∷ others = sym over.empty ∙ r.first in cc)
over_stays m n event reply over none (ends e over' quiet) = (over', quiet)
over_stays m n event reply over none (begins e is quiet) = absurd (true≢false (sym is ∙ none))

-- what is accepted and radiated, an event's own first
accepted-cons : (m : Machine) (event : Event) (events : List Event) (x : Option Cltu)
    → accepted_by event (forward m event).1 ≡ x
    → accepted (steps m (event ∷ events)) ≡ cons_option x
    (accepted (steps (forward m event).0 events))
accepted-cons m event events x is =
    ap (λ o. cons_option o (accepted (steps (forward m event).0 events))) is

pub radiations-cons : (m : Machine) (event : Event) (events : List Event) (x : Option Radiation)
    → radiation_by event (forward m event).1 ≡ x
    → radiations (steps m (event ∷ events)) ≡ cons_option x
    (radiations (steps (forward m event).0 events))
radiations-cons m event events x is =
    ap (λ o. cons_option o (radiations (steps (forward m event).0 events))) is

-- a run that is over accepts nothing and radiates nothing, until the next begins
pub record IsStill (m : Machine) (events : List Event) : Type 0 where
  pub accepts_none : accepted (steps m events) ≡ []
  pub radiates_none : radiations (steps m events) ≡ []
  pub stays : IsOver (after m events)

pub over_is_still : (m : Machine) (events : List Event) → IsOver m
    → are_of_one_run (steps m events) ≡ true
    → IsStill m events
over_is_still m [] over one = record { accepts_none = refl; radiates_none = refl; stays = over }
over_is_still m (event ∷ events) over one =
    let parts = one_run_parts m event events one in
    let next = over_stays m (forward m event).0 event (forward m event).1 over parts.here
    (turn m event) in
    let still = over_is_still (forward m event).0 events next.0 parts.behind_it in
    record {
      accepts_none = accepted-cons m event events None next.1.accepts_none ∙ still.accepts_none;
      radiates_none = radiations-cons m event events None next.1.radiates_none
          ∙ still.radiates_none;
      stays = still.stays;
    }

-- what waits and what is accepted later radiates in order
abbrev InOrder : Machine → List Event → Type 0
InOrder m events =
    RadiateInOrder m.run (m.waiting ++ accepted (steps m events)) (radiations (steps m events))

order_by : (m n : Machine) (event : Event) (events : List Event) (cltus : List Cltu)
    (rs : List Radiation)
    → begins_run_by event (forward m event).1 ≡ false
    → (IsOver n → rs ≡ [])
    → RadiateInOrder n.run (n.waiting ++ cltus) rs
    → Turn m event n (forward m event).1
    → RadiateInOrder m.run (m.waiting ++ cons_option (accepted_by event (forward m event).1) cltus)
    (cons_option (radiation_by event (forward m event).1) rs)
order_by m n event events cltus rs none over order (keeps s quiet) =
    rw (quiet.accepts_none, quiet.radiates_none, ← s.run, ← s.waiting) order
order_by m n event events cltus rs none over order (queues cltu q takes radiates_none) =
    rw (takes, radiates_none, ← q.run)
    (let e : n.waiting ++ cltus ≡ m.waiting ++ cltu ∷ cltus = ap (λ w. w ++ cltus) q.waiting
    ∙ append_assoc m.waiting (cltu ∷ []) cltus in
    subst (λ w. RadiateInOrder n.run w rs) e order)
order_by m n event events cltus rs none over order (radiates cltu others radiation r takes_none is)
    =
    rw (takes_none, is, r.first) (
      r.is_of,
      subst (λ k. RadiateInOrder k (others ++ cltus) rs) r.run
          (subst (λ w. RadiateInOrder n.run (w ++ cltus) rs) r.left order),
    )
order_by m n event events cltus rs none over order (ends e ended quiet) =
    rw (quiet.radiates_none, over ended) tt
order_by m n event events cltus rs none over order (begins e is quiet) =
    absurd (true≢false (sym is ∙ none))

in_order : (m : Machine) (events : List Event) → are_of_one_run (steps m events) ≡ true
    → InOrder m events
in_order m [] one = tt
in_order m (event ∷ events) one =
    let parts = one_run_parts m event events one in
    order_by m (forward m event).0 event events (accepted (steps (forward m event).0 events))
    (radiations (steps (forward m event).0 events)) parts.here
    (λ over. (over_is_still (forward m event).0 events over parts.behind_it).radiates_none)
    (in_order (forward m event).0 events parts.behind_it) (turn m event)

-- the identifications count up from the next one on
abbrev CountUp : Option ℕ → List Cltu → Type 0
CountUp None cltus = cltus ≡ []
CountUp (Some first) cltus = ids_of cltus ≡ count_up first (length cltus)

none_counts_up : (next : Option ℕ) (cltus : List Cltu) → cltus ≡ [] → CountUp next cltus
none_counts_up None cltus is = is
none_counts_up (Some first) cltus is = rw is refl

counts_on : (cltu : Cltu) (cltus : List Cltu) → CountUp (behind cltu.id) cltus
    → CountUp (Some cltu.id) (cltu ∷ cltus)
counts_on cltu cltus =
    choose (λ (o : Option ℕ). CountUp o cltus
    → CountUp (Some cltu.id) (cltu ∷ cltus)) (cltu.id == 4294967295) None
    (Some (cltu.id + 1)) (λ _ is. rw is refl) (λ _ is. ap (λ ids. cltu.id ∷ ids) is)

counts_by : (m n : Machine) (event : Event) (cltus : List Cltu)
    → begins_run_by event (forward m event).1 ≡ false
    → (IsOver n → cltus ≡ [])
    → CountUp n.next cltus
    → Turn m event n (forward m event).1
    → CountUp m.next (cons_option (accepted_by event (forward m event).1) cltus)
counts_by m n event cltus none over counts (keeps s quiet) =
    rw (quiet.accepts_none, ← s.next) counts
counts_by m n event cltus none over counts (queues cltu q takes radiates_none) =
    rw (takes, q.next) (counts_on cltu cltus (subst (λ o. CountUp o cltus) q.behind_it counts))
counts_by m n event cltus none over counts (radiates cltu others radiation r takes_none is) =
    rw (takes_none, ← r.next) counts
counts_by m n event cltus none over counts (ends e ended quiet) =
    rw quiet.accepts_none (none_counts_up m.next cltus (over ended))
counts_by m n event cltus none over counts (begins e is quiet) = absurd (true≢false (sym is ∙ none))

counts : (m : Machine) (events : List Event) → are_of_one_run (steps m events) ≡ true
    → CountUp m.next (accepted (steps m events))
counts m [] one = none_counts_up m.next [] refl
counts m (event ∷ events) one =
    let parts = one_run_parts m event events one in
    counts_by m (forward m event).0 event (accepted (steps (forward m event).0 events)) parts.here
    (λ over. (over_is_still (forward m event).0 events over parts.behind_it).accepts_none)
    (counts (forward m event).0 events parts.behind_it) (turn m event)

-- a run that begins is empty, and awaits its first
record IsBegun (first : ℕ) (n : Machine) : Type 0 where
  pub next : n.next ≡ Some first
  pub empty : n.waiting ≡ []

begun : (m : Machine) (first : ℕ) → (forward m (start first)).1 ≡ started (Ok tt)
    → IsBegun first (forward m (start first)).0
begun m first =
    start_by (λ (r : Machine × Reply). r.1 ≡ started (Ok tt)
    → IsBegun first r.0) m first (λ is. cc) (λ d is. cc)
    (λ is. record { next = refl; empty = refl })

-- the run that begins with a START is lawful
pub lawful_run : (m : Machine) (first : ℕ) (events : List Event)
    → (forward m (start first)).1 ≡ started (Ok tt)
    → are_of_one_run (steps (forward m (start first)).0 events) ≡ true
    → IsLawful (forward m (start first)).0.run first (steps (forward m (start first)).0 events)
lawful_run m first events is one =
    let n : Machine = (forward m (start first)).0 in
    let fresh : IsBegun first n = begun m first is in
    record {
      numbered = subst (λ o. CountUp o (accepted (steps n events))) fresh.next
          (counts n events one);
      in_order =
          subst (λ w. RadiateInOrder n.run (w ++ accepted (steps n events))
          (radiations (steps n events))) fresh.empty
          (in_order n events one);
    }

-- in a blocked run nothing radiates, until the next begins
pub record StaysBlocked (m : Machine) (events : List Event) : Type 0 where
  pub blocked : (after m events).blocked ≡ true
  pub accepts_none : accepted (steps m events) ≡ []
  pub radiates_none : radiations (steps m events) ≡ []

blocked_by : (m n : Machine) (event : Event) (reply : Reply) → m.blocked ≡ true
    → begins_run_by event reply ≡ false
    → Turn m event n reply → (n.blocked ≡ true) × IsQuiet event reply
blocked_by m n event reply is none (keeps s quiet) = (s.blocked ∙ is, quiet)
blocked_by m n event reply is none (queues cltu q takes radiates_none) =
    absurd (true≢false (let e : (true || not m.started) ≡ false = rw is at q.is_open in e))
blocked_by m n event reply is none (radiates cltu others radiation r takes_none taken) =
    absurd (true≢false (sym is ∙ r.unblocked))
blocked_by m n event reply is none (ends e ended quiet) = (e.blocked is, quiet)
blocked_by m n event reply is none (begins e b quiet) = absurd (true≢false (sym b ∙ none))

pub stays_blocked : (m : Machine) (events : List Event) → m.blocked ≡ true
    → are_of_one_run (steps m events) ≡ true
    → StaysBlocked m events
stays_blocked m [] is one = record { blocked = is; accepts_none = refl; radiates_none = refl }
stays_blocked m (event ∷ events) is one =
    let parts = one_run_parts m event events one in
    let next = blocked_by m (forward m event).0 event (forward m event).1 is parts.here
    (turn m event) in
    let rest = stays_blocked (forward m event).0 events next.0 parts.behind_it in
    record {
      blocked = rest.blocked;
      accepts_none = accepted-cons m event events None next.1.accepts_none ∙ rest.accepts_none;
      radiates_none = radiations-cons m event events None next.1.radiates_none ∙ rest.radiates_none;
    }
