-- No CLTU of a run radiates twice, over all runs.
use Rattle.std.proofs.Common.{◌≡◌, ℕ, ◌+◌, ◌≤◌, ◌<◌, ◌==◌, ◌⊎◌, inl, inr, Option, Some, None, List}
use Rattle.std.proofs.Common.{[], ◌∷◌, ◌++◌, sym, subst, arith}
use Rattle.std.specs.Prelude.{IfSome}
use Rattle.std.specs.List.{AllByRecursion, cons_option}
use Rattle.cltu_queue.specs.declared.cltu.Cltu.{Cltu}
use Rattle.cltu_queue.specs.Machine.{Machine, new_machine, behind}
use Rattle.cltu_queue.specs.Forward.{Event, Reply, forward}
use Rattle.cltu_queue.specs.Run.{steps, radiation_by, Radiation, radiations, IsBefore, AreInTurn}
use Rattle.cltu_queue.proofs.Cases.{choose}
use Rattle.cltu_queue.proofs.Turns.{Turn, keeps, queues, radiates, ends, begins, turn}

-- the identifications of what waits rise from a number on, and are below the next one
abbrev pub Rise : ℕ → List Cltu → Option ℕ → Type 0
Rise from [] next = IfSome next (λ n. from ≤ n)
Rise from (cltu ∷ cltus) next = (from ≤ cltu.id) × Rise (cltu.id + 1) cltus next

-- a radiation is of a later run, or of this run and of this CLTU or a later one
abbrev pub IsFrom : ℕ → ℕ → Radiation → Type 0
IsFrom run from r = (run < r.run) ⊎ ((r.run ≡ run) × (from ≤ r.id))

rise_end : (from : ℕ) (cltus : List Cltu) (next : Option ℕ) → Rise from cltus next
    → IfSome next (λ n. from ≤ n)
rise_end from [] next h = h
rise_end from (cltu ∷ cltus) None h = tt
rise_end from (cltu ∷ cltus) (Some n) h = omega (
  arith,
  h.0,
  rise_end (cltu.id + 1) cltus (Some n) h.1,
)

behind_ends : (id : ℕ) → IfSome (behind id) (λ n. id + 1 ≤ n)
behind_ends id =
    choose (λ (o : Option ℕ). IfSome o (λ n. id + 1 ≤ n)) (id == 4294967295) None (Some (id + 1))
    (λ _. tt) (λ _. omega arith)

rise_push : (from : ℕ) (cltus : List Cltu) (cltu : Cltu) → Rise from cltus (Some cltu.id)
    → Rise from (cltus ++ cltu ∷ []) (behind cltu.id)
rise_push from [] cltu h = (h, behind_ends cltu.id)
rise_push from (first ∷ cltus) cltu h = (h.0, rise_push (first.id + 1) cltus cltu h.1)

all_from : (run a from b : ℕ) (rs : List Radiation)
    → ((r : Radiation) → IsFrom run from r → IsFrom a b r)
    → AllByRecursion (IsFrom run from) rs → AllByRecursion (IsFrom a b) rs
all_from run a from b [] weaker h = tt
all_from run a from b (r ∷ rs) weaker h = (weaker r h.0, all_from run a from b rs weaker h.1)

later_of : (run a b : ℕ) → b ≤ a → (r : Radiation) → IsFrom run a r → IsFrom run b r
later_of run a b le r (inl next) = inl next
later_of run a b le r (inr same) = inr (same.0, omega (arith, le, same.1))

next_run_of : (m n from : ℕ) → n ≡ m + 1 → (r : Radiation) → IsFrom n 0 r → IsFrom m from r
next_run_of m n from is r (inl next) = inl (omega (arith, is, next))
next_run_of m n from is r (inr same) = inl (omega (arith, is, same.0))

zero_rises : (next : Option ℕ) → IfSome next (λ n. 0 ≤ n)
zero_rises None = tt
zero_rises (Some n) = omega arith

all_behind : (radiation : Radiation) (rs : List Radiation)
    → AllByRecursion (IsFrom radiation.run (radiation.id + 1)) rs
    → AllByRecursion (IsBefore radiation) rs
all_behind radiation [] h = tt
all_behind radiation (r ∷ rs) h = (
  elim h.0 [ inl later ↦ inl later | inr same ↦ inr (sym same.0, omega (arith, same.1)) ],
  all_behind radiation rs h.1,
)

-- the radiations from a machine on
pub record AreFrom (run from : ℕ) (rs : List Radiation) : Type 0 where
  pub all : AllByRecursion (IsFrom run from) rs
  pub in_turn : AreInTurn rs

turn_by : (m n : Machine) (event : Event) (reply : Reply) (from : ℕ) (rs : List Radiation)
    → Rise from m.waiting m.next
    → ((k : ℕ) → Rise k n.waiting n.next → AreFrom n.run k rs)
    → Turn m event n reply
    → AreFrom m.run from (cons_option (radiation_by event reply) rs)
turn_by m n event reply from rs rise later (keeps s quiet) =
    rw (quiet.radiates_none, ← s.run) (later from (rw (s.waiting, s.next) rise))
turn_by m n event reply from rs rise later (queues cltu q takes radiates_none) =
    rw (radiates_none, ← q.run)
    (later from (rw (q.waiting, q.behind_it) (rise_push from m.waiting cltu (rw q.next at rise))))
turn_by m n event reply from rs rise later (radiates cltu others radiation r takes_none is) =
    let parts : (from ≤ cltu.id) × Rise (cltu.id + 1) others m.next = rw r.first at rise in
    let behind_it : AreFrom n.run (cltu.id + 1) rs =
    later (cltu.id + 1) (rw (r.left, r.next) parts.1) in
    let rest : AreFrom m.run (cltu.id + 1) rs =
    subst (λ k. AreFrom k (cltu.id + 1) rs) r.run behind_it in
    let same : AllByRecursion (IsFrom radiation.run (radiation.id + 1)) rs =
    subst (λ k. AllByRecursion (IsFrom k (radiation.id + 1)) rs) (sym r.is_of.run)
    (subst (λ k. AllByRecursion (IsFrom m.run (k + 1)) rs) (sym r.is_of.id) rest.all) in
    rw is
    (record {
      all = (
        inr (r.is_of.run, omega (arith, parts.0, r.is_of.id)),
        all_from m.run m.run (cltu.id + 1) from rs
            (later_of m.run (cltu.id + 1) from (omega (arith, parts.0))) rest.all,
      );
      in_turn = (all_behind radiation rs same, rest.in_turn);
    })
turn_by m n event reply from rs rise later (ends e ended quiet) =
    rw (quiet.radiates_none, ← e.run) (later from
    (rw (ended.empty, e.next) (rise_end from m.waiting m.next rise)))
turn_by m n event reply from rs rise later (begins b is quiet) =
    let rest : AreFrom n.run 0 rs = later 0 (rw b.empty (zero_rises n.next)) in
    rw quiet.radiates_none
    (record {
      all = all_from n.run m.run 0 from rs (next_run_of m.run n.run from b.run) rest.all;
      in_turn = rest.in_turn;
    })

in_turn : (m : Machine) (events : List Event) (from : ℕ) → Rise from m.waiting m.next
    → AreFrom m.run from (radiations (steps m events))
in_turn m [] from rise = record { all = tt; in_turn = tt }
in_turn m (event ∷ events) from rise =
    turn_by m (forward m event).0 event (forward m event).1 from
    (radiations (steps (forward m event).0 events)) rise
    (λ k. in_turn (forward m event).0 events k) (turn m event)

-- whatever the events since a queue was made
pub radiated_once : (room longest : ℕ) (events : List Event)
    → AreInTurn (radiations (steps (new_machine room longest) events))
radiated_once room longest events = (in_turn (new_machine room longest) events 0 tt).in_turn
