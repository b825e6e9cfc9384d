-- What is discarded is notified, and octets come back.
use Rattle.std.proofs.Common.{◌≡◌, ℕ, ◌+◌, ◌-◌, ◌≢◌, Bool, true, false, not, ◌&&◌}
use Rattle.std.proofs.Common.{Some, List, [], ◌∷◌, ◌++◌, length, refl, sym, ◌∙◌, ap, subst}
use Rattle.std.proofs.Common.{arith, length-append}
use Rattle.std.proofs.lemmas.Bool.{true≢false, ne_eqb}
use Rattle.std.proofs.lemmas.List.Sums.{sum_by-cons}
use Rattle.std.specs.Prelude.{slice_get}
use Rattle.sle_numbers.specs.Numbered.{of_number}
use Rattle.fcltu_numbers.specs.CltuProductionStatus.{number_of, all, each}
use Rattle.fcltu_numbers.specs.declared.cltu_production_status.CltuProductionStatus.{CltuProductionStatus}
use Rattle.fcltu_numbers.specs.declared.cltu_production_status.CltuProductionStatus.TheVariants.{Interrupted, Halted}
use Rattle.fcltu_numbers.specs.declared.uplink_status.UplinkStatus.{UplinkStatus}
use Rattle.fcltu_numbers.specs.declared.cltu_notification_type.CltuNotificationType.TheVariants as kind
use Rattle.cltu_queue.specs.declared.notice.Notice.{Notice}
use Rattle.cltu_queue.specs.declared.cltu.Cltu.{Cltu}
use Rattle.cltu_queue.specs.declared.in_air.InAir.{InAir}
use Rattle.cltu_queue.specs.declared.taken.Taken.{Taken}
use Rattle.cltu_queue.specs.declared.taken.Taken.TheVariants.{Expired, Radiate}
use Rattle.cltu_queue.specs.Machine.{Machine, octets_of, expired, on_take, is_this, is_of_run}
use Rattle.cltu_queue.specs.Machine.{without_last_of_production, changed_to, is_same}
use Rattle.cltu_queue.specs.Machine.{on_interrupted, on_interrupted_of, on_uplink}
use Rattle.cltu_queue.specs.Run.{DiscardsWithNotice, expiry_notice, interruption_notice}
use Rattle.cltu_queue.specs.Run.{StopsProduction, TakesOff}
use Rattle.cltu_queue.proofs.Cases.{choose, take_by, with_uplink}
use Rattle.cltu_queue.proofs.Turns.{ready_of}
use Rattle.cltu_queue.proofs.Sound.{last_get}

-- a CLTU that expired
pub expiry : (m : Machine) (now id : ℕ) → (on_take m now).1 ≡ Expired id
    → DiscardsWithNotice m (on_take m now).0 (expiry_notice m id)
expiry m now id =
    take_by (λ (r : Machine × Taken). r.1 ≡ Expired id
    → DiscardsWithNotice m r.0 (expiry_notice m id)) m now
    (λ is. cc)
    (λ head ready is. let same : head.id ≡ id = cc in
    subst (λ k. DiscardsWithNotice m (expired head.id m) (expiry_notice m k)) same
    (record { empty = refl; free = omega arith; blocked = refl; notified = refl }))
    (λ until is. cc) (λ head others may is. cc)

-- a CLTU that radiates
pub radiation : (m : Machine) (now run id : ℕ) (octets : List ℕ)
    → (on_take m now).1 ≡ Radiate run id octets
    → TakesOff m (on_take m now).0 run id octets
radiation m now run id octets =
    take_by (λ (r : Machine × Taken). r.1 ≡ Radiate run id octets
    → TakesOff m r.0 run id octets) m now
    (λ is. cc) (λ head ready is. cc) (λ until is. cc)
    (λ head others may is.
    let same_run : m.run ≡ run = cc in
    let same_id : head.id ≡ id = cc in
    let same_octets : head.octets ≡ octets = cc in
    record {
      none_before = (ready_of m may.ready).none_aloft;
      in_air = (same_run, same_id);
      free = λ within.
          let count : octets_of m.waiting ≡ length head.octets + octets_of others =
          ap octets_of may.first ∙ sum_by-cons (λ (c : Cltu). length c.octets) head others in
          omega (arith, within, count, ap length same_octets);
    })

and_parts : (a b : Bool) → (a && b) ≡ true → (a ≡ true) × (b ≡ true)
and_parts true b h = (refl, h)
and_parts false b h = cc

-- a radiation that failed
pub interruption : (m : Machine) (run id : ℕ) (a : InAir) → m.in_air ≡ Some a
    → (is_this run id a && is_of_run m a) ≡ true
    → DiscardsWithNotice m (on_interrupted m run id) (interruption_notice m a)
interruption m run id a is both =
    let parts = and_parts (is_this run id a) (is_of_run m a) both in
    let shown : DiscardsWithNotice m (on_interrupted_of (Some a) m run id) (interruption_notice m a)
    =
    rw (parts.0, parts.1) (record {
      empty = refl;
      free = omega arith;
      blocked = refl;
      notified = refl;
    }) in
    subst (λ x. DiscardsWithNotice m (on_interrupted_of x m run id) (interruption_notice m a))
    (sym is) shown

last_is : (ns : List Notice) (n : Notice) → slice_get (ns ++ n ∷ []) (length (ns ++ n ∷ []) - 1)
    ≡ Some n
last_is ns n =
    let place : length (ns ++ n ∷ []) - 1 ≡ length ns = omega (arith, length-append ns (n ∷ [])) in
    ap (λ k. slice_get (ns ++ n ∷ []) k) place ∙ last_get ns n

same_number : (a b : CltuProductionStatus) → number_of a ≡ number_of b → a ≡ b
same_number a b e = cc (sym (each a).found ∙ ap (of_number number_of all) e ∙ (each b).found)

other_of : (a b : CltuProductionStatus) → a ≢ b → is_same a b ≡ false
other_of a b other = ne_eqb (number_of a) (number_of b) (λ e. other (same_number a b e))

-- a change of production in a run
changes : (P : Machine → Type 0) (m : Machine) (production : CltuProductionStatus)
    (status : UplinkStatus) → m.started ≡ true → m.production ≢ production
    → P (changed_to production (with_uplink production status m))
    → P (on_uplink m production status)
changes P m production status going other so =
    choose P (m.started && not (is_same m.production production))
    (changed_to production (with_uplink production status m)) (with_uplink production status m)
    (λ _. so)
    (λ h. absurd (true≢false (sym
    (let f : (m.started && not (is_same m.production production)) ≡ true =
    rw (going, other_of m.production production other) refl in f) ∙ h)))

pub stop_by_interruption : (m : Machine) (status : UplinkStatus) → m.started ≡ true
    → m.production ≢ Interrupted
    → StopsProduction kind.ProductionInterrupted (on_uplink m Interrupted status)
stop_by_interruption m status going other =
    changes (StopsProduction kind.ProductionInterrupted) m Interrupted status going other (record {
      empty = refl;
      free = omega arith;
      blocked = refl;
      notified = last_is (without_last_of_production m.notices) _;
    })

pub stop_by_halt : (m : Machine) (status : UplinkStatus) → m.started ≡ true
    → m.production ≢ Halted → StopsProduction kind.ProductionHalted (on_uplink m Halted status)
stop_by_halt m status going other =
    changes (StopsProduction kind.ProductionHalted) m Halted status going other (record {
      empty = refl;
      free = omega arith;
      blocked = refl;
      notified = last_is (without_last_of_production m.notices) _;
    })
