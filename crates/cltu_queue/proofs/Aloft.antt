-- What is in the air stays there until its radiation ends, and nothing else radiates meanwhile.
use Rattle.std.proofs.Common.{◌≡◌, ℕ, false, Some, None, List, [], ◌∷◌, refl, sym, ◌∙◌, subst}
use Rattle.std.proofs.lemmas.Bool.{true≢false}
use Rattle.std.specs.List.{list_any}
use Rattle.cltu_queue.specs.declared.in_air.InAir.{InAir}
use Rattle.cltu_queue.specs.declared.taken.Taken.{Taken}
use Rattle.cltu_queue.specs.Machine.{Machine, is_idle, is_this}
use Rattle.cltu_queue.specs.Forward.{Event, start, transfer, stop, take, done, interrupted, uplink}
use Rattle.cltu_queue.specs.Forward.{notice, Reply, took, forward}
use Rattle.cltu_queue.specs.Run.{steps, after, radiation_by, radiations, lands}
use Rattle.cltu_queue.proofs.Cases.{start_by, transfer_by, take_by, IsNamed, done_by}
use Rattle.cltu_queue.proofs.Cases.{interrupted_by, changed_by, with_uplink, uplink_by, notice_by}
use Rattle.cltu_queue.proofs.Turns.{ready_of, or_false}
use Rattle.cltu_queue.proofs.Lawful.{radiations-cons}

-- this stays in the air, and nothing radiates
pub record IsAloft (a : InAir) (event : Event) (n : Machine) (reply : Reply) : Type 0 where
  pub stays : n.in_air ≡ Some a
  pub radiates_none : radiation_by event reply ≡ None

abbrev AloftOf : InAir → Event → Machine × Reply → Type 0
AloftOf a event r = IsAloft a event r.0 r.1

-- nothing radiates with something in the air
busy : (m : Machine) (a : InAir) → m.in_air ≡ Some a → is_idle m ≡ false → ⊥
busy m a is ready = let e : Some a ≡ None = sym is ∙ (ready_of m ready).none_aloft in cc

-- the end of another radiation isn't told
unnamed : (m : Machine) (run id : ℕ) (a b : InAir) → m.in_air ≡ Some a → is_this run id a ≡ false
    → IsNamed m run id b → ⊥
unnamed m run id a b is other named =
    let same : b ≡ a = let e : Some b ≡ Some a = sym named.in_air ∙ is in cc in
    true≢false (sym named.this ∙ subst (λ c. is_this run id c ≡ false) (sym same) other)

-- an event that doesn't end its radiation leaves it in the air
aloft : (m : Machine) (event : Event) (a : InAir) → m.in_air ≡ Some a → lands a event ≡ false
    → IsAloft a event (forward m event).0 (forward m event).1
aloft m (start first) a is other =
    start_by (AloftOf a (start first)) m first (record { stays = is; radiates_none = refl })
    (λ d. record { stays = is; radiates_none = refl }) (record { stays = is; radiates_none = refl })
aloft m (transfer cltu now) a is other =
    transfer_by (AloftOf a (transfer cltu now)) m cltu now
    (record { stays = is; radiates_none = refl })
    (λ d. record { stays = is; radiates_none = refl })
    (λ going fits. record { stays = is; radiates_none = refl })
aloft m stop a is other = record { stays = is; radiates_none = refl }
aloft m (take now) a is other =
    take_by (λ (r : Machine × Taken). IsAloft a (take now) r.0 (took r.1)) m now
    (record { stays = is; radiates_none = refl }) (λ head ready. absurd (busy m a is ready))
    (λ until. record { stays = is; radiates_none = refl })
    (λ head others may. absurd (busy m a is may.ready))
aloft m (done run id now) a is other =
    record {
      stays =
          done_by (λ (n : Machine). n.in_air ≡ Some a) m run id now is
          (λ b named. absurd (unnamed m run id a b is other named))
          (λ b named current. absurd (unnamed m run id a b is other named));
      radiates_none = refl;
    }
aloft m (interrupted run id) a is other =
    record {
      stays =
          interrupted_by (λ (n : Machine). n.in_air ≡ Some a) m run id is
          (λ b named. absurd (unnamed m run id a b is other named))
          (λ b named current. absurd (unnamed m run id a b is other named));
      radiates_none = refl;
    }
aloft m (uplink production status) a is other =
    record {
      stays =
          uplink_by (λ (n : Machine). n.in_air ≡ Some a) m production status
          (changed_by (λ (n : Machine). n.in_air ≡ Some a) production (with_uplink production status m) is is
          is is) is;
      radiates_none = refl;
    }
aloft m notice a is other =
    notice_by (AloftOf a notice) m (record { stays = is; radiates_none = refl })
    (λ first others told. record { stays = is; radiates_none = refl })

pub record StaysAlone (m : Machine) (events : List Event) (a : InAir) : Type 0 where
  pub stays : (after m events).in_air ≡ Some a
  pub radiates_none : radiations (steps m events) ≡ []

pub stays_alone : (m : Machine) (events : List Event) (a : InAir) → m.in_air ≡ Some a
    → list_any (lands a) events ≡ false → StaysAlone m events a
stays_alone m [] a is none = record { stays = is; radiates_none = refl }
stays_alone m (event ∷ events) a is none =
    let parts = or_false (lands a event) _ none in
    let here = aloft m event a is parts.0 in
    let rest = stays_alone (forward m event).0 events a here.stays parts.1 in
    record {
      stays = rest.stays;
      radiates_none = radiations-cons m event events None here.radiates_none ∙ rest.radiates_none;
    }
