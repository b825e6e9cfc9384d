-- Lists of events of the forward machine, and what its runs promise.
use Rattle.std.specs.Prelude.{◌≡◌, ℕ, ◌+◌, ◌<◌, ◌≤◌, zero, suc, ◌⊎◌, Bool, true, false, not, Option}
use Rattle.std.specs.Prelude.{Some, None, Ok, List, [], ◌∷◌, ◌++◌, length, map, slice_get, ◌-◌}
use Rattle.std.specs.Prelude.{IsSomeAnd}
use Rattle.std.specs.List.{filter_map, list_any, AllByRecursion}
use Rattle.fcltu_numbers.specs.declared.cltu_production_status.CltuProductionStatus.TheVariants as production
use Rattle.fcltu_numbers.specs.declared.cltu_notification_type.CltuNotificationType.{CltuNotificationType}
use Rattle.fcltu_numbers.specs.declared.cltu_notification_type.CltuNotificationType.TheVariants as kind
use Rattle.fcltu_numbers.specs.declared.cltu_status.CltuStatus.TheVariants as status
use Rattle.cltu_queue.specs.declared.cltu.Cltu.{Cltu}
use Rattle.cltu_queue.specs.declared.in_air.InAir.{InAir}
use Rattle.cltu_queue.specs.declared.notice.Notice.{Notice}
use Rattle.cltu_queue.specs.declared.processed.Processed.TheVariants as processed
use Rattle.cltu_queue.specs.declared.taken.Taken.TheVariants.{Radiate}
use Rattle.cltu_queue.specs.Times.{IsInWindow}
use Rattle.cltu_queue.specs.Machine.{Machine, octets_of, free_octets, notice_of, is_this}
use Rattle.cltu_queue.specs.Parts.{notices_before_take}
use Rattle.cltu_queue.specs.Forward.{Event, start, transfer, take, done, interrupted, Reply}
use Rattle.cltu_queue.specs.Forward.{started, transferred, took, forward}

-- an event with its reply
pub record Step : Type 0 where
  pub event : Event
  pub reply : Reply

-- the events of a list, each with the reply that the machine then gives
abbrev pub steps : Machine → List Event → List Step
steps m [] = []
steps m (event ∷ events) =
    record { event = event; reply = (forward m event).1 } ∷ steps (forward m event).0 events

-- the machine after a list of events
abbrev pub after : Machine → List Event → Machine
after m [] = m
after m (event ∷ events) = after (forward m event).0 events

abbrev pub begins_run_by : Event → Reply → Bool
begins_run_by (start _) (started (Ok _)) = true
begins_run_by _ _ = false

-- whether a run begins with this step
abbrev pub begins_run : Step → Bool
begins_run step = begins_run_by step.event step.reply

-- whether no run begins in these steps, so that they are of the run before them
abbrev pub are_of_one_run : List Step → Bool
are_of_one_run played = not (list_any begins_run played)

abbrev pub accepted_by : Event → Reply → Option Cltu
accepted_by (transfer cltu _) (transferred (Ok _)) = Some cltu
accepted_by _ _ = None

-- the CLTUs that were accepted, in order
abbrev pub accepted : List Step → List Cltu
accepted played = filter_map (λ step. accepted_by step.event step.reply) played

-- a radiation: its moment, the number of its run, and the CLTU's identification and octets
pub record Radiation : Type 0 where
  pub at : ℕ
  pub run : ℕ
  pub id : ℕ
  pub octets : List ℕ

abbrev pub radiation_by : Event → Reply → Option Radiation
radiation_by (take now) (took (Radiate run id octets)) =
    Some (record { at = now; run = run; id = id; octets = octets })
radiation_by _ _ = None

-- the radiations, in order
abbrev pub radiations : List Step → List Radiation
radiations played = filter_map (λ step. radiation_by step.event step.reply) played

-- so many numbers that count up from one on
abbrev pub count_up : ℕ → ℕ → List ℕ
count_up first zero = []
count_up first (suc n) = first ∷ count_up (first + 1) n

abbrev pub ids_of : List Cltu → List ℕ
ids_of cltus = map (λ cltu. cltu.id) cltus

-- this radiation is of this CLTU, in the run of this number, and lies in its window
pub record IsRadiationOf (number : ℕ) (cltu : Cltu) (radiation : Radiation) : Type 0 where
  pub run : radiation.run ≡ number
  pub id : radiation.id ≡ cltu.id
  pub octets : radiation.octets ≡ cltu.octets
  pub window : IsInWindow cltu radiation.at

-- the radiations are of the first of these CLTUs, in their order, each once
abbrev pub RadiateInOrder : ℕ → List Cltu → List Radiation → Type 0
RadiateInOrder run cltus [] = Unit {0}
RadiateInOrder run [] (_ ∷ _) = ⊥
RadiateInOrder run (cltu ∷ cltus) (radiation ∷ others) =
    IsRadiationOf run cltu radiation × RadiateInOrder run cltus others

-- Lawful radiation: of a run's steps, the CLTUs accepted have the identifications first, first + 1
-- and so on, and those that radiated are the first of them, in order, each once and within its
-- window.
pub record IsLawful (run first : ℕ) (played : List Step) : Type 0 where
  pub numbered : ids_of (accepted played) ≡ count_up first (length (accepted played))
  pub in_order : RadiateInOrder run (accepted played) (radiations played)

-- whether an event ends the radiation of what is in the air
abbrev pub lands : InAir → Event → Bool
lands a (done run id _) = is_this run id a
lands a (interrupted run id) = is_this run id a
lands a _ = false

-- what waited is discarded, so that all octets are free; the run is blocked; and this notice is
-- made
pub record DiscardsWithNotice (m n : Machine) (notice : Notice) : Type 0 where
  pub empty : n.waiting ≡ []
  pub free : free_octets n ≡ n.room
  pub blocked : n.blocked ≡ true
  pub notified : n.notices ≡ m.notices ++ notice ∷ []

-- a machine's octets that wait are within its room, and few notices wait
pub record IsSound (m : Machine) : Type 0 where
  pub octets : octets_of m.waiting ≤ m.room
  pub notices : notices_before_take m ≤ 1003

-- the first radiation is of an earlier run, or of an earlier CLTU of the same
abbrev pub IsBefore : Radiation → Radiation → Type 0
IsBefore a b = (a.run < b.run) ⊎ ((a.run ≡ b.run) × (a.id < b.id))

-- each radiation is before all later ones, so that none is of the same CLTU of the same run as
-- another
abbrev pub AreInTurn : List Radiation → Type 0
AreInTurn [] = Unit {0}
AreInTurn (radiation ∷ others) = AllByRecursion (IsBefore radiation) others × AreInTurn others

-- the notice of a CLTU that expired
abbrev pub expiry_notice : Machine → ℕ → Notice
expiry_notice m id = record {
  kind = kind.SlduExpired;
  processed = processed.Some id None status.Expired;
  ok = m.ok;
  production = m.production;
  status = m.status;
}

-- the notice of a radiation that failed
abbrev pub interruption_notice : Machine → InAir → Notice
interruption_notice m a = record {
  kind = kind.ProductionInterrupted;
  processed = processed.Some a.id (Some a.began) status.Interrupted;
  ok = m.ok;
  production = production.Interrupted;
  status = m.status;
}

-- production stopped: what waited is discarded, so that all octets are free; the run is blocked;
-- and the last notice is of this kind
pub record StopsProduction (kind : CltuNotificationType) (n : Machine) : Type 0 where
  pub empty : n.waiting ≡ []
  pub free : free_octets n ≡ n.room
  pub blocked : n.blocked ≡ true
  pub notified : slice_get n.notices (length n.notices - 1) ≡ Some (notice_of kind n)

-- a CLTU of this run, with this identification and these octets, goes into the air, where nothing
-- was; its octets are free again
pub record TakesOff (m n : Machine) (number id : ℕ) (octets : List ℕ) : Type 0 where
  pub none_before : m.in_air ≡ None
  pub in_air : IsSomeAnd n.in_air (λ a. (a.run ≡ number) × (a.id ≡ id))
  pub free : octets_of m.waiting ≤ m.room → free_octets n ≡ free_octets m + length octets
