-- What waits stays within the room, and the notices stay few.
use Rattle.std.proofs.Common.{◌≡◌, ℕ, suc, ◌+◌, ◌-◌, ◌≤◌, ◌<◌, Bool, true, false, ◌==◌}
use Rattle.std.proofs.Common.{if◌then◌else◌, Some, None, List, [], ◌∷◌, ◌++◌, length}
use Rattle.std.proofs.Common.{take as list_take, refl, ◌∙◌, ap, arith, length-append}
use Rattle.std.proofs.lemmas.Bool.{ltb-false}
use Rattle.std.proofs.lemmas.List.Sums.{sum_by_push, sum_by-cons}
use Rattle.std.proofs.lemmas.List.{length-take}
use Rattle.std.specs.Prelude.{is_some, slice_get}
use Rattle.std.specs.Option.{option_map_or}
use Rattle.fcltu_numbers.specs.declared.cltu_production_status.CltuProductionStatus.{CltuProductionStatus}
use Rattle.fcltu_numbers.specs.declared.cltu_production_status.CltuProductionStatus.TheVariants as production_is
use Rattle.fcltu_numbers.specs.declared.uplink_status.UplinkStatus.{UplinkStatus}
use Rattle.fcltu_numbers.specs.declared.cltu_transfer_data_diagnostic.CltuTransferDataDiagnostic.TheVariants as refused
use Rattle.fcltu_numbers.specs.declared.cltu_notification_type.CltuNotificationType.{CltuNotificationType}
use Rattle.fcltu_numbers.specs.declared.cltu_notification_type.CltuNotificationType.TheVariants as kind
use Rattle.fcltu_numbers.specs.declared.cltu_status.CltuStatus.TheVariants as status
use Rattle.cltu_queue.specs.declared.cltu.Cltu.{Cltu}
use Rattle.cltu_queue.specs.declared.in_air.InAir.{InAir}
use Rattle.cltu_queue.specs.declared.taken.Taken.{Taken}
use Rattle.cltu_queue.specs.declared.notice.Notice.{Notice}
use Rattle.cltu_queue.specs.declared.processed.Processed.TheVariants as processed
use Rattle.cltu_queue.specs.Parts.{notices_before_take}
use Rattle.cltu_queue.specs.Machine.{Machine, new_machine, free_octets, octets_of, one_more}
use Rattle.cltu_queue.specs.Machine.{notice_of, is_of_production, tells_production, ends_with_production, refusal}
use Rattle.cltu_queue.specs.Machine.{is_idle, expired, radiating, on_stop, landed, radiated_at}
use Rattle.cltu_queue.specs.Machine.{with_radiation_notice, with_empty_notice, with_notice}
use Rattle.cltu_queue.specs.Machine.{with_production_notice, discarded, changed_to}
use Rattle.cltu_queue.specs.Machine.{broken_off, on_uplink}
use Rattle.cltu_queue.specs.Forward.{Event, start, transfer, stop, take, done, interrupted, uplink}
use Rattle.cltu_queue.specs.Forward.{notice, Reply, forward}
use Rattle.cltu_queue.specs.Run.{after, IsSound}
use Rattle.cltu_queue.proofs.Cases.{choose, start_by, transfer_by, MayRadiate, take_by, done_by}
use Rattle.cltu_queue.proofs.Cases.{interrupted_by, changed_by, with_uplink, uplink_by, notice_by}
use Rattle.cltu_queue.proofs.Turns.{passes, ready_of}

pub last_get : (ns : List Notice) (n : Notice) → slice_get (ns ++ n ∷ []) (length ns) ≡ Some n
last_get [] n = refl
last_get (x ∷ ns) n = last_get ns n

-- a notice behind others is the last
pub last_of : (ns : List Notice) (n : Notice) → ends_with_production (ns ++ n ∷ []) ≡ tells_production n
last_of ns n =
    let place : length (ns ++ n ∷ []) - 1 ≡ length ns = omega (arith, length-append ns (n ∷ [])) in
    ap (λ k. option_map_or tells_production (slice_get (ns ++ n ∷ []) k) false) place
    ∙ ap (λ o. option_map_or tells_production o false) (last_get ns n)

some_of : (ns : List Notice) → ends_with_production ns ≡ true → 0 < length ns
some_of [] h = cc
some_of (x ∷ ns) h = omega arith

-- how many notices there are, and what may come before the next take
pub few_of : (m : Machine) → length m.notices + (if is_some m.in_air then 3 else 0)
    ≤ notices_before_take m
few_of m = grind arith

most_of : (m : Machine) → notices_before_take m
    ≤ length m.notices + (if is_some m.in_air then 3 else 0) + 1
most_of m = grind arith

after_notice : (m : Machine) (kind : CltuNotificationType) → notices_before_take (with_notice kind m)
    ≤ length m.notices + (if is_some m.in_air then 3 else 0) + 2
after_notice m kind = omega (
  arith,
  most_of (with_notice kind m),
  length-append m.notices (notice_of kind m ∷ []),
)

stop_few : (m : Machine) → notices_before_take (on_stop m) ≤ 4
stop_few m = choose (λ (k : ℕ). 0 + k + 1 ≤ 4) (is_some m.in_air) 3 0 (λ _. omega arith)
    (λ _. omega arith)

-- a notice of production doesn't make more come
after_production : (m : Machine) (kind : CltuNotificationType) → is_of_production kind ≡ true
    → notices_before_take (with_production_notice kind m) ≤ notices_before_take m
after_production m kind is =
    let n : Notice = notice_of kind m in
    choose (λ (ns : List Notice). notices_before_take (record m { notices = ns ++ n ∷ [] })
    ≤ notices_before_take m)
    (ends_with_production m.notices) (list_take (length m.notices - 1) m.notices) m.notices
    (λ e. rw (last_of (list_take (length m.notices - 1) m.notices) n, is, e)
    (omega (
      arith,
      some_of m.notices e,
      length-take (length m.notices - 1) m.notices,
      length-append (list_take (length m.notices - 1) m.notices) (n ∷ []),
    )))
    (λ e. rw (last_of m.notices n, is, e) (omega (arith, length-append m.notices (n ∷ []))))

-- a CLTU that is accepted fits
fits_of : (m : Machine) (cltu : Cltu) (now : ℕ) → refusal m cltu now ≡ None
    → length cltu.octets ≤ free_octets m
fits_of m cltu now h =
    let a = passes m.blocked refused.UnableToProcess _ h in
    let b = passes _ refused.OutOfSequence _ a.1 in
    let c = passes _ refused.InvalidTime _ b.1 in
    let d = passes _ refused.InconsistentTimeRange _ c.1 in
    let e = passes _ refused.LateSldu _ d.1 in
    let f = passes _ refused.InvalidDelayTime _ e.1 in
    let g = passes _ refused.CltuError _ f.1 in
    ltb-false (free_octets m) (length cltu.octets) (passes _ refused.UnableToStore None g.1).0

-- how many notices are to come of what is in the air
abbrev aloft_notices : Machine → ℕ
aloft_notices m = if is_some m.in_air then 3 else 0

none_aloft : (m : Machine) → m.in_air ≡ None → aloft_notices m ≡ 0
none_aloft m is = rw is refl

one_aloft : (m : Machine) (a : InAir) → m.in_air ≡ Some a → aloft_notices m ≡ 3
one_aloft m a is = rw is refl

-- with nothing in the air, a notice more
bound_of : (n : Machine) (kind : CltuNotificationType) (k : ℕ) → n.in_air ≡ None → length n.notices ≤ k
    → notices_before_take (with_notice kind n) ≤ k + 2
bound_of n kind k air few =
    omega (arith, after_notice n kind, none_aloft n air)

-- with nothing in the air, so few notices
record IsLanded (k : ℕ) (m : Machine) : Type 0 where
  pub air : m.in_air ≡ None
  pub few : length m.notices ≤ k
  pub octets : octets_of m.waiting ≤ m.room

radiated_landed : (m : Machine) (wanted : Bool) → IsLanded 1000 m
    → IsLanded 1001 (with_radiation_notice wanted m)
radiated_landed m wanted s =
    choose (IsLanded 1001) wanted (with_notice kind.CltuRadiated m) m
    (λ _. record {
      air = s.air;
      few = omega (arith, s.few, length-append m.notices (notice_of kind.CltuRadiated m ∷ []));
      octets = s.octets;
    })
    (λ _. record { air = s.air; few = omega (arith, s.few); octets = s.octets })

empty_landed : (m : Machine) → IsLanded 1001 m → IsSound (with_empty_notice m)
empty_landed m s =
    choose IsSound (length m.waiting == 0) (with_notice kind.BufferEmpty m) m
    (λ _. record { octets = s.octets; notices = bound_of m kind.BufferEmpty 1001 s.air s.few })
    (λ _. record {
      octets = s.octets;
      notices =
          omega (arith, s.few, most_of m, none_aloft m s.air);
    })

-- with a CLTU in the air, at most 1,000 notices wait
few_aloft : (m : Machine) (a : InAir) → m.in_air ≡ Some a → IsSound m → length m.notices ≤ 1000
few_aloft m a is s =
    omega (arith, s.notices, few_of m, one_aloft m a is)

landed_sound : (m : Machine) (a : InAir) → m.in_air ≡ Some a → IsSound m → IsSound (landed m)
landed_sound m a is s =
    record { octets = s.octets; notices = omega (arith, few_aloft m a is s, most_of (landed m)) }

-- how many notices of production are to come behind these
abbrev end_notice : List Notice → ℕ
end_notice ns = if ends_with_production ns then 0 else 1

same_end : (first second : Notice) (others : List Notice)
    → ends_with_production (first ∷ second ∷ others) ≡ ends_with_production (second ∷ others)
same_end first second others =
    let place : length (first ∷ second ∷ others) - 1 ≡ suc (length (second ∷ others) - 1) =
    omega arith in
    ap (λ k. option_map_or tells_production (slice_get (first ∷ second ∷ others) k) false) place

-- the first notice is told
notice_few : (m : Machine) (first : Notice) (others : List Notice) → m.notices ≡ first ∷ others
    → notices_before_take m ≤ 1003 → notices_before_take (record m { notices = others }) ≤ 1003
notice_few m first [] is few =
    choose (λ (k : ℕ). 0 + k + 1 ≤ 1003) (is_some m.in_air) 3 0 (λ _. omega arith)
    (λ _. omega arith)
notice_few m first (second ∷ others) is few =
    let all : notices_before_take m ≡ notices_before_take
    (record m { notices = first ∷ second ∷ others }) =
    ap (λ ns. notices_before_take (record m { notices = ns })) is in
    let last : ends_with_production (first ∷ second ∷ others)
    ≡ ends_with_production (second ∷ others) =
    same_end first second others in
    let weight : end_notice (first ∷ second ∷ others) ≡ end_notice (second ∷ others) =
    ap (λ b. if b then 0 else 1) last in
    omega arith

expired_sound : (m : Machine) (head : Cltu) → is_idle m ≡ false → IsSound (expired head.id m)
expired_sound m head ready =
    let gone : Machine =
    record (discarded m) {
      processed = processed.Some head.id None status.Expired;
      taken = one_more m.taken;
    } in
    let is = ready_of m ready in
    record {
      octets = omega arith;
      notices = omega (
        arith,
        bound_of gone kind.SlduExpired 999 is.none_aloft (omega (arith, is.few)),
      );
    }

radiating_sound : (m : Machine) (now : ℕ) (head : Cltu) (others : List Cltu)
    → MayRadiate m now head others → IsSound m
    → IsSound (radiating head others now m)
radiating_sound m now head others may s =
    let count : octets_of m.waiting ≡ length head.octets + octets_of others =
    ap octets_of may.first ∙ sum_by-cons (λ (c : Cltu). length c.octets) head others in
    record {
      octets = omega (arith, s.octets, count);
      notices = omega (arith, (ready_of m may.ready).few, most_of (radiating head others now m));
    }

broken_sound : (m : Machine) (a : InAir) → m.in_air ≡ Some a → IsSound m → IsSound (broken_off a m)
broken_sound m a is s =
    let gone : Machine =
    record (discarded (landed m)) {
      processed = processed.Some a.id (Some a.began) status.Interrupted;
      production = production_is.Interrupted;
    } in
    record {
      octets = omega arith;
      notices = omega (
        arith,
        bound_of gone kind.ProductionInterrupted 1000 refl (few_aloft m a is s),
      );
    }

changed_sound : (production : CltuProductionStatus) (m : Machine) → IsSound m
    → IsSound (changed_to production m)
unfolding is_of_production
changed_sound production m s =
    changed_by IsSound production m
    (record {
      octets = s.octets;
      notices = omega (
        arith,
        s.notices,
        after_production m kind.ProductionOperational refl,
      );
    })
    (record {
      octets = omega arith;
      notices = omega (
        arith,
        s.notices,
        after_production (discarded m) kind.ProductionInterrupted refl,
      );
    })
    (record {
      octets = omega arith;
      notices = omega (arith, s.notices, after_production (discarded m) kind.ProductionHalted refl);
    }) s

uplink_sound : (m : Machine) (production : CltuProductionStatus) (status : UplinkStatus) → IsSound m
    → IsSound (on_uplink m production status)
uplink_sound m production status s =
    let set : IsSound (with_uplink production status m) =
    record { octets = s.octets; notices = s.notices } in
    uplink_by IsSound m production status (changed_sound production (with_uplink production status m) set) set

sound : (m : Machine) (event : Event) → IsSound m → IsSound (forward m event).0
sound m (start first) s =
    start_by (λ (r : Machine × Reply). IsSound r.0) m first s (λ d. s)
    (record { octets = omega arith; notices = s.notices })
sound m (transfer cltu now) s =
    transfer_by (λ (r : Machine × Reply). IsSound r.0) m cltu now s (λ d. s)
    (λ going fits. record {
      octets = omega (
        arith,
        s.octets,
        fits_of m cltu now fits,
        sum_by_push (λ (c : Cltu). length c.octets) m.waiting cltu,
      );
      notices = s.notices;
    })
sound m stop s = record { octets = omega arith; notices = omega (arith, stop_few m) }
sound m (take now) s =
    take_by (λ (r : Machine × Taken). IsSound r.0) m now s
    (λ head ready. expired_sound m head ready) (λ until. s)
    (λ head others may. radiating_sound m now head others may s)
sound m (done run id now) s =
    done_by IsSound m run id now s (λ a named. landed_sound m a named.in_air s)
    (λ a named current. empty_landed (with_radiation_notice a.wanted (radiated_at a now m))
    (radiated_landed (radiated_at a now m) a.wanted
    (record { air = refl; few = few_aloft m a named.in_air s; octets = s.octets })))
sound m (interrupted run id) s =
    interrupted_by IsSound m run id s (λ a named. landed_sound m a named.in_air s)
    (λ a named current. broken_sound m a named.in_air s)
sound m (uplink production status) s = uplink_sound m production status s
sound m notice s =
    notice_by (λ (r : Machine × Reply). IsSound r.0) m s
    (λ first others is. record {
      octets = s.octets;
      notices = notice_few m first others is s.notices;
    })

-- a machine stays sound, whatever its events
pub stays_sound : (m : Machine) (events : List Event) → IsSound m → IsSound (after m events)
stays_sound m [] s = s
stays_sound m (event ∷ events) s = stays_sound (forward m event).0 events (sound m event s)

pub new_is_sound : (room longest : ℕ) → IsSound (new_machine room longest)
new_is_sound room longest = record { octets = omega arith; notices = omega arith }
