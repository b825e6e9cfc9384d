-- The answers by the causes, in their order.
use Rattle.std.proofs.Common.{◌≡◌, ℕ, ◌+◌, ◌-◌, Bool, true, false, ◌||◌, ◌==◌}
use Rattle.std.proofs.Common.{if◌then◌else◌, Option, Some, None, unwrap_or, Result, Ok, Err, []}
use Rattle.std.proofs.Common.{◌∷◌, length, refl, ◌∙◌, ap, arith}
use Rattle.std.proofs.lemmas.List.Sums.{sum_by_push}
use Rattle.fcltu_numbers.specs.declared.cltu_start_diagnostic.CltuStartDiagnostic.{CltuStartDiagnostic}
use Rattle.fcltu_numbers.specs.declared.cltu_start_diagnostic.CltuStartDiagnostic.TheVariants.{OutOfService, UnableToComply}
use Rattle.fcltu_numbers.specs.declared.cltu_transfer_data_diagnostic.CltuTransferDataDiagnostic.{CltuTransferDataDiagnostic}
use Rattle.fcltu_numbers.specs.declared.cltu_transfer_data_diagnostic.CltuTransferDataDiagnostic.TheVariants as refused
use Rattle.cltu_queue.specs.declared.cltu.Cltu.{Cltu}
use Rattle.cltu_queue.specs.declared.room.Room.{Room}
use Rattle.cltu_queue.specs.Limits.{last_id}
use Rattle.cltu_queue.specs.Machine.{Machine, free_octets}
use Rattle.cltu_queue.specs.Machine.{room_of, refusal, queued, queued_unless}
use Rattle.fcltu_service.specs.Service.{start_answer, transfer_answer}
use Rattle.fcltu_service.specs.Causes.{start_reply, transfer_reply, cause, first_cause}
use Rattle.fcltu_service.specs.Causes.{transfer_causes, start_answered, room_behind, transfer_answered}

-- ---- START

-- the machine and the answer behind a START, by the three conditions
abbrev begun : Machine → Machine → Bool → Bool → Bool
    → Machine × Result (Unit {0}) CltuStartDiagnostic
begun m n halted broken last =
    if halted then (m, Err OutOfService)
    else if broken || last then (m, Err UnableToComply) else (n, Ok tt)

pub start_by : (now : ℕ) (m n : Machine) (halted broken last : Bool)
    → start_answer now (start_reply now (begun m n halted broken last).1)
    ≡ start_answered now
    (first_cause
    (cause OutOfService halted ∷ cause UnableToComply broken ∷ cause UnableToComply last ∷ []))
start_by now m n true broken last = refl
start_by now m n false true last = refl
start_by now m n false false true = refl
start_by now m n false false false = refl

-- ---- TRANSFER-DATA

refused_by : (a b c d e f g h : Bool)
    → (if a then Some refused.UnableToProcess
    else if b then Some refused.OutOfSequence
    else if c then Some refused.InvalidTime
    else if d then Some refused.InconsistentTimeRange
    else if e then Some refused.LateSldu
    else if f then Some refused.InvalidDelayTime
    else if g then Some refused.CltuError
    else if h then Some refused.UnableToStore else None)
    ≡ first_cause
    (cause refused.UnableToProcess a ∷ cause refused.OutOfSequence b ∷ cause refused.InvalidTime c
    ∷ cause refused.InconsistentTimeRange d ∷ cause refused.LateSldu e
    ∷ cause refused.InvalidDelayTime f ∷ cause refused.CltuError g ∷ cause refused.UnableToStore h
    ∷ [])
refused_by true b c d e f g h = refl
refused_by false true c d e f g h = refl
refused_by false false true d e f g h = refl
refused_by false false false true e f g h = refl
refused_by false false false false true f g h = refl
refused_by false false false false false true g h = refl
refused_by false false false false false false true h = refl
refused_by false false false false false false false true = refl
refused_by false false false false false false false false = refl

pub refusal_by : (m : Machine) (cltu : Cltu) (now : ℕ)
    → refusal m cltu now ≡ first_cause (transfer_causes m cltu now)
refusal_by m cltu now = refused_by _ _ _ _ _ _ _ _

next_behind : (last : Bool) (id : ℕ) → unwrap_or (if last then None else Some (id + 1)) last_id
    ≡ (if last then last_id else id + 1)
next_behind true id = refl
next_behind false id = refl

free_behind : (m : Machine) (cltu : Cltu)
    → free_octets (queued m cltu) ≡ free_octets m - length cltu.octets
free_behind m cltu =
    omega (arith, sum_by_push (λ (c : Cltu). length c.octets) m.waiting cltu)

abbrev told : ℕ → ℕ → Room
told next free = record { next = next; free = free }

queued_room : (m : Machine) (cltu : Cltu) → room_of (queued m cltu) ≡ room_behind m cltu
queued_room m cltu =
    ap (λ next. told next (free_octets (queued m cltu)))
    (next_behind (cltu.id == last_id) cltu.id)
    ∙ ap (told (if cltu.id == last_id then last_id else cltu.id + 1)) (free_behind m cltu)

answered_by : (m : Machine) (cltu : Cltu) (r : Option CltuTransferDataDiagnostic)
    → transfer_answer (transfer_reply (queued_unless r m cltu).1) ≡ transfer_answered m cltu r
answered_by m cltu None = ap (λ room. transfer_answer (transfer_reply (Ok room))) (queued_room m cltu)
answered_by m cltu (Some why) = refl

pub transfer_by : (m : Machine) (cltu : Cltu) (now : ℕ)
    → transfer_answer (transfer_reply (queued_unless (refusal m cltu now) m cltu).1)
    ≡ transfer_answered m cltu (first_cause (transfer_causes m cltu now))
transfer_by m cltu now =
    answered_by m cltu (refusal m cltu now)
    ∙ ap (transfer_answered m cltu) (refusal_by m cltu now)
