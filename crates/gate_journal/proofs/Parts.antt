-- Octets that were read of a file at a place, with what was read in front of them or is left.
use Rattle.std.proofs.Common.{◌≡◌, ℕ, ◌+◌, ◌-◌, ◌≤◌, List, ◌++◌, length, take, drop}
use Rattle.std.proofs.Common.{Option, Some, None, sym, ap, arith, append_assoc}
use Rattle.std.proofs.lemmas.List.{take-append-drop, drop-take, drop-drop, length-append}
use Rattle.std.proofs.lemmas.List.{length-drop, length-take-le, take_at}
use Rattle.std.proofs.Math.Seq.{take-append-add}
use Rattle.disk_model.specs.Images.{Pending}
use Rattle.disk_model.specs.Moments.{Reads}

-- what stands behind octets that were read, read next
pub reads_joined : (pending : Option Pending) (front back : List ℕ) (place behind : ℕ)
    → behind ≡ place + length front → Reads pending place front → Reads pending behind back
    → Reads pending place (front ++ back)
reads_joined None front back place behind there first second = tt
reads_joined (Some told) front back place behind there first second =
    let file = told.content in
    let split : drop place file ≡ front ++ drop behind file =
    rw (← first, drop-drop (length front) place file, ← there)
    at (sym (take-append-drop (length front) (drop place file))) in
    rw (split, length-append front back, take-append-add front (drop behind file) (length back))
    (ap (λ (l : List ℕ). front ++ l) second)

-- octets that were read, from one of them on
pub reads_from : (pending : Option Pending) (room : List ℕ) (start at : ℕ) → at ≤ length room
    → Reads pending start room → Reads pending (start + at) (drop at room)
reads_from None room start at within reads = tt
reads_from (Some told) room start at within reads =
    let file = told.content in
    let left = length room - at in
    let long : length room ≡ at + left = omega arith in
    rw (
      length-drop at room,
      ← drop-drop at start file,
      ← drop-take at left (drop start file),
      ← long,
    )
    (ap (drop at) reads)

-- what a list holds whose end was written over
pub end_written : (kept count : ℕ) (old new past rest : List ℕ) → kept ≤ length old
    → count ≡ kept + length new
    → take count ((take kept old ++ (new ++ past)) ++ rest) ≡ take kept old ++ new
end_written kept count old new past rest within is =
    let whole : (take kept old ++ (new ++ past)) ++ rest
    ≡ (take kept old ++ new) ++ (past ++ rest) = simp append_assoc in
    rw whole (take_at (take kept old ++ new) (past ++ rest) count
    (omega (arith, length-append (take kept old) new, length-take-le kept old within)))
