-- Visits in which what is due is taken: what is owed comes.
use Rattle.std.specs.Prelude.{◌≡◌, ℕ, ◌==◌, Bool, true, false, if◌then◌else◌, Option, Some, None}
use Rattle.std.specs.Prelude.{List, [], ◌∷◌, ◌++◌, map, length, take}
use Rattle.std.specs.List.{filter, list_all}
use Rattle.archive_terms.specs.Archive.{Entry}
use Rattle.archive_terms.specs.Delivery.{Mode, Terms, started}
use Rattle.archive_terms.specs.Rounds.{Answer, whole, Round, after_rounds}
use Rattle.archive_terms.specs.Progress.{keeps, ready_at, still_buffers_at}
use Rattle.return_core.specs.Course.{Course, with_step, is_offering}
use Rattle.return_core.specs.Standing.{handed_over}
use Rattle.return_core.specs.Visits.{Visit, passed, stepped, visited, front_of, round_of}
use Rattle.return_core.specs.Visits.{rounds_of}

-- the answer to the buffer that is due after a step, where one is due and it is taken whole
abbrev pub taken_where_due : Course → Option Answer
taken_where_due c = if is_offering c then Some whole else None

-- a visit whose buffer is taken whole, where one is due: no block of an earlier round waits, and
-- none of the round's own
abbrev pub IsTaken : Course → Visit → Type 0
IsTaken c (passed front now) = ⊥
IsTaken c (stepped g now answer) = answer ≡ taken_where_due (with_step c g now)

abbrev pub AreTaken : Course → List Visit → Type 0
AreTaken c [] = Unit {0}
AreTaken c (v ∷ visits) = IsTaken c v × AreTaken (visited v c) visits

-- Visits with a flag each: one with a flag is taken; any other one may stall, but loses nothing.
abbrev pub AreTakenOrKept : Mode → Course → List Bool → List Visit → Type 0
AreTakenOrKept mode c [] [] = Unit {0}
AreTakenOrKept mode c (true ∷ flags) (v ∷ visits) =
    IsTaken c v × AreTakenOrKept mode (visited v c) flags visits
AreTakenOrKept mode c (false ∷ flags) (v ∷ visits) =
    (keeps mode (round_of v).link ≡ true) × AreTakenOrKept mode (visited v c) flags visits
AreTakenOrKept _ _ _ _ = ⊥

-- how many have a flag
abbrev pub flagged : List Bool → ℕ
flagged flags = length (filter (λ flag. flag) flags)

abbrev pub moment_of : Visit → ℕ
moment_of (passed front now) = now
moment_of (stepped g now answer) = now

abbrev pub moments_of : List Visit → List ℕ
moments_of visits = map moment_of visits

-- whether each visit finds this front
abbrev pub all_find : ℕ → List Visit → Bool
all_find front visits = list_all (λ v. front_of v == front) visits

-- what a delivery that stood for rounds hands over in visits at one front, buffer by buffer
abbrev pub HandsStill : Terms → List Entry → List Round → List Visit → ℕ → Type 0
HandsStill t entries rounds visits front =
    handed_over t entries (rounds ++ rounds_of visits)
    ≡ handed_over t entries rounds
    ++ still_buffers_at t entries front (after_rounds t entries rounds started) (moments_of visits)

-- what it hands over begins with so many of the buffers that were ready at a front
abbrev pub HandsReady : Terms → List Entry → List Round → List Visit → ℕ → ℕ → Type 0
HandsReady t entries rounds visits front count =
    let due = take count (ready_at t entries front (after_rounds t entries rounds started)) in
    take (length (handed_over t entries rounds ++ due))
    (handed_over t entries (rounds ++ rounds_of visits))
    ≡ handed_over t entries rounds ++ due
