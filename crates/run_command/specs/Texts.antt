-- What a run writes at its end. This product's own rules.
use Rattle.std.specs.Prelude.{ℕ, ◌+◌, Result, Ok, Err, List, [], ◌∷◌, ◌++◌, codes}
use Rattle.std.specs.Fmt.{decimal}
use Rattle.antenna_turns.specs.declared.radiating.Radiated.{Radiated}
use Rattle.antenna_turns.specs.declared.radiating.TurnsSpent.{TurnsSpent}
use Rattle.station_seats.specs.declared.report.DoorReport.{DoorReport}
use Rattle.run_command.specs.declared.status.RunStatus.{RunStatus}
use Rattle.run_command.specs.declared.status.RunStatus.TheVariants as status

-- the line of a status that has one
abbrev pub status_text : RunStatus → List ℕ
status_text (status.BadSite number cause) =
    codes "bad site " ++ decimal number ++ 32 ∷ (decimal cause ++ 10 ∷ [])
status_text (status.Refused place) = codes "archive refused " ++ decimal place ++ 10 ∷ []
status_text (status.Changed expected found) =
    codes "archive changed " ++ decimal expected ++ 32 ∷ (decimal found ++ 10 ∷ [])
status_text status.ReadFault = codes "read fault" ++ 10 ∷ []
status_text status.DiskFault = codes "disk fault" ++ 10 ∷ []
status_text status.TurnsSpent = codes "turns spent" ++ 10 ∷ []
status_text status.InputTooLong = codes "input too long" ++ 10 ∷ []
status_text status.Done = []
status_text status.WriteFault = []
status_text status.Full = []
status_text status.Memory = []

-- the line of a door's worker, and those of doors from this number on
abbrev pub door_text : ℕ → DoorReport → List ℕ
door_text number door =
    codes "door " ++ decimal number ++ codes " links " ++ decimal door.links ++ 10 ∷ []

abbrev pub doors_text : ℕ → List DoorReport → List ℕ
doors_text number [] = []
doors_text number (door ∷ doors) = door_text number door ++ doors_text (number + 1) doors

-- how many CLTUs were radiated
abbrev pub radiated_count : Result Radiated TurnsSpent → ℕ
radiated_count (Ok radiated) = radiated.sent
radiated_count (Err spent) = spent.radiated.sent

-- what a run writes whose workers were started
abbrev pub run_text : ℕ → ℕ → List DoorReport → RunStatus → List ℕ
run_text published radiated doors ends =
    (codes "stored " ++ decimal published ++ 10 ∷ [])
    ++ (codes "radiated " ++ decimal radiated ++ 10 ∷ [])
    ++ doors_text 1 doors ++ status_text ends
