-- What an outcome says, and a turn of the uplink, and how the line ends by it.
use Rattle.std.specs.Prelude.{List, [], ◌∷◌, map}
use Rattle.station_uplink.specs.Standing.{said_by}
use Rattle.station_uplink.specs.declared.turned.Turned.{Turned}
use Rattle.station_uplink.specs.declared.turned.Turned.TheVariants.{Wrong}
use Rattle.script_store.specs.declared.outcome.Outcome.{Outcome}
use Rattle.script_store.specs.declared.outcome.Outcome.TheVariants.{Stored, Refused, Crashed}
use Rattle.script_store.specs.declared.outcome.Outcome.TheVariants.{Failed}
use Rattle.script_store.specs.declared.step_done.StepDone.{StepDone}
use Rattle.script_store.specs.declared.step_done.StepDone.TheVariants.{Fine, WrongState}
use Rattle.script_store.specs.Said.{Said, told, uplink, crash, fault, archive}
use Rattle.script_store.specs.Entries.{notice_of}
use Rattle.script_store.specs.Entries as entries

abbrev pub said_of : Outcome → List Said
said_of Stored = []
said_of (Refused why) = told (notice_of why) ∷ []
said_of (Crashed count) = told crash ∷ told (archive count) ∷ []
said_of (Failed count) = told fault ∷ told (archive count) ∷ []

abbrev pub done_of : Outcome → StepDone
done_of (Refused why) = entries.done_of why
done_of _ = Fine

-- of a turn of the uplink
abbrev pub said_of_turn : Turned → List Said
said_of_turn how = map uplink (said_by how)

abbrev pub done_of_turn : Turned → StepDone
done_of_turn Wrong = WrongState
done_of_turn _ = Fine
