-- The door in memory, as contracts see it.
use Rattle.std.specs.Prelude.{ℕ, ◌≡◌, ◌∷◌, [], List, map, Bool, Option, None, Some}
use Rattle.octet_core.specs.FailingCalls.{Calls}
use Rattle.link_model.specs.declared.call.Call.{Call}
use Rattle.door_model.specs.declared.answer.Answer.{Answer}
use Rattle.door_model.specs.declared.returned.Returned.{Returned}
use Rattle.door_model.specs.Shown.{LinkBack, Shown}

-- the links that came and weren't given yet, those that were given back, the last answer, whether
-- a link is out, which calls fail, and the count of faults
pub record DoorState (L : Type 0) : Type 0 where
  pub waiting : List L
  pub back : List (Returned L)
  pub last : Option Answer
  pub is_out : Bool
  pub failing : Calls
  pub faults : ℕ

-- a link that was given back, by what it tells
abbrev pub link_back : {L : Type 0} → (L → Option (List Call)) → Returned L → LinkBack
link_back calls returned = record { calls = calls returned.link; served = returned.served }

-- what the door shows, by what its links tell
abbrev pub shown_by : {L : Type 0} → (L → Option (List Call)) → DoorState L → Option Shown
shown_by calls door =
    Some (record { last = door.last; back = map (link_back calls) door.back })

-- the link that came first is given, if one waits
abbrev pub GivesFirst : {L : Type 0} → List L → Option L → List L → Type 0
GivesFirst before (Some link) left = before ≡ link ∷ left
GivesFirst before None left = (before ≡ []) × (left ≡ [])
