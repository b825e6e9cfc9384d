-- What a door shows: its last answer, and the links that were given back to it, with their calls.
-- This product's own rule.
use Rattle.std.specs.Prelude.{◌≡◌, ◌++◌, ◌∷◌, [], List, Bool, true, Option, None, Some}
use Rattle.std.specs.Prelude.{Result, Ok, Err, IfSome, IsSomeAnd}
use Rattle.octet_core.specs.declared.failed.Failed.{Failed}
use Rattle.link_model.specs.declared.call.Call.{Call}
use Rattle.door_model.specs.declared.answer.Answer.{Answer}
use Rattle.door_model.specs.declared.answer.Answer.TheVariants.{Link, NoMore, Failed as Refused}
use Rattle.door_model.specs.declared.served.Served.{Served}

-- a link that was given back: its calls, where it told them, and how its serving ended
pub record LinkBack : Type 0 where
  pub calls : Option (List Call)
  pub served : Served

-- what it answered last, and the links that were given back, the oldest first
pub record Shown : Type 0 where
  pub last : Option Answer
  pub back : List LinkBack

-- nothing was answered yet, and no link was given back
abbrev pub nothing_shown : Shown
nothing_shown = record { last = None; back = [] }

abbrev pub answer_of : {L : Type 0} → Result (Option L) Failed → Answer
answer_of (Ok (Some link)) = Link
answer_of (Ok None) = NoMore
answer_of (Err failed) = Refused

abbrev pub answered : Answer → Shown → Shown
answered answer shown = record shown { last = Some answer }

abbrev pub given_back : LinkBack → Shown → Shown
given_back link shown = record shown { back = shown.back ++ link ∷ [] }

-- A door that shows has shown before, and what it shows is changed so. One that has stopped showing
-- never shows again.
abbrev pub Shows : Option Shown → Option Shown → (Shown → Shown) → Type 0
Shows before after change =
    IfSome after (λ shown. IsSomeAnd before (λ earlier. shown ≡ change earlier))

-- whether a link is out, behind an answer: one that was given is, and else it is as before
abbrev pub out_after : Answer → Bool → Bool
out_after Link before = true
out_after NoMore before = before
out_after Refused before = before

-- no call was made of a link, if it tells
abbrev pub IsFresh : Option (List Call) → Type 0
IsFresh calls = IfSome calls (λ told. told ≡ [])
