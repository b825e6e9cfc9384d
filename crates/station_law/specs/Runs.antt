-- A script's run, whatever its lines are: each is a step.
use Rattle.std.specs.Prelude.{◌≡◌, ℕ, ◌+◌, Bool, true, false, ◌&&◌, IsTrue}
use Rattle.std.specs.Prelude.{List, [], ◌∷◌, ◌++◌, length, codes}
use Rattle.std.specs.Fmt.{decimal}
use Rattle.script_store.specs.declared.step_done.StepDone.{StepDone}
use Rattle.script_store.specs.declared.step_done.StepDone.TheVariants.{Fine, Full, WrongState}
use Rattle.script_store.specs.Store.{Store}
use Rattle.station_law.specs.State.{State}
use Rattle.script_store.specs.Said.{Handed, texts, handed_by, buffers_handed, buffers_told}
use Rattle.script_store.specs.Answer.{Answer}

-- the line that tells the number of a bad line
abbrev pub bad_line : ℕ → List ℕ
bad_line number = codes "bad line " ++ decimal number ++ 10 ∷ []

-- what stands behind a line's text: that of the lines behind it, or its number
abbrev pub text_behind : StepDone → ℕ → List ℕ → List ℕ
text_behind WrongState number rest = bad_line number
text_behind _ number rest = rest

-- how a script ends where its output takes all and memory suffices: all was done; some entry was
-- refused as Full; or a line is bad
pub data Ending : Type 0 where
  done : Ending
  full : Ending
  bad : Ending

abbrev pub with_full : Ending → Ending
with_full bad = bad
with_full _ = full

abbrev pub ending_behind : StepDone → Ending → Ending
ending_behind Fine rest = rest
ending_behind Full rest = with_full rest
ending_behind WrongState rest = bad

-- how a script ends, by whether its lines are in order and fine
abbrev pub ending_of : Bool → Bool → Ending
ending_of false fine = bad
ending_of true true = done
ending_of true false = full

abbrev pub is_fine : StepDone → Bool
is_fine Fine = true
is_fine _ = false

abbrev pub is_in_order : StepDone → Bool
is_in_order WrongState = false
is_in_order _ = true

-- the part of an answer that concerns what is stored
abbrev pub in_store : Answer State → Answer Store
in_store a = record {
  said = a.said;
  given = a.given;
  recovers = a.recovers;
  done = a.done;
  next = a.next.store;
}

module _ {L : Type 0} (step : State → L → Answer State) where
  -- what is written for lines from a number on
  abbrev pub transcript_from : ℕ → State → List L → List ℕ
  transcript_from number state [] = []
  transcript_from number state (line ∷ lines) =
      texts (step state line).said ++ text_behind (step state line).done number
      (transcript_from (number + 1) (step state line).next lines)

  -- the transcript of a script's lines
  abbrev pub transcript : State → List L → List ℕ
  transcript state lines = transcript_from 1 state lines

  abbrev pub ending : State → List L → Ending
  ending state [] = done
  ending state (line ∷ lines) =
      ending_behind (step state line).done (ending (step state line).next lines)

  -- whether each line is fine, and whether none is bad
  abbrev pub all_fine : State → List L → Bool
  all_fine state [] = true
  all_fine state (line ∷ lines) =
      is_fine (step state line).done && all_fine (step state line).next lines

  abbrev pub in_order : State → List L → Bool
  in_order state [] = true
  in_order state (line ∷ lines) =
      is_in_order (step state line).done && in_order (step state line).next lines

  -- the world behind lines
  abbrev pub after : State → List L → State
  after state [] = state
  after state (line ∷ lines) = after (step state line).next lines

  -- what each START has handed over behind lines
  abbrev pub handed_after : State → List Handed → List L → List Handed
  handed_after state starts [] = starts
  handed_after state starts (line ∷ lines) =
      handed_after (step state line).next (handed_by starts (step state line).said) lines

-- What is promised of a line that stands in a script behind others in order, with the world before
-- it and its answer: where its text stands; and each buffer that it tells is one that a START
-- handed over.
pub record IsTold {L : Type 0} (step : State → L → Answer State) (first : State)
    (earlier later : List L) (line : L) : Type 0 where
  pub text : transcript step first (earlier ++ line ∷ later) ≡ transcript step first earlier
      ++ transcript_from step (length earlier + 1) (after step first earlier) (line ∷ later)
  pub whole : buffers_handed (handed_by (handed_after step first [] earlier)
      (step (after step first earlier) line).said)
      ≡ buffers_handed (handed_after step first [] earlier)
      + buffers_told (step (after step first earlier) line).said

-- so it is at each line behind others in order
abbrev pub AreTold : {L : Type 0} → (State → L → Answer State) → State → List L → Type 0
AreTold {L} step first lines =
    (earlier later : List L) (line : L) → lines ≡ earlier ++ line ∷ later
    → IsTrue (in_order step first earlier) → IsTold step first earlier later line
