-- What a script says: its text and the status that it ends with, where its output takes all and
-- memory suffices. This product's own rules.
use Rattle.std.specs.Prelude.{◌≡◌, ℕ, ◌+◌, Bool, true, false, Option, Some, None, Result, Ok, Err}
use Rattle.std.specs.Prelude.{IfOk, OnOk, List, [], ◌∷◌, ◌++◌, length, codes}
use Rattle.std.specs.Fmt.{decimal}
use Rattle.station_config.specs.Drafts.{Refusal}
use Rattle.station_config.specs.declared.site.Site.{Site}
use Rattle.script_store.specs.declared.step_done.StepDone.{StepDone}
use Rattle.script_store.specs.declared.stop.Stop.{Stop}
use Rattle.station_law.specs.Standing.{Seen, Stands}
use Rattle.station_law.specs.State.{State, start}
use Rattle.script_store.specs.Said.{texts}
use Rattle.script_store.specs.Answer.{Answer}
use Rattle.station_law.specs.Lines.{step_text}
use Rattle.station_law.specs.Runs.{bad_line, text_behind, transcript, in_order, all_fine}
use Rattle.command_ends.specs.declared.status.Status.{Status}
use Rattle.command_ends.specs.declared.status.Status.TheVariants.{Done, BadLine, BadSite, Full}
use Rattle.script_head.specs.Head.{site_of, running}

-- A line of the head is refused; the head isn't ended, and a line of this number is missing; or
-- lines run, in the world of this site.
pub data Script : Type 0 where
  bad_site : Refusal → Script
  no_end : ℕ → Script
  runs : Site → List (List ℕ) → Script

abbrev pub by_site : Result Site Refusal → Option (List (List ℕ)) → ℕ → Script
by_site (Err refusal) lines next = bad_site refusal
by_site (Ok site) None next = no_end next
by_site (Ok site) (Some lines) next = runs site lines

-- the script of these lines
abbrev pub script_of : List (List ℕ) → Script
script_of lines = by_site (site_of lines) (running lines) (length lines + 1)

-- the number of a refused line of the head, and its cause
abbrev pub bad_site_line : ℕ → ℕ → List ℕ
bad_site_line number cause =
    codes "bad site " ++ decimal number ++ 32 ∷ (decimal cause ++ 10 ∷ [])

-- the text of the line of a number, by its answer: what it says, and that it is a bad one where it
-- is
abbrev pub text_at : ℕ → Answer State → List ℕ
text_at number answer = texts answer.said ++ text_behind answer.done number []

-- its text: the transcript of the lines that run, up to the first bad one
abbrev pub script_text : Script → List ℕ
script_text (bad_site refusal) = bad_site_line refusal.number refusal.cause
script_text (no_end number) = bad_line number
script_text (runs site lines) = transcript step_text (start site) lines

-- the status, by whether each line is in the grammar and in a right state, and whether none has an
-- entry that is refused as Full
abbrev pub status_by : Bool → Bool → Status
status_by false fine = BadLine
status_by true true = Done
status_by true false = Full

abbrev pub status_of : Script → Status
status_of (bad_site refusal) = BadSite
status_of (no_end number) = BadLine
status_of (runs site lines) =
    status_by (in_order step_text (start site) lines) (all_fine step_text (start site) lines)

-- ---- a line that a world runs

-- the world stands for the state behind the line, whatever state it stood for
abbrev pub StepsTo : Seen → Seen → List ℕ → Result StepDone Stop → Type 0
StepsTo old new line result =
    OnOk result ((state : State) → Stands old state → Stands new (step_text state line).next)

-- how the line ended
abbrev pub EndsSo : Seen → List ℕ → Result StepDone Stop → Type 0
EndsSo old line result =
    IfOk result (λ done. (state : State) → Stands old state
    → done ≡ (step_text state line).done)
