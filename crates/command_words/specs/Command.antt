-- What a command line asks for. This product's own rules.
use Rattle.std.specs.Prelude.{ℕ, ◌≤◌, Bool, if◌then◌else◌, Option, Some, None, List, [], ◌∷◌}
use Rattle.std.specs.Prelude.{map, codes}
use denote.Ref.{Bor}
use Rattle.std.specs.Option.{option_map}
use Rattle.std.specs.Str.{bytes_eq}
use Rattle.command_words.specs.declared.commands.Plan.{Plan}
use Rattle.command_words.specs.declared.commands.Plan.TheVariants as plans
use Rattle.command_words.specs.declared.commands.Plan.TheVariants.{Drill, Init, Rehearse, Run}
use Rattle.command_words.specs.Number.{frames_of}
use Rattle.run_plan.specs.RunPlan.{run_plan}
use Rattle.run_plan.specs.RunPlan as runs

abbrev pub is_word : List ℕ → List ℕ → Bool
is_word word known = bytes_eq word known

-- a rehearsal has 1 to 20,000 frames: decimal digits without sign and without leading zeros
abbrev pub rehearsal_of : List ℕ → Option Plan
rehearsal_of value = option_map Rehearse (frames_of value)

-- a command is `drill`, `init` or `list` with any path behind it, or `rehearse` with a number
abbrev pub of_two : List ℕ → List ℕ → Option Plan
of_two word value =
    if is_word word (codes "init") then Some (Init value)
    else if is_word word (codes "list") then Some (plans.List value)
    else if is_word word (codes "rehearse") then rehearsal_of value
    else None

-- with more words behind it, a command is `run` with what they ask for
abbrev pub of_more : List ℕ → List (List ℕ) → Option Plan
of_more word others = if is_word word (codes "run") then option_map Run (run_plan others) else None

abbrev pub plan_of : List (List ℕ) → Option Plan
plan_of [] = None
plan_of (word ∷ []) = if is_word word (codes "drill") then Some Drill else None
plan_of (word ∷ value ∷ []) = of_two word value
plan_of (word ∷ others) = of_more word others

-- what words that are texts ask for
abbrev pub asked : List (Bor (List ℕ)) → Option Plan
asked words = plan_of (map (λ word. word.now) words)

-- a command with an archive's file asks for a disk
abbrev pub NeedsDisk : Option Plan → Type 0
NeedsDisk (Some (Init path)) = Unit {0}
NeedsDisk (Some (plans.List path)) = Unit {0}
NeedsDisk (Some (Run run)) = Unit {0}
NeedsDisk _ = ⊥

-- the number of a rehearsal's frames, and each number of a run, is one of its range
abbrev pub IsInRange : Option Plan → Type 0
IsInRange (Some (Rehearse n)) = (1 ≤ n) × (n ≤ 20000)
IsInRange (Some (Run run)) = runs.IsInRange run
IsInRange _ = Unit {0}
