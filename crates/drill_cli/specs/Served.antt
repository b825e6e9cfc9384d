-- What the small program promises of the commands that work on no file. This product's own rules.
use Rattle.std.specs.Prelude.{◌≡◌, ◌⊎◌, ℕ, Option, Some, ◌∷◌, ◌++◌, [], codes}
use Rattle.command_ends.specs.Ends.{IsUntold, Tells}
use Rattle.command_ends.specs.Outside.{Outside}
use Rattle.command_ends.specs.declared.status.Status.TheVariants.{Usage}
use Rattle.command_words.specs.declared.commands.Plan.{Plan}
use Rattle.command_words.specs.declared.commands.Plan.TheVariants.{Drill, Rehearse}
use Rattle.script_commands.specs.Promise.{IsDrill}
use Rattle.script_commands.specs.Rehearsals.{IsRehearsal}

-- it is no command of this program
abbrev pub IsOther : Option Plan → Type 0
IsOther (Some Drill) = ⊥
IsOther (Some (Rehearse n)) = ⊥
IsOther _ = Unit {0}

-- Each of its commands does what it promises, and all other words are told to be none.
pub record IsServed (plan : Option Plan) (before after : Outside) (exit : ℕ) : Type 0 where
  pub drilled : plan ≡ Some Drill → IsDrill before after exit
  pub rehearsed : (n : ℕ) → plan ≡ Some (Rehearse n) → IsRehearsal n before.written after.written
      before.write_faults after.write_faults exit
  pub other : IsOther plan → Tells before.written after.written before.write_faults
      after.write_faults (codes "usage" ++ 10 ∷ []) Usage exit

-- what it does for words from the system: of these, or nothing for want of memory
abbrev pub IsAnswered : Option Plan → Outside → Outside → ℕ → Type 0
IsAnswered plan before after exit =
    IsServed plan before after exit
    ⊎ IsUntold before.written after.written before.write_faults after.write_faults exit
