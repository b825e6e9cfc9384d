-- What the program promises of a command, by the plan of its words. This product's own rules.
use Rattle.std.specs.Prelude.{◌≡◌, ◌⊎◌, ℕ, true, false, Option, None, Some, IfSome, IsSome}
use Rattle.std.specs.Prelude.{IsSomeAnd, List, ◌∷◌, ◌++◌, [], codes}
use Rattle.std.specs.declared.io.ErrorKind.{ErrorKind}
use Rattle.std.specs.declared.io.ErrorKind.TheVariants.{OutOfMemory, InvalidInput}
use Rattle.std.specs.Str.{IsUtf8}
use Rattle.disk_model.specs.FileDisk.{FileState, IsMadeCall, IsFailedCall, IsFailedRead}
use Rattle.disk_model.specs.RawFile.{Asked, HasFile}
use Rattle.disk_model.specs.Images.{Pending}
use Rattle.turn_lock.specs.PassState.{PassState}
use Rattle.station_book.specs.State.{Event, Opening}
use Rattle.station_run.specs.Ran.{Outside as Around}
use Rattle.run_plan.specs.declared.plan.RunPlan.{RunPlan}
use Rattle.command_words.specs.declared.commands.Plan.{Plan}
use Rattle.command_words.specs.declared.commands.Plan.TheVariants as plans
use Rattle.command_words.specs.declared.commands.Plan.TheVariants.{Drill, Init, Rehearse, Run}
use Rattle.command_ends.specs.declared.status.Status.TheVariants.{Usage, ReadFault, DiskFault}
use Rattle.archive_commands.specs.Archives.{IsInit, IsList}
use Rattle.command_words.specs.Command.{NeedsDisk}
use Rattle.command_ends.specs.Ends.{Tells, IsUntold, IsUnread}
use Rattle.command_ends.specs.Outside.{Outside}
use Rattle.script_commands.specs.Lawful.{IsLawful}
use Rattle.script_commands.specs.Promise.{IsDrill}
use Rattle.script_commands.specs.Rehearsals.{IsRehearsal}
use Rattle.provider_commands.specs.Running.{IsRan, IsRun, Senses, HasStarted, HasNotStarted}

-- a drill reads its script, and a run its configuration
abbrev pub Reads : Option Plan → Type 0
Reads (Some Drill) = Unit {0}
Reads (Some (Run run)) = Unit {0}
Reads _ = ⊥

-- Words that are no command are reported so. Each command does what it promises, `init` and `list`
-- on the disk; of a run this is what it writes. What a drill writes for a script is a function of
-- the script, for which the laws of scripts hold. None but `drill` and `run` reads, and none but
-- those with a file changes the disk.
pub record IsProvided {D : Type 0} (pending : D → Option Pending) (extent moment : D → ℕ)
    (images_since : D → ℕ → List ℕ → Type 0) (faults : D → ℕ) (plan : Option Plan)
    (old new : Option D) (before after : Outside) (exit : ℕ) : Type 0 where
  pub usage : plan ≡ None → Tells before.written after.written before.write_faults
      after.write_faults (codes "usage" ++ 10 ∷ []) Usage exit
  pub drilled : plan ≡ Some Drill → IsDrill before after exit
  pub lawful : (script : List ℕ) → IsLawful script
  pub made : (path : List ℕ) → plan ≡ Some (Init path)
      → IfSome old (λ found. IsSomeAnd new (λ left. IsInit pending extent moment
      images_since faults found left before.written after.written before.write_faults
      after.write_faults exit))
  pub listed : (path : List ℕ) → plan ≡ Some (plans.List path)
      → IfSome old (λ found. IsSomeAnd new (λ left. IsList pending moment images_since faults
      found left before.written after.written before.write_faults after.write_faults exit))
  pub rehearsed : (n : ℕ) → plan ≡ Some (Rehearse n) → IsRehearsal n before.written after.written
      before.write_faults after.write_faults exit
  pub ran : (run : RunPlan) → plan ≡ Some (Run run) → IsRan before after exit
  pub unread : ¬ Reads plan → IsUnread before after
  pub kept : ¬ NeedsDisk plan → new ≡ old

-- A command's disk couldn't be had, by the kind of the error: for want of memory nothing is told,
-- and else that the disk failed.
pub record IsNoDisk (kind : ErrorKind) (before after : Option (List ℕ))
    (faults_before faults_after exit : ℕ) : Type 0 where
  pub memory : kind ≡ OutOfMemory → IsUntold before after faults_before faults_after exit
  pub fault : ¬ (kind ≡ OutOfMemory) → Tells before after faults_before faults_after
      (codes "disk fault" ++ 10 ∷ []) DiskFault exit

-- The file is the one at exactly the path that the command names. It is locked, and it was made
-- where there was none by `init` alone, which synced its name.
abbrev pub IsFileOf : Option Plan → Asked → Type 0
IsFileOf (Some (Init path)) file = HasFile path true file None
IsFileOf (Some (plans.List path)) file = HasFile path false file None
IsFileOf (Some (Run run)) file = HasFile run.path false file None
IsFileOf _ file = ⊥

-- The path of a command's file is no text. A run has two files: its archive and that of its
-- antenna.
abbrev pub NamesNoText : Option Plan → Type 0
NamesNoText (Some (Init path)) = ¬ IsUtf8 path
NamesNoText (Some (plans.List path)) = ¬ IsUtf8 path
NamesNoText (Some (Run run)) = (¬ IsUtf8 run.path) ⊎ (¬ IsUtf8 run.antenna)
NamesNoText _ = ⊥

-- A command does what is promised on the file of its path, which reports none of its octets. The
-- disk that the caller holds after it is over the file of that path. A run is over objects that are
-- made for it: what it did is tied to what these report, and the caller holds them after it. No
-- other command touches the objects of the caller.
pub record IsOnFile {F A G L C : Type 0} (by : Senses F A G L C) (plan : Option Plan)
    (held held_now : Around F A G C) (disk_now : Option (FileState Asked))
    (passes : Option (PassState Event Opening)) (before after : Outside) (exit : ℕ) : Type 0 where
  pub disk : Option (FileState Asked)
  pub draw : ℕ
  pub around : Around F A G C
  pub has : NeedsDisk plan → IsSome disk
  pub of_path : IfSome disk (λ found. IsFileOf plan found.file)
  pub still_of_path : NeedsDisk plan → IsSomeAnd disk_now (λ left. IsFileOf plan left.file)
  pub provided : IsProvided (λ _. None) (λ disk. disk.size) (λ _. 0) (λ _ _ _. ⊥)
      (λ disk. disk.faults) plan disk disk_now before after exit
  pub started : HasStarted (λ _. None) (λ disk. disk.faults) (λ _. 0) (λ _ _ _. ⊥)
      (IsMadeCall (λ file. file)) (IsFailedCall (λ file. file)) IsFailedRead by plan draw disk
      disk_now around held_now passes before after exit
  pub not_started : HasNotStarted (λ _. None) (λ disk. disk.faults) (λ _. 0) (λ _ _ _. ⊥)
      (IsMadeCall (λ file. file)) (IsFailedCall (λ file. file)) IsFailedRead plan disk disk_now
      around held_now passes before after exit
  pub untouched : ¬ IsRun plan → (held_now ≡ held) × (passes ≡ None)

-- It needs a file that couldn't be had. A path that is no text is refused as such. Why else the
-- system refuses a file no contract says.
pub record IsOnNoFile {F A G C : Type 0} (plan : Option Plan) (held held_now : Around F A G C)
    (passes : Option (PassState Event Opening)) (before after : Outside) (exit : ℕ) : Type 0 where
  pub needs : NeedsDisk plan
  pub kind : ErrorKind
  pub no_text : NamesNoText plan → kind ≡ InvalidInput
  pub told : IsNoDisk kind before.written after.written before.write_faults after.write_faults exit
  pub unread : IsUnread before after
  pub untouched : (held_now ≡ held) × (passes ≡ None)

-- The environment of a run is out of form. What the environment holds no contract says.
pub record IsOnNoPlace (plan : Option Plan) (before after : Outside) (exit : ℕ) : Type 0 where
  pub runs : IsRun plan
  pub told : Tells before.written after.written before.write_faults after.write_faults
      (codes "usage" ++ 10 ∷ []) Usage exit
  pub unread : IsUnread before after

-- A run has no port at which its stop is asked for, or none to wait at. What a socket gives no
-- contract says.
pub record IsOnNoPort (plan : Option Plan) (before after : Outside) (exit : ℕ) : Type 0 where
  pub runs : IsRun plan
  pub told : Tells before.written after.written before.write_faults after.write_faults
      (codes "read fault" ++ 10 ∷ []) ReadFault exit
  pub unread : IsUnread before after

-- What the program does for words from the system: one of these, or nothing where it runs out of
-- memory.
abbrev pub IsAnswered : {F A G L C : Type 0} → Senses F A G L C → Option Plan → Around F A G C
    → Around F A G C → Option (FileState Asked) → Option (PassState Event Opening) → Outside
    → Outside → ℕ → Type 0
IsAnswered by plan held held_now disk_now passes before after exit =
    IsOnFile by plan held held_now disk_now passes before after exit
    ⊎ IsOnNoFile plan held held_now passes before after exit
    ⊎ (IsOnNoPlace plan before after exit × (passes ≡ None))
    ⊎ (IsOnNoPort plan before after exit × (passes ≡ None))
    ⊎ (IsUntold before.written after.written before.write_faults after.write_faults exit
    × IsUnread before after × (passes ≡ None))
