-- A command for whose path memory was refused: nothing was read, written or asked of a disk.
use Rattle.std.proofs.Common.{◌≡◌, ℕ, List, Option, Some, None, IfSome, IsSomeAnd, inl, inr, refl}
use Rattle.std.proofs.Common.{subst}
use Rattle.disk_model.specs.Images.{Pending}
use Rattle.disk_model.specs.Moments.{IsImageOf}
use Rattle.disk_model.specs.declared.call.Call.{Call as DiskCall}
use Rattle.station_run.specs.Ran.{Outside as Around}
use Rattle.run_plan.specs.declared.plan.RunPlan.{RunPlan}
use Rattle.run_command.specs.declared.status.RunStatus.TheVariants as ends
use Rattle.command_words.specs.declared.commands.Plan.{Plan}
use Rattle.command_words.specs.declared.commands.Plan.TheVariants.{Run}
use Rattle.command_ends.specs.declared.status.Status.TheVariants.{Memory}
use Rattle.script_commands.specs.Lawful.{IsLawful}
use Rattle.archive_commands.specs.Archives.{unasked, IsInit, IsList}
use Rattle.command_words.specs.Command.{NeedsDisk}
use Rattle.command_ends.specs.Ends.{code}
use Rattle.command_ends.specs.Outside.{Outside}
use Rattle.provider_commands.specs.Provided.{IsProvided}
use Rattle.provider_commands.specs.Running.{AreReady, NotStartedOn}
use Rattle.archive_commands.proofs.ListOutcomes.{unlisted, closes_unwritten}

module _ {D : Type 0} (pending : D → Option Pending) (extent moment : D → ℕ)
    (images_since : D → ℕ → List ℕ → Type 0) (faults : D → ℕ)
    (only_now : (disk : D) (image : List ℕ) → images_since disk (moment disk) image
    → IsImageOf (pending disk) image) (output : Option (List ℕ)) (f exit : ℕ)
    (is : exit ≡ code Memory)
  where
    unmade : (disk : Option D) → IfSome disk (λ old. IsSomeAnd disk (λ new. IsInit pending extent
        moment images_since faults old new output output f f exit))
    unmade None = tt
    unmade (Some disk) = record {
      how = unasked;
      leaves = refl;
      closes = closes_unwritten output f Memory exit is;
    }

    unread : (disk : Option D) → IfSome disk (λ old. IsSomeAnd disk (λ new. IsList pending moment
        images_since faults old new output output f f exit))
    unread None = tt
    unread (Some disk) =
        unlisted pending moment images_since faults disk output f exit is (only_now disk)

pub unprovided : {D : Type 0} (pending : D → Option Pending) (extent moment : D → ℕ)
    (images_since : D → ℕ → List ℕ → Type 0) (faults : D → ℕ)
    → ((disk : D) (image : List ℕ) → images_since disk (moment disk) image
    → IsImageOf (pending disk) image)
    → ((script : List ℕ) → IsLawful script) → (plan : Option Plan) (disk : Option D)
    (outside : Outside) (exit : ℕ) → exit ≡ code Memory → NeedsDisk plan
    → IsProvided pending extent moment images_since faults plan disk disk outside outside exit
unprovided pending extent moment images_since faults only_now lawful plan disk outside exit is
    needs =
    record {
      usage = λ none. absurd (subst NeedsDisk none needs);
      drilled = λ drill. absurd (subst NeedsDisk drill needs);
      lawful = lawful;
      made = λ path init. unmade pending extent moment images_since faults only_now outside.written
          outside.write_faults exit is disk;
      listed = λ path list. unread pending extent moment images_since faults only_now
          outside.written outside.write_faults exit is disk;
      rehearsed = λ n rehearses. absurd (subst NeedsDisk rehearses needs);
      ran = λ run runs. inr (ends.Memory, inr (inr (is, refl, refl)));
      unread = λ other. record { left = refl; faults = refl };
      kept = λ other. refl;
    }

-- ---- a run's station

-- it has no pass before it
pub first_pass : {G C P : Type 0} (plan : Option Plan) (doors : List G) (clocks : List C)
    (passes : Option P) (run : RunPlan) → plan ≡ Some (Run run)
    → AreReady plan doors clocks passes → passes ≡ None
first_pass plan doors clocks passes run is ready =
    (subst (λ plan. AreReady plan doors clocks passes) is ready).3

-- nor did its workers start
pub never_started : {D P : Type 0} (disk : Option D) (passes : Option P) (IsSo : D → P → Type 0)
    → passes ≡ None → IfSome disk (λ found. IfSome passes (IsSo found))
never_started None passes IsSo none = tt
never_started (Some disk) None IsSo none = tt
never_started (Some disk) (Some pass) IsSo none = absurd cc

pub given_up : {D F A G C P : Type 0} (pending : D → Option Pending) (faults moment : D → ℕ)
    (images_since : D → ℕ → List ℕ → Type 0) (makes fails : D → DiskCall → D → Type 0)
    (fails_to_read : D → D → Type 0) (disk : Option D) (around : Around F A G C)
    (passes : Option P) (outside : Outside) (exit : ℕ) → exit ≡ code Memory
    → NotStartedOn pending faults moment images_since makes fails fails_to_read disk disk around
    around passes outside outside exit
given_up pending faults moment images_since makes fails fails_to_read None around passes outside exit
    is = tt
given_up pending faults moment images_since makes fails fails_to_read (Some disk) around (Some pass)
    outside exit is = tt
given_up pending faults moment images_since makes fails fails_to_read (Some disk) around None outside
    exit is = record {
      own = ends.Memory;
      ends = inr (inr (is, refl, refl));
      cause = inl (refl, refl);
      untouched = refl;
    }
