-- What the program promises of a station's run, by the objects that it ran over. This product's own
-- rules.
use Rattle.std.specs.Prelude.{◌≡◌, ◌⊎◌, ℕ, ◌≤◌, Option, None, Some, IfNone, IfSome, IsSomeAnd, List}
use Rattle.std.specs.Prelude.{length, option_map}
use Rattle.cds_time.specs.declared.cds.Cds.{Cds}
use Rattle.disk_model.specs.Images.{Pending}
use Rattle.disk_model.specs.RawFile.{Asked}
use Rattle.disk_model.specs.Calls.{CallsKeep}
use Rattle.disk_model.specs.declared.call.Call.{Call as DiskCall}
use Rattle.recorder.specs.Feeds.{Answer}
use Rattle.link_model.specs.declared.call.Call.{Call as LinkCall}
use Rattle.door_model.specs.Shown.{Shown}
use Rattle.turn_lock.specs.PassState.{PassState}
use Rattle.station_config.specs.Validity.{IsSite}
use Rattle.station_config.specs.declared.site.Site.{Site}
use Rattle.station_book.specs.State.{Event, Opening}
use Rattle.station_run.specs.Ran.{Outside as Around, outside, RanOver}
use Rattle.station_run.specs.declared.report.RunReport.{RunReport}
use Rattle.run_laws.specs.Lossless.{IsLossless}
use Rattle.run_events.specs.Runs.{RunIsEvents}
use Rattle.run_rounds.specs.Rounds.{RunHasRounds}
use Rattle.run_command.specs.Configured.{Configures}
use Rattle.run_command.specs.Ends.{EndsBefore, EndsBehind, NotStarted}
use Rattle.run_command.specs.declared.status.RunStatus.{RunStatus}
use Rattle.run_plan.specs.declared.plan.RunPlan.{RunPlan}
use Rattle.command_ends.specs.Outside.{Outside}
use Rattle.command_words.specs.declared.commands.Plan.{Plan}
use Rattle.command_words.specs.declared.commands.Plan.TheVariants.{Run}
use Rattle.provider_commands.specs.declared.equipment.Equipment.{Equipment}

-- what is around a station of what the program runs on
abbrev pub around : {I O D G C F A : Type 0} → Equipment I O D G C F A → Around F A G C
around kit = outside kit.frames kit.antenna kit.antenna_clock kit.doors.items kit.clocks.items

abbrev pub IsRun : Option Plan → Type 0
IsRun (Some (Run run)) = Unit {0}
IsRun _ = ⊥

-- a station has 1 to 16 doors, a clock for each, and no pass of an earlier run
abbrev pub IsReady : {G C P : Type 0} → List G → List C → Option P → Type 0
IsReady doors clocks passes =
    (1 ≤ length doors) × (length doors ≤ 16) × (length clocks ≡ length doors) × (passes ≡ None)

abbrev pub AreReady : {G C P : Type 0} → Option Plan → List G → List C → Option P → Type 0
AreReady (Some (Run run)) doors clocks passes = IsReady doors clocks passes
AreReady _ doors clocks passes = Unit {0}

-- A run whose workers were started writes what they did, and another one writes why they weren't,
-- each with the line of its status.
abbrev pub IsRan : Outside → Outside → ℕ → Type 0
IsRan before after exit =
    ((report : RunReport) × EndsBehind before.written after.written before.write_faults
    after.write_faults report exit)
    ⊎ ((own : RunStatus) × EndsBefore before.written after.written before.write_faults
    after.write_faults own exit)

-- What the objects that a run is over report: the answers of its source of entries, what its
-- antenna was sent, what its doors showed, the calls of its doors' links, the readings of its
-- clocks, and how often each has failed. An object that reports no content still counts its faults.
pub record Senses (F A G L C : Type 0) : Type 0 where
  pub answers : F → Option (List Answer)
  pub source_faults : F → ℕ
  pub sent : A → Option (List (List ℕ))
  pub antenna_faults : A → ℕ
  pub shown : G → Option Shown
  pub door_faults : G → ℕ
  pub calls : L → Option (List LinkCall)
  pub link_faults : L → ℕ
  pub readings : C → Option (List Cds)

abbrev pub senses : {F A G L C : Type 0} → (F → Option (List Answer)) → (F → ℕ)
    → (A → Option (List (List ℕ))) → (A → ℕ) → (G → Option Shown) → (G → ℕ)
    → (L → Option (List LinkCall)) → (L → ℕ) → (C → Option (List Cds)) → Senses F A G L C
senses answers source_faults sent antenna_faults shown door_faults calls link_faults readings =
    record {
      answers = answers;
      source_faults = source_faults;
      sent = sent;
      antenna_faults = antenna_faults;
      shown = shown;
      door_faults = door_faults;
      calls = calls;
      link_faults = link_faults;
      readings = readings;
    }

module _ {D F A G L C : Type 0} (pending : D → Option Pending) (disk_faults moment : D → ℕ)
    (images_since : D → ℕ → List ℕ → Type 0) (makes fails : D → DiskCall → D → Type 0)
    (fails_to_read : D → D → Type 0) (by : Senses F A G L C) where
  -- A run of the valid site that its input configures, whose workers were started. Its text and its
  -- exit code are those of its report, which says what they did. Its closed pass is given: no reply
  -- in it is Lost, and, over a disk that reports its content, none is Foreign. Over such a disk the
  -- run is a list of events of each world in which nothing goes on and for one of whose file's lists
  -- the disk's content stands. All of these events may come. After each prefix of them the headline
  -- holds, whatever may come later, and what was done stays. The same holds with what its sessions
  -- make of STARTs in their places, and of what each session sent.
  pub record Started (run : RunPlan) (draw : ℕ) (disk disk_now : D) (old new : Around F A G C)
      (pass : PassState Event Opening) (before after : Outside) (exit : ℕ) : Type 0 where
    pub site : Site
    pub report : RunReport
    pub pass_is : report.pass ≡ pass
    pub valid : IsSite site
    pub configures : Configures before.left site
    pub ends : EndsBehind before.written after.written before.write_faults after.write_faults report
        exit
    pub ran : RanOver pending disk_faults moment images_since makes fails fails_to_read by.answers
        by.source_faults by.sent by.antenna_faults by.shown by.door_faults by.calls by.link_faults
        by.readings site run.turns run.links draw disk disk_now old new report
    pub lossless : IsLossless (pending disk) report
    pub events : RunIsEvents pending disk_faults moment images_since makes fails fails_to_read
        by.answers by.source_faults by.sent by.antenna_faults by.shown by.door_faults by.calls
        by.link_faults by.readings ran
    pub rounds : RunHasRounds pending disk_faults moment images_since makes fails fails_to_read
        by.answers by.source_faults by.sent by.antenna_faults by.shown by.door_faults by.calls
        by.link_faults by.readings ran

  abbrev pub StartedOn : RunPlan → ℕ → Option D → Option D → Around F A G C → Around F A G C
      → Option (PassState Event Opening) → Outside → Outside → ℕ → Type 0
  StartedOn run draw disk disk_now old new passes before after exit =
      IfSome disk (λ found. IfSome passes (λ pass. IsSomeAnd disk_now
      (λ left. Started run draw found left old new pass before after exit)))

  abbrev pub HasStarted : Option Plan → ℕ → Option D → Option D → Around F A G C → Around F A G C
      → Option (PassState Event Opening) → Outside → Outside → ℕ → Type 0
  HasStarted plan draw disk disk_now old new passes before after exit =
      (run : RunPlan) → plan ≡ Some (Run run)
      → StartedOn run draw disk disk_now old new passes before after exit

module _ {D F A G C : Type 0} (pending : D → Option Pending) (disk_faults moment : D → ℕ)
    (images_since : D → ℕ → List ℕ → Type 0) (makes fails : D → DiskCall → D → Type 0)
    (fails_to_read : D → D → Type 0) where
  -- A run whose workers weren't started. Its text and its exit code say why. Its source, its
  -- antenna, its doors and its clocks are as they were.
  pub record Unstarted (disk disk_now : D) (old new : Around F A G C) (before after : Outside)
      (exit : ℕ) : Type 0 where
    pub own : RunStatus
    pub ends : EndsBefore before.written after.written before.write_faults after.write_faults own
        exit
    pub cause : NotStarted pending disk_faults moment images_since makes fails fails_to_read
        before.left before.read_faults after.read_faults disk disk_now own
    pub untouched : new ≡ old

  abbrev pub NotStartedOn : {P : Type 0} → Option D → Option D → Around F A G C → Around F A G C
      → Option P → Outside → Outside → ℕ → Type 0
  NotStartedOn disk disk_now old new passes before after exit =
      IfSome disk (λ found. IfNone passes (IsSomeAnd disk_now
      (λ left. Unstarted found left old new before after exit)))

  abbrev pub HasNotStarted : {P : Type 0} → Option Plan → Option D → Option D → Around F A G C
      → Around F A G C → Option P → Outside → Outside → ℕ → Type 0
  HasNotStarted plan disk disk_now old new passes before after exit =
      (run : RunPlan) → plan ≡ Some (Run run)
      → NotStartedOn disk disk_now old new passes before after exit

-- The disk of a command is handed back, and nothing but calls of it happened meanwhile: what no
-- call of a disk changes is as it was.
module _ {D : Type 0} (makes fails : D → DiskCall → D → Type 0) (fails_to_read : D → D → Type 0)
  where
    abbrev pub IsHandedBack : Option D → Option D → Type 0
    IsHandedBack old new = (of : D → Asked) → CallsKeep makes fails fails_to_read of
        → option_map of new ≡ option_map of old

-- A command other than a run leaves a station's source, antenna, doors and clocks, the draw and the
-- passes as they were.
abbrev pub IsUntouched : {F A G C P : Type 0} → Option Plan → Around F A G C → Around F A G C → ℕ
    → ℕ → Option P → Option P → Type 0
IsUntouched plan old new draw draw_now passes passes_now =
    ¬ IsRun plan → (new ≡ old) × (draw_now ≡ draw) × (passes_now ≡ passes)
