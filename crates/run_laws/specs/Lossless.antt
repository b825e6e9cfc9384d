-- Nothing in a run is lost: no reply of the book is Lost, and, over a disk that tells, none is
-- Foreign. This product's own.
use Rattle.std.specs.Prelude.{◌≡◌, ℕ, Bool, true, false, Option, IfSome, Err, List, IsFalse}
use Rattle.std.specs.List.{list_any}
use Rattle.cds_time.specs.declared.cds.Cds.{Cds}
use Rattle.disk_model.specs.Images.{Pending}
use Rattle.disk_model.specs.declared.call.Call.{Call as DiskCall}
use Rattle.recorder.specs.Feeds.{Answer}
use Rattle.link_model.specs.declared.call.Call.{Call as LinkCall}
use Rattle.door_model.specs.Shown.{Shown}
use Rattle.station_config.specs.Validity.{IsSite}
use Rattle.station_config.specs.declared.site.Site.{Site}
use Rattle.station_book.specs.State.{Event, Reply, foreign}
use Rattle.session_laws.specs.Losing.{loses}
use Rattle.recorder_turns.specs.declared.recording_fault.RecordingFault.TheVariants.{Foreign}
use Rattle.station_run.specs.Ran.{Outside, RanOver}
use Rattle.station_run.specs.declared.report.RunReport.{RunReport}

-- whether a reply is that the entries don't follow the published ones
abbrev pub is_foreign : Reply → Bool
is_foreign foreign = true
is_foreign _ = false

abbrev pub NoneIsLost : List Event → Type 0
NoneIsLost h = IsFalse (list_any (λ e. loses e.reply) h)

abbrev pub NoneIsForeign : List Event → Type 0
NoneIsForeign h = IsFalse (list_any (λ e. is_foreign e.reply) h)

-- No event of a run's history was answered Lost; and where its disk told what it held, none was
-- answered Foreign, and the recorder didn't end so.
pub record IsLossless (pending : Option Pending) (report : RunReport) : Type 0 where
  pub lost : NoneIsLost report.pass.seen
  pub publishings : IfSome pending (λ _. NoneIsForeign report.pass.seen)
  pub recording : IfSome pending (λ _. report.recording ≡ Err Foreign → ⊥)

-- the law: of each run of a valid site
abbrev pub RunsAreLossless : {D F A G L C : Type 0} → (D → Option Pending) → (D → ℕ) → (D → ℕ)
    → (D → ℕ → List ℕ → Type 0) → (D → DiskCall → D → Type 0) → (D → DiskCall → D → Type 0)
    → (D → D → Type 0) → (F → Option (List Answer)) → (F → ℕ) → (A → Option (List (List ℕ)))
    → (A → ℕ) → (G → Option Shown) → (G → ℕ) → (L → Option (List LinkCall)) → (L → ℕ)
    → (C → Option (List Cds)) → Type 0
RunsAreLossless {D = D} {F = F} {A = A} {G = G} {C = C} pending disk_faults moment images_since
    makes fails fails_to_read answers source_faults sent antenna_faults shown door_faults calls
    link_faults readings =
    (site : Site) (turns links draw : ℕ) (disk disk_now : D) (old new : Outside F A G C)
    (report : RunReport) → IsSite site
    → RanOver pending disk_faults moment images_since makes fails fails_to_read answers
    source_faults sent antenna_faults shown door_faults calls link_faults readings site turns links
    draw disk disk_now old new report
    → IsLossless (pending disk) report
