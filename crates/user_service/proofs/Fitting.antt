-- What was read of words and lines is what PDUs can say.
use Rattle.std.proofs.Common.{◌≡◌, ℕ, true, false, List, refl}
use Rattle.std.specs.List.{list_all}
use Rattle.std.specs.Prelude.{IsTrue}
use Rattle.user_task.specs.declared.cltus.CltuLine.{CltuLine}
use Rattle.user_task.specs.Fitting.{fits_line, fits_task}
use Rattle.user_words.specs.Plan.{FitsTalk}
use Rattle.user_words.specs.declared.asked.Asked.{Asked}
use Rattle.user_words.specs.declared.asked.Asked.TheVariants.{Raf, Rcf, Cltu}
use Rattle.user_words.specs.declared.identity.Identity.{Identity}
use Rattle.user_task.specs.Work.{is_show}
use Rattle.user_service.specs.Sending.{task_of, work_of}

pub task_fits : (draw : ℕ) (identity : Identity) (asked : Asked) (turns : ℕ)
    (cltus : List CltuLine) → FitsTalk identity asked turns → list_all fits_line cltus ≡ true
    → IsTrue (fits_task (task_of draw identity asked cltus))
task_fits draw identity (Raf from to quality report) turns cltus fits all = search fits.named
task_fits draw identity (Rcf from to channel report) turns cltus fits all =
    search (fits.named, fits.asks)
task_fits draw identity (Cltu first report) turns cltus fits all = search (fits.named, all)

pub task_invokes : (asked : Asked) (cltus : List CltuLine) → is_show (work_of asked cltus) ≡ false
task_invokes (Raf from to quality report) cltus = refl
task_invokes (Rcf from to channel report) cltus = refl
task_invokes (Cltu first report) cltus = refl
