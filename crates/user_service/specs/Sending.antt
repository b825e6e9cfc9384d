-- A task by the words of a command line. This product's own.
use Rattle.std.specs.Prelude.{ℕ, List}
use Rattle.user_task.specs.declared.cltus.CltuLine.{CltuLine}
use Rattle.user_task.specs.declared.task.Task.{Task}
use Rattle.user_task.specs.declared.work.Work.{Work}
use Rattle.user_task.specs.declared.work.Work.TheVariants as work
use Rattle.user_words.specs.declared.asked.Asked.{Asked}
use Rattle.user_words.specs.declared.asked.Asked.TheVariants.{Raf, Rcf, Cltu}
use Rattle.user_words.specs.declared.identity.Identity.{Identity}

-- the work that is asked for, with these CLTUs
abbrev pub work_of : Asked → List CltuLine → Work
work_of (Raf from to quality report) cltus = work.Raf from to quality report
work_of (Rcf from to channel report) cltus = work.Rcf from to channel report
work_of (Cltu first report) cltus = work.Cltu first cltus report

abbrev pub task_of : ℕ → Identity → Asked → List CltuLine → Task
task_of draw identity asked cltus = record {
  name = identity.name;
  signing = identity.signing;
  instance = identity.instance;
  draw = draw;
  work = work_of asked cltus;
}
