-- What a call on a configuration answers; want of memory is free.
use Rattle.std.specs.Prelude.{◌≡◌, Result, Ok, Err}
use Rattle.station_config.specs.Causes.{cause_of_words}
use Rattle.station_config.specs.Drafts.{Refusal}
use Rattle.station_config.specs.declared.cause.Cause.{Cause}
use Rattle.station_config.specs.declared.draft.Draft.{Draft}
use Rattle.station_config.specs.declared.fault.SiteFault.{SiteFault}
use Rattle.station_config.specs.declared.fault.SiteFault.TheVariants.{BadLine, Memory as NoMemory}
use Rattle.station_config.specs.declared.site.Site.{Site}
use Rattle.station_config.specs.declared.unfit.Unfit.{Unfit}
use Rattle.station_config.specs.declared.unfit.Unfit.TheVariants.{Line as BadLineOf, Memory}
use Rattle.words.specs.declared.line_fault.LineFault.{LineFault}
use Rattle.words.specs.declared.line_fault.LineFault.TheVariants.{Line as BadWords}
use Rattle.words.specs.declared.line_fault.LineFault.TheVariants.{Memory as WordMemory}

-- the new draft, or the cause
abbrev pub Takes : {A : Type 0} → Draft → Result A Unfit → Result Draft Cause → Type 0
Takes new (Ok done) told = told ≡ Ok new
Takes new (Err (BadLineOf cause)) told = told ≡ Err cause
Takes new (Err Memory) told = Unit {0}

abbrev pub unfit_of : LineFault → Unfit
unfit_of (BadWords cause) = BadLineOf (cause_of_words cause)
unfit_of WordMemory = Memory

-- the site, or the first bad line
abbrev pub Answers : Result Site SiteFault → Result Site Refusal → Type 0
Answers (Ok site) told = told ≡ Ok site
Answers (Err (BadLine number cause)) told = told ≡ Err (record { number = number; cause = cause })
Answers (Err NoMemory) told = Unit {0}
