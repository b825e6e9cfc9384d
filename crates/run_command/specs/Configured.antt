-- What the configuration of a run is, by its input. This product's own rules.
use Rattle.std.specs.Prelude.{◌≡◌, ℕ, ◌<◌, IfSome, Option, Ok, Err, List, length}
use Rattle.octet_core.specs.Fault.{count_up}
use Rattle.station_config.specs.Drafts.{site_told}
use Rattle.station_config.specs.declared.site.Site.{Site}
use Rattle.whole_input.specs.declared.reading.TheConstants.{INPUT_OCTETS}
use Rattle.run_command.specs.declared.status.RunStatus.{RunStatus}
use Rattle.run_command.specs.declared.status.RunStatus.TheVariants.{BadSite, InputTooLong, ReadFault}
use Rattle.run_command.specs.declared.status.RunStatus.TheVariants.{Memory}

-- an input with so much left, where it tells, configures this site
abbrev pub Configures : Option (List ℕ) → Site → Type 0
Configures left site = IfSome left (λ text. site_told text ≡ Ok site)

-- An input with so much left, where it tells, and with these counts of faults before and after,
-- configures no site, and this is why: its text, its length, a fault of its own, or want of memory.
abbrev pub NoSite : RunStatus → Option (List ℕ) → ℕ → ℕ → Type 0
NoSite (BadSite number cause) left before after =
    IfSome left (λ text. site_told text ≡ Err (record { number = number; cause = cause }))
    × (after ≡ before)
NoSite InputTooLong left before after =
    IfSome left (λ text. INPUT_OCTETS < length text) × (after ≡ before)
NoSite ReadFault left before after = after ≡ count_up before
NoSite Memory left before after = after ≡ before
NoSite _ left before after = ⊥
