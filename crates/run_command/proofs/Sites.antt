-- Why an input configures no site, by its text.
use Rattle.std.proofs.Common.{◌≡◌, ◌∙◌, ℕ, ◌<◌, List, length, Option, Some, None, Result, Ok, Err}
use Rattle.std.proofs.Common.{subst}
use Rattle.std.specs.Prelude.{IfSome, IfErr}
use Rattle.station_config.specs.Drafts.{site_told}
use Rattle.station_config.specs.declared.site.Site.{Site}
use Rattle.whole_input.specs.declared.reading.TheConstants.{INPUT_OCTETS}
use Rattle.run_command.specs.Configured.{NoSite}
use Rattle.run_command.specs.declared.status.RunStatus.{RunStatus}
use Rattle.run_command.specs.declared.status.RunStatus.TheVariants as status

-- a text that is the whole input is refused for the same reason
pub refused_by : (own : RunStatus) (left : Option (List ℕ)) (text : List ℕ) (n m : ℕ)
    → IfSome left (λ octets. text ≡ octets) → m ≡ n → ((k : ℕ) → NoSite own (Some text) k k)
    → NoSite own left n m
refused_by (status.BadSite number cause) None text n m is same why = (tt, same)
refused_by (status.BadSite number cause) (Some octets) text n m is same why =
    (subst (λ t. site_told t ≡ Err (record { number = number; cause = cause })) is (why n).0, same)
refused_by status.InputTooLong None text n m is same why = (tt, same)
refused_by status.InputTooLong (Some octets) text n m is same why =
    (subst (λ t. INPUT_OCTETS < length t) is (why n).0, same)
refused_by status.ReadFault left text n m is same why = same ∙ why n
refused_by status.Memory left text n m is same why = same
refused_by status.Done left text n m is same why = why n
refused_by (status.Refused place) left text n m is same why = why n
refused_by (status.Changed expected found) left text n m is same why = why n
refused_by status.WriteFault left text n m is same why = why n
refused_by status.DiskFault left text n m is same why = why n
refused_by status.Full left text n m is same why = why n
refused_by status.TurnsSpent left text n m is same why = why n

-- the same of a text that is read
pub site_refused : (read : Result Site RunStatus) (left : Option (List ℕ)) (text : List ℕ) (n m : ℕ)
    → IfSome left (λ octets. text ≡ octets) → m ≡ n
    → ((k : ℕ) → IfErr read (λ own. NoSite own (Some text) k k))
    → IfErr read (λ own. NoSite own left n m)
site_refused (Ok site) left text n m is same why = tt
site_refused (Err own) left text n m is same why = refused_by own left text n m is same why
