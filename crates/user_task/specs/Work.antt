-- What a user's work asks for.
use Rattle.std.specs.Prelude.{ℕ, Bool, true, false, Option, None, List, []}
use Rattle.sle_numbers.specs.declared.service_type.ServiceType.{ServiceType}
use Rattle.sle_numbers.specs.declared.service_type.ServiceType.TheVariants.{RtnAllFrames, RtnChFrames}
use Rattle.sle_numbers.specs.declared.service_type.ServiceType.TheVariants.{FwdCltu}
use Rattle.user_task.specs.declared.cltus.CltuLine.{CltuLine}
use Rattle.user_task.specs.declared.work.Work.{Work}
use Rattle.user_task.specs.declared.work.Work.TheVariants.{Show, Raf, Rcf, Cltu}

-- the service that it is done with
abbrev pub service_of : Work → ServiceType
service_of (Show service) = service
service_of (Raf start stop quality report) = RtnAllFrames
service_of (Rcf start stop channel report) = RtnChFrames
service_of (Cltu first cltus report) = FwdCltu

-- whether it invokes nothing
abbrev pub is_show : Work → Bool
is_show (Show service) = true
is_show _ = false

-- the CLTUs that it sends
abbrev pub cltus_of : Work → List CltuLine
cltus_of (Cltu first cltus report) = cltus
cltus_of _ = []

-- the seconds between the status reports that it asks for
abbrev pub report_of : Work → Option ℕ
report_of (Show service) = None
report_of (Raf start stop quality report) = report
report_of (Rcf start stop channel report) = report
report_of (Cltu first cltus report) = report
