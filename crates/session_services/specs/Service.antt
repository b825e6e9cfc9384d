-- What a bound user says to its service: a function each. What is asked and answered is the service's
-- (`specs/Served.antt`).
use Rattle.std.specs.Prelude.{ℕ, Bool, true, false, List, Option, None, Result, Ok, Err}
use Rattle.ber_core.specs.declared.fault.BerFault.{BerFault}
use Rattle.ber_shape.specs.Exact.{whole}
use Rattle.return_pdu.specs.Starting.{RafStartContent, raf_start, RcfStartContent, rcf_start}
use Rattle.return_pdu.specs.Stopping.{StopContent, stop}
use Rattle.return_pdu.specs.Scheduling.{ScheduleContent, schedule}
use Rattle.return_pdu.specs.Getting.{GetParameterContent, get_parameter}
use Rattle.return_pdu.specs.Seen.{stop_of, schedule_of, get_parameter_of}
use Rattle.fcltu_pdu.specs.Start.{Start, start_pdu, start_of}
use Rattle.fcltu_pdu.specs.Transfer.{Transfer, transfer_pdu, transfer_of}
use Rattle.fcltu_pdu.specs.Throw.{Event, throw_pdu, event_of}
use Rattle.station_config.specs.declared.service.Service.{Service}
use Rattle.station_config.specs.declared.service.Service.TheVariants.{Raf, Rcf, Cltu}
use Rattle.assoc_core.specs.Kind.{Kind}
use Rattle.assoc_core.specs.Kind as kind
use Rattle.session_services.specs.Starting.{Starting, of_raf, of_rcf}
use Rattle.session_services.specs.declared.service.Invocation.{Invocation as InvocationRead}
use Rattle.session_services.specs.declared.service.Invocation.TheVariants as variant

-- a START of a return service or of FCLTU, a TRANSFER-DATA, a THROW-EVENT, a STOP, a
-- SCHEDULE-STATUS-REPORT, a GET-PARAMETER, or octets that the service doesn't decode
pub data Invocation : Type 0 where
  return_starts : Starting → Invocation
  cltu_starts : Start → Invocation
  transfers : Transfer → Invocation
  throws : Event → Invocation
  stops : StopContent → Invocation
  schedules : ScheduleContent → Invocation
  gets : GetParameterContent → Invocation
  undecoded : Invocation

-- ---- what is read

abbrev pub get_read : Result GetParameterContent BerFault → Invocation
get_read (Ok g) = gets g
get_read (Err _) = undecoded

abbrev pub schedule_read : Result ScheduleContent BerFault → List ℕ → Invocation
schedule_read (Ok s) octets = schedules s
schedule_read (Err _) octets = get_read (whole get_parameter.read octets)

-- what every service decodes, behind what is its own
abbrev pub stop_read : Result StopContent BerFault → List ℕ → Invocation
stop_read (Ok s) octets = stops s
stop_read (Err _) octets = schedule_read (whole schedule.read octets) octets

abbrev pub raf_read : Result RafStartContent BerFault → List ℕ → Invocation
raf_read (Ok s) octets = return_starts (of_raf s)
raf_read (Err _) octets = stop_read (whole stop.read octets) octets

abbrev pub rcf_read : Result RcfStartContent BerFault → List ℕ → Invocation
rcf_read (Ok s) octets = return_starts (of_rcf s)
rcf_read (Err _) octets = stop_read (whole stop.read octets) octets

abbrev pub throw_read : Result Event BerFault → List ℕ → Invocation
throw_read (Ok t) octets = throws t
throw_read (Err _) octets = stop_read (whole stop.read octets) octets

abbrev pub transfer_read : Result Transfer BerFault → List ℕ → Invocation
transfer_read (Ok t) octets = transfers t
transfer_read (Err _) octets = throw_read (whole throw_pdu.read octets) octets

abbrev pub cltu_read : Result Start BerFault → List ℕ → Invocation
cltu_read (Ok s) octets = cltu_starts s
cltu_read (Err _) octets = transfer_read (whole transfer_pdu.read octets) octets

-- what a PDU says to a service
abbrev pub invocation_in : Service → List ℕ → Invocation
invocation_in (Raf mode size latency) octets = raf_read (whole raf_start.read octets) octets
invocation_in (Rcf mode size latency channels) octets =
    rcf_read (whole rcf_start.read octets) octets
invocation_in (Cltu room longest) octets = cltu_read (whole start_pdu.read octets) octets

-- ---- what every service has of it

abbrev pub invocation_kind : Invocation → Kind
invocation_kind (return_starts _) = kind.start
invocation_kind (cltu_starts _) = kind.start
invocation_kind (transfers _) = kind.transfer
invocation_kind (throws _) = kind.throw
invocation_kind (stops _) = kind.stop
invocation_kind (schedules _) = kind.report
invocation_kind (gets _) = kind.parameter
invocation_kind undecoded = kind.undecoded

abbrev pub invocation_credentials : Invocation → Option (List ℕ)
invocation_credentials (return_starts s) = s.credentials
invocation_credentials (cltu_starts s) = s.credentials
invocation_credentials (transfers t) = t.credentials
invocation_credentials (throws t) = t.credentials
invocation_credentials (stops s) = s.credentials
invocation_credentials (schedules s) = s.credentials
invocation_credentials (gets g) = g.credentials
invocation_credentials undecoded = None

-- its number, which its return repeats
abbrev pub invoke_of : Invocation → ℕ
invoke_of (return_starts s) = s.invoke
invoke_of (cltu_starts s) = s.invoke
invoke_of (transfers t) = t.invoke
invoke_of (throws t) = t.invoke
invoke_of (stops s) = s.invoke
invoke_of (schedules s) = s.invoke
invoke_of (gets g) = g.invoke
invoke_of undecoded = 0

-- whether a started service goes on behind it, where it passes: then the round wants its look
abbrev pub leaves_running : Invocation → Bool
leaves_running (transfers _) = true
leaves_running (throws _) = true
leaves_running (schedules _) = true
leaves_running (gets _) = true
leaves_running _ = false

-- what contracts see of an invocation that the code has read
abbrev pub invocation_of : InvocationRead → Invocation
invocation_of (variant.ReturnStart s) = return_starts s
invocation_of (variant.CltuStart s) = cltu_starts (start_of s)
invocation_of (variant.Transfer t) = transfers (transfer_of t)
invocation_of (variant.Throw t) = throws (event_of t)
invocation_of (variant.Stop s) = stops (stop_of s)
invocation_of (variant.Schedule s) = schedules (schedule_of s)
invocation_of (variant.Get g) = gets (get_parameter_of g)
invocation_of (variant.Undecoded octets) = undecoded
