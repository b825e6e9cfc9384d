-- What a message says to one who reads a stream: the PDUs of the services, each by its outer tag
-- and then by its whole shape (CCSDS 911.1-B, 911.2-B and 912.1-B, annex A).
use Rattle.std.specs.Prelude.{ℕ, ℤ, Option, Some, None, List, Result, Ok, Err}
use Rattle.std.specs.Option.{option_map}
use Rattle.ber_core.specs.declared.fault.BerFault.{BerFault}
use Rattle.ber_shape.specs.Exact.{whole}
use Rattle.isp1_tml.specs.Message.{Content, pdu, context, heartbeat}
use Rattle.sle_numbers.specs.declared.service_type.ServiceType.{ServiceType}
use Rattle.sle_numbers.specs.declared.service_type.ServiceType.TheVariants.{RtnAllFrames, RtnChFrames}
use Rattle.sle_numbers.specs.declared.service_type.ServiceType.TheVariants.{FwdCltu}
use Rattle.sle_common.specs.declared.diagnostic.Diagnostic.{Diagnostic}
use Rattle.sle_common.specs.declared.diagnostic.Diagnostic.TheVariants.{Common, Specific}
use Rattle.sle_common.specs.declared.parameter.Parameter.{Parameter as Value}
use Rattle.sle_common.specs.declared.parameter.Parameter.TheVariants as value
use Rattle.bind_pdu.specs.Aborting.{peer_abort}
use Rattle.bind_pdu.specs.Binding.{BindReturnContent, bind, bind_return}
use Rattle.bind_pdu.specs.Unbinding.{unbind, unbind_return}
use Rattle.return_pdu.specs.declared.return_kind.ReturnKind.TheVariants.{Raf, Rcf}
use Rattle.return_pdu.specs.Starting.{StartReturnContent, raf_start, rcf_start, start_return}
use Rattle.return_pdu.specs.Stopping.{StopReturnContent, stop, stop_return}
use Rattle.return_pdu.specs.Scheduling.{ScheduleReturnContent, schedule, schedule_return}
use Rattle.return_pdu.specs.Getting.{ParameterReturnContent, get_parameter, parameter_return}
use Rattle.return_pdu.specs.Reporting.{RafReportContent, RcfReportContent, raf_report, rcf_report}
use Rattle.return_pdu.specs.TransferItem.{buffer}
use Rattle.fcltu_pdu.specs.Start.{StartReturn as CltuStartReturn, start_pdu, start_return_pdu}
use Rattle.fcltu_pdu.specs.Throw.{EventReturn, throw_pdu, throw_return_pdu}
use Rattle.fcltu_pdu.specs.Transfer.{TransferReturn, transfer_pdu, transfer_return_pdu}
use Rattle.fcltu_pdu.specs.Async.{Notice as CltuNotice, notice_pdu}
use Rattle.fcltu_pdu.specs.Report.{Report as CltuReport, report_pdu}
use Rattle.user_lines.specs.declared.tag.Tag.{Tag}
use Rattle.user_lines.specs.declared.tag.Tag.TheVariants as tag
use Rattle.user_lines.specs.declared.told.Told.{Told}
use Rattle.user_lines.specs.declared.told.Told.TheVariants.{Nothing, Invoked, Returned, Transferred}
use Rattle.user_lines.specs.declared.told.Told.TheVariants.{Parameter, Items, Notice, Report}
use Rattle.user_lines.specs.declared.told.Told.TheVariants.{Aborted}
use Rattle.user_lines.specs.Tag.{tag_of}

-- ---- refusals

-- a common diagnostic is told by its number too
abbrev pub number_in : Diagnostic → ℤ
number_in (Common n) = n
number_in (Specific n) = n

-- why a return is negative
abbrev pub refusal : {X : Type 0} → Result X ℤ → Option ℤ
refusal (Ok x) = None
refusal (Err diagnostic) = Some diagnostic

abbrev pub diagnosed : {X : Type 0} → Result X Diagnostic → Option ℤ
diagnosed (Ok x) = None
diagnosed (Err diagnostic) = Some (number_in diagnostic)

-- ---- what each PDU says

abbrev pub bind_returned : BindReturnContent → Told
bind_returned r = Returned tag.BindReturn None (refusal r.result)

abbrev pub start_returned : StartReturnContent → Told
start_returned r = Returned tag.StartReturn (Some r.invoke) (diagnosed r.result)

abbrev pub cltu_start_returned : CltuStartReturn → Told
cltu_start_returned r = Returned tag.StartReturn (Some r.invoke) (diagnosed r.result)

abbrev pub stop_returned : StopReturnContent → Told
stop_returned r = Returned tag.StopReturn (Some r.invoke) (refusal r.result)

abbrev pub schedule_returned : ScheduleReturnContent → Told
schedule_returned r = Returned tag.ScheduleReturn (Some r.invoke) (diagnosed r.result)

abbrev pub throw_returned : EventReturn → Told
throw_returned r = Returned tag.ReportOrThrowReturn (Some r.invoke) (diagnosed r.result)

abbrev pub transfer_returned : TransferReturn → Told
transfer_returned r = Transferred r.invoke (diagnosed r.result) r.next r.free

-- the name of a parameter (this product's own)
abbrev pub name_of : Value → ℕ
name_of (value.BufferSize size) = 4
name_of (value.Mode mode) = 6
name_of (value.Latency seconds) = 15
name_of (value.Cycle seconds) = 26
name_of (value.Quality quality) = 27
name_of (value.Channel channel) = 28
name_of (value.Timeout seconds) = 29

abbrev pub parameter_told : ℕ → Result Value Diagnostic → Told
parameter_told invoke (Ok v) = Parameter invoke (name_of v)
parameter_told invoke (Err diagnostic) =
    Returned tag.ParameterReturn (Some invoke) (Some (number_in diagnostic))

abbrev pub parameter_returned : ParameterReturnContent → Told
parameter_returned r = parameter_told r.invoke r.result

abbrev pub raf_reported : RafReportContent → Told
raf_reported r =
    Report (Some r.error_free)
    (r.delivered, r.frame_sync, r.symbol, r.subcarrier, r.carrier, r.production)

abbrev pub rcf_reported : RcfReportContent → Told
rcf_reported r =
    Report None
    (r.delivered, r.frame_sync, r.symbol, r.subcarrier, r.carrier, r.production)

abbrev pub cltu_reported : CltuReport → Told
cltu_reported r =
    Report None (r.production, r.uplink, r.received, r.taken, r.radiated, r.free)

abbrev pub notified : CltuNotice → Told
notified n = Notice n.kind (option_map (λ ok. ok.0) n.ok)

-- ---- what octets say by their tag; none where they don't decode

abbrev pub read_as : {X : Type 0} → (X → Told) → Result X BerFault → Option Told
read_as f (Ok x) = Some (f x)
read_as f (Err _) = None

-- [0]
abbrev pub start_told : ServiceType → List ℕ → Option Told
start_told RtnAllFrames octets = read_as (λ _. Invoked tag.Start) (whole raf_start.read octets)
start_told RtnChFrames octets = read_as (λ _. Invoked tag.Start) (whole rcf_start.read octets)
start_told FwdCltu octets = read_as (λ _. Invoked tag.Start) (whole start_pdu.read octets)

-- [1]
abbrev pub start_return_told : ServiceType → List ℕ → Option Told
start_return_told FwdCltu octets = read_as cltu_start_returned (whole start_return_pdu.read octets)
start_return_told RtnAllFrames octets = read_as start_returned (whole start_return.read octets)
start_return_told RtnChFrames octets = read_as start_returned (whole start_return.read octets)

-- [8]
abbrev pub buffer_told : ServiceType → List ℕ → Option Told
buffer_told RtnAllFrames octets = read_as Items (whole (buffer Raf).read octets)
buffer_told RtnChFrames octets = read_as Items (whole (buffer Rcf).read octets)
buffer_told FwdCltu octets = read_as (λ _. Invoked tag.BufferOrThrow) (whole throw_pdu.read octets)

-- [9]
abbrev pub report_told : ServiceType → List ℕ → Option Told
report_told RtnAllFrames octets = read_as raf_reported (whole raf_report.read octets)
report_told RtnChFrames octets = read_as rcf_reported (whole rcf_report.read octets)
report_told FwdCltu octets = read_as throw_returned (whole throw_return_pdu.read octets)

-- [10] to [13], which the forward service alone has
abbrev pub cltu_told : ServiceType → Tag → List ℕ → Option Told
cltu_told FwdCltu tag.Transfer octets =
    read_as (λ _. Invoked tag.Transfer) (whole transfer_pdu.read octets)
cltu_told FwdCltu tag.TransferReturn octets =
    read_as transfer_returned (whole transfer_return_pdu.read octets)
cltu_told FwdCltu tag.Notify octets = read_as notified (whole notice_pdu.read octets)
cltu_told FwdCltu tag.CltuReport octets = read_as cltu_reported (whole report_pdu.read octets)
cltu_told s t octets = None

abbrev pub tag_told : ServiceType → Tag → List ℕ → Option Told
tag_told s tag.Start octets = start_told s octets
tag_told s tag.StartReturn octets = start_return_told s octets
tag_told s tag.Stop octets = read_as (λ _. Invoked tag.Stop) (whole stop.read octets)
tag_told s tag.StopReturn octets = read_as stop_returned (whole stop_return.read octets)
tag_told s tag.Schedule octets = read_as (λ _. Invoked tag.Schedule) (whole schedule.read octets)
tag_told s tag.ScheduleReturn octets =
    read_as schedule_returned (whole schedule_return.read octets)
tag_told s tag.GetParameter octets =
    read_as (λ _. Invoked tag.GetParameter) (whole get_parameter.read octets)
tag_told s tag.ParameterReturn octets =
    read_as parameter_returned (whole parameter_return.read octets)
tag_told s tag.BufferOrThrow octets = buffer_told s octets
tag_told s tag.ReportOrThrowReturn octets = report_told s octets
tag_told s tag.Bind octets = read_as (λ _. Invoked tag.Bind) (whole bind.read octets)
tag_told s tag.BindReturn octets = read_as bind_returned (whole bind_return.read octets)
tag_told s tag.Unbind octets = read_as (λ _. Invoked tag.Unbind) (whole unbind.read octets)
tag_told s tag.UnbindReturn octets =
    read_as (λ _. Returned tag.UnbindReturn None None) (whole unbind_return.read octets)
tag_told s tag.PeerAbort octets = read_as Aborted (whole peer_abort.read octets)
tag_told s tag.Transfer octets = cltu_told s tag.Transfer octets
tag_told s tag.TransferReturn octets = cltu_told s tag.TransferReturn octets
tag_told s tag.Notify octets = cltu_told s tag.Notify octets
tag_told s tag.CltuReport octets = cltu_told s tag.CltuReport octets

abbrev pub pdu_told : ServiceType → Option Tag → List ℕ → Option Told
pdu_told s None octets = None
pdu_told s (Some t) octets = tag_told s t octets

-- what a message says; none where it is bad
abbrev pub told_in : ServiceType → Content → Option Told
told_in s (pdu octets) = pdu_told s (tag_of octets) octets
told_in s (context interval factor) = Some Nothing
told_in s heartbeat = Some Nothing
