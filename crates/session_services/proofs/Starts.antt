-- A START that was decoded selects frames as its service does.
use Rattle.std.proofs.Common.{List, ℕ, Result, Ok, Err, refl}
use Rattle.ber_core.specs.declared.fault.BerFault.{BerFault}
use Rattle.ber_shape.specs.Exact.{whole}
use Rattle.return_pdu.specs.Starting.{RafStartContent, raf_start, RcfStartContent, rcf_start}
use Rattle.return_pdu.specs.Stopping.{StopContent, stop}
use Rattle.return_pdu.specs.Scheduling.{ScheduleContent, schedule}
use Rattle.return_pdu.specs.Getting.{GetParameterContent, get_parameter}
use Rattle.fcltu_pdu.specs.Start.{Start, start_pdu}
use Rattle.fcltu_pdu.specs.Transfer.{Transfer, transfer_pdu}
use Rattle.fcltu_pdu.specs.Throw.{Event, throw_pdu}
use Rattle.sle_common.specs.declared.gvcid.Gvcid.{Gvcid}
use Rattle.sle_numbers.specs.declared.return_delivery_mode.ReturnDeliveryMode.{ReturnDeliveryMode}
use Rattle.station_config.specs.declared.service.Service.{Service}
use Rattle.station_config.specs.declared.service.Service.TheVariants.{Raf, Rcf, Cltu}
use Rattle.session_services.specs.Service.{get_read, schedule_read, stop_read, raf_read, rcf_read}
use Rattle.session_services.specs.Service.{throw_read, transfer_read, cltu_read}
use Rattle.session_services.specs.Laws.{IsOfService, StartsAreOfTheirService}

of_get : (service : Service) (r : Result GetParameterContent BerFault)
    → IsOfService service (get_read r)
of_get service (Ok g) = tt
of_get service (Err e) = tt

of_schedule : (service : Service) (r : Result ScheduleContent BerFault) (octets : List ℕ)
    → IsOfService service (schedule_read r octets)
of_schedule service (Ok s) octets = tt
of_schedule service (Err e) octets = of_get service (whole get_parameter.read octets)

of_stop : (service : Service) (r : Result StopContent BerFault) (octets : List ℕ)
    → IsOfService service (stop_read r octets)
of_stop service (Ok s) octets = tt
of_stop service (Err e) octets = of_schedule service (whole schedule.read octets) octets

of_raf_read : (mode : ReturnDeliveryMode) (size latency : ℕ)
    (r : Result RafStartContent BerFault) (octets : List ℕ)
    → IsOfService (Raf mode size latency) (raf_read r octets)
of_raf_read mode size latency (Ok s) octets = refl
of_raf_read mode size latency (Err e) octets =
    of_stop (Raf mode size latency) (whole stop.read octets) octets

of_rcf_read : (mode : ReturnDeliveryMode) (size latency : ℕ) (channels : List Gvcid)
    (r : Result RcfStartContent BerFault) (octets : List ℕ)
    → IsOfService (Rcf mode size latency channels) (rcf_read r octets)
of_rcf_read mode size latency channels (Ok s) octets = refl
of_rcf_read mode size latency channels (Err e) octets =
    of_stop (Rcf mode size latency channels) (whole stop.read octets) octets

of_throw : (service : Service) (r : Result Event BerFault) (octets : List ℕ)
    → IsOfService service (throw_read r octets)
of_throw service (Ok t) octets = tt
of_throw service (Err e) octets = of_stop service (whole stop.read octets) octets

of_transfer : (service : Service) (r : Result Transfer BerFault) (octets : List ℕ)
    → IsOfService service (transfer_read r octets)
of_transfer service (Ok t) octets = tt
of_transfer service (Err e) octets = of_throw service (whole throw_pdu.read octets) octets

of_cltu_read : (service : Service) (r : Result Start BerFault) (octets : List ℕ)
    → IsOfService service (cltu_read r octets)
of_cltu_read service (Ok s) octets = tt
of_cltu_read service (Err e) octets = of_transfer service (whole transfer_pdu.read octets) octets

pub starts_are_of_their_service : StartsAreOfTheirService
starts_are_of_their_service (Raf mode size latency) octets =
    of_raf_read mode size latency (whole raf_start.read octets) octets
starts_are_of_their_service (Rcf mode size latency channels) octets =
    of_rcf_read mode size latency channels (whole rcf_start.read octets) octets
starts_are_of_their_service (Cltu room longest) octets =
    of_cltu_read (Cltu room longest) (whole start_pdu.read octets) octets
